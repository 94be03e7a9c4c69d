-- The text of an expression, term after term.
use Rattle.std.proofs.Common.{◌≡◌, ℕ, ◌≤◌, List, [], ◌∷◌, ◌++◌, length, drop, sym, ap, ◌∙◌, append_assoc, append-nil}
use Rattle.std.proofs.lemmas.List.{drop_all}
use Rattle.std.specs.Prelude.{Result, Ok, Err, OnOk}
use Rattle.cbt_expr.specs.declared.expressions.Sign.{Sign}
use Rattle.cbt_expr.specs.declared.expressions.Expr.{Expr}
use Rattle.cbt_expr.specs.declared.expressions.Term.{Term}
use Rattle.cbt_expr.specs.Forms.{Form, one, joined, TermForm, joined_all, term_form, terms_form}
use Rattle.cbt_expr.proofs.Views.{form_of-terms}
use Rattle.cbt_syntax.specs.Texts.{form_text, term_text, joins_text, expr_text}

pub on_ok : {A E P Q : Type 0} (r : Result A E) → OnOk r P → (P → Q) → OnOk r Q
on_ok (Ok x) p f = f p
on_ok (Err e) p f = tt

pub joined_all-text : (form : Form) (xs : List (Sign × TermForm)) → form_text (joined_all form xs) ≡ form_text form ++ joins_text xs
joined_all-text form [] = sym (append-nil (form_text form))
joined_all-text form (x ∷ xs) = joined_all-text (joined form x.0 x.1) xs ∙ simp append_assoc

pub expr-text : (expr : Expr) → expr_text expr ≡ term_text (term_form expr.first) ++ joins_text (terms_form expr.rest)
expr-text expr = ap form_text (form_of-terms expr) ∙ joined_all-text (one (term_form expr.first)) (terms_form expr.rest)

pub joins-done : (out mid end : List ℕ) (expr : Expr) (items : List (Sign × Term)) (at : ℕ) → items ≡ expr.rest → mid ≡ out ++ term_text (term_form expr.first)
    → length items ≤ at → end ++ joins_text (terms_form (drop at items)) ≡ mid ++ joins_text (terms_form items) → end ≡ out ++ expr_text expr
joins-done out mid end expr items at is first done before =
    let none : end ++ joins_text (terms_form (drop at items)) ≡ end = ap (λ xs. end ++ joins_text (terms_form xs)) (drop_all at items done) ∙ append-nil end in
    let whole : mid ++ joins_text (terms_form items) ≡ out ++ expr_text expr = rw (first, is, expr-text expr) (append_assoc out (term_text (term_form expr.first)) (joins_text (terms_form expr.rest))) in
    sym none ∙ before ∙ whole

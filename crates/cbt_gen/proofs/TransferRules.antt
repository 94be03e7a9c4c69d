-- The transactions of transfers keep the rules of plans.
use Rattle.std.proofs.Common.{◌≡◌, ℕ, ◌^◌, ◌<◌, pos, true, Bool, List, [], ◌∷◌, ◌++◌, codes, Some, Ok, refl, sym, ap, ap₂, ◌∙◌, subst, arith}
use Rattle.std.specs.Ordering.{nat_cmp}
use Rattle.std.specs.Cmp.Lexicographic.{slice_cmp}
use Rattle.std.specs.List.Sorted.{IsStrictlySortedBy}
use Rattle.std.proofs.lemmas.Bool.{lt-ltb}
use Rattle.cbt_json.specs.declared.tree.Tree.TheVariants.{Whole}
use Rattle.cbt_json.specs.Trees.{data_of}
use Rattle.cbt_json.proofs.Views.{data_of-Whole}
use Rattle.cbt_lex.specs.Lines.{IsOneLine}
use Rattle.cbt_lex.specs.Names.{is_name}
use Rattle.cbt_subdoc.specs.declared.path.Part.TheVariants.{Name}
use Rattle.cbt_expr.specs.declared.expressions.Cmp.TheVariants.{Ge}
use Rattle.cbt_expr.specs.declared.expressions.Expr.{Expr}
use Rattle.cbt_expr.specs.declared.expressions.Sign.{Sign}
use Rattle.cbt_expr.specs.declared.expressions.Sign.TheVariants.{Plus, Minus}
use Rattle.cbt_expr.specs.declared.expressions.Term.{Term}
use Rattle.cbt_expr.specs.declared.expressions.Term.TheVariants.{Members}
use Rattle.cbt_expr.specs.Forms.{Form, TermForm, one, joined, plain, object, reference, no_members, member, form_of, term_form}
use Rattle.cbt_expr.specs.Literals.{alone}
use Rattle.cbt_expr.proofs.Views.{form_of-terms, term_form-Members}
use Rattle.cbt_syntax.specs.Bound.{is_bound_in}
use Rattle.cbt_syntax.specs.References.{path_in}
use Rattle.cbt_syntax.specs.Rules.{is_scalar, IsForm, IsExpr}
use Rattle.cbt_syntax.specs.Texts.{path_text, expr_text, form_text, cmp_text}
use Rattle.cbt_syntax.proofs.CleanTexts.{IsCleanForm, IsCleanTerm, one-append, one-fixed, form-one, cmp-one}
use Rattle.cbt_syntax.proofs.Shapes.{term_form-Plain, term_form-Ref}
use Rattle.cbt_script.specs.Operations.{Bound}
use Rattle.cbt_script.specs.Rules.{AreOperations, IsPlan}
use Rattle.cbt_gen.specs.declared.transfers.Transfer.{Transfer}
use Rattle.cbt_gen.specs.Transfers.{number_term, amount_in, changed, body_with, operations, plan_of}
use Rattle.cbt_gen.proofs.NameRules.{account-fits}

-- ---- forms

abbrev amount_form : List ℕ → TermForm
amount_form name = reference name (Some (Name (codes "n") ∷ []))

abbrev number_form : ℕ → TermForm
number_form n = plain (Whole (pos n))

abbrev sum_form : List ℕ → Sign → ℕ → Form
sum_form name sign m = joined (one (amount_form name)) sign (number_form m)

abbrev body_form : List ℕ → Sign → ℕ → Form
body_form name sign m = one (object (member (codes "n") (sum_form name sign m) no_members))

alone-form : (t : Term) → form_of (alone t) ≡ one (term_form t)
alone-form t = form_of-terms (alone t)

sum-form : (name : List ℕ) (sign : Sign) (m : ℕ) → form_of (changed name sign m) ≡ sum_form name sign m
sum-form name sign m =
    form_of-terms (changed name sign m)
    ∙ ap₂ (λ t u. joined (one t) sign u) (term_form-Ref name (Some (Name (codes "n") ∷ []))) (term_form-Plain (Whole (pos m)))

body-form : (name : List ℕ) (sign : Sign) (m : ℕ) → form_of (body_with (changed name sign m)) ≡ body_form name sign m
body-form name sign m =
    alone-form (Members ((codes "n", changed name sign m) ∷ [])) ∙ ap one (term_form-Members ((codes "n", changed name sign m) ∷ []))
    ∙ ap (λ f. one (object (member (codes "n") f no_members))) (sum-form name sign m)

-- ---- and their rules, where a name is bound

number-scalar : (n : ℕ) → n < 2 ^ 64 → is_scalar (data_of (Whole (pos n))) ≡ true
number-scalar n small = ap is_scalar (data_of-Whole (pos n)) ∙ lt-ltb n (2 ^ 64) small

path-kept : path_in (path_text (Name (codes "n") ∷ [])) ≡ Ok (Some (Name (codes "n") ∷ []))
path-kept = refl

clean : (name : List ℕ) → IsCleanTerm (amount_form name)
clean name = (one-fixed (codes "n") refl, tt)

module _ (bound : List ℕ → Bool) (name : List ℕ) (named : is_name name ≡ true) (is_bound : bound name ≡ true) where
  -- an expression of a form that keeps the rules
  pub record IsKept (e : Expr) : Type 0 where
    pub rules : IsExpr bound e
    pub one_line : IsOneLine (expr_text e)

  kept-by : (e : Expr) (f : Form) → form_of e ≡ f → IsForm bound 127 f → IsCleanForm f → IsKept e
  kept-by e f is kept bright = record {
    rules = subst (IsForm bound 127) (sym is) kept;
    one_line = subst (λ g. IsOneLine (form_text g)) (sym is) (form-one bound f 127 kept bright);
  }

  pub amount-kept : IsKept (alone (amount_in name))
  amount-kept =
      kept-by (alone (amount_in name)) (one (amount_form name)) (alone-form (amount_in name) ∙ ap one (term_form-Ref name (Some (Name (codes "n") ∷ []))))
      ((named, is_bound), path-kept) (clean name)

  pub number-kept : (n : ℕ) → n < 2 ^ 64 → IsKept (alone (number_term n))
  number-kept n small =
      kept-by (alone (number_term n)) (one (number_form n)) (alone-form (number_term n) ∙ ap one (term_form-Plain (Whole (pos n)))) (number-scalar n small) tt

  one_rises : IsStrictlySortedBy (slice_cmp nat_cmp) (codes "n" ∷ [])
  unfolding IsStrictlySortedBy
  one_rises = (tt, tt)

  pub body-kept : (sign : Sign) (m : ℕ) → m < 2 ^ 64 → IsKept (body_with (changed name sign m))
  body-kept sign m small =
      kept-by (body_with (changed name sign m)) (body_form name sign m) (body-form name sign m)
      (one_rises, ((((named, is_bound), path-kept), number-scalar m small), tt)) ((clean name, tt), tt)

-- ---- transactions

abbrev first_bound : Bound
first_bound = (codes "x", tt) ∷ []

abbrev both_bound : Bound
both_bound = (codes "x", tt) ∷ (codes "y", tt) ∷ []

operations-kept : (t : Transfer) → t.amount < 2 ^ 64 → AreOperations [] (operations t)
operations-kept t small =
    let x = amount-kept (is_bound_in both_bound) (codes "x") refl refl in
    let m = number-kept (is_bound_in both_bound) (codes "x") refl refl t.amount small in
    let less = body-kept (is_bound_in both_bound) (codes "x") refl refl Minus t.amount small in
    let more = body-kept (is_bound_in both_bound) (codes "y") refl refl Plus t.amount small in
    let asked = one-append (expr_text (alone (amount_in (codes "x")))) (cmp_text Ge ++ expr_text (alone (number_term t.amount))) x.one_line
    (one-append (cmp_text Ge) (expr_text (alone (number_term t.amount))) (cmp-one Ge) m.one_line) in (
      (account-fits t.from, refl),
      (
        (account-fits t.to, refl),
        (
          ((x.rules, m.rules), asked),
          ((account-fits t.from, less.rules, less.one_line), ((account-fits t.to, more.rules, more.one_line), tt)),
        ),
      ),
    )

pub plan-kept : (t : Transfer) → t.amount < 2 ^ 64 → IsPlan (plan_of t)
plan-kept t small = record {
  expiry = (omega arith, omega arith);
  hold = (omega arith, omega arith);
  tries = (omega arith, omega arith);
  ops = operations-kept t small;
  ops_few = omega arith;
}

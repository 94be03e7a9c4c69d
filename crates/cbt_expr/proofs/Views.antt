-- The form of an expression and of an object.
use Rattle.std.proofs.Common.{◌≡◌, ℕ, List, rules}
use Rattle.cbt_expr.specs.declared.expressions.Expr.{Expr, the_lemmas}
use Rattle.cbt_expr.specs.declared.expressions.Term.TheVariants as t
use Rattle.cbt_expr.specs.Forms.{one, object, joined_all, form_of, term_form, terms_form, members_form}

pub form_of-terms : (e : Expr) → form_of e ≡ joined_all (one (term_form e.first)) (terms_form e.rest)
form_of-terms e = search (rules, the_lemmas)

pub term_form-Members : (ms : List (List ℕ × Expr)) → term_form (t.Members ms) ≡ object (members_form ms)
term_form-Members ms = search (rules, the_lemmas)

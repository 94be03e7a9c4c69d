-- The forms of terms, and the names of an object.
use Rattle.std.proofs.Common.{◌≡◌, ℕ, List, [], ◌∷◌, Option, refl, ap, rules}
use Rattle.std.specs.Map.{keys_of}
use Rattle.cbt_json.specs.declared.tree.Tree.{Tree}
use Rattle.cbt_subdoc.specs.declared.path.Path.{Path}
use Rattle.cbt_expr.specs.declared.expressions.Expr.{Expr, the_lemmas}
use Rattle.cbt_expr.specs.declared.expressions.Term.TheVariants as t
use Rattle.cbt_expr.specs.Forms.{plain, list, reference, term_form, items_form, members_form}
use Rattle.cbt_syntax.specs.Rules.{names_of}

pub term_form-Plain : (json : Tree) → term_form (t.Plain json) ≡ plain json
term_form-Plain json = search (rules, the_lemmas)

pub term_form-Items : (es : List Expr) → term_form (t.Items es) ≡ list (items_form es)
term_form-Items es = search (rules, the_lemmas)

pub term_form-Ref : (name : List ℕ) (path : Option Path) → term_form (t.Ref name path) ≡ reference name path
term_form-Ref name path = search (rules, the_lemmas)

pub names-keys : (ms : List (List ℕ × Expr)) → names_of (members_form ms) ≡ keys_of ms
names-keys [] = refl
names-keys (m ∷ ms) = ap (λ ks. m.0 ∷ ks) (names-keys ms)

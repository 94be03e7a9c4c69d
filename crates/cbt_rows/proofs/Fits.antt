-- That the bodies of the written histories are fit bodies.
use Rattle.std.proofs.Common.{◌≡◌, ℕ, ◌≤◌, true, pos, List, [], ◌∷◌, length, ap, ◌∙◌, lit≤}
use Rattle.std.specs.Fmt.{digits}
use Rattle.json.specs.Print.{escape_byte}
use Rattle.serde_json.specs.Data.{Data, depth, object, member, no_members, number, unsigned}
use Rattle.serde_json.specs.Written.{compact_text}
use Rattle.cbt_json.proofs.Views.{data_of-Object, data_of-Whole}
use Rattle.cbt_json.specs.Trees.{data_of}
use Rattle.cbt_json.specs.declared.tree.Tree.TheVariants as tree
use Rattle.cbt_model.specs.Bodies.{body_fits_of}
use Rattle.cbt_model.proofs.FitBodies.{body_fits_of-fits}
use Rattle.cbt_rows.specs.Words.{n, got}

one_member : List ℕ → ℕ → Data
one_member name k = object (member name (number (unsigned k)) no_members)

pub data-one : (name : List ℕ) (k : ℕ) → data_of (tree.Object ((name, tree.Whole (pos k)) ∷ [])) ≡ object (member name (number (unsigned k))
    no_members)
data-one name k = data_of-Object ((name, tree.Whole (pos k)) ∷ []) ∙ ap (λ d. object (member name d no_members)) (data_of-Whole (pos k))

fits : (name : List ℕ) (k : ℕ) → length (compact_text (object (member name (number (unsigned k)) no_members))) ≤ 4096
    → body_fits_of (tree.Object ((name, tree.Whole (pos k)) ∷ [])) ≡ true
fits name k short = body_fits_of-fits (tree.Object ((name, tree.Whole (pos k)) ∷ [])) (
  rw (ap (λ d. length (compact_text d)) (data-one name k)) short,
  rw (ap (λ d. depth d) (data-one name k)) (lit≤ tt),
)

pub fits-n1 : body_fits_of (n 1) ≡ true
unfolding escape_byte digits
fits-n1 = fits (110 ∷ []) 1 (lit≤ tt)

pub fits-n2 : body_fits_of (n 2) ≡ true
unfolding escape_byte digits
fits-n2 = fits (110 ∷ []) 2 (lit≤ tt)

pub fits-n3 : body_fits_of (n 3) ≡ true
unfolding escape_byte digits
fits-n3 = fits (110 ∷ []) 3 (lit≤ tt)

pub fits-got3 : body_fits_of (got 3) ≡ true
unfolding escape_byte digits
fits-got3 = fits (103 ∷ 111 ∷ 116 ∷ []) 3 (lit≤ tt)

pub fits-n0 : body_fits_of (n 0) ≡ true
unfolding escape_byte digits
fits-n0 = fits (110 ∷ []) 0 (lit≤ tt)

pub fits-n9 : body_fits_of (n 9) ≡ true
unfolding escape_byte digits
fits-n9 = fits (110 ∷ []) 9 (lit≤ tt)

pub fits-got2 : body_fits_of (got 2) ≡ true
unfolding escape_byte digits
fits-got2 = fits (103 ∷ 111 ∷ 116 ∷ []) 2 (lit≤ tt)

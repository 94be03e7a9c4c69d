-- The documents of accounts keep the rules of documents.
use Rattle.std.proofs.Common.{◌≡◌, ◌≢◌, ℕ, zero, suc, ◌+◌, ◌<◌, pos, true, List, [], ◌∷◌, length, map, codes, refl, sym, ap, subst, arith, rules, length-append}
use Rattle.std.specs.List.{All}
use Rattle.std.proofs.lemmas.List.{map-append}
use Rattle.std.proofs.lemmas.List.Elements.{All-nil, All-push}
use Rattle.cbt_json.specs.declared.tree.Tree.{Tree, out-Tree, the_lemmas}
use Rattle.cbt_json.specs.declared.tree.Tree.TheOpen.{Tree-F}
use Rattle.cbt_json.specs.declared.tree.Tree.TheVariants as tree
use Rattle.cbt_script.specs.Documents.{are_attributes}
use Rattle.cbt_script.specs.Rules.{IsDocument, AreDistinct}
use Rattle.cbt_script.proofs.RulesOfNames.{distinct-push}
use Rattle.cbt_gen.specs.Accounts.{object_of, attributes_of, account, accounts_to}
use Rattle.cbt_gen.specs.Names.{account_id, owner_name}
use Rattle.cbt_gen.proofs.Bodies.{first_body-fits, attributes-fit}
use Rattle.cbt_gen.proofs.NameRules.{account-fits, accounts-apart}

-- ---- attributes

attributes-named : (n : ℕ) → are_attributes (out-Tree (attributes_of n)) ≡ true
attributes-named n =
    let out : out-Tree (attributes_of n) ≡ Tree-F.Object ((codes "_kept", object_of (codes "no") (tree.Whole (pos n))) ∷ (codes "owner", tree.Text (owner_name n)) ∷ []) = search (rules, the_lemmas) in
    ap are_attributes out

-- ---- accounts

pub account-kept : (n : ℕ) → n < 10000 → IsDocument (account n)
account-kept n small = (account-fits n, first_body-fits, attributes-fit n small, attributes-named n)

pub accounts-kept : (n : ℕ) → n < 10000 → All IsDocument (accounts_to n)
accounts-kept zero small = All-nil IsDocument
accounts-kept (suc n) small = All-push IsDocument (accounts_to n) (account (n + 1)) (accounts-kept n (omega arith)) (account-kept (n + 1) (omega arith))

pub length-accounts : (n : ℕ) → length (accounts_to n) ≡ n
length-accounts zero = refl
length-accounts (suc n) = omega (arith, length-append (accounts_to n) (account (n + 1) ∷ []), length-accounts n)

abbrev ids_to : ℕ → List (List ℕ)
ids_to n = map (λ d. d.0) (accounts_to n)

ids-apart : (n other : ℕ) → n < other → other < 10000 → All (λ id. id ≢ account_id other) (ids_to n)
ids-apart zero other before small = All-nil (λ id. id ≢ account_id other)
ids-apart (suc n) other before small =
    subst (All (λ id. id ≢ account_id other)) (sym (map-append (λ (d : List ℕ × Tree × Tree). d.0) (accounts_to n) (account (n + 1) ∷ [])))
    (All-push (λ id. id ≢ account_id other) (ids_to n) (account_id (n + 1)) (ids-apart n other (omega arith) small) (accounts-apart (n + 1) other (omega arith) small (λ same. omega arith)))

pub accounts-distinct : (n : ℕ) → n < 10000 → AreDistinct (ids_to n)
accounts-distinct zero small = tt
accounts-distinct (suc n) small =
    subst AreDistinct (sym (map-append (λ (d : List ℕ × Tree × Tree). d.0) (accounts_to n) (account (n + 1) ∷ [])))
    (distinct-push (ids_to n) (account_id (n + 1)) (accounts-distinct n (omega arith)) (ids-apart n (n + 1) (omega arith) (omega arith)))

-- Lists of names are JSON.
use Rattle.std.proofs.Common.{◌≡◌, ℕ, suc, ◌≤◌, true, ◌&&◌, List, [], ◌∷◌, map, refl, ap, ap₂, ◌∙◌, arith}
use Rattle.serde_json.specs.Data.{depth, items_depth}
use Rattle.cbt_json.specs.declared.tree.Tree.{Tree}
use Rattle.cbt_json.specs.declared.tree.Tree.TheVariants as tree
use Rattle.cbt_json.specs.Rules.{IsJson, is_regular, items_are_regular}
use Rattle.cbt_json.specs.Trees.{data_of, items_data, levels}
use Rattle.cbt_json.proofs.Views.{data_of-Text, data_of-List}
use Rattle.cbt_model.specs.declared.entries.Lists.{Lists}
use Rattle.cbt_history.specs.NameLists.{names_tree, lists_tree, ids_tree}
use Rattle.cbt_base.specs.Ids.{id_text}

-- data without floats of so many levels
record IsPlain (n : ℕ) (t : Tree) : Type 0 where
  pub levels : depth (data_of t) ≡ n
  pub regular : is_regular (data_of t) ≡ true

name_plain : (name : List ℕ) → IsPlain 0 (tree.Text name)
name_plain name = record { levels = ap depth (data_of-Text name); regular = ap is_regular (data_of-Text name) }

-- a list of such data
record ArePlain (n : ℕ) (ts : List Tree) : Type 0 where
  pub levels : items_depth (items_data ts) ≤ n
  pub regular : items_are_regular (items_data ts) ≡ true

plain_nil : (n : ℕ) → ArePlain n []
plain_nil n = record { levels = omega arith; regular = refl }

plain_cons : (n : ℕ) (t : Tree) (ts : List Tree) → IsPlain n t → ArePlain n ts → ArePlain n (t ∷ ts)
plain_cons n t ts one more = record {
  levels = (let a = one.levels in let b = more.levels in omega arith);
  regular = ap₂ (λ a b. a && b) one.regular more.regular;
}

named_plain : {X : Type 0} (name : X → List ℕ) (xs : List X) → ArePlain 0 (map (λ x. tree.Text (name x)) xs)
named_plain name [] = plain_nil 0
named_plain name (x ∷ xs) = plain_cons 0 (tree.Text (name x)) (map (λ y. tree.Text (name y)) xs) (name_plain (name x)) (named_plain name xs)

names_plain : (names : List (List ℕ)) → ArePlain 0 (map tree.Text names)
names_plain names = named_plain (λ name. name) names

list_regular : (n : ℕ) (ts : List Tree) → ArePlain n ts → is_regular (data_of (tree.List ts)) ≡ true
list_regular n ts plain = ap is_regular (data_of-List ts) ∙ plain.regular

list_levels : (n : ℕ) (ts : List Tree) → ArePlain n ts → levels (tree.List ts) ≤ suc n
list_levels n ts plain = let e = ap depth (data_of-List ts) in let l = plain.levels in omega arith

names_levels : (names : List (List ℕ)) → depth (data_of (names_tree names)) ≡ 1
names_levels names = let e = ap depth (data_of-List (map tree.Text names)) in let l = (names_plain names).levels in omega arith

names_list : (names : List (List ℕ)) → IsPlain 1 (names_tree names)
names_list names = record { levels = names_levels names; regular = list_regular 0 (map tree.Text names) (names_plain names) }

lists_plain : (lists : Lists) → ArePlain 1 (names_tree lists.ins ∷ names_tree lists.rep ∷ names_tree lists.rem ∷ [])
lists_plain lists =
    plain_cons 1 (names_tree lists.ins) (names_tree lists.rep ∷ names_tree lists.rem ∷ []) (names_list lists.ins)
    (plain_cons 1 (names_tree lists.rep) (names_tree lists.rem ∷ []) (names_list lists.rep)
    (plain_cons 1 (names_tree lists.rem) [] (names_list lists.rem) (plain_nil 1)))

pub lists_json : (lists : Lists) → IsJson (lists_tree lists)
lists_json lists =
    let parts = names_tree lists.ins ∷ names_tree lists.rep ∷ names_tree lists.rem ∷ [] in (
      (let l = list_levels 1 parts (lists_plain lists) in omega arith),
      list_regular 1 parts (lists_plain lists),
    )

pub ids_json : (ids : List ℕ) → IsJson (ids_tree ids)
ids_json ids =
    let names = map (λ id. tree.Text (id_text id)) ids in (
      (let l = list_levels 0 names (named_plain id_text ids) in omega arith),
      list_regular 0 names (named_plain id_text ids),
    )

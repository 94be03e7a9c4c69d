-- Trees that keep the rules of JSON, by how many levels they have.
use Rattle.std.proofs.Common.{◌≡◌, ℕ, pos, suc, ◌^◌, ◌<◌, ◌≤◌, true, List, [], ◌∷◌, refl, ap, ◌∙◌, arith}
use Rattle.std.proofs.lemmas.Bool.{and_from, lt-ltb}
use Rattle.serde_json.specs.Data.{depth, items_depth, members_depth}
use Rattle.cbt_json.specs.declared.tree.Tree.{Tree}
use Rattle.cbt_json.specs.declared.tree.Tree.TheVariants as tree
use Rattle.cbt_json.specs.Rules.{IsJson, is_regular, names_rise, items_are_regular, members_are_regular}
use Rattle.cbt_json.specs.Trees.{items_data, members_data, levels}
use Rattle.cbt_json.proofs.Views.{data_of-Whole, data_of-Text, data_of-List, data_of-Object}
use Rattle.cbt_subdoc.specs.Members.{Members}
use Rattle.cbt_shape.specs.Levels.{IsSound}

pub record AreSoundItems (n : ℕ) (ts : List Tree) : Type 0 where
  pub low : items_depth (items_data ts) ≤ n
  pub regular : items_are_regular (items_data ts) ≡ true

pub record AreSound (n : ℕ) (ms : Members) : Type 0 where
  pub low : members_depth (members_data ms) ≤ n
  pub regular : members_are_regular (members_data ms) ≡ true

pub json-sound : (n : ℕ) (t : Tree) → n ≤ 127 → IsSound n t → IsJson t
json-sound n t few is = (let low = is.low in omega arith, is.regular)

pub sound-json : (n : ℕ) (t : Tree) → levels t ≤ n → IsJson t → IsSound n t
sound-json n t low is = record { low = low; regular = is.1 }

pub sound-Text : (n : ℕ) (text : List ℕ) → IsSound n (tree.Text text)
sound-Text n text = record { low = (let e = ap depth (data_of-Text text) in omega arith); regular = ap is_regular (data_of-Text text) }

pub sound-Whole : (n m : ℕ) → m < 2 ^ 64 → IsSound n (tree.Whole (pos m))
sound-Whole n m fits = record {
  low = (let e = ap depth (data_of-Whole (pos m)) in omega arith);
  regular = ap is_regular (data_of-Whole (pos m)) ∙ lt-ltb m (2 ^ 64) fits;
}

pub sound_nil : (n : ℕ) → AreSound n []
sound_nil n = record { low = omega arith; regular = refl }

pub sound_cons : (n : ℕ) (name : List ℕ) (t : Tree) (ms : Members) → IsSound n t → AreSound n ms → AreSound n ((name, t) ∷ ms)
sound_cons n name t ms one more = record {
  low = (let a = one.low in let b = more.low in omega arith);
  regular = and_from _ _ one.regular more.regular;
}

pub sound_no_items : (n : ℕ) → AreSoundItems n []
sound_no_items n = record { low = omega arith; regular = refl }

pub sound_item : (n : ℕ) (t : Tree) (ts : List Tree) → IsSound n t → AreSoundItems n ts → AreSoundItems n (t ∷ ts)
sound_item n t ts one more = record {
  low = (let a = one.low in let b = more.low in omega arith);
  regular = and_from _ _ one.regular more.regular;
}

pub sound-List : (n : ℕ) (ts : List Tree) → AreSoundItems n ts → IsSound (suc n) (tree.List ts)
sound-List n ts are = record {
  low = (let e = ap depth (data_of-List ts) in let low = are.low in omega arith);
  regular = ap is_regular (data_of-List ts) ∙ are.regular;
}

pub sound-Object : (n : ℕ) (ms : Members) → names_rise (members_data ms) ≡ true → AreSound n ms → IsSound (suc n) (tree.Object ms)
sound-Object n ms rise are = record {
  low = (let e = ap depth (data_of-Object ms) in let low = are.low in omega arith);
  regular = ap is_regular (data_of-Object ms) ∙ and_from _ _ rise are.regular;
}

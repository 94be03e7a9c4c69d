-- Trees that keep the rules of JSON, by how many levels they have.
use Rattle.std.specs.Prelude.{◌≡◌, ℕ, ◌≤◌, true}
use Rattle.cbt_json.specs.declared.tree.Tree.{Tree}
use Rattle.cbt_json.specs.Rules.{is_regular}
use Rattle.cbt_json.specs.Trees.{data_of, levels}

-- at most n levels, whole numbers in the range and names that rise
pub record IsSound (n : ℕ) (t : Tree) : Type 0 where
  pub low : levels t ≤ n
  pub regular : is_regular (data_of t) ≡ true

-- The tokens that are written for a tree.
use Rattle.std.specs.Prelude.{ℕ, List}
use Rattle.json.specs.Token.{Token}
use Rattle.json.specs.Tree.{json_tokens, items_tokens, members_tokens}
use Rattle.serde_json.specs.Written.{outline, items_outline, members_outline}
use Rattle.cbt_json.specs.declared.tree.Tree.{Tree}
use Rattle.cbt_json.specs.Trees.{data_of, items_data, members_data}

abbrev pub tree_tokens : Tree → List Token
tree_tokens t = json_tokens (outline (data_of t))

-- with the closing bracket
abbrev pub list_tokens : List Tree → List Token
list_tokens ts = items_tokens (items_outline (items_data ts))

-- with the closing bracket
abbrev pub object_tokens : List (List ℕ × Tree) → List Token
object_tokens ms = members_tokens (members_outline (members_data ms))

-- The values that changes put into a document.
use Rattle.std.specs.Prelude.{ℕ, List, ◌++◌, codes}
use Rattle.std.specs.Int.{w64, to_le_bytes}
use Rattle.hex.specs.Hex.{encode_lower}
use Rattle.cbt_json.specs.declared.tree.Tree.{Tree}
use Rattle.cbt_json.specs.declared.tree.Tree.TheVariants as tree
use Rattle.cbt_subdoc.specs.declared.changes.MutValue.{MutValue}
use Rattle.cbt_subdoc.specs.declared.changes.MutValue.TheVariants as value

-- the text that stands for a CAS: `0x` and 16 digits, least byte first
abbrev pub macro_text : ℕ → List ℕ
macro_text cas = codes "0x" ++ encode_lower (to_le_bytes w64 cas)

-- the tree of a value, at the CAS of its call
abbrev pub value_of : ℕ → MutValue → Tree
value_of cas value.None = tree.Null
value_of cas (value.Json v) = v
value_of cas value.MacroCas = tree.Text (macro_text cas)
value_of cas (value.Delta d) = tree.Whole d

-- JSON strings at the front of a text.
use Rattle.std.specs.Prelude.{ℕ, ◌+◌, Bool, false, not, ◌==◌, ◌&&◌, nat_le, if◌then◌else◌, List, [], ◌∷◌, take, drop, Option, Some, None, Result, Ok, Err}
use Rattle.cbt_json.specs.declared.fault.JsonFault.{JsonFault}
use Rattle.cbt_json.specs.declared.tree.Tree.{Tree, out-Tree}
use Rattle.cbt_json.specs.declared.tree.Tree.TheOpen.{Tree-F}
use Rattle.cbt_json.specs.Reading.{json_of}
use Rattle.cbt_syntax.specs.declared.fault.SyntaxFault.TheVariants.{Malformed}
use Rattle.cbt_syntax.specs.Readings.{Outcome, Read, ◌>>=◌}

-- the place of the first quote that no backslash escapes, from `at` on; `escaped` says whether the byte in front is
-- a backslash that escapes
abbrev pub closing : ℕ → Bool → List ℕ → Option ℕ
closing at escaped [] = None
closing at escaped (b ∷ bs) =
    if not escaped && (b == 34) then Some at else closing (at + 1) (not escaped && (b == 92)) bs

-- the string that a JSON value is, where it is one
abbrev pub text_in : Tree-F Tree → Outcome (List ℕ)
text_in (Tree-F.Text s) = Ok s
text_in _ = Err Malformed

-- the string that was read as JSON; a text that is refused is of another form
abbrev pub text_of_json : Result Tree JsonFault → Outcome (List ℕ)
text_of_json (Ok tree) = text_in (out-Tree tree)
text_of_json (Err fault) = Err Malformed

-- a literal of so many bytes, read as JSON
abbrev pub literal : ℕ → List ℕ → Read (List ℕ)
literal len text = do
  s ← text_of_json (json_of (take len text))
  Ok (s, drop len text)

-- a literal whose closing quote has a place behind its opening one
abbrev pub closed_at : Option ℕ → List ℕ → Read (List ℕ)
closed_at None text = Err Malformed
closed_at (Some at) text = literal (at + 2) text

-- whether a byte between quotes stands for itself
abbrev pub is_verbatim : ℕ → Bool
is_verbatim b = nat_le 32 b && (not (b == 34) && not (b == 92))

-- the JSON string at the front
unfoldable pub string_at : List ℕ → Read (List ℕ)
string_at [] = Err Malformed
string_at (b ∷ bs) = if b == 34 then closed_at (closing 0 false bs) (b ∷ bs) else Err Malformed

-- The texts of paths: what may stand at each place of them, and what is read there.
use Rattle.std.specs.Prelude.{ℕ, ◌+◌, ◌-◌, ◌*◌, ◌^◌, zero, suc, Bool, ◌==◌, nat_lt, not, ◌&&◌, if◌then◌else◌, List, [], ◌∷◌, length, take, drop, Option, Some, None, Result, Ok, Err}
use Rattle.std.specs.List.{prefix_len}
use Rattle.std.specs.Char.{is_ascii_digit}
use Rattle.cbt_subdoc.specs.PathLimits.{max_parts}
use Rattle.cbt_subdoc.specs.declared.path.Part.{Part}
use Rattle.cbt_subdoc.specs.declared.path.Part.TheVariants.{Name, Place, Last}
use Rattle.cbt_subdoc.specs.declared.path.PathFault.{PathFault}
use Rattle.cbt_subdoc.specs.declared.path.PathFault.TheVariants.{Empty, TooLong, BadAt, TooManyParts}

-- the part at the front of a text and what stands behind it, or how many bytes are left from the
-- first one at which no path goes on
abbrev pub Front : Type 0
Front = Result (Part × List ℕ) ℕ

abbrev pub stuck : List ℕ → Front
stuck text = Err (length text)

-- ---- places

-- a digit with which the number stays below 2^31
abbrev pub may_follow : ℕ → ℕ → Bool
may_follow n b = is_ascii_digit b && nat_lt (n * 10 + (b - 48)) (2 ^ 31)

-- a part before its closing bracket
abbrev pub closed : Part → List ℕ → Front
closed part [] = stuck []
closed part (b ∷ rest) = if b == 93 then Ok (part, rest) else stuck (b ∷ rest)

-- behind some digits of a place: further ones, or the closing bracket
abbrev pub digits : ℕ → List ℕ → Front
digits n [] = stuck []
digits n (b ∷ rest) = if may_follow n b then digits (n * 10 + (b - 48)) rest else closed (Place n) (b ∷ rest)

-- behind `[-`
abbrev pub last_place : List ℕ → Front
last_place [] = stuck []
last_place (b ∷ rest) = if b == 49 then closed Last rest else stuck (b ∷ rest)

-- behind `[`: a number without a leading zero, or -1
abbrev pub place_at : List ℕ → Front
place_at [] = stuck []
place_at (b ∷ rest) =
    if b == 45 then last_place rest
    else (if b == 48 then closed (Place 0) rest
    else (if is_ascii_digit b then digits (b - 48) rest
    else stuck (b ∷ rest)))

-- ---- names

-- a byte that may stand in a name without backticks: not `.`, `[`, `]` or a backtick
abbrev pub is_plain : ℕ → Bool
is_plain b = not (b == 46) && not (b == 91) && not (b == 93) && not (b == 96)

-- a name of such bytes
abbrev pub plain_name : ℕ → List ℕ → Front
plain_name len text = if len == 0 then stuck text else Ok (Name (take len text), drop len text)

abbrev pub prepended : ℕ → Option (List ℕ × List ℕ) → Option (List ℕ × List ℕ)
prepended b None = None
prepended b (Some x) = Some (b ∷ x.0, x.1)

-- behind an opening backtick: the name, in which two backticks stand for one, and what stands
-- behind the closing one, where there is one
abbrev pub quoted : List ℕ → Option (List ℕ × List ℕ)
quoted [] = None
quoted (b ∷ []) = if b == 96 then Some ([], []) else None
quoted (b ∷ c ∷ rest) =
    if b == 96
    then (if c == 96 then prepended 96 (quoted rest) else Some ([], c ∷ rest))
    else prepended b (quoted (c ∷ rest))

-- a name between backticks; a text that has no closing one ends too early
abbrev pub quoted_name : Option (List ℕ × List ℕ) → Front
quoted_name None = stuck []
quoted_name (Some x) = Ok (Name x.0, x.1)

abbrev pub name_at : List ℕ → Front
name_at [] = stuck []
name_at (b ∷ rest) = if b == 96 then quoted_name (quoted rest) else plain_name (prefix_len is_plain (b ∷ rest)) (b ∷ rest)

-- ---- paths

-- the first part: a place or a name
abbrev pub first_at : List ℕ → Front
first_at [] = stuck []
first_at (b ∷ rest) = if b == 91 then place_at rest else name_at (b ∷ rest)

-- a part after the first: a name led by a dot, or a place
abbrev pub next_at : List ℕ → Front
next_at [] = stuck []
next_at (b ∷ rest) =
    if b == 46 then name_at rest
    else (if b == 91 then place_at rest
    else stuck (b ∷ rest))

abbrev pub led_by : Part → Result (List Part) ℕ → Result (List Part) ℕ
led_by part (Ok parts) = Ok (part ∷ parts)
led_by part (Err left) = Err left

-- a part, and then those that a reading finds behind it
abbrev pub part_and : (List ℕ → Result (List Part) ℕ) → Front → Result (List Part) ℕ
part_and behind (Ok x) = led_by x.0 (behind x.1)
part_and behind (Err left) = Err left

-- the parts after the first, of which there are no more than bytes
abbrev pub further : ℕ → List ℕ → Result (List Part) ℕ
further zero [] = Ok []
further zero (b ∷ rest) = Err (length (b ∷ rest))
further (suc n) [] = Ok []
further (suc n) (b ∷ rest) = part_and (further n) (next_at (b ∷ rest))

-- all parts of a text, where it is a path's
abbrev pub parts_of : List ℕ → Result (List Part) ℕ
parts_of text = part_and (further (length text)) (first_at text)

-- the parts are counted after the form was found good
abbrev pub counted : ℕ → Result (List Part) ℕ → Result (List Part) PathFault
counted len (Ok parts) = if nat_lt max_parts (length parts) then Err (TooManyParts (length parts)) else Ok parts
counted len (Err left) = Err (BadAt (len - left))

-- the path of a text, or why it has none
abbrev pub path_of : List ℕ → Result (List Part) PathFault
path_of text =
    if length text == 0 then Err Empty
    else (if nat_lt 1024 (length text) then Err (TooLong (length text))
    else counted (length text) (parts_of text))

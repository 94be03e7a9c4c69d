-- How a path may be written, and with which bytes its text can begin.
use Rattle.std.specs.List.{list_all}
use Rattle.std.specs.Prelude.{◌≡◌, ◌⊎◌, IsTrue, ℕ, suc, ◌^◌, ◌<◌, ◌≤◌, ◌==◌, if◌then◌else◌, List, [], ◌∷◌, ◌++◌, length, take, decimal, codes}
use Rattle.cbt_subdoc.specs.declared.path.Part.{Part}
use Rattle.cbt_subdoc.specs.declared.path.Part.TheVariants.{Name, Place, Last}
use Rattle.cbt_subdoc.specs.Paths.{is_plain}

-- a name in which each backtick stands twice
abbrev pub doubled : List ℕ → List ℕ
doubled [] = []
doubled (b ∷ bs) = if b == 96 then 96 ∷ 96 ∷ doubled bs else b ∷ doubled bs

-- a part, with a name between backticks
abbrev pub part_text : Part → List ℕ
part_text (Name name) = 96 ∷ doubled name ++ 96 ∷ []
part_text (Place n) = 91 ∷ decimal n ++ 93 ∷ []
part_text Last = codes "[-1]"

-- a name: one or more plain bytes, or any bytes between backticks
abbrev pub IsNameText : List ℕ → List ℕ → Type 0
IsNameText name word = ((word ≡ name) × (0 < length name) × IsTrue (list_all is_plain name)) ⊎ (word ≡ part_text (Name name))

abbrev pub IsPartText : Part → List ℕ → Type 0
IsPartText (Name name) word = IsNameText name word
IsPartText (Place n) word = (n < 2 ^ 31) × (word ≡ part_text (Place n))
IsPartText Last word = word ≡ part_text Last

-- a part after the first: a name is led by a dot
abbrev pub led : Part → List ℕ → List ℕ
led (Name name) word = 46 ∷ word
led part word = word

abbrev pub IsTailText : List Part → List ℕ → Type 0
IsTailText [] text = text ≡ []
IsTailText (part ∷ parts) text = (word rest : List ℕ) × (IsPartText part word × IsTailText parts rest × (text ≡ led part word ++ rest))

-- a text of these parts
abbrev pub IsTextOf : List Part → List ℕ → Type 0
IsTextOf [] text = ⊥
IsTextOf (part ∷ parts) text = (word rest : List ℕ) × (IsPartText part word × IsTailText parts rest × (text ≡ word ++ rest))

-- ---- a text that is no path's

-- bytes with which the text of a path can begin; the limits of a path do not count
abbrev pub GoesOn : List ℕ → Type 0
GoesOn front = (rest : List ℕ) × ((parts : List Part) × IsTextOf parts (front ++ rest))

-- the first byte of a text at which no path goes on, or the length of one that ends too early
pub record IsFirstBad (text : List ℕ) (at : ℕ) : Type 0 where
  pub within : at ≤ length text
  pub before : GoesOn (take at text)
  pub after : at < length text → ¬ (GoesOn (take (suc at) text))

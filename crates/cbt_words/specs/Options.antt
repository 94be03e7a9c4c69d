-- The options that words give.
use Rattle.std.specs.Prelude.{ℕ, ◌==◌, Bool, if◌then◌else◌, List, [], ◌∷◌, ◌++◌, take, drop, Option, Some, None, is_some, option_and_then, find, codes, bytes_eq}
use Rattle.std.specs.List.{list_any, before_first, after_first}

abbrev pub Word : Type 0
Word = List ℕ

abbrev pub has_word : Word → List Word → Bool
has_word wanted words = list_any (λ word. bytes_eq word wanted) words

-- whether an option stands alone or has a value
pub data Kind : Type 0 where
  alone : Kind
  valued : Kind

-- the options that a command has, by their names
abbrev pub Options : Type 0
Options = List (Word × Kind)

-- the options that were given, by their names, with the values of those that have one
abbrev pub Given : Type 0
Given = List (Word × Option Word)

abbrev pub was_given : Word → Given → Bool
was_given name given = list_any (λ g. bytes_eq g.0 name) given

-- the value of an option that was given
abbrev pub value_of : Word → Given → Option Word
value_of name given = option_and_then (λ g. g.1) (find (λ g. bytes_eq g.0 name) given)

-- ---- one word

-- an option's name stands before the first `=` (61), and a value behind it
abbrev pub name_in : Word → Word
name_in text = before_first (λ b. b == 61) text

abbrev pub value_in : Word → Option Word
value_in text = if list_any (λ b. b == 61) text then Some (after_first (λ b. b == 61) text) else None

-- the options given so far, and the name of one whose value is the next word
abbrev pub Reading : Type 0
Reading = Given × Option Word

-- one more option, which was not given before
abbrev pub with_given : Given → Word → Option Word → Option Reading
with_given given name value = if was_given name given then None else Some (given ++ (name, value) ∷ [], None)

abbrev pub use_met : Given → Word → Kind → Option Word → Option Reading
use_met given name alone None = with_given given name None
use_met given name alone (Some value) = None
use_met given name valued None = Some (given, Some name)
use_met given name valued (Some value) = with_given given name (Some value)

-- what stands behind the two hyphens of an option
abbrev pub option_met : Options → Given → Word → Option Reading
option_met options given text =
    option_and_then (λ o. use_met given o.0 o.1 (value_in text)) (find (λ o. bytes_eq o.0 (name_in text)) options)

abbrev pub word_met : Options → Given → Option Word → Word → Option Reading
word_met options given (Some name) word = with_given given name (Some word)
word_met options given None word = if bytes_eq (take 2 word) (codes "--") then option_met options given (drop 2 word) else None

-- ---- all words

abbrev pub words_met : Options → Given → Option Word → List Word → Option Reading
words_met options given waiting [] = Some (given, waiting)
words_met options given waiting (word ∷ words) =
    option_and_then (λ r. words_met options r.0 r.1 words) (word_met options given waiting word)

-- no option lacks its value
abbrev pub complete : Reading → Option Given
complete r = if is_some r.1 then None else Some r.0

-- the options that words give, in the order of the words
abbrev pub given_in : Options → List Word → Option Given
given_in options words = option_and_then complete (words_met options [] None words)

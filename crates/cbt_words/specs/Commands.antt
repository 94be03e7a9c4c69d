-- The commands that the words behind the program's name are.
use Rattle.std.specs.Prelude.{ℕ, ◌*◌, ◌^◌, ◌<◌, ◌≤◌, ◌&&◌, nat_le, Bool, if◌then◌else◌, List, [], ◌∷◌, Option, Some, None, option_map, option_and_then, codes, bytes_eq}
use Rattle.cbt_lex.specs.Decimals.{number_of}
use Rattle.cbt_words.specs.declared.command.Command.{Command}
use Rattle.cbt_words.specs.declared.command.Command.TheVariants.{Sim, Run, Gen}
use Rattle.cbt_words.specs.Options.{Given, Options, Word, alone, valued, given_in, has_word, value_of, was_given}

-- one answer after another, where all are there
infixl 10 ◌>>=◌
abbrev pub ◌>>=◌ : {A B : Type 0} → Option A → (A → Option B) → Option B
found >>= next = option_and_then next found

-- ---- `sim` and `run`

-- `--history`
abbrev pub history_options : Options
history_options = (codes "history", alone) ∷ []

-- whether the history is asked for, where the words are at most that option
abbrev pub history_in : List Word → Option Bool
history_in words = option_map (was_given (codes "history")) (given_in history_options words)

-- ---- `gen`

-- `--seed N`, `--clients N`, `--accounts N`, `--transfers N` and `--sim`
abbrev pub gen_options : Options
gen_options =
    (codes "seed", valued) ∷ (codes "clients", valued) ∷ (codes "accounts", valued) ∷ (codes "transfers", valued) ∷ (codes "sim", alone) ∷ []

abbrev pub within : ℕ → ℕ → ℕ → Option ℕ
within least most n = if nat_le least n && nat_le n most then Some n else None

abbrev pub number_or : ℕ → Option Word → Option ℕ
number_or default None = Some default
number_or default (Some text) = number_of text

-- the number of an option that may be left out, between two limits
abbrev pub number_in : ℕ → ℕ → ℕ → Option Word → Option ℕ
number_in default least most text = number_or default text >>= within least most

-- the command of these values of its options, of which the seed has to be given
unfoldable pub gen_with : Option Word → Option Word → Option Word → Option Word → Bool → Option Command
gen_with seed clients accounts transfers sim = do
  seed ← seed >>= number_of
  clients ← number_in 8 2 32 clients
  accounts ← number_in 40 2 1000 accounts
  transfers ← number_in 16 1 200 transfers
  if nat_le (clients * transfers) 400 then Some (Gen seed clients accounts transfers sim) else None

unfoldable pub gen_of : Given → Option Command
gen_of given =
    gen_with (value_of (codes "seed") given) (value_of (codes "clients") given) (value_of (codes "accounts") given) (value_of (codes "transfers") given)
    (was_given (codes "sim") given)

abbrev pub gen_in : List Word → Option Command
gen_in words = given_in gen_options words >>= gen_of

-- ---- all commands

-- a first word, and the options behind it
abbrev pub command_in : Word → List Word → Option Command
command_in word options =
    if bytes_eq word (codes "sim") then option_map Sim (history_in options)
    else (if bytes_eq word (codes "run") then option_map Run (history_in options)
    else (if bytes_eq word (codes "gen") then gen_in options
    else None))

abbrev pub command_of_parts : List Word → Option Command
command_of_parts [] = None
command_of_parts (word ∷ options) = command_in word options

-- a command's word and its options; a word of two hyphens alone is none
abbrev pub command_of : List Word → Option Command
command_of words = if has_word (codes "--") words then None else command_of_parts words

-- ---- the ranges of numbers

-- the numbers that a script can be made from
pub record AreInRanges (seed clients accounts transfers : ℕ) : Type 0 where
  pub seed_fits : seed < 2 ^ 64
  pub clients_some : 2 ≤ clients
  pub clients_few : clients ≤ 32
  pub accounts_some : 2 ≤ accounts
  pub accounts_few : accounts ≤ 1000
  pub transfers_some : 1 ≤ transfers
  pub transfers_few : transfers ≤ 200
  pub transactions_few : clients * transfers ≤ 400

abbrev pub KeepsRanges : Option Command → Type 0
KeepsRanges None = Unit {0}
KeepsRanges (Some (Sim history)) = Unit {0}
KeepsRanges (Some (Run history)) = Unit {0}
KeepsRanges (Some (Gen seed clients accounts transfers sim)) = AreInRanges seed clients accounts transfers

-- What clap's matches say of the options of `gen`.
use Rattle.std.proofs.Common.{◌≡◌, ◌∙◌, ◌⊎◌, inl, inr, ℕ, Bool, cond, true, false, refl, sym, ap, List, Option, Some, None, codes}
use Rattle.std.specs.Prelude.{fold, option_and_then}
use Rattle.std.specs.Option.{option_map_or}
use Rattle.std.specs.Str.{bytes_eq}
use Rattle.clap.specs.Words.{first_value, found_of, one_text, rows_of}
use Rattle.clap.specs.Walk.{Row, first_of, one_of, with_default}
use Rattle.clap.specs.declared.parser.matches.ArgMatches.{ArgMatches}
use Rattle.clap.proofs.WalkLemmas.{first_value-rows, one_text-rows}
use Rattle.cbt_lex.specs.Decimals.{number_of}
use Rattle.cbt_words.specs.declared.command.Command.{Command}
use Rattle.cbt_words.specs.Commands.{gen_in, gen_of, gen_options, gen_with, number_in, within}
use Rattle.cbt_words.specs.Options.{Given, Kind, Word, alone, given_in, has_word, valued, value_of, was_given}
use Rattle.cbt_words.specs.Parsers.{Reads, app_with, truth_text}
use Rattle.cbt_words.proofs.Rules.{built_rule, option_named, rows_for, rules, same_name}
use Rattle.cbt_words.proofs.Reading.{Bad}
use Rattle.cbt_words.proofs.Taken.{first_of-valued, one_of-alone, refused, takes, with_default-valued}

-- ---- where clap takes the words

-- only `--sim` has a default
defaults-sim : (rows : List Row) → fold with_default rows (rules gen_options) ≡ with_default rows (built_rule (codes "sim", alone))
defaults-sim rows =
    let a = with_default rows (built_rule (codes "seed", valued)) in
    let b = with_default a (built_rule (codes "clients", valued)) in
    let d = with_default b (built_rule (codes "accounts", valued)) in
    ap (λ rs. with_default rs (built_rule (codes "sim", alone)))
    (with_default-valued (codes "transfers") d ∙ with_default-valued (codes "accounts") b ∙ with_default-valued (codes "clients") a ∙ with_default-valued (codes "seed") rows)

-- what `gen_of` ensures
abbrev IsGenOf : ArgMatches → Option Command → Type 0
IsGenOf m answer =
    let value = first_value (found_of m) in
    (sim : Bool) → one_text (found_of m) (codes "sim") ≡ Some (truth_text sim)
    → answer ≡ gen_with (value (codes "seed")) (value (codes "clients")) (value (codes "accounts")) (value (codes "transfers")) sim

pub gen_taken : (words : List Word) (m : ArgMatches) (answer : Option Command) → has_word (codes "--") words ≡ false → Reads (app_with gen_options) words (Some m)
    → IsGenOf m answer → answer ≡ gen_in words
unfolding gen_of
gen_taken words m answer no_end reads is =
    let taken = takes gen_options words m no_end reads in
    let given = taken.given in
    let rows : rows_of (found_of m) ≡ with_default (rows_for given) (built_rule (codes "sim", alone)) = taken.rows ∙ defaults-sim (rows_for given) in
    let value = λ (name : Word) (known : option_named name gen_options ≡ Some (name, valued)) (differ : bytes_eq (codes "sim") name ≡ false).
    first_value-rows (found_of m) name ∙ ap (first_of name) rows ∙ first_of-valued name (codes "sim") given differ (taken.sound name valued known) in
    is (was_given (codes "sim") given) (one_text-rows (found_of m) (codes "sim") ∙ ap (one_of (codes "sim")) rows ∙ one_of-alone (codes "sim") given (taken.sound (codes "sim") alone refl))
    ∙ (λ i. gen_with (value (codes "seed") refl refl i) (value (codes "clients") refl refl i) (value (codes "accounts") refl refl i) (value (codes "transfers") refl refl i)
    (was_given (codes "sim") given))
    ∙ ap (option_and_then gen_of) (sym taken.is)

-- ---- where clap refuses them

none_then : {A B : Type 0} (next : A → Option B) (o : Option A) → ((a : A) → next a ≡ None) → option_and_then next o ≡ None
none_then next None none = refl
none_then next (Some a) none = none a

stops : {A B : Type 0} (next : A → Option B) (o : Option A) → o ≡ None → option_and_then next o ≡ None
stops next o e = ap (option_and_then next) e

-- the command of values of which one is no number
module _ (value : Option Word) (text : Word) (is : value ≡ Some text) (no_number : number_of text ≡ None) where
  bad_in : (default least most : ℕ) → number_in default least most value ≡ None
  bad_in default least most = ap (number_in default least most) is ∙ stops (within least most) (number_of text) no_number

  bad_seed : (clients accounts transfers : Option Word) (sim : Bool) → gen_with value clients accounts transfers sim ≡ None
  unfolding gen_with
  bad_seed clients accounts transfers sim = stops _ (option_and_then number_of value) (ap (option_and_then number_of) is ∙ no_number)

  bad_clients : (seed accounts transfers : Option Word) (sim : Bool) → gen_with seed value accounts transfers sim ≡ None
  unfolding gen_with
  bad_clients seed accounts transfers sim = none_then _ (option_and_then number_of seed) (λ s. stops _ (number_in 8 2 32 value) (bad_in 8 2 32))

  bad_accounts : (seed clients transfers : Option Word) (sim : Bool) → gen_with seed clients value transfers sim ≡ None
  unfolding gen_with
  bad_accounts seed clients transfers sim =
      none_then _ (option_and_then number_of seed) (λ s. none_then _ (number_in 8 2 32 clients) (λ c.
      stops _ (number_in 40 2 1000 value) (bad_in 40 2 1000)))

  bad_transfers : (seed clients accounts : Option Word) (sim : Bool) → gen_with seed clients accounts value sim ≡ None
  unfolding gen_with
  bad_transfers seed clients accounts sim =
      none_then _ (option_and_then number_of seed) (λ s. none_then _ (number_in 8 2 32 clients) (λ c.
      none_then _ (number_in 40 2 1000 accounts) (λ a. stops _ (number_in 16 1 200 value) (bad_in 16 1 200))))

-- the options that have a value
IsValued : Word → Type 0
IsValued name = (codes "seed" ≡ name) ⊎ ((codes "clients" ≡ name) ⊎ ((codes "accounts" ≡ name) ⊎ (codes "transfers" ≡ name)))

valued_named : (name : Word) → option_named name gen_options ≡ Some (name, valued) → IsValued name
unfolding IsValued
valued_named name known =
    go (bytes_eq (codes "seed") name) (bytes_eq (codes "clients") name) (bytes_eq (codes "accounts") name) (bytes_eq (codes "transfers") name) (bytes_eq (codes "sim") name)
    (same_name (codes "seed") name) (same_name (codes "clients") name) (same_name (codes "accounts") name) (same_name (codes "transfers") name) known
  where
    go : (s c a t f : Bool) → (s ≡ true → codes "seed" ≡ name) → (c ≡ true → codes "clients" ≡ name) → (a ≡ true → codes "accounts" ≡ name) → (t ≡ true → codes "transfers" ≡ name)
        → cond {A = Option (Word × Kind)} s (Some (codes "seed", valued)) (cond c (Some (codes "clients", valued)) (cond a (Some (codes "accounts", valued)) (cond t (Some (codes "transfers", valued)) (cond f (Some (codes "sim", alone)) None))))
        ≡ Some (name, valued) → IsValued name
    go true c a t f is-s is-c is-a is-t e = inl (is-s refl)
    go false true a t f is-s is-c is-a is-t e = inr (inl (is-c refl))
    go false false true t f is-s is-c is-a is-t e = inr (inr (inl (is-a refl)))
    go false false false true f is-s is-c is-a is-t e = inr (inr (inr (is-t refl)))
    go false false false false true is-s is-c is-a is-t e =
        let kinds : alone ≡ valued = ap (λ o. option_map_or (λ (p : Word × Kind). p.1) o alone) e in
        absurd (cc)
    go false false false false false is-s is-c is-a is-t e = absurd (cc)

bad_given : (given : Given) → Bad gen_options given → gen_of given ≡ None
unfolding gen_of IsValued
bad_given given bad = go (valued_named bad.name bad.known)
  where
    is_bad : (name : Word) → name ≡ bad.name → value_of name given ≡ Some bad.text
    is_bad name is = ap (λ n. value_of n given) is ∙ bad.value

    go : IsValued bad.name → gen_of given ≡ None
    go (inl is) = bad_seed _ bad.text (is_bad (codes "seed") is) bad.no_number _ _ _ _
    go (inr (inl is)) = bad_clients _ bad.text (is_bad (codes "clients") is) bad.no_number _ _ _ _
    go (inr (inr (inl is))) = bad_accounts _ bad.text (is_bad (codes "accounts") is) bad.no_number _ _ _ _
    go (inr (inr (inr is))) = bad_transfers _ bad.text (is_bad (codes "transfers") is) bad.no_number _ _ _ _

pub gen_refused : (words : List Word) → has_word (codes "--") words ≡ false → Reads (app_with gen_options) words None → gen_in words ≡ None
gen_refused words no_end refuses = go (given_in gen_options words) (refused gen_options words no_end refuses)
  where
    go : (o : Option Given) → ((given : Given) → o ≡ Some given → Bad gen_options given) → option_and_then gen_of o ≡ None
    go None bad = refl
    go (Some given) bad = bad_given given (bad given refl)

-- The numbers of a command are in their ranges.
use Rattle.std.proofs.Common.{◌≡◌, ℕ, ◌+◌, ◌-◌, ◌*◌, ◌^◌, ◌<◌, ◌≤◌, Bool, cond, true, false, ◌&&◌, nat_lt, nat_le, refl, sym, subst, List, [], ◌∷◌, Option, Some, None, codes, arith}
use Rattle.std.specs.Prelude.{Result, IfOk, option_and_then, option_map}
use Rattle.std.proofs.lemmas.Result.{IfOk-weaker}
use Rattle.std.specs.Str.{bytes_eq}
use borrow.Author.Tests.{ltb-true, leb-true}
use Rattle.cbt_lex.specs.Decimals.{digits_from, is_digit, is_plain, number_of}
use Rattle.cbt_words.specs.declared.command.Command.{Command}
use Rattle.cbt_words.specs.declared.command.Command.TheVariants.{Sim, Run, Gen}
use Rattle.cbt_words.specs.Commands.{KeepsRanges, command_in, gen_of, gen_options, gen_with, history_in, number_in, number_or, within}
use Rattle.cbt_words.specs.Options.{Given, Word, given_in, value_of, was_given}

-- ---- numbers

digits_fit : (bs : List ℕ) (n m : ℕ) → n < 2 ^ 64 → digits_from n bs ≡ Some m → m < 2 ^ 64
digits_fit [] n m fits e = let same : n ≡ m = cc in omega arith
digits_fit (b ∷ bs) n m fits e = go (is_digit b) (nat_lt (n * 10 + (b - 48)) (2 ^ 64)) refl (digits_fit bs (n * 10 + (b - 48)) m) e
  where
    go : (d t : Bool) → nat_lt (n * 10 + (b - 48)) (2 ^ 64) ≡ t → (n * 10 + (b - 48) < 2 ^ 64 → digits_from (n * 10 + (b - 48)) bs ≡ Some m → m < 2 ^ 64)
        → option_and_then (λ k. digits_from k bs) (cond (d && t) (Some (n * 10 + (b - 48))) None) ≡ Some m → m < 2 ^ 64
    go true true is behind e = behind (ltb-true _ _ is) e
    go true false is behind e = absurd (cc)
    go false t is behind e = absurd (cc)

number_fits : (word : Word) (n : ℕ) → number_of word ≡ Some n → n < 2 ^ 64
number_fits word n e = go (is_plain word) e
  where
    go : (t : Bool) → cond t (digits_from 0 word) None ≡ Some n → n < 2 ^ 64
    go true e = digits_fit word 0 n (omega arith) e
    go false e = absurd (cc)

-- a number between two limits
record IsWithin (least most n : ℕ) : Type 0 where
  low : least ≤ n
  high : n ≤ most

number_within : (default least most : ℕ) (text : Option Word) (n : ℕ) → number_in default least most text ≡ Some n → IsWithin least most n
number_within default least most text n e = some (number_or default text) e
  where
    some : (o : Option ℕ) → option_and_then (within least most) o ≡ Some n → IsWithin least most n
    some None e = absurd (cc)
    some (Some m) e = go (nat_le least m) (nat_le m most) refl refl e
      where
        go : (a b : Bool) → nat_le least m ≡ a → nat_le m most ≡ b → cond (a && b) (Some m) None ≡ Some n → IsWithin least most n
        go true true is-a is-b e =
            let same : m ≡ n = cc in
            record {
              low = omega (arith, leb-true _ _ is-a);
              high = omega (arith, leb-true _ _ is-b);
            }
        go true false is-a is-b e = absurd (cc)
        go false b is-a is-b e = absurd (cc)

-- ---- `gen`

-- a command that is made from what is there
then_keeps : {A : Type 0} (next : A → Option Command) (o : Option A) → ((a : A) → o ≡ Some a → KeepsRanges (next a)) → KeepsRanges (option_and_then next o)
then_keeps next None keeps = tt
then_keeps next (Some a) keeps = keeps a refl

seed_fits : (text : Option Word) (n : ℕ) → option_and_then number_of text ≡ Some n → n < 2 ^ 64
seed_fits None n e = absurd (cc)
seed_fits (Some word) n e = number_fits word n e

numbers_keep : (seed clients accounts transfers : ℕ) (sim : Bool) → seed < 2 ^ 64 → IsWithin 2 32 clients → IsWithin 2 1000 accounts → IsWithin 1 200 transfers
    → KeepsRanges (cond (nat_le (clients * transfers) 400) (Some (Gen seed clients accounts transfers sim)) None)
numbers_keep seed clients accounts transfers sim fits c a t = go (nat_le (clients * transfers) 400) refl
  where
    go : (few : Bool) → nat_le (clients * transfers) 400 ≡ few → KeepsRanges (cond few (Some (Gen seed clients accounts transfers sim)) None)
    go true is = record {
      seed_fits = fits;
      clients_some = c.low;
      clients_few = c.high;
      accounts_some = a.low;
      accounts_few = a.high;
      transfers_some = t.low;
      transfers_few = t.high;
      transactions_few = leb-true _ _ is;
    }
    go false is = tt

gen_keeps : (seed clients accounts transfers : Option Word) (sim : Bool) → KeepsRanges (gen_with seed clients accounts transfers sim)
unfolding gen_with
gen_keeps seed clients accounts transfers sim =
    then_keeps _ (option_and_then number_of seed) (λ s s-is.
    then_keeps _ (number_in 8 2 32 clients) (λ c c-is.
    then_keeps _ (number_in 40 2 1000 accounts) (λ a a-is.
    then_keeps _ (number_in 16 1 200 transfers) (λ t t-is.
    numbers_keep s c a t sim (seed_fits seed s s-is) (number_within 8 2 32 clients c c-is) (number_within 40 2 1000 accounts a a-is) (number_within 16 1 200 transfers t t-is)))))

given_keeps : (given : Given) → KeepsRanges (gen_of given)
unfolding gen_of
given_keeps given =
    gen_keeps (value_of (codes "seed") given) (value_of (codes "clients") given) (value_of (codes "accounts") given) (value_of (codes "transfers") given) (was_given (codes "sim") given)

-- ---- all commands

sim_keeps : (o : Option Bool) → KeepsRanges (option_map Sim o)
sim_keeps None = tt
sim_keeps (Some t) = tt

run_keeps : (o : Option Bool) → KeepsRanges (option_map Run o)
run_keeps None = tt
run_keeps (Some t) = tt

-- one of two commands
either_keeps : (t : Bool) (one other : Option Command) → KeepsRanges one → KeepsRanges other → KeepsRanges (cond t one other)
either_keeps true one other keeps keeps-other = keeps
either_keeps false one other keeps keeps-other = keeps-other

in_keeps : (word : Word) (options : List Word) → KeepsRanges (command_in word options)
in_keeps word options =
    either_keeps (bytes_eq word (codes "sim")) _ _ (sim_keeps (history_in options))
    (either_keeps (bytes_eq word (codes "run")) _ _ (run_keeps (history_in options))
    (either_keeps (bytes_eq word (codes "gen")) _ _ (then_keeps gen_of (given_in gen_options options) (λ given is. given_keeps given)) tt))

pub result_keeps : {E : Type 0} (word : Word) (options : List Word) (r : Result (Option Command) E) → IfOk r (λ command. command ≡ command_in word options) → IfOk r KeepsRanges
result_keeps word options r is =
    IfOk-weaker r (λ command. command ≡ command_in word options) KeepsRanges (λ command e. subst KeepsRanges (sym e) (in_keeps word options)) is

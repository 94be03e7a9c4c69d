-- How many calls a cleaner has left.
use Rattle.std.proofs.Common.{◌≡◌, ℕ, suc, ◌+◌, ◌-◌, ◌*◌, ◌<◌, ◌&&◌, nat_lt, if◌then◌else◌, Bool, true, false, length, Option, Some, None, refl, sym, ap, ◌∙◌, subst, arith}
use Rattle.std.proofs.lemmas.Bool.{ltb-true}
use Rattle.std.proofs.lemmas.List.{length-set}
use Rattle.std.proofs.Math.Nat.{suc-mul}
use Rattle.cbt_model.specs.declared.steps.Step.{Step}
use Rattle.cbt_lost.specs.Cleaning.{asked_left, calls_left, running_left, settled, step_now, told}
use Rattle.cbt_lost.specs.Rounds.{is_over, log_of, round_left, round_step, whole_round}
use Rattle.cbt_lost.specs.declared.cleaners.Cleaner.{Cleaner}
use Rattle.cbt_lost.specs.declared.rounds.Round.{Round}

-- one that asks for a call has one more left than it runs
pub some_left : (c : Cleaner) (s : Step) → step_now c ≡ Some s → calls_left c ≡ suc (running_left c)
some_left c s asked = ap (λ o. asked_left o (running_left c)) asked

-- one whose rounds have all ended has none
none_left : (c : Cleaner) → nat_lt c.at (length c.logs) ≡ false → calls_left c ≡ 0
none_left c all =
    ap (λ o. asked_left o (running_left c)) (ap (λ b. if c.stopped then None else (if b then round_step c.terms c.round else None)) all ∙ by c.stopped)
  where
    by : (b : Bool) → (if b then None else (if false then round_step c.terms c.round else None)) ≡ None
    by true = refl
    by false = refl

-- calls of the round under way, and of those behind it
going_less : (new old rest : ℕ) → new < old → new + rest < old + rest
going_less new old rest less = omega arith

told_less : (whole new old k n : ℕ) → new < old → n ≡ suc k → whole + k * whole < old + n * whole
told_less whole new old k n less is = let more : n * whole ≡ k * whole + whole = ap (λ x. x * whole) is ∙ suc-mul k whole in omega arith

within : (asked : Option Step) (new old : ℕ) → new < old → asked_left asked new < suc old
within None new old less = omega arith
within (Some s) new old less = omega arith

module _ (c : Cleaner) (round : Round) (past : ℕ) (less : round_left c.terms.atrs round < round_left c.terms.atrs c.round) where
  abbrev on : Cleaner
  on = record c { round = round }

  going : running_left on < running_left c
  going = going_less (round_left c.terms.atrs round) (round_left c.terms.atrs c.round) ((length c.logs - (c.at + 1)) * whole_round c.terms.atrs) less

  next_left : c.at + 1 < length c.logs → running_left (told past on) < running_left c
  next_left under =
      subst (λ n. whole_round c.terms.atrs + (n - (c.at + 1 + 1)) * whole_round c.terms.atrs < running_left c) (sym (length-set c.logs c.at (log_of round)))
      (told_less (whole_round c.terms.atrs) (round_left c.terms.atrs round) (round_left c.terms.atrs c.round) (length c.logs - (c.at + 1 + 1)) (length c.logs - (c.at + 1)) less
      (rest_is c.at (length c.logs) under))
    where
      rest_is : (at n : ℕ) → at + 1 < n → n - (at + 1) ≡ suc (n - (at + 1 + 1))
      rest_is at n under = omega arith

  told_left : (b : Bool) → nat_lt (c.at + 1) (length c.logs) ≡ b → calls_left (told past on) < suc (running_left c)
  told_left true is = within (step_now (told past on)) (running_left (told past on)) (running_left c) (next_left (ltb-true (c.at + 1) (length c.logs) is))
  told_left false is =
      subst (λ n. n < suc (running_left c)) (sym (none_left (told past on) (ap (λ n. nat_lt (c.at + 1) n) (length-set c.logs c.at (log_of round)) ∙ is))) (some_number (running_left c))
    where
      some_number : (n : ℕ) → 0 < suc n
      some_number n = omega arith

  -- with each answer fewer are left
  pub fewer_settled : (s : Step) → step_now c ≡ Some s → calls_left (settled past on) < calls_left c
  fewer_settled s asked = subst (λ n. calls_left (settled past on) < n) (sym (some_left c s asked)) (by (is_over round.work && nat_lt c.at (length c.logs)))
    where
      by : (b : Bool) → calls_left (if b then told past on else on) < suc (running_left c)
      by true = told_left (nat_lt (c.at + 1) (length c.logs)) refl
      by false = within (step_now on) (running_left on) (running_left c) going

-- Items of lists by their numbers, and the own list of a number that nobody has.
use Rattle.std.proofs.Common.{◌≡◌, ℕ, zero, suc, ◌+◌, ◌<◌, ◌≤◌, List, [], length, slice_get, Some, refl, ◌∙◌, arith}
use Rattle.std.proofs.lemmas.Option.{slice_get_within}
use Rattle.cbt_model.specs.History.{own}
use Rattle.cbt_model.specs.declared.events.Event.{Event}
use Rattle.cbt_model.specs.declared.states.State.{State}
use Rattle.cbt_core.specs.WriteSets.{numbered}
use Rattle.cbt_core.proofs.runs.Past.{Whose, mine, other, whose}
use Rattle.cbt_sched.proofs.Ending.{item-at}

pub one-plus : (k : ℕ) → 1 + k ≡ suc k
one-plus k = omega arith

module _ {X : Type 0} where
  pub numbered_within : (xs : List X) (n : ℕ) (x : X) → numbered xs n ≡ Some x → (0 < n) × (n ≤ length xs)
  numbered_within xs zero x there = absurd (cc)
  numbered_within xs (suc k) x there = let low = slice_get_within xs k x there in (omega arith, omega arith)

  pub numbered_at : (xs : List X) (n : ℕ) → 0 < n → n ≤ length xs → (x : X) × (numbered xs n ≡ Some x)
  numbered_at xs zero from to = absurd (omega arith)
  numbered_at xs (suc k) from to = item-at xs k (omega arith)

-- who made no call has an empty own list
pub own_none : (s0 : State) (h : List Event) (actor i : ℕ) → ((j : ℕ) (e : Event) → slice_get h j ≡ Some e → e.actor ≡ actor → ⊥)
    → own s0 h actor i ≡ []
own_none s0 h actor zero none = refl
own_none s0 h actor (suc i) none = go (whose s0 h actor i) (own_none s0 h actor i none)
  where
    go : Whose s0 h actor i → own s0 h actor i ≡ [] → own s0 h actor (suc i) ≡ []
    go (mine e at by is) before = absurd (none i e at by)
    go (other is none_here) before = is ∙ before

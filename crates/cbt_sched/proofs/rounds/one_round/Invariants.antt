use Rattle.std.proofs.Common.{◌≡◌, ℕ, ◌+◌, ◌-◌, ◌<◌, ◌≤◌, Bool, true, false, List, length, sum_by}
use Rattle.cbt_sched.specs.Driving.{AllStand, InRound, IsOutside, Keeps, asks}
use Rattle.cbt_sched.specs.Positions.{LeadsOn}
use Rattle.cbt_sched.specs.Turns.{callers}
use Rattle.cbt_sched.proofs.rounds.one_round.Given as goal

abbrev pub invariant-loop-at : goal.invariant-loop-at
invariant-loop-at g l = record {
  past : 0 < l.at;
  most : l.at ≤ length l.initial.actors + 1;
  before : l.last < l.at;
  going : LeadsOn l.first (length l.initial.actors) l.going.next (asks g.A.Actor.step_now l.first l.actors);
  span : (j : ℕ) → l.last ≤ j → j < l.at - 1 → asks g.A.Actor.step_now l.first l.actors (l.first + j) ≡ false;
  keeps : Keeps g.N.Node (AllStand g.N.Node g.A.Actor l.first l.stops) (IsOutside l.first (length l.initial.actors))
      l.initial.refused l.initial.node l.initial.actors l.refused l.node l.actors;
  marks : g.N.Node.marks l.node ≡ g.N.Node.marks l.initial.node;
  same_length : length l.actors ≡ length l.initial.actors;
  round : (ordered : List ℕ) (at_first : ℕ → Bool) (r : ℕ)
      → InRound l.first (length l.initial.actors) ordered at_first r 0 (callers (g.N.Node.history l.initial.node))
      (asks g.A.Actor.step_now l.first l.initial.actors)
      → InRound l.first (length l.initial.actors) ordered at_first r (l.at - 1) (callers (g.N.Node.history l.node))
      (asks g.A.Actor.step_now l.first l.actors);
  ended : l.called ≡ false → (number : ℕ) → number < l.first + (l.at - 1) → asks g.A.Actor.step_now l.first l.actors number ≡ false;
  no_more : sum_by g.A.Actor.calls_left l.actors ≤ sum_by g.A.Actor.calls_left l.initial.actors;
  fewer : l.called ≡ true → sum_by g.A.Actor.calls_left l.actors < sum_by g.A.Actor.calls_left l.initial.actors;
}

abbrev pub decreases-loop-at : goal.decreases-loop-at
decreases-loop-at g l = length l.actors + 2 - l.at

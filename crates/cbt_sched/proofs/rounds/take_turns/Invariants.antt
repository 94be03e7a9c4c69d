use Rattle.std.proofs.Common.{◌≡◌, ℕ, length, sum_by}
use Rattle.cbt_sched.specs.Driving.{AllStand, InRound, IsOutside, Keeps, asks}
use Rattle.cbt_sched.specs.Positions.{LeadsOn}
use Rattle.cbt_sched.specs.Turns.{callers}
use Rattle.cbt_sched.proofs.rounds.take_turns.Given as goal

abbrev pub invariant-loop-alloc : goal.invariant-loop-alloc
invariant-loop-alloc g l = record {
  going : LeadsOn l.first (length l.initial.actors) l.going.next (asks g.A.Actor.step_now l.first l.actors);
  keeps : Keeps g.N.Node (AllStand g.N.Node g.A.Actor l.first l.stops) (IsOutside l.first (length l.initial.actors))
      l.initial.refused l.initial.node l.initial.actors l.refused l.node l.actors;
  marks : g.N.Node.marks l.node ≡ g.N.Node.marks l.initial.node;
  same_length : length l.actors ≡ length l.initial.actors;
  made : ℕ;
  rounds : InRound l.first (length l.initial.actors) (callers (g.N.Node.history l.initial.node)) (asks g.A.Actor.step_now l.first l.initial.actors)
      made 0 (callers (g.N.Node.history l.node)) (asks g.A.Actor.step_now l.first l.actors);
}

abbrev pub decreases-loop-alloc : goal.decreases-loop-alloc
decreases-loop-alloc g l = sum_by g.A.Actor.calls_left l.actors

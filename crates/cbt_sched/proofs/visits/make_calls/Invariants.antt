use Rattle.std.proofs.Common.{◌≡◌, ◌≢◌, is_some}
use Rattle.cbt_sched.specs.Driving.{Keeps, Stands}
use Rattle.cbt_sched.specs.Turns.{callers}
use Rattle.cbt_sched.proofs.Visiting.{IsVisiting}
use Rattle.cbt_sched.proofs.visits.make_calls.Given as goal

abbrev pub invariant-loop-node : goal.invariant-loop-node
invariant-loop-node g l = record {
  keeps : Keeps g.N.Node (Stands g.N.Node g.A.Actor l.number l.stop) (λ other. other ≢ l.number)
      l.initial.refused l.initial.node l.initial.actor l.refused l.node l.actor;
  marks : g.N.Node.marks l.node ≡ g.N.Node.marks l.initial.node;
  calls : IsVisiting l.number l.initial.left l.left (callers (g.N.Node.history l.initial.node)) (callers (g.N.Node.history l.node))
      (is_some (g.A.Actor.step_now l.initial.actor)) (is_some (g.A.Actor.step_now l.actor));
}

abbrev pub decreases-loop-node : goal.decreases-loop-node
decreases-loop-node g l = g.A.Actor.calls_left l.actor

use Rattle.std.proofs.Common.{length}
use Rattle.cbt_model.specs.History.{own}
use Rattle.cbt_node_rows.proofs.stager.drive.Given as goal

abbrev pub invariant-loop-step : goal.invariant-loop-step
invariant-loop-step g l =
    g.A.Actor.stands_for l.actor (own (g.N.Node.opening l.node) (g.N.Node.history l.node) l.number (length (g.N.Node.history l.node)))

abbrev pub decreases-loop-step : goal.decreases-loop-step
decreases-loop-step g l = g.A.Actor.calls_left l.actor

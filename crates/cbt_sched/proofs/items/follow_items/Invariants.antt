use Rattle.std.proofs.Common.{◌≡◌, ℕ, length, take}
use Rattle.cbt_sched.specs.Driving.{AllStand, Agrees, Follows, IsOutside, Keeps, asks}
use Rattle.cbt_sched.specs.Turns.{callers}
use Rattle.cbt_sched.proofs.items.follow_items.Given as goal

abbrev pub invariant-loop-item : goal.invariant-loop-item
invariant-loop-item g l = record {
  keeps : Keeps g.N.Node (AllStand g.N.Node g.A.Actor l.first l.stops) (IsOutside l.first (length l.initial.actors))
      l.initial.refused l.initial.node l.initial.actors l.refused l.node l.actors;
  same_length : length l.actors ≡ length l.initial.actors;
  follows : (n : ℕ → ℕ) → Agrees (callers (g.N.Node.history l.node)) (asks g.A.Actor.step_now l.first l.actors) n
      → Follows (take l.item-index l.item-items) l.refused (g.N.Node.marks l.initial.node) (g.N.Node.marks l.node)
      (callers (g.N.Node.history l.initial.node)) (callers (g.N.Node.history l.node))
      (asks g.A.Actor.step_now l.first l.initial.actors) (asks g.A.Actor.step_now l.first l.actors) n;
}

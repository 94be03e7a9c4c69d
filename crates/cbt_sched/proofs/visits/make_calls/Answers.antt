use Rattle.std.proofs.Common.{◌∙◌, rules}
use Rattle.cbt_sched.proofs.Keeping.{keeps-further}
use Rattle.cbt_sched.proofs.Visiting.{visiting-next, not-spent}
use Rattle.cbt_sched.proofs.visits.make_calls.Goals as goal

pub loop-node-preserved : goal.loop-node-preserved
loop-node-preserved g c = record {
  keeps = keeps-further c.loop-node.invariant.keeps c.if-make_call.ensures.keeps;
  marks = c.if-make_call.ensures.marks ∙ c.loop-node.invariant.marks;
  calls = visiting-next _ _ _ _ _ _ _ _ _ _ c.loop-node.invariant.calls c.if-make_call.ensures.turn
      (not-spent _ c.loop-node-test.ensures) (search rules);
}

pub returns-else-make_call-clause-keeps : goal.returns-else-make_call-clause-keeps
returns-else-make_call-clause-keeps g c = keeps-further c.loop-node.invariant.keeps c.if-make_call.ensures.keeps

use Rattle.std.proofs.Common.{◌≡◌, ◌+◌, cond, length, slice_get, Some, refl, ◌∙◌, arith}
use Rattle.cbt_model.specs.History.{commits_below}
use Rattle.cbt_report.proofs.Replays.{item-is, after-next, commits-next, opening-clock}
use Rattle.cbt_report.proofs.replay.end_of.Goals as goal
use Rattle.cbt_report.proofs.replay.end_of.Goals.{then-branch, else-branch}

pub loop-event-init : goal.loop-event-init
loop-event-init c = record {
  state = c.in_ok-state.ensures;
  commits = refl;
  few = omega arith;
  clock = opening-clock c.in_ok-state.state c.args.kept.now.opening c.in_ok-state.ensures c.requires.last;
}

pub loop-event-preserved : goal.loop-event-preserved
loop-event-preserved c =
    let same : c.as_slice-event-items.result.now ≡ c.args.kept.now.history = c.as_slice-event-items.ensures in
    let there : slice_get c.args.kept.now.history c.loop-event.event-index ≡ Some c.event-item.result =
    rw same at (item-is c.as_slice-event-items.result.now c.loop-event.event-index c.event-item.result c.loop-event-test.true c.event-item.is) in
    let counted : cond c.in_ok-happen.field-0 (c.loop-event.commits + 1) c.loop-event.commits ≡ length (commits_below c.args.kept.now.opening c.args.kept.now.history (c.loop-event.event-index + 1)) =
    commits-next c.args.kept.now.opening c.args.kept.now.history c.loop-event.event-index c.event-item.result c.loop-event.state c.in_ok-happen.field-0 c.loop-event.commits
    there c.loop-event.invariant.state c.in_ok-happen.ensures.commit c.loop-event.invariant.commits in
    record {
      state = after-next c.args.kept.now.opening c.args.kept.now.history c.loop-event.event-index c.event-item.result c.loop-event.state c.happen.new.state
          there c.loop-event.invariant.state c.in_ok-happen.ensures.state;
      commits = elim c.if-branch.branch [
        | then-branch w ↦ w.commits-is ∙ (rw w.if-branch.true at counted)
        | else-branch w ↦ w.commits-is ∙ (rw w.if-branch.false at counted)
      ];
      few = elim c.if-branch.branch [ then-branch w ↦ omega arith | else-branch w ↦ omega arith ];
      clock = omega (arith, c.in_ok-happen.ensures.clock);
    }

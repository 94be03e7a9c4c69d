use Rattle.std.proofs.Common.{◌≡◌, ◌+◌, length, Some, None, sym, subst, ◌∙◌, arith}
use Rattle.cbt_history.proofs.Sections.{AreBefore, from_place, line_before, room, script_found, lines_found, events_found, script_missing, lines_missing, events_missing}
use Rattle.cbt_history.proofs.histories_read.part.Goals as goal

pub returns-then-is_line-clause-script : goal.returns-then-is_line-clause-script
returns-then-is_line-clause-script c =
    script_found c.args.text.now c.in-Some.line.now c.in-Some.more.now c.loop-line.at c.loop-line.lines c.loop-line.invariant (from_place c.args.text.now c.loop-line.at (Some (c.in-Some.line.now, c.in-Some.more.now)) c.in-Some.ensures) (sym c.is_line.ensures ∙ c.if-is_line.true)

pub returns-then-is_line-clause-lines : goal.returns-then-is_line-clause-lines
returns-then-is_line-clause-lines c =
    lines_found c.args.text.now c.in-Some.line.now c.in-Some.more.now c.loop-line.at c.loop-line.lines c.loop-line.invariant (from_place c.args.text.now c.loop-line.at (Some (c.in-Some.line.now, c.in-Some.more.now)) c.in-Some.ensures) (sym c.is_line.ensures ∙ c.if-is_line.true)

pub returns-then-is_line-clause-events : goal.returns-then-is_line-clause-events
returns-then-is_line-clause-events c = (
  events_found c.args.text.now c.in-Some.line.now c.in-Some.more.now c.loop-line.at c.loop-line.lines c.loop-line.invariant (from_place c.args.text.now c.loop-line.at (Some (c.in-Some.line.now, c.in-Some.more.now)) c.in-Some.ensures) (sym c.is_line.ensures ∙ c.if-is_line.true),
  omega (arith, room c.args.text.now c.in-Some.line.now c.in-Some.more.now c.loop-line.at c.loop-line.lines c.loop-line.invariant (from_place c.args.text.now c.loop-line.at (Some (c.in-Some.line.now, c.in-Some.more.now)) c.in-Some.ensures), c.loop-line.invariant.few),
)

pub loop-line-preserved : goal.loop-line-preserved
loop-line-preserved c =
    let e : c.loop-line.at + length c.in-Some.line.now + 1 ≡ c.loop-line.at + (length c.in-Some.line.now + 1) = omega arith in
    subst (λ n. AreBefore c.args.text.now n (c.loop-line.lines + 1)) e
    (line_before c.args.text.now c.in-Some.line.now c.in-Some.more.now c.loop-line.at c.loop-line.lines c.loop-line.invariant (from_place c.args.text.now c.loop-line.at (Some (c.in-Some.line.now, c.in-Some.more.now)) c.in-Some.ensures) (sym c.is_line.ensures ∙ c.if-is_line.false))

pub returns-clause-script : goal.returns-clause-script
returns-clause-script c = script_missing c.args.text.now c.loop-line.at c.loop-line.lines c.loop-line.invariant (from_place c.args.text.now c.loop-line.at None c.in_default.ensures)

pub returns-clause-lines : goal.returns-clause-lines
returns-clause-lines c = lines_missing c.args.text.now c.loop-line.at c.loop-line.lines c.loop-line.invariant (from_place c.args.text.now c.loop-line.at None c.in_default.ensures)

pub returns-clause-events : goal.returns-clause-events
returns-clause-events c = events_missing c.args.text.now c.loop-line.at c.loop-line.lines c.loop-line.invariant (from_place c.args.text.now c.loop-line.at None c.in_default.ensures)

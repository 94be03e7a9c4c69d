use Rattle.std.proofs.Common.{◌+◌, ◌≤◌, Some, None, sym, ◌∙◌, arith}
use Rattle.cbt_history.proofs.BadLines.{goes_further, stops_here, ends_here}
use Rattle.cbt_history.proofs.Sections.{from_place, room_at}
use Rattle.cbt_history.proofs.scripts_read.bad_line.Goals as goal

pub returns-then-not-branch : goal.returns-then-not-branch
returns-then-not-branch c =
    stops_here c.loop-first.line c.args.text.now c.in-Some.first.now c.in-Some.field-0-1.now c.loop-first.at c.loop-first.invariant.within
    (from_place c.args.text.now c.loop-first.at (Some (c.in-Some.first.now, c.in-Some.field-0-1.now)) c.in-Some.ensures)
    (sym c.in_ok-goes_on.ensures ∙ c.if-not-branch.true) ∙ c.loop-first.invariant.left

pub loop-first-preserved : goal.loop-first-preserved
loop-first-preserved c =
    let line = c.in-Some.first.now in
    let more = c.in-Some.field-0-1.now in
    let is = from_place c.args.text.now c.loop-first.at (Some (line, more)) c.in-Some.ensures in
    let before = c.loop-first.invariant in
    let counted : c.loop-first.line ≤ c.loop-first.at + 2 = before.few in
    record {
      left = goes_further c.loop-first.line c.args.text.now line more c.loop-first.at before.within is
          (sym c.in_ok-goes_on.ensures ∙ c.if-not-branch.false) ∙ before.left;
      within = omega (arith, room_at c.args.text.now line more c.loop-first.at before.within is);
      few = omega arith;
    }

pub returns : goal.returns
returns c = ends_here c.loop-first.line c.args.text.now c.loop-first.at (from_place c.args.text.now c.loop-first.at None c.in_default.ensures) ∙ c.loop-first.invariant.left

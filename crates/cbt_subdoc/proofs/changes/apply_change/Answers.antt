use Rattle.std.proofs.Common.{◌≤◌, ap, sym, length, arith}
use Rattle.cbt_json.specs.Rules.{max_levels}
use Rattle.cbt_json.specs.Trees.{levels}
use Rattle.cbt_subdoc.specs.declared.edits.Edit.{Edit}
use Rattle.cbt_subdoc.proofs.Keeps.{IsRegular-changed}
use Rattle.cbt_subdoc.proofs.Levels.{levels-changed, changed-Ok}
use Rattle.cbt_subdoc.proofs.changes.apply_change.Goals as goal

-- no deep value at the end of the path
low_of : (c : goal.Then-is_shallow) → levels c.in_ok-after.after ≤ max_levels
low_of c =
    let room = c.has_levels_within-is_shallow.ensures.0 c.if-is_shallow.true in
    let short = c.parts-path.ensures.limits.1 in
    let same = ap length c.parts-path.ensures.same in
    let edit : Edit = record { op = c.args.change.now.op; parents = c.args.change.now.parents; value = c.in_ok-value.value } in
    levels-changed max_levels edit c.parts-path.result.now c.args.tree c.in_ok-after.after (omega (arith, room, short, same)) c.requires.0 c.in_ok-after.ensures

pub returns-then-is_shallow-clause-answer : goal.returns-then-is_shallow-clause-answer
returns-then-is_shallow-clause-answer c =
    let sense = c.is_senseless.ensures in
    changed-Ok c.args.cas c.args.change.now c.parts-path.result.now c.in_ok-value.value c.args.tree c.in_ok-after.after (sym c.parts-path.ensures.same) c.in_ok-value.ensures.value (rw c.if-is_senseless.false at (sym sense))
    c.in_ok-after.ensures (low_of c)

pub returns-then-is_shallow-clause-rules : goal.returns-then-is_shallow-clause-rules
returns-then-is_shallow-clause-rules c =
    let edit : Edit = record { op = c.args.change.now.op; parents = c.args.change.now.parents; value = c.in_ok-value.value } in
    (low_of c, IsRegular-changed edit c.parts-path.result.now c.args.tree c.in_ok-after.after c.in_ok-value.ensures.rules.1 c.requires.1 c.in_ok-after.ensures)

pub returns-clause-rules : goal.returns-clause-rules
returns-clause-rules c =
    let edit : Edit = record { op = c.args.change.now.op; parents = c.args.change.now.parents; value = c.in_ok-value.value } in (
      c.has_levels_within.ensures.0 c.if-not-has_levels_within.false,
      IsRegular-changed edit c.parts-path.result.now c.args.tree c.in_ok-after.after c.in_ok-value.ensures.rules.1 c.requires.1 c.in_ok-after.ensures,
    )

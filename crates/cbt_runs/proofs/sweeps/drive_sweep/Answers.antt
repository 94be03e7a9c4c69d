use Rattle.std.proofs.Common.{◌+◌, length, refl, ap}
use Rattle.cbt_sched.specs.Turns.{callers, calls_of, marks_of}
use Rattle.cbt_runs.specs.Driven.{kept_by}
use Rattle.cbt_runs.proofs.Sweeping.{adds-sweep_mark, have_run, never_stopped, no-sweep_mark, or_parts, some-items}
use Rattle.cbt_runs.proofs.sweeps.drive_sweep.Goals as goal

pub returns-then-is_empty-clause-marks : goal.returns-then-is_empty-clause-marks
returns-then-is_empty-clause-marks g c =
    no-sweep_mark (length c.args.sweep.now) c.args.ahead (length (g.N.Node.history c.args.node.now)) (g.N.Node.marks c.args.node.now)
    (ap (λ xs. length xs) (c.if-is_empty.ensures.0 refl))

pub returns-clause-runs : goal.returns-clause-runs
returns-clause-runs g c =
    let e = c.drive_in_order-refused.ensures in
    have_run g.A.Actor c.args.number (kept_by g.N.Node c.drive_in_order-refused.new.node) c.args.sweep.now c.drive_in_order-refused.new.actors
    e.length e.stands e.origin e.ended

pub returns-clause-never_stopped : goal.returns-clause-never_stopped
returns-clause-never_stopped g c k begun a at is fine runs =
    never_stopped g.A.Actor _ (c.args.number + k) begun a _ c.new-no_stops.ensures
    (λ stopped. c.drive_in_order-refused.ensures.stopped k begun a at is (or_parts _ _ fine).1 runs stopped)

pub returns-clause-marks : goal.returns-clause-marks
returns-clause-marks g c =
    adds-sweep_mark c.advance.result c.is_err-refused.result c.drive_in_order-refused.result (length c.args.sweep.now) c.args.ahead
    (length (g.N.Node.history c.args.node.now)) (g.N.Node.marks c.args.node.now) _ (g.N.Node.marks c.drive_in_order-refused.new.node) _
    (some-items c.args.sweep.now c.is_empty.result c.is_empty.ensures c.if-is_empty.false)
    c.is_err-refused.ensures.value c.advance.ensures.marked c.advance.ensures.refused
    (ap (λ items. marks_of (calls_of (callers (g.N.Node.history c.drive_in_order-refused.new.node))) items (callers (g.N.Node.history c.advance.new.self)))
    c.new-no_items.ensures) c.drive_in_order-refused.ensures.marks

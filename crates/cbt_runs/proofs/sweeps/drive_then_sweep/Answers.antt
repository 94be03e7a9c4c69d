use Rattle.std.proofs.Common.{◌≡◌, suc, ◌+◌, length, ◌∙◌, subst, arith}
use Rattle.cbt_model.specs.Legal.{KeepsTerms}
use Rattle.cbt_runs.specs.Driven.{kept_by}
use Rattle.cbt_runs.proofs.Sweeping.{are_driven, are_in_turns, are_stopped, have_run, or_parts, stay_within}
use Rattle.cbt_runs.proofs.sweeps.drive_then_sweep.Given
use Rattle.cbt_runs.proofs.sweeps.drive_then_sweep.Goals as goal

-- the sweep's number follows those of the workers
number-is : (g : Given.Over) (c : goal.After-drive_sweep-refused g) → c.len.result + 1 ≡ suc (length c.args.workers.now)
number-is g c = let all = c.drive_in_order-refused.ensures.length in let count = c.len.ensures in omega arith

pub returns-clause-driven : goal.returns-clause-driven
returns-clause-driven g c =
    let first = c.drive_in_order-refused.ensures in
    let then = c.drive_sweep-refused.ensures in
    are_driven g.A.Actor (kept_by g.N.Node c.args.node.now) (kept_by g.N.Node c.drive_in_order-refused.new.node) (kept_by g.N.Node c.drive_sweep-refused.new.node)
    c.args.workers.now c.drive_in_order-refused.new.actors c.args.sweep.now c.drive_sweep-refused.new.sweep (c.len.result + 1) (number-is g c)
    c.requires.empty first.others then.others first.known then.kept then.known (g.N.Node.terms c.args.node.now)
    (subst (λ terms. KeepsTerms terms (g.N.Node.history c.drive_sweep-refused.new.node) (g.N.Node.marks c.drive_sweep-refused.new.node))
    (then.terms ∙ first.terms) (g.met.N.Node.keeps_terms c.drive_sweep-refused.new.node))
    (have_run g.A.Actor 1 (kept_by g.N.Node c.drive_in_order-refused.new.node) c.args.workers.now c.drive_in_order-refused.new.actors
    first.length first.stands first.origin first.ended)
    then.runs

pub returns-clause-within : goal.returns-clause-within
returns-clause-within g c =
    let first = c.drive_in_order-refused.ensures in
    let then = c.drive_sweep-refused.ensures in
    stay_within g.A.Actor (kept_by g.N.Node c.args.node.now) (kept_by g.N.Node c.drive_in_order-refused.new.node) (kept_by g.N.Node c.drive_sweep-refused.new.node)
    c.args.workers.now c.drive_in_order-refused.new.actors c.args.sweep.now c.drive_sweep-refused.new.sweep (c.len.result + 1) (number-is g c)
    c.requires.empty first.others then.others c.args.stops.now first.within

pub returns-clause-stopped : goal.returns-clause-stopped
returns-clause-stopped g c fine =
    let first = c.drive_in_order-refused.ensures in
    let then = c.drive_sweep-refused.ensures in
    let neither = or_parts c.drive_in_order-refused.result c.drive_sweep-refused.result fine in
    are_stopped g.A.Actor (kept_by g.N.Node c.args.node.now) (kept_by g.N.Node c.drive_in_order-refused.new.node) (kept_by g.N.Node c.drive_sweep-refused.new.node)
    c.args.workers.now c.drive_in_order-refused.new.actors c.args.sweep.now c.drive_sweep-refused.new.sweep (c.len.result + 1) (number-is g c)
    c.requires.empty first.others then.others c.args.stops.now
    (λ k begun a at is. first.stopped k begun a at is neither.0)
    (λ k begun a at is. then.never_stopped k begun a at is neither.1)

pub returns-clause-turns : goal.returns-clause-turns
returns-clause-turns g c =
    let first = c.drive_in_order-refused.ensures in
    let then = c.drive_sweep-refused.ensures in
    are_in_turns g.A.Actor (kept_by g.N.Node c.args.node.now) (kept_by g.N.Node c.drive_in_order-refused.new.node) (kept_by g.N.Node c.drive_sweep-refused.new.node)
    c.args.workers.now c.drive_in_order-refused.new.actors c.args.sweep.now c.drive_sweep-refused.new.sweep (c.len.result + 1) (number-is g c)
    c.requires.empty first.others then.others c.args.ahead c.args.order.now c.drive_in_order-refused.result c.drive_sweep-refused.result
    (g.N.Node.marks c.args.node.now) (g.N.Node.marks c.drive_in_order-refused.new.node) (g.N.Node.marks c.drive_sweep-refused.new.node)
    first.turns then.turns first.marks then.marks

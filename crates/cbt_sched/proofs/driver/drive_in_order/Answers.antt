use Rattle.std.proofs.Common.{◌+◌, false, length, sym, ap, ◌∙◌, slice_get, arith}
use Rattle.cbt_model.proofs.Longer.{get-longer}
use Rattle.cbt_sched.specs.Driving.{AllStand, IsOutside, Keeps}
use Rattle.cbt_sched.proofs.Actors.{no-step}
use Rattle.cbt_sched.proofs.Ending.{all_stand-begun, counterpart, item-at, known-callers, length-own}
use Rattle.cbt_sched.proofs.Keeping.{keeps-count, keeps-further}
use Rattle.cbt_sched.proofs.driver.drive_in_order.Given
use Rattle.cbt_sched.proofs.driver.drive_in_order.Goals as goal

-- what items and turns keep
keeps : (g : Given.Over) (c : goal.After-take_turns g)
    → Keeps g.N.Node (AllStand g.N.Node g.A.Actor c.args.first c.args.stops.now) (IsOutside c.args.first (length c.args.actors.now))
    false c.args.node.now c.args.actors.now c.take_turns.new.refused c.take_turns.new.node c.take_turns.new.actors
keeps g c = keeps-further c.follow_items.ensures.keeps (keeps-count c.follow_items.ensures.length c.take_turns.ensures.keeps)

-- all actors stand at the end
all_stand : (g : Given.Over) (c : goal.After-take_turns g)
    → AllStand g.N.Node g.A.Actor c.args.first c.args.stops.now c.args.actors.now
    c.take_turns.new.refused c.take_turns.new.node c.take_turns.new.actors
all_stand g c =
    (keeps g c).stand c.args.actors.now
    (all_stand-begun g.N.Node g.A.Actor c.args.first c.args.stops.now false c.args.node.now c.args.actors.now
    g.met.A.Actor.origin_itself c.requires.fresh c.requires.apart)

pub returns-clause-stands : goal.returns-clause-stands
returns-clause-stands g c k a there =
    let all = all_stand g c in
    let begun = counterpart c.take_turns.new.actors c.args.actors.now k a all.same_length there in
    (all.each k begun.0 a begun.1 there).stands

pub returns-clause-origin : goal.returns-clause-origin
returns-clause-origin g c k begun a at there = ((all_stand g c).each k begun a at there).origin

pub returns-clause-ended : goal.returns-clause-ended
returns-clause-ended g c k a there =
    no-step g.A.Actor.step_now c.args.first c.take_turns.new.actors k a there (c.take_turns.ensures.ended (c.args.first + k))

pub returns-clause-within : goal.returns-clause-within
returns-clause-within g c k most low stop =
    let all = all_stand g c in
    let begun = item-at c.args.actors.now k low in
    let now = counterpart c.args.actors.now c.take_turns.new.actors k begun.0 (sym all.same_length) begun.1 in
    let fits = (all.each k begun.0 now.0 begun.1 now.1).within most stop in
    let calls = length-own (g.N.Node.opening c.take_turns.new.node) (g.N.Node.history c.take_turns.new.node) (c.args.first + k) in
    omega (arith, fits, calls)

pub returns-clause-stopped : goal.returns-clause-stopped
returns-clause-stopped g c k begun a at there = ((all_stand g c).each k begun a at there).cause

pub returns-clause-kept : goal.returns-clause-kept
returns-clause-kept g c i low =
    let on = (keeps g c).goes_on in
    ap (λ h. slice_get h i) on.grown ∙ get-longer (g.N.Node.history c.args.node.now) on.added i low

pub returns-clause-others : goal.returns-clause-others
returns-clause-others g c = (keeps g c).others

pub returns-clause-known : goal.returns-clause-known
returns-clause-known g c =
    let on = (keeps g c).goes_on in
    known-callers c.args.first (length c.args.actors.now) (g.N.Node.opening c.args.node.now) (g.N.Node.opening c.take_turns.new.node)
    (g.N.Node.history c.args.node.now) on.added
    (g.N.Node.history c.take_turns.new.node) on.grown
    (keeps g c).others

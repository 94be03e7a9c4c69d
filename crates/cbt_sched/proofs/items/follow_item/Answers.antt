use Rattle.std.proofs.Common.{◌+◌, ◌<◌, ◌≤◌, ◌⊎◌, ◌≡◌, Some, true, length, refl, sym, ap, ◌∙◌, subst}
use Rattle.std.proofs.lemmas.List.{length-map}
use Rattle.cbt_model.specs.declared.events.Event.{Event}
use Rattle.cbt_sched.specs.Turns.{callers}
use Rattle.cbt_sched.proofs.Actors.{asks-others, keeps-ahead, keeps-at, visits-at, visits-unknown}
use Rattle.cbt_sched.proofs.Calling.{holds-at_err, holds-at_ok}
use Rattle.cbt_sched.proofs.Following.{asked_of, follows-ahead, follows-asked, follows-missed}
use Rattle.cbt_sched.proofs.items.follow_item.Goals as goal
use Rattle.cbt_sched.proofs.items.follow_item.Goals.{in-Calls, in-All}

pub returns-in-Some-clause-keeps : goal.returns-in-Some-clause-keeps
returns-in-Some-clause-keeps g c =
    keeps-at g.N.Node g.A.Actor c.args.first c.args.stops.now c.args.refused.now c.make_calls.new.refused c.args.node.now c.make_calls.new.node
    c.args.actors.now c.in-Some.place c.at_mut-actor.result.now c.make_calls.new.actor c.at_mut-actor.ensures.value c.match-item.number.0
    c.stop_of-stop.result c.in-Some.ensures.place.0 c.stop_of-stop.ensures c.make_calls.ensures.keeps

pub returns-in-Some-clause-follows : goal.returns-in-Some-clause-follows
returns-in-Some-clause-follows g c n agreed =
    let e = c.make_calls.ensures in
    let same = c.in-Some.ensures.place.0 in
    let asked : asked_of c.args.item ≡ Some c.match-item.number = elim c.match-item.branch [
      | in-Calls w ↦ ap asked_of w.in-Calls.is ∙ ap (λ p. Some p) (sym w.number-is)
      | in-All w ↦ ap asked_of w.in-All.is ∙ ap (λ p. Some p) (sym w.number-is)
    ] in
    follows-asked c.args.item c.match-item.number asked c.make_calls.new.refused _ _ _ _ _ _
    (asks-others g.A.Actor.step_now c.args.first c.args.actors.now c.in-Some.place c.make_calls.new.actor c.match-item.number.0 same) e.marks n agreed
    (visits-at g.A.Actor.step_now c.args.first c.args.actors.now c.in-Some.place c.at_mut-actor.result.now c.make_calls.new.actor
    c.match-item.number.0 _ _ _ same c.at_mut-actor.ensures.value e.calls)

pub returns-in_default-clause-follows : goal.returns-in_default-clause-follows
returns-in_default-clause-follows g c n agreed =
    let asked : asked_of c.args.item ≡ Some c.match-item.number = elim c.match-item.branch [
      | in-Calls w ↦ ap asked_of w.in-Calls.is ∙ ap (λ p. Some p) (sym w.number-is)
      | in-All w ↦ ap asked_of w.in-All.is ∙ ap (λ p. Some p) (sym w.number-is)
    ] in
    follows-asked c.args.item c.match-item.number asked c.args.refused.now _ _ _ _ _ _ (λ b apart. refl) refl n agreed
    (visits-unknown g.A.Actor.step_now c.args.first c.args.actors.now c.match-item.number.0 _ _
    (subst (λ m. (c.match-item.number.0 < c.args.first) ⊎ (c.args.first + m ≤ c.match-item.number.0)) c.len.ensures
    (c.in_default.ensures.unknown refl)))

pub returns-then-is_err-clause-keeps : goal.returns-then-is_err-clause-keeps
returns-then-is_err-clause-keeps g c =
    let e = c.advance.ensures in
    keeps-ahead g.N.Node g.A.Actor c.args.first c.args.stops.now _ c.args.refused.now true
    c.args.node.now c.advance.new.self c.args.actors.now e.opening e.history e.terms e.readings (λ fine. absurd (cc))

pub returns-else-is_err-clause-keeps : goal.returns-else-is_err-clause-keeps
returns-else-is_err-clause-keeps g c =
    let e = c.advance.ensures in
    keeps-ahead g.N.Node g.A.Actor c.args.first c.args.stops.now _ c.args.refused.now c.args.refused.now
    c.args.node.now c.advance.new.self c.args.actors.now e.opening e.history e.terms e.readings (λ fine. fine)

pub returns-then-is_err-clause-follows : goal.returns-then-is_err-clause-follows
returns-then-is_err-clause-follows g c n agreed =
    follows-missed c.args.item c.in-Ahead.ms c.in-Ahead.is _ _ _ _ (ap callers c.advance.ensures.history) _ n agreed
    (holds-at_err c.advance.result _ c.if-is_err.ensures.value c.advance.ensures.refused)

pub returns-else-is_err-clause-follows : goal.returns-else-is_err-clause-follows
returns-else-is_err-clause-follows g c n agreed =
    follows-ahead c.args.item c.in-Ahead.ms c.in-Ahead.is _ _ _ _ (ap callers c.advance.ensures.history) _ n agreed c.args.refused.now
    (length (g.N.Node.history c.args.node.now)) (sym (length-map (g.N.Node.history c.args.node.now) (λ (e : Event). e.actor)))
    (holds-at_ok c.advance.result _ c.if-is_err.ensures.value c.advance.ensures.marked)

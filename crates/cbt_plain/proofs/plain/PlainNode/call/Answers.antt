use Rattle.std.proofs.Common.{◌≡◌, suc, ◌+◌, List, length, unwrap_or, sym, ap, ◌∙◌, arith}
use Rattle.cbt_base.specs.Clock.{held, ms_of}
use Rattle.cbt_model.specs.Faults.{fate_of}
use Rattle.cbt_model.specs.Fitting.{fits, step_fits}
use Rattle.cbt_model.specs.History.{after, happens, outcome, reply_at}
use Rattle.cbt_model.specs.Legal.{ahead_at, line_due}
use Rattle.cbt_model.specs.declared.events.Event.{Event}
use Rattle.cbt_model.specs.declared.events.Fate.TheVariants.{Plain}
use Rattle.cbt_model.proofs.Longer.{length-next}
use Rattle.cbt_plain.proofs.Calls.{stands-next, reply-next, last-there, last-is, counted-next, kept-next, held-sum, reads-next, due-next}
use Rattle.cbt_plain.proofs.Counted.{calls_below-le}
use Rattle.cbt_plain.proofs.plain.PlainNode.call.Goals as goal

pub next_number-requires : goal.next_number-requires
next_number-requires g c a =
    let s = c.args.self.now in
    let counted = s.counted a in
    let few = calls_below-le s.history a (length s.history) in
    let short = s.short in
    omega arith

pub unreachable-requires : goal.unreachable-requires
unreachable-requires g c =
    let e : Event = record { actor = c.args.actor; step = c.args.step; fate = c.unwrap_or-fate.result; reading = c.saturating_add.result } in
    let there = last-there c.args.self.now.history c.push.new.self e c.len-place.result c.in_ok-push.ensures.ok c.len-place.ensures in
    let none = c.in-None.ensures.value in
    cc

pub invariant_of-self-in-Ok : goal.invariant_of-self-in-Ok
invariant_of-self-in-Ok g c =
    let s = c.args.self.now in
    let e : Event = record { actor = c.args.actor; step = c.args.step; fate = c.unwrap_or-fate.result; reading = c.saturating_add.result } in
    let grown = c.in_ok-push.ensures.ok in
    let same : c.in-Some.event.now ≡ e = last-is s.history c.push.new.self e c.in-Some.event.now c.len-place.result grown c.len-place.ensures (sym c.in-Some.ensures.value) in
    let longer : length c.push.new.self ≡ suc (length s.history) = ap (λ (x : List Event). length x) grown ∙ length-next s.history e in
    let ahead : s.ahead ≡ held (ahead_at s.marks (length s.history)) = s.marked (length s.history) (omega arith) in
    record {
      stands = stands-next s.opening s.state c.perform-outcome.new.state s.history c.push.new.self e grown s.stands (c.in-Ok.ensures.state ∙ ap (λ x. happens s.state x) same);
      fit = c.in-Ok.ensures.bodies s.fit (ap (λ (x : Event). step_fits x.step) same ∙ c.requires);
      within = (let moved = c.in-Ok.ensures.clock in let before = s.within in omega arith);
      short = (let room = c.if-place-ge-MAX_EVENTS.false in let place = c.len-place.ensures in omega arith);
      counted = counted-next s.calls c.next_number.new.calls c.set_number.new.calls s.history c.push.new.self e c.in_ok-number.number grown s.counted
          c.in_ok-number.ensures.number c.in_ok-number.ensures.same c.set_number.ensures.own c.set_number.ensures.others;
      kept = kept-next (record { faults = s.faults; line = s.line }) s.history c.push.new.self s.marks e grown s.kept
          (c.unwrap_or-fate.ensures ∙ ap (λ o. unwrap_or o Plain) c.get.ensures
          ∙ ap (λ n. fate_of s.faults c.args.actor n) (c.in_ok-number.ensures.number ∙ ap (λ n. n + 1) (s.counted c.args.actor)))
          c.requires
          (λ line is. c.saturating_add.ensures
          ∙ held-sum (line_due line (length s.history)) (ahead_at s.marks (length s.history)) c.next_reading-reading.result s.ahead
          (c.next_reading-reading.ensures.line line is ∙ ap (λ n. held (line_due line n)) c.len-place.ensures) ahead);
      marked = λ i low. s.marked i (omega arith);
    }

pub returns-in-Ok-clause-reply : goal.returns-in-Ok-clause-reply
returns-in-Ok-clause-reply g c =
    let s = c.args.self.now in
    let e : Event = record { actor = c.args.actor; step = c.args.step; fate = c.unwrap_or-fate.result; reading = c.saturating_add.result } in
    let grown = c.in_ok-push.ensures.ok in
    let same : c.in-Some.event.now ≡ e = last-is s.history c.push.new.self e c.in-Some.event.now c.len-place.result grown c.len-place.ensures (sym c.in-Some.ensures.value) in
    ap (λ i. reply_at s.opening c.push.new.self i) c.len-place.ensures
    ∙ reply-next s.opening s.state s.history c.push.new.self e c.in-Ok.happened.reply grown s.stands (c.in-Ok.ensures.reply ∙ ap (λ x. (outcome s.state x).reply) same)

pub returns-in-Ok-clause-now : goal.returns-in-Ok-clause-now
returns-in-Ok-clause-now g c =
    let s = c.args.self.now in
    let e : Event = record { actor = c.args.actor; step = c.args.step; fate = c.unwrap_or-fate.result; reading = c.saturating_add.result } in
    let grown = c.in_ok-push.ensures.ok in
    let same : c.in-Some.event.now ≡ e = last-is s.history c.push.new.self e c.in-Some.event.now c.len-place.result grown c.len-place.ensures (sym c.in-Some.ensures.value) in
    let longer : length c.push.new.self ≡ suc (length s.history) = ap (λ (x : List Event). length x) grown ∙ length-next s.history e in
    let stands = stands-next s.opening s.state c.perform-outcome.new.state s.history c.push.new.self e grown s.stands (c.in-Ok.ensures.state ∙ ap (λ x. happens s.state x) same) in
    c.ms.ensures ∙ ap (λ x. ms_of x.last) stands ∙ ap (λ n. ms_of (after s.opening c.push.new.self n).last) (longer ∙ ap suc (sym c.len-place.ensures))

pub returns-in-Ok-clause-fits : goal.returns-in-Ok-clause-fits
returns-in-Ok-clause-fits g c =
    let s = c.args.self.now in
    let e : Event = record { actor = c.args.actor; step = c.args.step; fate = c.unwrap_or-fate.result; reading = c.saturating_add.result } in
    let same : c.in-Some.event.now ≡ e = last-is s.history c.push.new.self e c.in-Some.event.now c.len-place.result c.in_ok-push.ensures.ok c.len-place.ensures (sym c.in-Some.ensures.value) in
    ap (λ (y : Event). fits y.step c.in-Ok.happened.reply) (sym same) ∙ c.in-Ok.ensures.fits s.fit

pub returns-in-Ok-clause-readings : goal.returns-in-Ok-clause-readings
returns-in-Ok-clause-readings g c f before none =
    let s = c.args.self.now in
    let b = before none in
    let e : Event = record { actor = c.args.actor; step = c.args.step; fate = c.unwrap_or-fate.result; reading = c.saturating_add.result } in
    let ahead : s.ahead ≡ held (ahead_at s.marks (length s.history)) = s.marked (length s.history) (omega arith) in
    let due = due-next g.C.Clock.due s.clock c.next_reading-reading.new.clock s.taken c.next_reading-reading.result (length s.history) f b.next b.rest
    (λ r is. c.next_reading-reading.ensures.again r none is) (λ is. c.next_reading-reading.ensures.fresh none is) in
    reads-next (g.C.Clock.due s.clock) (g.C.Clock.due c.next_reading-reading.new.clock) s.taken s.history c.push.new.self s.marks e c.next_reading-reading.result s.ahead f
    c.in_ok-push.ensures.ok b due.0 due.1 c.saturating_add.ensures ahead (let small = c.next_reading-reading.type_inv in omega arith)

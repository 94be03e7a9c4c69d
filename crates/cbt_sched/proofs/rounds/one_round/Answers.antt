use Rattle.std.proofs.Common.{◌≡◌, ℕ, ◌+◌, ◌-◌, ◌<◌, ◌≤◌, Bool, true, false, length, slice_set, sym, ap, ◌∙◌, subst, arith, refl}
use Rattle.std.proofs.lemmas.List.{length-set}
use Rattle.cbt_sched.specs.Driving.{InRound, asks}
use Rattle.cbt_sched.specs.Positions.{PassesOver, next_of}
use Rattle.cbt_sched.specs.Turns.{callers}
use Rattle.cbt_sched.specs.declared.going.Going.{Going}
use Rattle.cbt_sched.proofs.Actors.{asks-others, asks-there, asks-set_there, asks-within, ended-all, ended-below, ended-next, fewer-next, keeps-at, sum-fewer, sum-no_more, visit-of_turn, visits-there}
use Rattle.cbt_sched.proofs.Keeping.{keeps-count, keeps-further, keeps-same}
use Rattle.cbt_sched.proofs.Leading.{ended-skip, idle-ended, leads_on-next, skip, span-next, stays-ended}
use Rattle.cbt_sched.proofs.Rounding.{round-next, round-over}
use Rattle.cbt_sched.proofs.rounds.one_round.Goals as goal
use Rattle.cbt_sched.proofs.rounds.one_round.Goals.{then-make_call, else-make_call}

pub loop-at-init : goal.loop-at-init
loop-at-init g c =
    let at = c.after-at.ensures in
    let further = c.requires.going.further 0 (omega arith) in
    let low = further.0 in
    let high = further.1 in
    record {
      past = omega arith;
      most = omega arith;
      before = omega arith;
      going = c.requires.going;
      span = λ j from to. c.requires.going.over 0 j (omega arith) (omega arith) (omega arith);
      keeps = keeps-same;
      marks = refl;
      same_length = refl;
      round = λ ordered at_first r so_far. skip c.args.first (length c.args.actors.now) ordered at_first r _ _ 0 (c.after-at.result - 1) (omega arith)
          (λ j from to. c.requires.going.over 0 j (omega arith) (omega arith) (omega arith)) so_far;
      ended = λ none. ended-skip c.args.first 0 (c.after-at.result - 1) (asks g.A.Actor.step_now c.args.first c.args.actors.now)
          (λ number below. ended-below g.A.Actor.step_now c.args.first c.args.actors.now number (omega arith))
          (λ j from to. c.requires.going.over 0 j (omega arith) (omega arith) (omega arith));
      no_more = omega arith;
      fewer = λ some. absurd (cc);
    }

pub loop-at-preserved : goal.loop-at-preserved
loop-at-preserved g c =
    let i = c.loop-at.invariant in
    let e = c.make_call.ensures in
    let there = c.at_mut.ensures.value in
    let p : ℕ = c.loop-at.at - 1 in
    let first : ℕ = c.args.first in
    let count : ℕ = length c.args.actors.now in
    let at-is : c.loop-at.at ≡ p + 1 = (let past = i.past in omega arith) in
    let within : p + 1 ≤ count = (let low = c.loop-at-test.true in let len = c.len.ensures in let same = i.same_length in omega arith) in
    let asking = asks g.A.Actor.step_now first c.loop-at.actors in
    let asking' = asks g.A.Actor.step_now first (slice_set c.loop-at.actors p c.make_call.new.actor) in
    let made : Bool = c.make_call.result in
    let next = c.loop-at.going.next in
    let next' = c.if-make_call.going.next in
    let called_called : made ≡ true → c.if-make_call.called ≡ true = λ is.
    elim c.if-make_call.branch [
      | then-make_call w ↦ w.called-is
      | else-make_call w ↦ absurd (let clash : true ≡ false = sym is ∙ w.if-make_call.false in cc)
    ] in
    let idle_called : made ≡ false → c.if-make_call.called ≡ c.loop-at.called = λ is.
    elim c.if-make_call.branch [
      | then-make_call w ↦ absurd (let clash : true ≡ false = sym w.if-make_call.true ∙ is in cc)
      | else-make_call w ↦ w.called-is
    ] in
    let called_last : made ≡ true → c.if-make_call.last ≡ p + 1 = λ is.
    elim c.if-make_call.branch [
      | then-make_call w ↦ w.last-is ∙ at-is
      | else-make_call w ↦ absurd (let clash : true ≡ false = sym is ∙ w.if-make_call.false in cc)
    ] in
    let idle_last : made ≡ false → c.if-make_call.last ≡ c.loop-at.last = λ is.
    elim c.if-make_call.branch [
      | then-make_call w ↦ absurd (let clash : true ≡ false = sym w.if-make_call.true ∙ is in cc)
      | else-make_call w ↦ w.last-is
    ] in
    let called_going : made ≡ true → next' ≡ next = λ is.
    elim c.if-make_call.branch [
      | then-make_call w ↦ ap (λ (x : Going). x.next) w.going-is
      | else-make_call w ↦ absurd (let clash : true ≡ false = sym is ∙ w.if-make_call.false in cc)
    ] in
    let idle_going : made ≡ false → PassesOver c.loop-at.last (p + 1) next next' = λ is.
    elim c.if-make_call.branch [
      | then-make_call w ↦ absurd (let clash : true ≡ false = sym w.if-make_call.true ∙ is in cc)
      | else-make_call w ↦ subst (λ (x : Going). PassesOver c.loop-at.last (p + 1) next x.next) (sym w.going-is)
          (subst (λ m. PassesOver c.loop-at.last m next w.pass_over.new.self.next) at-is w.pass_over.ensures)
    ] in
    let low : c.loop-at.last < p + 1 = (let before = i.before in omega arith) in
    let others = asks-others g.A.Actor.step_now first c.loop-at.actors p c.make_call.new.actor (first + p) refl in
    let was = asks-there g.A.Actor.step_now first c.loop-at.actors p c.at_mut.result.now there in
    let is = asks-set_there g.A.Actor.step_now first c.loop-at.actors p c.make_call.new.actor (let same = i.same_length in omega arith) in
    let stays : asking (first + p) ≡ false → asking' (first + p) ≡ false = λ still. is ∙ stays-ended made _ _ _ _ _ e.turn (sym was ∙ still) in
    let idle : made ≡ false → asking' (first + p) ≡ false = λ none. is ∙ idle-ended made _ _ _ _ _ e.turn none in
    let leads = leads_on-next first count next next' asking asking' c.loop-at.last p made
    i.going others stays idle low within i.span called_going idle_going in
    let at : c.after-at-in-loop-at.result ≡ next_of next' (p + 1) = c.after-at-in-loop-at.ensures ∙ ap (λ m. next_of next' m) at-is in
    let further = leads.further (p + 1) within in
    let one = further.0 in
    let two = further.1 in
    let over : (j : ℕ) → p + 1 ≤ j → j < c.after-at-in-loop-at.result - 1 → asking' (first + j) ≡ false = λ j from to.
    leads.over (p + 1) j within from (omega arith) in
    let no_more = sum-no_more g.A.Actor.calls_left c.loop-at.actors p c.at_mut.result.now c.make_call.new.actor there e.no_more in
    record {
      past = omega arith;
      most = omega arith;
      before = elim c.if-make_call.branch [
        | then-make_call w ↦ (let last = w.last-is in omega arith)
        | else-make_call w ↦ (let last = w.last-is in omega arith)
      ];
      going = leads;
      span = λ j from to. span-next first count next next' asking asking' c.loop-at.last p made i.going others stays idle low within
          i.span called_going idle_going c.if-make_call.last called_last idle_last j from (omega arith);
      keeps = keeps-further i.keeps (keeps-count i.same_length
          (keeps-at g.N.Node g.A.Actor first c.args.stops.now c.loop-at.refused c.make_call.new.refused c.loop-at.node c.make_call.new.node
          c.loop-at.actors p c.at_mut.result.now c.make_call.new.actor there (first + p) c.stop_of-stop.result refl c.stop_of-stop.ensures e.keeps));
      marks = e.marks ∙ i.marks;
      same_length = length-set c.loop-at.actors p c.make_call.new.actor ∙ i.same_length;
      round = λ ordered at_first r before. skip first count ordered at_first r _ asking' (p + 1) (c.after-at-in-loop-at.result - 1) (omega arith) over
          (round-next first count ordered at_first r p _ _ asking asking' (i.round ordered at_first r before)
          (visits-there g.A.Actor.step_now first c.loop-at.actors p c.at_mut.result.now c.make_call.new.actor _ _ _ there
          (visit-of_turn made _ _ _ _ _ e.turn)) others);
      ended = λ none. ended-skip first (p + 1) (c.after-at-in-loop-at.result - 1) asking'
          (ended-next g.A.Actor.step_now first c.loop-at.actors p c.at_mut.result.now c.make_call.new.actor made c.loop-at.called
          c.if-make_call.called _ _ there e.turn called_called idle_called i.ended none) over;
      no_more = (let before = i.no_more in omega arith);
      fewer = fewer-next made c.loop-at.called c.if-make_call.called _ _ _
          (λ some. sum-fewer g.A.Actor.calls_left c.loop-at.actors p c.at_mut.result.now c.make_call.new.actor there (e.fewer some))
          idle_called no_more i.no_more i.fewer;
    }

pub returns-clause-round : goal.returns-clause-round
returns-clause-round g c ordered at_first r before =
    let i = c.loop-at.invariant in
    let all : c.loop-at.at - 1 ≡ length c.args.actors.now =
    (let past = c.loop-at-test.false in let count = c.len.ensures in let most = i.most in let same = i.same_length in omega arith) in
    round-over c.args.first (length c.args.actors.now) ordered at_first r _ _
    (subst (λ k. InRound c.args.first (length c.args.actors.now) ordered at_first r k (callers (g.N.Node.history c.loop-at.node))
    (asks g.A.Actor.step_now c.args.first c.loop-at.actors)) all
    (i.round ordered at_first r before))
    (λ a asking. subst (λ m. (c.args.first ≤ a) × (a < c.args.first + m)) i.same_length
    (asks-within g.A.Actor.step_now c.args.first c.loop-at.actors a asking))

pub returns-clause-ended : goal.returns-clause-ended
returns-clause-ended g c none =
    let i = c.loop-at.invariant in
    ended-all g.A.Actor.step_now c.args.first (c.loop-at.at - 1) c.loop-at.actors
    (let past = c.loop-at-test.false in let count = c.len.ensures in let most = i.most in let same = i.same_length in omega arith)
    (i.ended none)

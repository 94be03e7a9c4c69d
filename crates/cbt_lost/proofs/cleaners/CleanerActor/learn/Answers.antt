use Rattle.std.proofs.Common.{◌≡◌, ◌<◌, ◌^◌, ◌∷◌, true, length, sym, ap, arith}
use Rattle.cbt_model.specs.declared.events.Made.{Made}
use Rattle.cbt_lost.specs.Rounds.{plan_of}
use Rattle.cbt_lost.specs.declared.cleaners.Cleaner.{Cleaner}
use Rattle.cbt_lost.proofs.Coming.{comes_counted, comes_stopped, stands_more}
use Rattle.cbt_lost.proofs.Licensing.{asks}
use Rattle.cbt_lost.proofs.Outcomes.{either_way, ok_so}
use Rattle.cbt_lost.proofs.cleaners.CleanerActor.learn.Goals as goal

-- it goes on
pub returns-then-self-clause-stands : goal.returns-then-self-clause-stands
returns-then-self-clause-stands c l s asked stands =
    let it = c.args.self.now in
    let taken = c.take_in-taken.new.self in
    let r = c.take_in-taken.result in
    let rest = c.take_in-taken.ensures.rest in
    let within = c.take_in-taken.ensures.within in
    let calls = c.saturating_add-self.result in
    let m : Made = record { step = s; answer = c.args.answer } in
    let same : taken.calls ≡ it.calls = ap (λ (k : Cleaner). k.calls) rest in
    let counted = stands.counted in
    let small : length l < 2 ^ 62 = stands.few (asks it s asked).0 in
    stands_more it (record taken { calls = calls }) l m stands asked (ap (λ (k : Cleaner). k.terms) rest) within.1 within.0 (omega (arith, c.saturating_add-self.ensures)) (λ is. c.if-self.true)
    (λ stop. comes_counted (plan_of it.terms (length it.logs) stop) taken calls (m ∷ l)
    (ok_so r (sym c.if-is_ok.ensures.value) (c.take_in-taken.ensures.follows l s stop asked stands)))

-- it is stopped
pub returns-clause-stands : goal.returns-clause-stands
returns-clause-stands c l s asked stands =
    let it = c.args.self.now in
    let taken = c.take_in-taken.new.self in
    let r = c.take_in-taken.result in
    let rest = c.take_in-taken.ensures.rest in
    let within = c.take_in-taken.ensures.within in
    let calls = c.saturating_add-self.result in
    let m : Made = record { step = s; answer = c.args.answer } in
    let same : taken.calls ≡ it.calls = ap (λ (k : Cleaner). k.calls) rest in
    let counted = stands.counted in
    let small : length l < 2 ^ 62 = stands.few (asks it s asked).0 in
    let stopped : Cleaner = record taken { stopped = true } in
    stands_more it (record stopped { calls = calls }) l m stands asked (ap (λ (k : Cleaner). k.terms) rest) within.1 within.0 (omega (arith, c.saturating_add-self.ensures)) (λ is. cc)
    (λ stop.
    let plan = plan_of it.terms (length it.logs) stop in
    comes_counted plan stopped calls (m ∷ l)
    (either_way r (λ goes. comes_stopped plan taken (m ∷ l) goes) (λ cut. cut) (c.take_in-taken.ensures.follows l s stop asked stands) (c.take_in-taken.ensures.halts l s stop asked stands)))

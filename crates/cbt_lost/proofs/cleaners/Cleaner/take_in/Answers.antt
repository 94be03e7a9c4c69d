use Rattle.std.proofs.Common.{◌+◌, ◌<◌, ◌∷◌, length, sym, subst}
use Rattle.cbt_model.specs.declared.events.Made.{Made}
use Rattle.cbt_lost.specs.Cleaning.{calls_left, step_now, Comes}
use Rattle.cbt_lost.specs.Rounds.{plan_of}
use Rattle.cbt_lost.proofs.Bounds.{fewer_settled}
use Rattle.cbt_lost.proofs.Coming.{answered, cut_off}
use Rattle.cbt_lost.proofs.Licensing.{asks}
use Rattle.cbt_lost.proofs.Outcomes.{err_always, is_there}
use Rattle.cbt_lost.proofs.cleaners.Cleaner.take_in.Goals as goal

-- no memory was found
pub returns-in_err-learn-clause-halts : goal.returns-in_err-learn-clause-halts
returns-in_err-learn-clause-halts c l s stop asked stands =
    let it = c.args.self.now in
    let m : Made = record { step = s; answer = c.args.answer } in
    err_always _ _
    (cut_off it l m c.learn.new.self stop stands asked
    (λ before mine goes. c.in_err-learn.ensures.halts (length it.logs) stop before mine s (asks it s asked).2 goes))

-- the answer was taken in
pub returns-clause-follows : goal.returns-clause-follows
returns-clause-follows c l s stop asked stands =
    let it = c.args.self.now in
    let m : Made = record { step = s; answer = c.args.answer } in
    subst (λ k. Comes (plan_of it.terms (length it.logs) stop) k (m ∷ l)) (sym c.settle.ensures)
    (answered it l m c.learn.new.self stop stands asked
    (λ before mine goes. c.in_ok-learn.ensures.follows (length it.logs) stop before mine s (asks it s asked).2 goes))

pub returns-clause-fewer : goal.returns-clause-fewer
returns-clause-fewer c =
    let it = c.args.self.now in
    let asked = is_there (step_now it) c.requires.asked in
    subst (λ k. calls_left k < calls_left it) (sym c.settle.ensures) (fewer_settled it c.learn.new.self (c.args.answer.place + 1) c.in_ok-learn.ensures.fewer asked.0 asked.1)

use Rattle.std.proofs.Common.{◌≡◌, ◌+◌, ◌∷◌, slice_set, Some, None, sym, ap, ◌∙◌, subst, arith}
use Rattle.std.specs.Option.{option_copied}
use Rattle.cbt_model.specs.declared.events.Made.{Made}
use Rattle.cbt_clean.specs.Phases.{end_of}
use Rattle.cbt_lost.specs.Tours.{pass_log, AtNext, Goes}
use Rattle.cbt_lost.proofs.Outcomes.{err_always, is_none}
use Rattle.cbt_lost.proofs.Touring.{asked_in, copied_there, cut_as, goes_as, goes_in, next_as, next_place, pass_cut, pass_on, pass_over}
use Rattle.cbt_lost.proofs.tours.Tour.learn.Goals as goal

-- no memory was found for what the record shows
pub returns-in_err-learn-clause-halts : goal.returns-in_err-learn-clause-halts
returns-in_err-learn-clause-halts c base mine s asked goes =
    let t = c.args.self.now in
    let u = c.in-Some.under in
    let u_is = sym c.take.ensures.value ∙ c.in-Some.is in
    let m : Made = record { step = s; answer = c.args.answer } in
    let it = goes_in c.args.atrs t base mine u u_is goes in
    err_always _ _
    (cut_as c.args.atrs t base (m ∷ mine) c.take.new.self
    (pass_cut c.args.atrs t base mine u m it c.in_err-learn.ensures.first (asked_in t u u_is s asked) c.in_err-learn.ensures.covers))

-- the pass goes on
pub returns-then-is_none-clause-follows : goal.returns-then-is_none-clause-follows
returns-then-is_none-clause-follows c base mine s asked goes =
    let t = c.args.self.now in
    let u = c.in-Some.under in
    let u_is = sym c.take.ensures.value ∙ c.in-Some.is in
    let m : Made = record { step = s; answer = c.args.answer } in
    let it = goes_in c.args.atrs t base mine u u_is goes in
    let new = c.learn.new.self in
    let end : end_of new.pass ≡ None = sym c.end.ensures ∙ ap option_copied (is_none c.end.result c.if-is_none.ensures) in
    subst (λ k. Goes c.args.atrs k base (m ∷ mine)) (sym c.set_under.ensures)
    (goes_as c.args.atrs t base (m ∷ mine) (Some new) new
    (pass_on c.args.atrs t base mine u m it new (c.in_ok-learn.ensures.stands it.calls s (asked_in t u u_is s asked) it.stands) c.in_ok-learn.ensures.atr c.in_ok-learn.ensures.span end))

-- it has ended, and the next one begins
pub returns-clause-follows : goal.returns-clause-follows
returns-clause-follows c base mine s asked goes =
    let t = c.args.self.now in
    let u = c.in-Some.under in
    let u_is = sym c.take.ensures.value ∙ c.in-Some.is in
    let m : Made = record { step = s; answer = c.args.answer } in
    let it = goes_in c.args.atrs t base mine u u_is goes in
    let new = c.learn.new.self in
    let end = copied_there c.end.result (end_of new.pass) c.end.ensures c.if-is_none.ensures in
    let told = c.tell.ensures.told end.0 end.1 (let room = it.room in omega arith) in
    let next =
    next_as c.args.atrs (record t { passes = slice_set t.passes t.ended (pass_log new end.0); ended = t.ended + 1 }) base (m ∷ mine) c.take.new.self
    (pass_over c.args.atrs t base mine u m it new end.0 (c.in_ok-learn.ensures.stands it.calls s (asked_in t u u_is s asked) it.stands) c.in_ok-learn.ensures.atr c.in_ok-learn.ensures.span end.1) in
    c.go_on.ensures.follows base (m ∷ mine) (next_place c.args.answer.place) (subst (λ k. AtNext c.args.atrs k base (m ∷ mine)) (sym told) next)

pub returns-clause-halts : goal.returns-clause-halts
returns-clause-halts c base mine s asked goes =
    let t = c.args.self.now in
    let u = c.in-Some.under in
    let u_is = sym c.take.ensures.value ∙ c.in-Some.is in
    let m : Made = record { step = s; answer = c.args.answer } in
    let it = goes_in c.args.atrs t base mine u u_is goes in
    let new = c.learn.new.self in
    let end = copied_there c.end.result (end_of new.pass) c.end.ensures c.if-is_none.ensures in
    let told = c.tell.ensures.told end.0 end.1 (let room = it.room in omega arith) in
    let next =
    next_as c.args.atrs (record t { passes = slice_set t.passes t.ended (pass_log new end.0); ended = t.ended + 1 }) base (m ∷ mine) c.take.new.self
    (pass_over c.args.atrs t base mine u m it new end.0 (c.in_ok-learn.ensures.stands it.calls s (asked_in t u u_is s asked) it.stands) c.in_ok-learn.ensures.atr c.in_ok-learn.ensures.span end.1) in
    c.go_on.ensures.halts base (m ∷ mine) (subst (λ k. AtNext c.args.atrs k base (m ∷ mine)) (sym told) next)

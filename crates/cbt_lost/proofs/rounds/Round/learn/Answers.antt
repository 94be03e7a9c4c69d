use Rattle.std.proofs.Common.{◌≡◌, ◌≢◌, ⊎_elim, ◌∷◌, ◌++◌, refl, sym, ap, ◌∙◌, subst}
use Rattle.cbt_model.specs.declared.events.Made.{Made}
use Rattle.cbt_model.specs.declared.steps.Reply.TheVariants as reply
use Rattle.cbt_lost.specs.Rounds.{plan_of, ComesTo, IsCut, Stands}
use Rattle.cbt_lost.specs.declared.rounds.Round.{Round}
use Rattle.cbt_lost.specs.declared.rounds.Work.TheVariants.{Reading, Beating, Touring}
use Rattle.cbt_lost.proofs.Outcomes.{err_always, err_of, ok_of}
use Rattle.cbt_lost.proofs.Stepping.{asked_so, beat_cut, beat_failed, beat_on, comes_so, may_fail, reading_cut, reading_on, some_same, spanned_on, stands_on, touring_cut, touring_on}
use Rattle.cbt_lost.proofs.Touring.{next_place}
use Rattle.cbt_lost.proofs.rounds.Round.learn.Goals as goal

-- ---- the client record was to be read

pub returns-in_err-work-in-Reading-clause-halts : goal.returns-in_err-work-in-Reading-clause-halts
returns-in_err-work-in-Reading-clause-halts c rounds stop before mine s asked stands =
    let it = c.args.self.now in
    let terms = c.args.terms in
    let plan = plan_of terms rounds stop in
    let m : Made = record { step = s; answer = c.args.answer } in
    let work = sym c.replace.ensures.value ∙ c.in-Reading.is in
    let round : Round = record { span = c.grown-self.result; none = it.none; work = c.replace.new.dest } in
    let shown = c.in_err-work-in-Reading.ensures.refused in
    err_always _ _
    (reading_cut plan terms.sweep round before mine m shown.0 (comes_so plan terms.sweep it Reading before mine work stands) (some_same (asked_so terms it Reading s work asked)) shown.1
    c.replace.ensures.after stands.bare (spanned_on plan terms.sweep it c.grown-self.result before mine m stands c.grown-self.ensures))

pub returns-in_ok-work-in-Reading-clause-follows : goal.returns-in_ok-work-in-Reading-clause-follows
returns-in_ok-work-in-Reading-clause-follows c rounds stop before mine s asked stands =
    let it = c.args.self.now in
    let terms = c.args.terms in
    let plan = plan_of terms rounds stop in
    let m : Made = record { step = s; answer = c.args.answer } in
    let work = sym c.replace.ensures.value ∙ c.in-Reading.is in
    let next = c.in_ok-work-in-Reading.work in
    subst (λ k. Stands plan terms.sweep k before (m ∷ mine)) (sym c.set_work.ensures)
    (stands_on plan terms.sweep it (record { span = c.grown-self.result; none = it.none; work = next }) before mine m stands c.grown-self.ensures refl
    (subst (λ w. ComesTo plan terms.sweep w before (m ∷ mine)) (sym c.in_ok-work-in-Reading.ensures.ok)
    (reading_on terms rounds stop terms.sweep before mine m (comes_so plan terms.sweep it Reading before mine work stands) (some_same (asked_so terms it Reading s work asked))
    (c.requires.fits s asked))))

-- ---- the row was to be written

pub returns-in-Beating-clause-follows : goal.returns-in-Beating-clause-follows
returns-in-Beating-clause-follows c rounds stop before mine s asked stands =
    let it = c.args.self.now in
    let terms = c.args.terms in
    let plan = plan_of terms rounds stop in
    let m : Made = record { step = s; answer = c.args.answer } in
    let share = c.in-Beating.share in
    let gone = c.in-Beating.gone in
    let work = sym c.replace.ensures.value ∙ c.in-Beating.is in
    let comes = comes_so plan terms.sweep it (Beating share gone) before mine work stands in
    let beat = asked_so terms it (Beating share gone) s work asked in
    let new = c.take_beat.new.self in
    let span = ap (λ (k : Round). k.span) c.take_beat.ensures.rest ∙ c.grown-self.ensures in
    let none = ap (λ (k : Round). k.none) c.take_beat.ensures.rest in
    ⊎_elim
    (λ (failed : c.args.answer.reply ≡ reply.Failed).
    ok_of c.take_beat.result _ _
    (λ same. stands_on plan terms.sweep it new before mine m stands span none
    (subst (λ w. ComesTo plan terms.sweep w before (m ∷ mine)) (sym (ap (λ (k : Round). k.work) same ∙ c.replace.ensures.after))
    (beat_failed terms rounds stop terms.sweep share gone before mine m comes beat failed)))
    (c.take_beat.ensures.failed failed))
    (λ (answered : c.args.answer.reply ≢ reply.Failed).
    ok_of c.take_beat.result _ _
    (λ begins. stands_on plan terms.sweep it new before mine m stands span none
    (beat_on terms rounds stop terms.sweep share gone before mine m comes beat new.work answered begins))
    (c.take_beat.ensures.begins ((m ∷ mine) ++ before) answered (next_place c.args.answer.place)))
    (may_fail c.args.answer.reply)

pub returns-in-Beating-clause-halts : goal.returns-in-Beating-clause-halts
returns-in-Beating-clause-halts c rounds stop before mine s asked stands =
    let it = c.args.self.now in
    let terms = c.args.terms in
    let plan = plan_of terms rounds stop in
    let m : Made = record { step = s; answer = c.args.answer } in
    let share = c.in-Beating.share in
    let gone = c.in-Beating.gone in
    let work = sym c.replace.ensures.value ∙ c.in-Beating.is in
    let comes = comes_so plan terms.sweep it (Beating share gone) before mine work stands in
    let beat = asked_so terms it (Beating share gone) s work asked in
    let new = c.take_beat.new.self in
    let span = ap (λ (k : Round). k.span) c.take_beat.ensures.rest ∙ c.grown-self.ensures in
    err_of c.take_beat.result _ _
    (λ halts. beat_cut terms rounds stop terms.sweep share gone before mine m comes beat new halts.1 halts.0
    (spanned_on plan terms.sweep it new.span before mine m stands span))
    (c.take_beat.ensures.halts ((m ∷ mine) ++ before) (next_place c.args.answer.place))

-- ---- the passes were under way

pub returns-in-Touring-clause-follows : goal.returns-in-Touring-clause-follows
returns-in-Touring-clause-follows c rounds stop before mine s asked stands =
    let it = c.args.self.now in
    let terms = c.args.terms in
    let plan = plan_of terms rounds stop in
    let m : Made = record { step = s; answer = c.args.answer } in
    let t = c.in-Touring.tour in
    let new = c.learn-learned.new.self in
    let work = sym c.replace.ensures.value ∙ c.in-Touring.is in
    let comes = comes_so plan terms.sweep it (Touring t) before mine work stands in
    ok_of c.learn-learned.result _ _
    (λ goes. subst (λ k. Stands plan terms.sweep k before (m ∷ mine)) (sym c.set_work-in-Touring.ensures)
    (stands_on plan terms.sweep it (record { span = c.grown-self.result; none = it.none; work = Touring new }) before mine m stands c.grown-self.ensures refl
    (touring_on plan terms.sweep t new before mine m comes c.learn-learned.ensures.share goes)))
    (c.learn-learned.ensures.follows (comes.head ++ before) comes.toured s (asked_so terms it (Touring t) s work asked) comes.goes)

pub returns-in-Touring-clause-halts : goal.returns-in-Touring-clause-halts
returns-in-Touring-clause-halts c rounds stop before mine s asked stands =
    let it = c.args.self.now in
    let terms = c.args.terms in
    let plan = plan_of terms rounds stop in
    let m : Made = record { step = s; answer = c.args.answer } in
    let t = c.in-Touring.tour in
    let new = c.learn-learned.new.self in
    let work = sym c.replace.ensures.value ∙ c.in-Touring.is in
    let comes = comes_so plan terms.sweep it (Touring t) before mine work stands in
    err_of c.learn-learned.result _ _
    (λ cut. subst (λ k. IsCut plan terms.sweep k before (m ∷ mine)) (sym c.set_work-in-Touring.ensures)
    (touring_cut plan terms.sweep t new (record { span = c.grown-self.result; none = it.none; work = Touring new }) before mine m comes c.learn-learned.ensures.share refl cut
    (spanned_on plan terms.sweep it c.grown-self.result before mine m stands c.grown-self.ensures)))
    (c.learn-learned.ensures.halts (comes.head ++ before) comes.toured s (asked_so terms it (Touring t) s work asked) comes.goes)

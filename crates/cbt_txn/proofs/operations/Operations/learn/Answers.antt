use Rattle.cbt_txn.specs.Licensing as licensing
use Rattle.cbt_txn.specs.declared.operations.Work.TheVariants as work
use Rattle.cbt_txn.proofs.Steps.{took_in, turned}
use Rattle.cbt_txn.proofs.operations.Operations.learn.Goals as goal
use Rattle.std.proofs.Common.{◌≡◌, ℕ, ◌<◌, ◌≤◌, Bool, true, false, nat_lt, ◌∷◌, OnOk, OnErr, sym, ap, ◌∙◌, subst, arith}
use Rattle.std.proofs.lemmas.Grind.{common_steps}
use Rattle.cbt_model.specs.declared.events.Answer.{Answer}
use Rattle.cbt_txn.specs.Feeding.{fed, learnt}
use Rattle.cbt_txn.specs.Following.{Follows, Halts}
use Rattle.cbt_txn.specs.declared.operations.Operations.{Operations}
use Rattle.cbt_txn.proofs.Stepping.{falls_split, learns_fits, learns_halt, learns_late, on_err_of}
use Rattle.cbt_txn.proofs.Taken.{made_of}
use Rattle.cbt_txn.specs.Bounds.{open_left}
use Rattle.cbt_txn.proofs.BoundsOpen.{below, late_fewer, took_in_fewer}
use Rattle.cbt_txn.proofs.Outcomes.{ok_of}

abbrev taken_on : Operations → Answer → Operations
taken_on n answer = record n { attempt = learnt n.attempt n.work answer.place answer.reply; work = work.Done }

fed_on : (answer : Answer) {n k : Operations} → n ≡ k → fed n.work answer.place answer.reply ≡ fed k.work answer.place answer.reply
fed_on answer same = ap (λ (n : Operations). fed n.work answer.place answer.reply) same

is_late : (a b : ℕ) (late : Bool) → late ≡ nat_lt a b → late ≡ true → a < b
is_late a b late is true_is = over a b (sym is ∙ true_is)
  where
    over : (a b : ℕ) → nat_lt a b ≡ true → a < b
    over a b is = grind (arith, common_steps)

in_time : (a b : ℕ) (late : Bool) → late ≡ nat_lt a b → late ≡ false → b ≤ a
in_time a b late is false_is = within a b (sym is ∙ false_is)
  where
    within : (a b : ℕ) → nat_lt a b ≡ false → b ≤ a
    within a b is = grind (arith, common_steps)

pub returns-in_err-fed-clause-halts : goal.returns-in_err-fed-clause-halts
returns-in_err-fed-clause-halts c t l0 mine s same late asks falls it =
    on_err_of c.from_residual.result _
    (subst (λ logs. Halts t logs l0 (made_of s c.args.answer ∷ mine)) (sym (c.in_err-fed.ensures.logs ∙ ap (λ (n : Operations). n.logs) c.mark.ensures))
    (learns_halt t c.args.self.now l0 mine s c.args.answer it asks (c.requires.fits s asks) falls))

pub returns-then-late-clause-follows : goal.returns-then-late-clause-follows
returns-then-late-clause-follows c t l0 mine s same late asks falls it =
    let new = c.in_ok-fed.ensures.learnt ∙ ap (λ n. taken_on n c.args.answer) c.mark.ensures in
    subst (λ n. Follows t n l0 (made_of s c.args.answer ∷ mine)) (sym c.set_work.ensures)
    (learns_late t c.args.self.now l0 mine s c.args.answer it asks (c.requires.fits s asks) falls
    (is_late t.latest c.args.answer.now c.args.late late c.if-late.true) c.take_in.new.self new)

pub returns-clause-follows : goal.returns-clause-follows
returns-clause-follows c t l0 mine s same late asks falls it =
    let new = c.in_ok-fed.ensures.learnt ∙ ap (λ n. taken_on n c.args.answer) c.mark.ensures in
    let fit = c.requires.fits s asks in
    let fits = learns_fits t c.args.self.now l0 mine s c.args.answer it asks fit falls (in_time t.latest c.args.answer.now c.args.late late c.if-late.false)
    c.take_in.new.self new c.in_ok-fed.fed (c.in_ok-fed.ensures.fed ∙ fed_on c.args.answer c.mark.ensures) in
    subst (λ k. OnOk c.go_on.result (Follows t c.go_on.new.self l0 (made_of s c.args.answer ∷ k))) (sym it.mine_is)
    (c.go_on.ensures.follows t l0 it.told (made_of s c.args.answer ∷ it.calls) same
    (falls_split t c.args.self.now l0 mine s c.args.answer it asks fit falls) fits)

pub returns-clause-halts : goal.returns-clause-halts
returns-clause-halts c t l0 mine s same late asks falls it =
    let new = c.in_ok-fed.ensures.learnt ∙ ap (λ n. taken_on n c.args.answer) c.mark.ensures in
    let fit = c.requires.fits s asks in
    let fits = learns_fits t c.args.self.now l0 mine s c.args.answer it asks fit falls (in_time t.latest c.args.answer.now c.args.late late c.if-late.false)
    c.take_in.new.self new c.in_ok-fed.fed (c.in_ok-fed.ensures.fed ∙ fed_on c.args.answer c.mark.ensures) in
    subst (λ k. OnErr c.go_on.result (Halts t c.go_on.new.self.logs l0 (made_of s c.args.answer ∷ k))) (sym it.mine_is)
    (c.go_on.ensures.halts t l0 it.told (made_of s c.args.answer ∷ it.calls) same
    (falls_split t c.args.self.now l0 mine s c.args.answer it asks fit falls) fits)

pub returns-then-late-clause-licensed : goal.returns-then-late-clause-licensed
returns-then-late-clause-licensed c who l s asked may =
    let it = took_in who l s c.args.answer c.args.self.now c.mark.new.self c.take_in.new.self c.in_ok-fed.fed asked (c.requires.fits s asked) may
    c.mark.ensures c.in_ok-fed.ensures.learnt c.in_ok-fed.ensures.fed in
    turned who _ c.take_in.new.self c.set_work.new.self (work.Late c.args.answer.now) c.set_work.ensures it.0 (licensing.late c.args.answer.now)

pub returns-clause-licensed : goal.returns-clause-licensed
returns-clause-licensed c who l s asked may =
    let it = took_in who l s c.args.answer c.args.self.now c.mark.new.self c.take_in.new.self c.in_ok-fed.fed asked (c.requires.fits s asked) may
    c.mark.ensures c.in_ok-fed.ensures.learnt c.in_ok-fed.ensures.fed in
    c.go_on.ensures.licensed who _ it.0 it.1

pub returns-then-late-clause-fewer : goal.returns-then-late-clause-fewer
returns-then-late-clause-fewer c =
    late_fewer c.args.ops.now (open_left c.args.ops.now c.args.self.now) c.args.answer.now c.take_in.new.self c.set_work.new.self c.in_ok-fed.fed c.set_work.ensures
    (took_in_fewer c.args.ops.now c.args.answer c.args.self.now c.mark.new.self c.take_in.new.self c.in_ok-fed.fed c.requires.asked c.mark.ensures
    c.in_ok-fed.ensures.learnt c.in_ok-fed.ensures.fed)

pub returns-clause-fewer : goal.returns-clause-fewer
returns-clause-fewer c =
    ok_of c.go_on.result _ _
    (λ few. below _ _ _ few
    (took_in_fewer c.args.ops.now c.args.answer c.args.self.now c.mark.new.self c.take_in.new.self c.in_ok-fed.fed c.requires.asked c.mark.ensures
    c.in_ok-fed.ensures.learnt c.in_ok-fed.ensures.fed)) c.go_on.ensures.few

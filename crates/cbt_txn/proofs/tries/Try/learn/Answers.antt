use Rattle.std.proofs.Common.{◌<◌, ◌++◌, IsSome, sym, ap, ◌∙◌, subst}
use Rattle.cbt_txn.specs.Deciding.{Closed, Finished, finish_after}
use Rattle.cbt_txn.specs.Following.{Follows}
use Rattle.cbt_txn.specs.Licensing.{MayGoOn}
use Rattle.cbt_txn.specs.Tries.{step_in}
use Rattle.cbt_txn.specs.Works.{step_of}
use Rattle.cbt_txn.specs.declared.operations.Operations.{Operations}
use Rattle.cbt_txn.specs.declared.tries.Try.{Try}
use Rattle.cbt_txn.proofs.ClosingLicences.{closed_licensed}
use Rattle.cbt_txn.proofs.Learning.{open_learns, open_halts, open_operations, open_operations_may, finish_learns, finish_halts, finish_licensed, undo_learns, undo_licensed}
use Rattle.cbt_txn.proofs.Outcomes.{ok_of, ok_of_two, ok_of_three, err_of, err_of_two}
use Rattle.cbt_txn.proofs.tries.Try.learn.Goals as goal
use Rattle.cbt_txn.specs.Bounds.{left_in, open_left}
use Rattle.cbt_txn.proofs.BoundsClosing.{open_fewer, finish_turned, undo_turned}

-- ---- operations

pub returns-in-Open-clause-follows : goal.returns-in-Open-clause-follows
returns-in-Open-clause-follows c who t l0 mine s plan late asked falls may old =
    let it = c.args.self.now in
    let new = c.learn_open.new.self in
    let marked = c.mark.ensures in
    let rest = c.learn_open.ensures.rest in
    let ops_is = ap (λ k. k.operations) marked in
    let is = sym (c.in-Open.ensures.value ∙ ap (λ k. k.closing) marked) in
    let first_is = ap (λ k. k.first) rest ∙ ap (λ k. k.first) marked in
    let past_is = ap (λ k. k.past) rest ∙ ap (λ k. k.past) marked in
    let unset = ap (λ k. k.not_committed) rest ∙ ap (λ k. k.not_committed) marked in
    let asks = ap (λ (o : Operations). step_of o.work) ops_is ∙ sym (ap (λ k. step_in it.operations k) is) ∙ asked in
    let ops = open_operations who t it new l0 mine s c.args.answer falls first_is past_is old it.closing old.closes is in
    ok_of_three _ _ _ _ _ (λ fol may_new closed. open_learns who t it new l0 mine s c.args.answer falls first_is past_is old is unset fol may_new closed)
    (c.learn_open.ensures.follows t l0 mine s (ap (λ p. p.ops) plan) late asks falls (subst (λ o. Follows t o l0 mine) (sym ops_is) ops))
    (c.learn_open.ensures.licensed who (mine ++ l0) s asks
    (subst (λ o. MayGoOn who o (mine ++ l0)) (sym ops_is) (open_operations_may who it new (mine ++ l0) s c.args.answer it.closing may is)))
    (ok_of _ _ _ (λ closed. subst (λ k. Closed k new.operations new.closing) (sym (ap (λ p. p.keep) plan)) closed) c.learn_open.ensures.closed)

pub returns-in-Open-clause-halts : goal.returns-in-Open-clause-halts
returns-in-Open-clause-halts c who t l0 mine s plan late asked falls may old =
    let it = c.args.self.now in
    let new = c.learn_open.new.self in
    let marked = c.mark.ensures in
    let rest = c.learn_open.ensures.rest in
    let ops_is = ap (λ k. k.operations) marked in
    let is = sym (c.in-Open.ensures.value ∙ ap (λ k. k.closing) marked) in
    let first_is = ap (λ k. k.first) rest ∙ ap (λ k. k.first) marked in
    let past_is = ap (λ k. k.past) rest ∙ ap (λ k. k.past) marked in
    let unset = ap (λ k. k.not_committed) rest ∙ ap (λ k. k.not_committed) marked in
    let asks = ap (λ (o : Operations). step_of o.work) ops_is ∙ sym (ap (λ k. step_in it.operations k) is) ∙ asked in
    let ops = open_operations who t it new l0 mine s c.args.answer falls first_is past_is old it.closing old.closes is in
    let same = c.learn_open.ensures.same.0 ∙ ap (λ (o : Operations). o.attempt.id) ops_is in
    err_of_two _ _ _ _ (λ halts still. open_halts who t it new l0 mine s c.args.answer falls first_is past_is old is unset same still halts)
    (c.learn_open.ensures.halts t l0 mine s (ap (λ p. p.ops) plan) late asks falls (subst (λ o. Follows t o l0 mine) (sym ops_is) ops))
    c.learn_open.ensures.open_still

pub returns-in-Open-clause-licensed : goal.returns-in-Open-clause-licensed
returns-in-Open-clause-licensed c who l s asked may =
    let it = c.args.self.now in
    let new = c.learn_open.new.self in
    let marked = c.mark.ensures in
    let ops_is = ap (λ k. k.operations) marked in
    let is = sym (c.in-Open.ensures.value ∙ ap (λ k. k.closing) marked) in
    let asks = ap (λ (o : Operations). step_of o.work) ops_is ∙ sym (ap (λ k. step_in it.operations k) is) ∙ asked in
    ok_of_three _ _ _ _ _ (λ may_new closed again. closed_licensed who new _ may_new c.args.plan.now.keep new.closing closed)
    (c.learn_open.ensures.licensed who l s asks (subst (λ o. MayGoOn who o l) (sym ops_is) (open_operations_may who it new l s c.args.answer it.closing may is)))
    c.learn_open.ensures.closed c.learn_open.ensures.closed

-- ---- the commit

pub returns-in-Finish-clause-follows : goal.returns-in-Finish-clause-follows
returns-in-Finish-clause-follows c who t l0 mine s plan late asked falls may old =
    let it = c.args.self.now in
    let new = c.learn_finish.new.self in
    let marked = c.mark.ensures in
    let rest = c.learn_finish.ensures.rest in
    let is = sym (c.in-Finish.ensures.value ∙ ap (λ k. k.closing) marked) in
    let first_is = ap (λ k. k.first) rest ∙ ap (λ k. k.first) marked in
    let past_is = ap (λ k. k.past) rest ∙ ap (λ k. k.past) marked in
    let same = ap (λ k. k.operations) rest ∙ ap (λ k. k.operations) marked in
    let asks = sym (ap (λ k. step_in it.operations k) is) ∙ asked in
    ok_of _ _ _ (λ finished. finish_learns who t it new l0 mine s c.args.answer falls first_is past_is old c.in-Finish.finish is asks (c.requires.fits s asked) same
    (ap (λ k. k.not_committed) rest) may (subst (λ (o : Operations). Finished o.attempt (finish_after c.in-Finish.finish c.args.answer.place c.args.answer.reply) new.closing) (sym (ap (λ k. k.operations) rest)) finished))
    c.learn_finish.ensures.finished

pub returns-in-Finish-clause-halts : goal.returns-in-Finish-clause-halts
returns-in-Finish-clause-halts c who t l0 mine s plan late asked falls may old =
    let it = c.args.self.now in
    let new = c.learn_finish.new.self in
    let marked = c.mark.ensures in
    let rest = c.learn_finish.ensures.rest in
    let is = sym (c.in-Finish.ensures.value ∙ ap (λ k. k.closing) marked) in
    let first_is = ap (λ k. k.first) rest ∙ ap (λ k. k.first) marked in
    let past_is = ap (λ k. k.past) rest ∙ ap (λ k. k.past) marked in
    let same = ap (λ k. k.operations) rest ∙ ap (λ k. k.operations) marked in
    let asks = sym (ap (λ k. step_in it.operations k) is) ∙ asked in
    err_of _ _ _ (λ both. finish_halts who t it new l0 mine s c.args.answer falls first_is past_is old c.in-Finish.finish is asks (c.requires.fits s asked) same
    (ap (λ k. k.not_committed) rest) both.0 both.1) c.learn_finish.ensures.err

pub returns-in-Finish-clause-licensed : goal.returns-in-Finish-clause-licensed
returns-in-Finish-clause-licensed c who l s asked may =
    let it = c.args.self.now in
    let new = c.learn_finish.new.self in
    let marked = c.mark.ensures in
    let rest = c.learn_finish.ensures.rest in
    let is = sym (c.in-Finish.ensures.value ∙ ap (λ k. k.closing) marked) in
    let same = ap (λ k. k.operations) rest ∙ ap (λ k. k.operations) marked in
    let asks = sym (ap (λ k. step_in it.operations k) is) ∙ asked in
    ok_of _ _ _ (λ finished. finish_licensed who it new l s c.args.answer c.in-Finish.finish is asks (c.requires.fits s asked) same may
    (subst (λ (o : Operations). Finished o.attempt (finish_after c.in-Finish.finish c.args.answer.place c.args.answer.reply) new.closing) (sym (ap (λ k. k.operations) rest)) finished)) c.learn_finish.ensures.finished

-- ---- the rollback

pub returns-in-Undo-clause-follows : goal.returns-in-Undo-clause-follows
returns-in-Undo-clause-follows c who t l0 mine s plan late asked falls may old =
    let it = c.args.self.now in
    let marked = c.mark.ensures in
    let is = sym (c.in-Undo.ensures.value ∙ ap (λ k. k.closing) marked) in
    let asks = sym (ap (λ k. step_in it.operations k) is) ∙ asked in
    undo_learns who t it _ l0 mine s c.args.answer falls (ap (λ k. k.first) marked) (ap (λ k. k.past) marked) old c.in-Undo.undo is asks (c.requires.fits s asked)
    (ap (λ k. k.operations) marked) (ap (λ k. k.not_committed) marked) c.learn_undo.ensures

pub returns-in-Undo-clause-licensed : goal.returns-in-Undo-clause-licensed
returns-in-Undo-clause-licensed c who l s asked may =
    let it = c.args.self.now in
    let marked = c.mark.ensures in
    let is = sym (c.in-Undo.ensures.value ∙ ap (λ k. k.closing) marked) in
    let asks = sym (ap (λ k. step_in it.operations k) is) ∙ asked in
    undo_licensed who it _ l s c.args.answer c.in-Undo.undo is asks (c.requires.fits s asked) (ap (λ k. k.operations) marked) may c.learn_undo.ensures

-- ---- each leaves fewer calls

pub returns-in-Open-clause-fewer : goal.returns-in-Open-clause-fewer
returns-in-Open-clause-fewer c =
    let ops = c.args.plan.now.ops in
    let it = c.args.self.now in
    let new = c.learn_open.new.self in
    let marked = c.mark.ensures in
    let ops_is = ap (λ k. k.operations) marked in
    let is = sym (c.in-Open.ensures.value ∙ ap (λ k. k.closing) marked) in
    let asked = subst (λ k. IsSome (step_in it.operations k)) is c.requires.asked in
    ok_of_two _ _ _ _
    (λ less closed. subst (λ k. left_in ops new.operations new.closing < left_in ops it.operations k) (sym is)
    (open_fewer ops c.args.plan.now.keep it.operations new.operations new.closing asked
    (subst (λ o. open_left ops new.operations < open_left ops o) ops_is less) closed))
    c.learn_open.ensures.fewer c.learn_open.ensures.closed

pub returns-in-Finish-clause-fewer : goal.returns-in-Finish-clause-fewer
returns-in-Finish-clause-fewer c =
    let it = c.args.self.now in
    let new = c.learn_finish.new.self in
    let marked = c.mark.ensures in
    let rest = c.learn_finish.ensures.rest in
    let is = sym (c.in-Finish.ensures.value ∙ ap (λ k. k.closing) marked) in
    let same = ap (λ k. k.operations) rest ∙ ap (λ k. k.operations) marked in
    ok_of _ _ _ (λ finished. finish_turned c.args.plan.now.ops it new c.in-Finish.finish c.args.answer is same c.requires.asked c.requires.fits
    (subst (λ (o : Operations). Finished o.attempt (finish_after c.in-Finish.finish c.args.answer.place c.args.answer.reply) new.closing)
    (sym (ap (λ k. k.operations) rest)) finished)) c.learn_finish.ensures.finished

pub returns-in-Undo-clause-fewer : goal.returns-in-Undo-clause-fewer
returns-in-Undo-clause-fewer c =
    let it = c.args.self.now in
    let marked = c.mark.ensures in
    let is = sym (c.in-Undo.ensures.value ∙ ap (λ k. k.closing) marked) in
    let new : Try = record c.mark.new.self { closing = c.learn_undo.result } in
    undo_turned c.args.plan.now.ops it new c.in-Undo.undo c.args.answer is (ap (λ k. k.operations) marked) c.requires.asked c.requires.fits c.learn_undo.ensures

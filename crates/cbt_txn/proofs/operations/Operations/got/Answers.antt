use Rattle.std.proofs.Common.{◌+◌, ◌≤◌, OnOk, sym, subst, ℕ, List, ap, ◌∙◌}
use Rattle.cbt_txn.specs.Licensing.{GoesWell, MayRead, Owns}
use Rattle.cbt_txn.proofs.Owning.{owns_noticed, well_noticed}
use Rattle.cbt_txn.proofs.operations.Operations.got.Goals as goal
use Rattle.cbt_book.specs.ReadAt.{Reading}
use Rattle.cbt_book.specs.declared.operations.OpAnswer.TheVariants as answer
use Rattle.cbt_book.specs.declared.operations.When.TheVariants as when
use Rattle.cbt_attempt.specs.OwnWrites.{with_noted}
use Rattle.cbt_read.specs.declared.ends.GetEnd.TheVariants as get_end
use Rattle.cbt_txn.specs.Following.{Answers, Reads}
use Rattle.cbt_txn.specs.declared.operations.Operations.{Operations}
use Rattle.cbt_txn.proofs.Readings.{reads_contended, reads_failed, reads_halt, reads_value}
use Rattle.cbt_txn.proofs.Stepping.{on_err_of}
use Rattle.cbt_txn.specs.Bounds.{fed_left, open_left, rest_left}
use Rattle.cbt_txn.proofs.BoundsOpen.{few_more, noted_few}
use Rattle.cbt_txn.proofs.Outcomes.{ok_of}
use Rattle.cbt_txn.specs.declared.operations.Fed.TheVariants as fed

abbrev noting : Operations → List ℕ → Reading → Operations
noting n d seen = record n { attempt = record n.attempt { seen = with_noted n.attempt.seen d seen } }

pub returns-in_err-value-in-Value-None-clause-halts : goal.returns-in_err-value-in-Value-None-clause-halts
returns-in_err-value-in-Value-None-clause-halts c t l0 told calls same falls it =
    on_err_of c.from_residual.result _ (reads_halt t c.args.self.now l0 told calls c.args.doc falls c.args.write c.args.end it)

pub returns-in_err-note_read-in-Value-None-clause-halts : goal.returns-in_err-note_read-in-Value-None-clause-halts
returns-in_err-note_read-in-Value-None-clause-halts c t l0 told calls same falls it =
    on_err_of c.from_residual-in_err-note_read-in-Value-None.result _ (reads_halt t c.args.self.now l0 told calls c.args.doc falls c.args.write c.args.end it)

pub returns-in-Contended-default-clause-follows : goal.returns-in-Contended-default-clause-follows
returns-in-Contended-default-clause-follows c t l0 told calls same falls it =
    c.close.ensures.follows t l0 told calls same falls
    (reads_contended t c.args.self.now l0 told calls c.args.doc falls c.args.write
    (subst (λ e. Reads t c.args.self.now l0 told calls c.args.doc c.args.write e) c.in-Contended-default.is-0 it))

pub returns-in-Contended-default-clause-halts : goal.returns-in-Contended-default-clause-halts
returns-in-Contended-default-clause-halts c t l0 told calls same falls it =
    c.close.ensures.halts t l0 told calls same falls
    (reads_contended t c.args.self.now l0 told calls c.args.doc falls c.args.write
    (subst (λ e. Reads t c.args.self.now l0 told calls c.args.doc c.args.write e) c.in-Contended-default.is-0 it))

pub returns-in-CallFailed-default-clause-follows : goal.returns-in-CallFailed-default-clause-follows
returns-in-CallFailed-default-clause-follows c t l0 told calls same falls it =
    c.close-in-CallFailed-default.ensures.follows t l0 told calls same falls
    (reads_failed t c.args.self.now l0 told calls c.args.doc falls c.args.write c.in-CallFailed-default.place
    (subst (λ e. Reads t c.args.self.now l0 told calls c.args.doc c.args.write e) c.in-CallFailed-default.is-0 it))

pub returns-in-CallFailed-default-clause-halts : goal.returns-in-CallFailed-default-clause-halts
returns-in-CallFailed-default-clause-halts c t l0 told calls same falls it =
    c.close-in-CallFailed-default.ensures.halts t l0 told calls same falls
    (reads_failed t c.args.self.now l0 told calls c.args.doc falls c.args.write c.in-CallFailed-default.place
    (subst (λ e. Reads t c.args.self.now l0 told calls c.args.doc c.args.write e) c.in-CallFailed-default.is-0 it))

pub returns-in_ok-note_read-in-Value-None-clause-follows : goal.returns-in_ok-note_read-in-Value-None-clause-follows
returns-in_ok-note_read-in-Value-None-clause-follows c t l0 told calls same falls it =
    let seen = c.in-Value-None.seen in
    let value = c.in_ok-value-in-Value-None.ensures ∙ ap (λ (r : Reading). r.value) c.seen.view_is in
    let moment = ap (λ (r : Reading). r.moment) c.seen.view_is in
    let read = subst (λ w. Reads t c.args.self.now l0 told calls c.args.doc w (get_end.Value seen)) c.in-Value-None.is-1
    (subst (λ e. Reads t c.args.self.now l0 told calls c.args.doc c.args.write e) c.in-Value-None.is-0 it) in
    c.close-in-Value-None.ensures.follows t l0 told calls same falls
    (subst (λ a. Answers t (record c.args.self.now { attempt = a }) l0 told calls
    (answer.Value c.in_ok-value-in-Value-None.value (when.At c.seen.inside.moment))) (sym c.in_ok-note_read-in-Value-None.ensures.ok)
    (subst (λ v. Answers t (noting c.args.self.now c.args.doc seen) l0 told calls (answer.Value v (when.At c.seen.inside.moment))) (sym value)
    (subst (λ m. Answers t (noting c.args.self.now c.args.doc seen) l0 told calls (answer.Value seen.value (when.At m))) (sym moment)
    (reads_value t c.args.self.now l0 told calls c.args.doc falls seen read))))

pub returns-in_ok-note_read-in-Value-None-clause-halts : goal.returns-in_ok-note_read-in-Value-None-clause-halts
returns-in_ok-note_read-in-Value-None-clause-halts c t l0 told calls same falls it =
    let seen = c.in-Value-None.seen in
    let value = c.in_ok-value-in-Value-None.ensures ∙ ap (λ (r : Reading). r.value) c.seen.view_is in
    let moment = ap (λ (r : Reading). r.moment) c.seen.view_is in
    let read = subst (λ w. Reads t c.args.self.now l0 told calls c.args.doc w (get_end.Value seen)) c.in-Value-None.is-1
    (subst (λ e. Reads t c.args.self.now l0 told calls c.args.doc c.args.write e) c.in-Value-None.is-0 it) in
    c.close-in-Value-None.ensures.halts t l0 told calls same falls
    (subst (λ a. Answers t (record c.args.self.now { attempt = a }) l0 told calls
    (answer.Value c.in_ok-value-in-Value-None.value (when.At c.seen.inside.moment))) (sym c.in_ok-note_read-in-Value-None.ensures.ok)
    (subst (λ v. Answers t (noting c.args.self.now c.args.doc seen) l0 told calls (answer.Value v (when.At c.seen.inside.moment))) (sym value)
    (subst (λ m. Answers t (noting c.args.self.now c.args.doc seen) l0 told calls (answer.Value seen.value (when.At m))) (sym moment)
    (reads_value t c.args.self.now l0 told calls c.args.doc falls seen read))))

pub returns-in_ok-note_read-in-Value-None-clause-licensed :
    goal.returns-in_ok-note_read-in-Value-None-clause-licensed
returns-in_ok-note_read-in-Value-None-clause-licensed c who l owns well read =
    let it = subst (λ end. MayRead c.args.doc end l) c.in-Value-None.is-0 read in
    let noticed = c.in_ok-note_read-in-Value-None.ensures.ok in
    c.close-in-Value-None.ensures.licensed who l
    (subst (λ a. Owns who a l) (sym noticed) (owns_noticed who c.args.self.now.attempt l c.args.doc c.in-Value-None.seen it.0 it.1 it.2 owns))
    (λ good. subst (λ a. GoesWell a l) (sym noticed) (well_noticed who c.args.self.now.attempt l c.args.doc c.in-Value-None.seen well))

pub returns-in-Contended-default-clause-few : goal.returns-in-Contended-default-clause-few
returns-in-Contended-default-clause-few c =
    ok_of c.close.result _ _ (λ few. few_more _ (rest_left c.args.ops.now c.args.self.now) (fed_left (fed.Read c.args.doc c.args.write c.args.end)) few)
    c.close.ensures.few

pub returns-in-CallFailed-default-clause-few : goal.returns-in-CallFailed-default-clause-few
returns-in-CallFailed-default-clause-few c =
    ok_of c.close-in-CallFailed-default.result _ _
    (λ few. few_more _ (rest_left c.args.ops.now c.args.self.now) (fed_left (fed.Read c.args.doc c.args.write c.args.end)) few)
    c.close-in-CallFailed-default.ensures.few

pub returns-in-Value-Some-clause-few : goal.returns-in-Value-Some-clause-few
returns-in-Value-Some-clause-few c =
    subst (λ w. OnOk c.write-in-Value-Some.result
    (open_left c.args.ops.now c.write-in-Value-Some.new.self ≤ fed_left (fed.Read c.args.doc w c.args.end) + rest_left c.args.ops.now c.args.self.now))
    (sym c.in-Value-Some.is-1) c.write-in-Value-Some.ensures.few

pub returns-in_ok-note_read-in-Value-None-clause-few : goal.returns-in_ok-note_read-in-Value-None-clause-few
returns-in_ok-note_read-in-Value-None-clause-few c =
    ok_of c.close-in-Value-None.result _ _
    (λ few. noted_few c.args.ops.now c.args.self.now _ _ (fed_left (fed.Read c.args.doc c.args.write c.args.end)) _ c.in_ok-note_read-in-Value-None.ensures.ok few)
    c.close-in-Value-None.ensures.few

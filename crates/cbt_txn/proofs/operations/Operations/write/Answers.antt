use Rattle.cbt_txn.specs.declared.operations.Work.TheVariants as work
use Rattle.cbt_txn.proofs.Begun.{put_begun}
use Rattle.cbt_txn.proofs.Steps.{turned}
use Rattle.cbt_txn.proofs.operations.Operations.write.Goals as goal
use Rattle.std.proofs.Common.{◌≡◌, true, false, ◌++◌, sym, ap, ◌∙◌, subst}
use Rattle.cbt_book.specs.ReadAt.{Reading}
use Rattle.cbt_book.specs.declared.operations.When.TheVariants as when
use Rattle.cbt_core.specs.OpAnswers.{agrees}
use Rattle.cbt_attempt.specs.declared.own.Own.{Own}
use Rattle.cbt_stage.specs.Phases.{start}
use Rattle.cbt_stage.specs.Tasks.{task_of}
use Rattle.cbt_txn.specs.Following.{Answers, Follows}
use Rattle.cbt_txn.specs.Starts.{refusal}
use Rattle.cbt_txn.proofs.Readings.{reads_put, reads_refused}
use Rattle.cbt_stage.specs.Phases.{calls_left}
use Rattle.cbt_txn.specs.Bounds.{rest_left}
use Rattle.cbt_txn.proofs.BoundsOpen.{few_more, put_few, turned_few}
use Rattle.cbt_txn.proofs.Outcomes.{ok_of}

pub returns-then-not-agrees-clause-follows : goal.returns-then-not-agrees-clause-follows
returns-then-not-agrees-clause-follows c t l0 told calls same falls it =
    let kind = ap (λ (w : Own). w.kind) c.write.view_is in
    let value = ap (λ (r : Reading). r.value) c.seen.view_is in
    let moment = ap (λ (r : Reading). r.moment) c.seen.view_is in
    let not : agrees c.args.write.kind c.args.seen.value ≡ false =
    ap (λ k. agrees k c.args.seen.value) (sym kind) ∙ ap (agrees c.write.inside.kind) (sym value) ∙ sym c.agrees.ensures ∙ c.if-not-agrees.true in
    let answer : c.refusal.result ≡ refusal c.args.write.kind (when.At c.args.seen.moment) =
    c.refusal.ensures ∙ ap (λ k. refusal k (when.At c.seen.inside.moment)) kind ∙ ap (λ m. refusal c.args.write.kind (when.At m)) moment in
    c.close.ensures.follows t l0 told calls same falls
    (subst (λ a. Answers t c.args.self.now l0 told calls a) (sym answer)
    (reads_refused t c.args.self.now l0 told calls c.args.doc falls c.args.write c.args.seen it not))

pub returns-then-not-agrees-clause-halts : goal.returns-then-not-agrees-clause-halts
returns-then-not-agrees-clause-halts c t l0 told calls same falls it =
    let kind = ap (λ (w : Own). w.kind) c.write.view_is in
    let value = ap (λ (r : Reading). r.value) c.seen.view_is in
    let moment = ap (λ (r : Reading). r.moment) c.seen.view_is in
    let not : agrees c.args.write.kind c.args.seen.value ≡ false =
    ap (λ k. agrees k c.args.seen.value) (sym kind) ∙ ap (agrees c.write.inside.kind) (sym value) ∙ sym c.agrees.ensures ∙ c.if-not-agrees.true in
    let answer : c.refusal.result ≡ refusal c.args.write.kind (when.At c.args.seen.moment) =
    c.refusal.ensures ∙ ap (λ k. refusal k (when.At c.seen.inside.moment)) kind ∙ ap (λ m. refusal c.args.write.kind (when.At m)) moment in
    c.close.ensures.halts t l0 told calls same falls
    (subst (λ a. Answers t c.args.self.now l0 told calls a) (sym answer)
    (reads_refused t c.args.self.now l0 told calls c.args.doc falls c.args.write c.args.seen it not))

pub returns-clause-follows : goal.returns-clause-follows
returns-clause-follows c t l0 told calls same falls it =
    let kind = ap (λ (w : Own). w.kind) c.write.view_is in
    let content = ap (λ (w : Own). w.content) c.write.view_is in
    let value = ap (λ (r : Reading). r.value) c.seen.view_is in
    let agreed : agrees c.args.write.kind c.args.seen.value ≡ true =
    ap (λ k. agrees k c.args.seen.value) (sym kind) ∙ ap (agrees c.write.inside.kind) (sym value) ∙ sym c.agrees.ensures ∙ c.if-not-agrees.false in
    let task = c.begin-put.ensures.task
    ∙ ap (λ k. task_of c.args.self.now.attempt c.args.doc k c.write.inside.content c.args.seen) kind
    ∙ ap (λ x. task_of c.args.self.now.attempt c.args.doc c.args.write.kind x c.args.seen) content in
    subst (λ n. Follows t n l0 (calls ++ told)) (sym c.set_work.ensures)
    (reads_put t c.args.self.now l0 told calls c.args.doc falls c.args.write c.args.seen it agreed c.begin-put.result
    (record { task_is = task; phase_is = c.begin-put.ensures.phase ∙ ap start (sym c.begin-put.ensures.task); stands = c.begin-put.ensures.stands }))

pub returns-clause-licensed : goal.returns-clause-licensed
returns-clause-licensed c who l owns well read =
    turned who l c.args.self.now c.set_work.new.self (work.Put c.begin-put.result) c.set_work.ensures owns
    (put_begun who c.args.self.now.attempt l owns well c.args.doc c.write.inside.kind c.write.inside.content c.args.seen c.begin-put.result read.0 read.1 read.2
    c.begin-put.ensures.task c.begin-put.ensures.stands)

pub returns-then-not-agrees-clause-few : goal.returns-then-not-agrees-clause-few
returns-then-not-agrees-clause-few c =
    ok_of c.close.result _ _ (λ few. few_more _ (rest_left c.args.ops.now c.args.self.now) 8 few) c.close.ensures.few

pub returns-clause-few : goal.returns-clause-few
returns-clause-few c =
    turned_few c.args.ops.now c.args.self.now c.set_work.new.self (work.Put c.begin-put.result) 8 c.set_work.ensures
    (put_few (calls_left c.begin-put.result) c.begin-put.ensures.left)

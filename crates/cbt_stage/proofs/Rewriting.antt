-- A write over an own write is what its one call says, and may be made.
use Rattle.std.proofs.Common.{◌≡◌, ℕ, Bool, true, false, if◌then◌else◌, List, [], ◌∷◌, ◌++◌, Option, Some, None, refl, sym, ap, ◌∙◌, subst, arith}
use Rattle.std.proofs.lemmas.Option.{none-some}
use Rattle.cbt_json.specs.declared.value.Json.{Json}
use Rattle.cbt_model.specs.Fitting.{fits, fits_unstage}
use Rattle.cbt_model.specs.History.{is_done}
use Rattle.cbt_model.specs.declared.documents.OpKind.{OpKind}
use Rattle.cbt_model.specs.declared.documents.Stage.{Stage}
use Rattle.cbt_model.specs.declared.events.Answer.{Answer}
use Rattle.cbt_model.specs.declared.events.Made.{Made}
use Rattle.cbt_model.specs.declared.steps.Expect.TheVariants as expect
use Rattle.cbt_model.specs.declared.steps.Reply.{Reply}
use Rattle.cbt_model.specs.declared.steps.Reply.TheVariants as reply
use Rattle.cbt_model.specs.declared.steps.Step.{Step}
use Rattle.cbt_model.specs.declared.steps.Step.TheVariants as step
use Rattle.cbt_book.specs.Calls.{reads_doc, reads_entry, adds_entry, MayWrite, WriteTerms, WriteCalls}
use Rattle.cbt_book.specs.Licence.{MayTake, on_own, before_decision}
use Rattle.cbt_book.specs.Numbers.{Identity}
use Rattle.cbt_book.specs.OwnLists.{Once}
use Rattle.cbt_book.specs.Outcomes.{DoneAt, EndsFailed, is_refusal}
use Rattle.cbt_book.specs.Shown.{decides, StagesAt}
use Rattle.cbt_attempt.specs.Notes.{stage_of}
use Rattle.cbt_attempt.specs.OwnWrites.{noted}
use Rattle.cbt_attempt.specs.declared.attempt.Attempt.{Attempt}
use Rattle.cbt_attempt.specs.declared.own.Own.{Own}
use Rattle.cbt_stage.specs.PutCalls.{terms_of}
use Rattle.cbt_stage.specs.Rewrites.{asked_by, asked_for, call_of, done, ended, over_cas, over_own, rewrite_of}
use Rattle.cbt_stage.specs.Rewriting.{EndsWriting, EndsOnce, KnowsOnce, StandsOnce, IsWritten}
use Rattle.cbt_stage.specs.declared.agains.Again.{Again}
use Rattle.cbt_stage.specs.declared.ends.PutEnd.{PutEnd}
use Rattle.cbt_stage.specs.declared.rewrites.Rewrite.{Rewrite}
use Rattle.cbt_stage.proofs.Counting.{some_same, counts_not}
use Rattle.cbt_stage.proofs.Joining.{once_weaker}
use Rattle.cbt_stage.proofs.Knowing.{refuses}

-- a write over an own write is of its attempt
same_attempt : (a : Attempt) (d : List ℕ) (kind : OpKind) (content : Option Json) (sent : Option ℕ) (own : Option Own) (o : Rewrite)
    → over_own a d kind content sent own ≡ Some o → o.attempt ≡ a.id
same_attempt a d kind content (Some atr) (Some own) o is = by_cas own.cas is
  where
    by_cas : (cas : Option ℕ) → over_cas a d kind content own atr cas ≡ Some o → o.attempt ≡ a.id
    by_cas None is = absurd (none-some o is)
    by_cas (Some cas) is = ap (λ (w : Rewrite). w.attempt) (sym (some_same is))
same_attempt a d kind content _ _ o is = absurd (none-some o is)

no_calls : (t : WriteTerms) (d : List ℕ) → WriteCalls t d []
no_calls t d = record { only = record {}; readings = omega arith; entries = omega arith; added = omega arith; written_last = record {} }

-- no call was made yet
pub stands_first : (a : Attempt) (d : List ℕ) (kind : OpKind) (content : Option Json) (o : Rewrite) → Some o ≡ rewrite_of a d kind content
    → StandsOnce (terms_of a) (record { task = o; end = None }) []
stands_first a d kind content o is =
    record {
      id_is = same_attempt a d kind content a.sent (noted a.writes d) o (sym is);
      knows = refl;
      calls = no_calls (terms_of a) o.doc;
      few = omega arith;
    }

-- the call is one of a write, and no other is made
one_call : (t : WriteTerms) (d : List ℕ) (m : Made) → MayWrite t d m.step → reads_doc m.step ≡ false → reads_entry m.step ≡ false → adds_entry m.step ≡ false
    → WriteCalls t d (m ∷ [])
one_call t d m may no_doc no_entry no_add =
    let docs = counts_not (λ k. reads_doc k.step) m [] no_doc in
    let entries = counts_not (λ k. reads_entry k.step) m [] no_entry in
    let adds = counts_not (λ k. adds_entry k.step) m [] no_add in
    record {
      only = (may, record {});
      readings = omega arith;
      entries = omega arith;
      added = omega arith;
      written_last = (λ once. once, record {});
    }

bounded_on : (t : WriteTerms) (o : Rewrite) (m : Made) → o.attempt ≡ t.id → m.step ≡ call_of o → WriteCalls t o.doc (m ∷ [])
bounded_on t o m id is = by_back o.back is
  where
    by_back : (back : Bool) → m.step ≡ (if back then step.Unstick o.doc o.cas else step.Stage o.doc (expect.Cas o.cas) (stage_of o.attempt o.atr o.write)) → WriteCalls t o.doc (m ∷ [])
    by_back true is = one_call t o.doc m (subst (MayWrite t o.doc) (sym is) refl) (ap reads_doc is) (ap reads_entry is) (ap adds_entry is)
    by_back false is = one_call t o.doc m (subst (MayWrite t o.doc) (sym is) (refl, id)) (ap reads_doc is) (ap reads_entry is) (ap adds_entry is)

-- of the answers that fit an unstick those that are left are refusals
refuses_back : (answer : Reply) → fits_unstage answer ≡ true → is_done answer ≡ false → (answer ≡ reply.Failed → ⊥) → is_refusal answer ≡ true
refuses_back (reply.CasMismatch have) fit done failed = refl
refuses_back reply.Failed fit done failed = absurd (failed refl)
refuses_back (reply.Done c) fit done failed = absurd (cc)
refuses_back _ fit done failed = absurd (cc)

-- the answers that fit the call and are neither Done nor Failed are refusals
refused : (o : Rewrite) (answer : Reply) → fits (call_of o) answer ≡ true → is_done answer ≡ false → (answer ≡ reply.Failed → ⊥) → is_refusal answer ≡ true
refused o answer fit done failed = by_back o.back fit
  where
    by_back : (back : Bool) → fits (if back then step.Unstick o.doc o.cas else step.Stage o.doc (expect.Cas o.cas) (stage_of o.attempt o.atr o.write)) answer ≡ true
        → is_refusal answer ≡ true
    by_back true fit = refuses_back answer fit done failed
    by_back false fit = refuses (expect.Cas o.cas) answer fit done failed

ends_on : (o : Rewrite) (m : Made) → m.step ≡ call_of o → (answer : Reply) → m.answer.reply ≡ answer → fits (call_of o) answer ≡ true
    → EndsOnce o (ended o.back m.answer.place answer) (m ∷ [])
ends_on o m is (reply.Done c) told fit = by_back o.back refl
  where
    made : EndsWriting o (DoneAt m.answer.place) (m ∷ [])
    made = record { call = m; calls_are = refl; makes_write = is; answered = (refl, ap is_done told) }

    by_back : (back : Bool) → o.back ≡ back → EndsOnce o (done back m.answer.place) (m ∷ [])
    by_back true back = (back, made)
    by_back false back = (back, refl, made)
ends_on o m is reply.Failed told fit = record { call = m; calls_are = refl; makes_write = is; answered = (told, refl) }
ends_on o m is answer told fit =
    record { call = m; calls_are = refl; makes_write = is; answered = ap is_refusal told ∙ refused o answer fit refl (λ same. cc) }

-- the call was answered
pub stands_on : (t : WriteTerms) (again : Again) (mine : List Made) (s : Step) (answer : Answer) → asked_by again ≡ Some s → fits s answer.reply ≡ true
    → StandsOnce t again mine
    → StandsOnce t (record { task = again.task; end = Some (ended again.task.back answer.place answer.reply) }) (record { step = s; answer = answer } ∷ mine)
stands_on t again mine s answer asked fit stands = by_end again.end asked stands.knows
  where
    by_end : (end : Option PutEnd) → asked_for again.task end ≡ Some s → KnowsOnce again.task end mine
        → StandsOnce t (record { task = again.task; end = Some (ended again.task.back answer.place answer.reply) }) (record { step = s; answer = answer } ∷ mine)
    by_end None asked none =
        subst (λ l. StandsOnce t (record { task = again.task; end = Some (ended again.task.back answer.place answer.reply) }) (record { step = s; answer = answer } ∷ l)) (sym none)
        (record {
          id_is = stands.id_is;
          knows = ends_on again.task (record { step = s; answer = answer }) (sym (some_same asked)) answer.reply refl (ap (λ c. fits c answer.reply) (some_same asked) ∙ fit);
          calls = bounded_on t again.task (record { step = s; answer = answer }) stands.id_is (sym (some_same asked));
          few = omega arith;
        })
    by_end (Some end) asked it = absurd (none-some s asked)

-- a write that has ended did so by its call
pub ends_by : (again : Again) (mine : List Made) (end : PutEnd) → KnowsOnce again.task again.end mine → again.end ≡ Some end → EndsOnce again.task end mine
ends_by again mine end knows is = subst (λ e. KnowsOnce again.task e mine) is knows

pub ends_failed : (o : Rewrite) (place : ℕ) (mine : List Made) → EndsWriting o (λ m. (m.answer.reply ≡ reply.Failed) × (m.answer.place ≡ place)) mine → EndsFailed place mine
ends_failed o place mine it = record { newest = it.call; older = []; calls_are = it.calls_are; failed = it.answered.0; place_is = it.answered.1 }

-- a write that asks for its call has made none
pub made_none : (again : Again) (mine : List Made) (s : Step) → asked_by again ≡ Some s → KnowsOnce again.task again.end mine → mine ≡ []
made_none again mine s asked knows = by_end again.end asked knows
  where
    by_end : (end : Option PutEnd) → asked_for again.task end ≡ Some s → KnowsOnce again.task end mine → mine ≡ []
    by_end None asked none = none
    by_end (Some end) asked it = absurd (none-some s asked)

-- the call may be made
may_call : (who : Identity) (o : Rewrite) (l0 : List Made) → IsWritten o l0 → MayTake who l0 (call_of o)
may_call who o l0 written = by_back o.back
  where
    by_back : (back : Bool) → MayTake who l0 (if back then step.Unstick o.doc o.cas else step.Stage o.doc (expect.Cas o.cas) (stage_of o.attempt o.atr o.write))
    by_back true =
        before_decision written.stage written.staged
        (subst (λ a. ¬ Once (λ m _. decides m.step ≡ Some a) l0) (sym written.own) written.undecided)
    by_back false = record {
      added = written.entered;
      undecided = written.undecided;
      over =
          on_own o.cas refl
          (once_weaker (λ m _. (stage : Stage) × (stage.attempt ≡ o.attempt) × StagesAt o.doc o.cas stage m) (λ m _. StagesAt o.doc o.cas written.stage m) l0
          (λ m before staged. (written.stage, written.own, staged)) written.staged);
    }

called : (o : Rewrite) (end : Option PutEnd) (s : Step) → asked_for o end ≡ Some s → s ≡ call_of o
called o None s asked = sym (some_same asked)
called o (Some end) s asked = absurd (none-some s asked)

pub licensed : (who : Identity) (again : Again) (mine l0 : List Made) (s : Step) → KnowsOnce again.task again.end mine → IsWritten again.task l0 → asked_by again ≡ Some s
    → MayTake who (mine ++ l0) s
licensed who again mine l0 s knows written asked =
    subst (λ l. MayTake who (l ++ l0) s) (sym (made_none again mine s asked knows))
    (subst (MayTake who l0) (sym (called again.task again.end s asked)) (may_call who again.task l0 written))

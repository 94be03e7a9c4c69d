-- While the operations of a try go on, each call that they ask for is licensed.
use Rattle.std.proofs.Common.{◌≡◌, ℕ, Bool, true, false, cond, inl, inr, ⊎_elim, List, [], ◌∷◌, Option, Some, None, refl, sym, subst}
use Rattle.std.proofs.lemmas.Option.{none-some}
use Rattle.cbt_json.specs.declared.value.Json.{Json}
use Rattle.cbt_model.specs.declared.documents.OpKind.{OpKind}
use Rattle.cbt_model.specs.declared.events.Made.{Made}
use Rattle.cbt_model.specs.declared.steps.Step.{Step}
use Rattle.cbt_book.specs.Licence.{MayTake}
use Rattle.cbt_book.specs.Numbers.{Identity}
use Rattle.cbt_book.specs.OwnLists.{Once, Kept}
use Rattle.cbt_book.specs.Shown.{decides, AddsEntry, StagesAt}
use Rattle.cbt_attempt.specs.Notes.{stage_of}
use Rattle.cbt_attempt.specs.OwnWrites.{noted}
use Rattle.cbt_attempt.specs.declared.attempt.Attempt.{Attempt}
use Rattle.cbt_attempt.specs.declared.own.Own.{Own}
use Rattle.cbt_read.specs.Phases as get
use Rattle.cbt_read.specs.declared.phases.Phase as get_phase
use Rattle.cbt_read.specs.declared.phases.Phase.TheVariants as get_phases
use Rattle.cbt_stage.specs.PutCalls.{terms_of}
use Rattle.cbt_stage.specs.Rewrites.{over_cas, over_own, rewrite_of, takes_back}
use Rattle.cbt_stage.specs.Rewriting.{IsWritten, KnowsOnce}
use Rattle.cbt_stage.specs.declared.rewrites.Rewrite.{Rewrite}
use Rattle.cbt_stage.proofs.Licensing.{licensed as put_licensed}
use Rattle.cbt_stage.proofs.Rewriting.{licensed as again_licensed}
use Rattle.cbt_txn.specs.Licensing.{GoesWell, MayWork, gets, puts, agains, done, refused, late, Owns}
use Rattle.cbt_txn.specs.Works.{step_of}
use Rattle.cbt_txn.specs.declared.operations.Work.{Work}

some_same : {X : Type 0} {x y : X} → Some x ≡ Some y → x ≡ y
some_same both = cc

-- ---- a write over an own write

-- it is for the attempt's own write of its document, in the record of its entry, over that write's CAS
pub record IsOver (a : Attempt) (o : Rewrite) : Type 0 where
  pub own : Own
  pub own_is : noted a.writes o.doc ≡ Some own
  pub cas_is : own.cas ≡ Some o.cas
  pub attempt_is : o.attempt ≡ a.id
  pub sent_is : a.sent ≡ Some o.atr
  pub unstamped : o.write.cas ≡ None

pub is_over : (a : Attempt) (d : List ℕ) (kind : OpKind) (content : Option Json) (o : Rewrite) → Some o ≡ rewrite_of a d kind content → IsOver a o
is_over a d kind content o is = by_sent a.sent (noted a.writes d) refl refl is
  where
    either : (b : Bool) (v w : Own) → v.cas ≡ None → w.cas ≡ None → (cond {A = Own} b v w).cas ≡ None
    either true v w one two = one
    either false v w one two = two

    by_cas : (r : ℕ) (own : Own) (cas : Option ℕ) → a.sent ≡ Some r → noted a.writes d ≡ Some own → own.cas ≡ cas
        → Some o ≡ over_cas a d kind content own r cas → IsOver a o
    by_cas r own None sent noted_is cas_is made = absurd (none-some o (sym made))
    by_cas r own (Some x) sent noted_is cas_is made =
        subst (IsOver a) (sym (some_same made))
        (record { own = own; own_is = noted_is; cas_is = cas_is; attempt_is = refl; sent_is = sent; unstamped = either (takes_back kind own.kind) _ _ refl refl })

    by_sent : (sent : Option ℕ) (own : Option Own) → a.sent ≡ sent → noted a.writes d ≡ own → Some o ≡ over_own a d kind content sent own → IsOver a o
    by_sent (Some r) (Some own) sent noted_is made = by_cas r own own.cas sent noted_is refl made
    by_sent _ _ sent noted_is made = absurd (none-some o (sym made))

once_of_kept : (P U Q : Made → List Made → Type 0) (l : List Made) → ((m : Made) (past : List Made) → P m past → Q m past) → Kept P U l → Once Q l
once_of_kept P U Q [] weaker kept = absurd kept
once_of_kept P U Q (m ∷ l) weaker kept = ⊎_elim (λ here. inl (weaker m l here)) (λ later. inr (once_of_kept P U Q l weaker later.1)) kept

-- its own write is shown staged
is_written : (who : Identity) (a : Attempt) (l : List Made) (o : Rewrite) → IsOver a o → Owns who a l → GoesWell a l → IsWritten o l
is_written who a l o it owns well = record {
  entered = subst (λ k. Once (λ m _. AddsEntry o.atr k m) l) (sym it.attempt_is) (well.added o.atr it.sent_is);
  undecided = subst (λ k. ¬ Once (λ m _. decides m.step ≡ Some k) l) (sym it.attempt_is) owns.undecided;
  stage = stage_of a.id o.atr it.own;
  own = sym it.attempt_is;
  staged = once_of_kept (λ m _. StagesAt o.doc o.cas (stage_of a.id o.atr it.own) m) _ (λ m _. StagesAt o.doc o.cas (stage_of a.id o.atr it.own) m) l
      (λ m past is. is)
      ((well.notes o.atr it.sent_is).last o.doc it.own o.cas it.own_is it.cas_is);
}

-- ---- the call that is asked for

read_licensed : (who : Identity) (l : List Made) (d : List ℕ) (p : get_phase.Phase) (s : Step) → get.step_for d p ≡ Some s → MayTake who l s
read_licensed who l d get_phases.Begun s asked = subst (MayTake who l) (some_same asked) tt
read_licensed who l d (get_phases.Asking staged left) s asked = subst (MayTake who l) (some_same asked) tt
read_licensed who l d (get_phases.Again staged gone place left) s asked = subst (MayTake who l) (some_same asked) tt
read_licensed who l d (get_phases.Ended end) s asked = absurd (none-some s asked)

pub work_licensed : (who : Identity) (a : Attempt) (l : List Made) (w : Work) (s : Step) → Owns who a l → MayWork who a l w → step_of w ≡ Some s → MayTake who l s
work_licensed who a l _ s owns (gets it write mine older well is stands) asked = read_licensed who l it.doc it.phase s asked
work_licensed who a l _ s owns (puts it mine older well is stands ready record_is unstamped) asked =
    subst (λ k. MayTake who k s) (sym is) (put_licensed who (terms_of a) it.task it.phase mine older s stands.knows stands.room ready asked)
work_licensed who a l _ s owns (agains it d kind content well going is) asked =
    again_licensed who it [] l s (subst (λ e. KnowsOnce it.task e []) (sym going) refl)
    (is_written who a l it.task (is_over a d kind content it.task is) owns well) asked
work_licensed who a l _ s owns (done well) asked = absurd (none-some s asked)
work_licensed who a l _ s owns refused asked = absurd (none-some s asked)
work_licensed who a l _ s owns (late now) asked = absurd (none-some s asked)

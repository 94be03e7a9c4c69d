-- A try that has taken an answer in goes on following its plan, with licensed calls.
use Rattle.std.proofs.Common.{◌≡◌, ℕ, suc, ◌+◌, true, false, inl, inr, ⊎_elim, List, [], ◌∷◌, ◌++◌, Some, refl, sym, ap, ◌∙◌, subst, arith}
use Rattle.cbt_model.specs.Fitting.{fits}
use Rattle.cbt_model.specs.declared.events.Answer.{Answer}
use Rattle.cbt_model.specs.declared.events.Made.{Made}
use Rattle.cbt_model.specs.declared.steps.Step.{Step}
use Rattle.cbt_book.specs.Numbers.{Identity}
use Rattle.cbt_book.specs.OwnLists.{Descends, Each, Once}
use Rattle.cbt_book.specs.Shown.{adds, decides}
use Rattle.cbt_book.specs.Spans.{past_of}
use Rattle.cbt_core.specs.Walk.{AttemptTerms}
use Rattle.cbt_commit.specs.Phases as finish
use Rattle.cbt_commit.specs.Ready as finish_ready
use Rattle.cbt_commit.specs.Standing as finish_stands
use Rattle.cbt_commit.specs.declared.finishes.Finish.{Finish}
use Rattle.cbt_rollback.specs.Phases as undo
use Rattle.cbt_rollback.specs.Ready as undo_ready
use Rattle.cbt_rollback.specs.Standing as undo_stands
use Rattle.cbt_rollback.specs.declared.undos.Undo.{Undo}
use Rattle.cbt_txn.specs.Closings.{Closes, IsRolledBack, MayCloseOn, TryFollows, TryHalts, TryMayGoOn, end_in, log_of}
use Rattle.cbt_txn.specs.Closings as closings
use Rattle.cbt_txn.specs.Deciding.{Closed, Finished, finish_after, is_in_vain, is_over, undo_after, undone}
use Rattle.cbt_txn.specs.Feeding.{first_with}
use Rattle.cbt_txn.specs.Following.{Follows, Halts, first_place}
use Rattle.cbt_txn.specs.Licensing.{MayGoOn, Owns}
use Rattle.cbt_txn.specs.declared.operations.Operations.{Operations}
use Rattle.cbt_txn.specs.declared.operations.Work.TheVariants as work
use Rattle.cbt_txn.specs.declared.tries.Closing.{Closing}
use Rattle.cbt_txn.specs.declared.tries.Closing.TheVariants as closing
use Rattle.cbt_txn.specs.declared.tries.Try.{Try}
use Rattle.cbt_txn.proofs.Closings.{span_so_far}
use Rattle.cbt_txn.proofs.ClosingLicences.{finished_licensed, undone_licensed}
use Rattle.cbt_txn.proofs.Following.{closed_follows, finished_follows, undone_follows, vain_stops}
use Rattle.cbt_txn.proofs.Halting.{halts_follow}

-- what holds of no call of a list holds of none in its front
front_once : (P : Made → Type 0) (xs l : List Made) → Once (λ m _. P m) xs → Once (λ m _. P m) (xs ++ l)
front_once P [] l once = absurd once
front_once P (x ∷ xs) l once = ⊎_elim (λ here. inl here) (λ later. inr (front_once P xs l later)) once

none_each : (P : Made → Type 0) (l : List Made) → ¬ Once (λ m _. P m) l → Each (λ m _. ¬ P m) l
none_each P [] none = tt
none_each P (m ∷ l) none = ((λ here. none (inl here)), none_each P l (λ later. none (inr later)))

first_more : (place : ℕ) (m : Made) (calls : List Made) → m.answer.place ≡ place → first_with (first_place calls) place ≡ first_place (m ∷ calls)
first_more place m [] is = ap Some (sym is)
first_more place m (n ∷ calls) is = refl

one_past : (place : ℕ) → place + 1 ≡ suc place
one_past place = omega arith

-- the try before the call, and after it
module _ (who : Identity) (t : AttemptTerms) (it new : Try) (l0 mine : List Made) (s : Step) (ans : Answer) where
  abbrev m : Made
  m = record { step = s; answer = ans }

  module _ (falls : Descends (m ∷ mine ++ l0)) (first_is : new.first ≡ first_with it.first ans.place) (past_is : new.past ≡ ans.place + 1)
      (follows : TryFollows t it l0 mine) where
    first_new : new.first ≡ first_place (m ∷ mine)
    first_new = first_is ∙ ap (λ f. first_with f ans.place) follows.first_is ∙ first_more ans.place m mine refl

    past_new : new.past ≡ past_of ((m ∷ mine) ++ l0)
    past_new = past_is ∙ one_past ans.place

    -- ---- in its operations

    is_unset : (cl : Closing) → Closes t it l0 mine cl → cl ≡ closing.Open → it.not_committed ≡ false
    is_unset _ (closings.open_yet unset going ops) is = unset
    is_unset _ (closings.finishes f calls ops parts unset fol done keep attempt stands going) is = unset
    is_unset _ (closings.undoes u own calls commits ops parts fol why attempt is_of stands going) is = cc
    is_unset _ (closings.ended end unstopped fol right) is = cc

    pub open_operations : (cl : Closing) → Closes t it l0 mine cl → cl ≡ closing.Open → Follows t it.operations l0 mine
    open_operations _ (closings.open_yet unset going ops) is = ops
    open_operations _ (closings.finishes f calls ops parts unset fol done keep attempt stands going) is = cc
    open_operations _ (closings.undoes u own calls commits ops parts fol why attempt is_of stands going) is = cc
    open_operations _ (closings.ended end unstopped fol right) is = cc

    module _ (is : it.closing ≡ closing.Open) (same_vain : new.not_committed ≡ it.not_committed) where
      unset_new : new.not_committed ≡ false
      unset_new = same_vain ∙ is_unset it.closing follows.closes is

      pub open_learns : Follows t new.operations l0 (m ∷ mine) → MayGoOn who new.operations ((m ∷ mine) ++ l0) → Closed t.plan.keep new.operations new.closing
          → TryFollows t new l0 (m ∷ mine)
      open_learns fol may closed =
          closed_follows t new l0 (m ∷ mine) fol.under.id_is falls first_new past_new unset_new fol
          (λ once. may.owns.undecided (subst (λ a. Once (λ n _. decides n.step ≡ Some a) ((m ∷ mine) ++ l0)) (sym fol.under.id_is)
          (front_once (λ n. decides n.step ≡ Some t.id) (m ∷ mine) l0 once)))
          (λ none. none_each (λ n. adds n.step ≡ Some t.id) (m ∷ mine)
          (λ once. may.owns.unsent none (subst (λ a. Once (λ n _. adds n.step ≡ Some a) ((m ∷ mine) ++ l0)) (sym fol.under.id_is)
          (front_once (λ n. adds n.step ≡ Some t.id) (m ∷ mine) l0 once)))) closed

      pub open_halts : new.operations.attempt.id ≡ it.operations.attempt.id → new.closing ≡ closing.Open → Halts t new.operations.logs l0 (m ∷ mine)
          → TryHalts t new l0 (m ∷ mine)
      open_halts same opened halts = record {
        past_is = past_new;
        follows = halts_follow t (log_of new) l0 (m ∷ mine) falls halts (same ∙ (open_operations it.closing follows.closes is).under.id_is)
            (span_so_far new.first new.past l0 (m ∷ mine) first_new past_new) unset_new (ap end_in opened);
      }

    -- ---- in its commit

    module _ (f : Finish) (is : it.closing ≡ closing.Finish f) (asked : finish.step_of f ≡ Some s) (fit : fits s ans.reply ≡ true)
        (same : new.operations ≡ it.operations) (vain : new.not_committed ≡ is_in_vain (finish_after f ans.place ans.reply)) where
      abbrev next : Finish
      next = finish_after f ans.place ans.reply

      stands_next : (calls : List Made) → finish_stands.StandsFor f calls → finish_stands.StandsFor next (m ∷ calls)
      stands_next calls stands = record { listed = stands.listed; runs = finish_stands.goes_on f.phase calls m stands.runs asked fit }

      same_finish : (g : Finish) → closing.Finish g ≡ closing.Finish f → g ≡ f
      same_finish g both = cc

      record IsFinishing : Type 0 where
        pub calls : List Made
        pub ops : List Made
        pub parts : m ∷ mine ≡ (m ∷ calls) ++ ops
        pub fol : Follows t new.operations l0 ops
        pub done : new.operations.work ≡ work.Done
        pub keep : t.plan.keep ≡ true
        pub attempt : next.attempt ≡ t.id
        pub stands : finish_stands.StandsFor next (m ∷ calls)

      finishing : (cl : Closing) → Closes t it l0 mine cl → cl ≡ closing.Finish f → IsFinishing
      finishing _ (closings.open_yet unset going ops) same_closing = cc
      finishing _ (closings.finishes g calls ops parts unset fol done keep attempt stands going) same_closing =
          let one = same_finish g same_closing in
          record {
            calls = calls;
            ops = ops;
            parts = ap (λ k. m ∷ k) parts;
            fol = subst (λ o. Follows t o l0 ops) (sym same) fol;
            done = ap (λ o. o.work) same ∙ done;
            keep = keep;
            attempt = ap (λ k. k.attempt) (sym one) ∙ attempt;
            stands = stands_next calls (subst (λ k. finish_stands.StandsFor k calls) one stands);
          }
      finishing _ (closings.undoes u own calls commits ops parts fol why attempt is_of stands going) same_closing = cc
      finishing _ (closings.ended end unstopped fol right) same_closing = cc

      sent_of : (l : List Made) (cl : Closing) → MayCloseOn who it l cl → cl ≡ closing.Finish f → it.operations.attempt.sent ≡ Some f.atr
      sent_of l _ (closings.open_yet may) same_closing = cc
      sent_of l _ (closings.finishes g calls older parts stands ready owns attempt sent) same_closing = sent ∙ ap (λ k. Some k.atr) (same_finish g same_closing)
      sent_of l _ (closings.undoes u calls older parts stands ready attempt) same_closing = cc
      sent_of l _ (closings.ended end) same_closing = cc

      pub finish_learns : TryMayGoOn who it (mine ++ l0) → Finished new.operations.attempt next new.closing → TryFollows t new l0 (m ∷ mine)
      finish_learns may finished =
          let was = finishing it.closing follows.closes is in
          finished_follows t new l0 (m ∷ mine) was.fol.under.id_is falls first_new past_new next (m ∷ was.calls) was.ops was.parts vain was.fol was.done was.keep
          was.attempt was.stands f.atr (ap (λ (o : Operations). o.attempt.sent) same ∙ sent_of (mine ++ l0) it.closing may is) finished

      pub finish_halts : is_in_vain next ≡ true → new.closing ≡ closing.Open → TryHalts t new l0 (m ∷ mine)
      finish_halts in_vain opened =
          let was = finishing it.closing follows.closes is in
          record {
            past_is = past_new;
            follows = vain_stops t new l0 (m ∷ mine) was.fol.under.id_is falls first_new past_new next (m ∷ was.calls) was.ops was.parts vain was.fol was.done
                was.keep was.attempt was.stands in_vain (ap end_in opened);
          }

    -- ---- in its rollback

    module _ (u : Undo) (is : it.closing ≡ closing.Undo u) (asked : undo.step_of u ≡ Some s) (fit : fits s ans.reply ≡ true)
        (same : new.operations ≡ it.operations) (same_vain : new.not_committed ≡ it.not_committed) where
      abbrev next_undo : Undo
      next_undo = undo_after u ans.place ans.reply

      same_undo : (v : Undo) → closing.Undo v ≡ closing.Undo u → v ≡ u
      same_undo v both = cc

      why_new : (commits ops : List Made) → IsRolledBack t it commits ops → IsRolledBack t new commits ops
      why_new commits ops (closings.for_operations none unset over unkept undecided) =
          closings.for_operations none (same_vain ∙ unset) (subst (λ (o : Operations). is_over o.work ≡ true) (sym same) over)
          (ap (λ (o : Operations). Rattle.cbt_txn.specs.Deciding.is_kept t.plan.keep o.work) same ∙ unkept) undecided
      why_new commits ops (closings.for_commits set done keep third are each on_way) =
          closings.for_commits (same_vain ∙ set) (ap (λ (o : Operations). o.work) same ∙ done) keep third are each on_way

      pub undo_learns : new.closing ≡ undone next_undo → TryFollows t new l0 (m ∷ mine)
      undo_learns becomes = by it.closing follows.closes is
        where
          by : (cl : Closing) → Closes t it l0 mine cl → cl ≡ closing.Undo u → TryFollows t new l0 (m ∷ mine)
          by _ (closings.open_yet unset going ops) same_closing = cc
          by _ (closings.finishes g calls ops parts unset fol done keep attempt stands going) same_closing = cc
          by _ (closings.undoes v own calls commits ops parts fol why attempt is_of stands going) same_closing =
              let one = same_undo v same_closing in
              let fol_new : Follows t new.operations l0 ops = subst (λ o. Follows t o l0 ops) (sym same) fol in
              undone_follows t new l0 (m ∷ mine) fol_new.under.id_is falls first_new past_new next_undo own (m ∷ calls) commits ops
              (ap (λ k. m ∷ k) parts) fol_new (why_new commits ops why) (ap (λ k. k.attempt) (sym one) ∙ attempt)
              (subst (λ k. undo_ready.IsOf own (undo.task_of k)) one is_of)
              (undo_stands.goes_on u.phase calls m (subst (λ k. undo_stands.StandsFor k calls) one stands) asked fit) becomes
          by _ (closings.ended end unstopped fol right) same_closing = cc

-- ---- licences

module _ (who : Identity) (it new : Try) (l : List Made) (s : Step) (ans : Answer) where
  abbrev call : Made
  call = record { step = s; answer = ans }

  pub finish_licensed : (f : Finish) → it.closing ≡ closing.Finish f → finish.step_of f ≡ Some s → fits s ans.reply ≡ true → new.operations ≡ it.operations
      → TryMayGoOn who it l → Finished new.operations.attempt (finish_after f ans.place ans.reply) new.closing → TryMayGoOn who new (call ∷ l)
  finish_licensed f is asked fit same may finished = by it.closing may is
    where
      same_finish : (g : Finish) → closing.Finish g ≡ closing.Finish f → g ≡ f
      same_finish g both = cc

      by : (cl : Closing) → MayCloseOn who it l cl → cl ≡ closing.Finish f → TryMayGoOn who new (call ∷ l)
      by _ (closings.open_yet going) same_closing = cc
      by _ (closings.finishes g calls older parts stands ready owns attempt sent) same_closing =
          let one = same_finish g same_closing in
          let stands_f : finish_stands.StandsFor f calls = subst (λ k. finish_stands.StandsFor k calls) one stands in
          subst (λ k. MayCloseOn who new k new.closing) (sym (ap (λ k. call ∷ k) parts))
          (finished_licensed who new (finish_after f ans.place ans.reply) (call ∷ calls) older
          (record { listed = stands_f.listed; runs = finish_stands.goes_on f.phase calls call stands_f.runs asked fit })
          (subst (λ k. finish_ready.IsReady (finish.task_of k) older) one ready) (subst (λ (o : Operations). Owns who o.attempt older) (sym same) owns)
          (ap (λ k. k.attempt) (sym one) ∙ attempt ∙ ap (λ (o : Operations). o.attempt.id) (sym same))
          (ap (λ (o : Operations). o.attempt.sent) same ∙ sent ∙ ap (λ k. Some k.atr) one) new.closing finished)
      by _ (closings.undoes u calls older parts stands ready attempt) same_closing = cc
      by _ (closings.ended end) same_closing = cc

  pub undo_licensed : (u : Undo) → it.closing ≡ closing.Undo u → undo.step_of u ≡ Some s → fits s ans.reply ≡ true → new.operations ≡ it.operations
      → TryMayGoOn who it l → new.closing ≡ undone (undo_after u ans.place ans.reply) → TryMayGoOn who new (call ∷ l)
  undo_licensed u is asked fit same may becomes = by it.closing may is
    where
      same_undo : (v : Undo) → closing.Undo v ≡ closing.Undo u → v ≡ u
      same_undo v both = cc

      by : (cl : Closing) → MayCloseOn who it l cl → cl ≡ closing.Undo u → TryMayGoOn who new (call ∷ l)
      by _ (closings.open_yet going) same_closing = cc
      by _ (closings.finishes g calls older parts stands ready owns attempt sent) same_closing = cc
      by _ (closings.undoes v calls older parts stands ready attempt) same_closing =
          let one = same_undo v same_closing in
          subst (λ k. MayCloseOn who new (call ∷ l) k) (sym becomes)
          (subst (λ k. MayCloseOn who new k (undone (undo_after u ans.place ans.reply))) (sym (ap (λ k. call ∷ k) parts))
          (undone_licensed who new (undo_after u ans.place ans.reply) (call ∷ calls) older
          (undo_stands.goes_on u.phase calls call (subst (λ k. undo_stands.StandsFor k calls) one stands) asked fit)
          (subst (λ k. undo_ready.IsReady (undo.task_of k) older) one ready)
          (ap (λ k. k.attempt) (sym one) ∙ attempt ∙ ap (λ (o : Operations). o.attempt.id) (sym same))))
      by _ (closings.ended end) same_closing = cc

  pub open_operations_may : (cl : Closing) → MayCloseOn who it l cl → cl ≡ closing.Open → MayGoOn who it.operations l
  open_operations_may _ (closings.open_yet going) is = going
  open_operations_may _ (closings.finishes g calls older parts stands ready owns attempt sent) is = cc
  open_operations_may _ (closings.undoes u calls older parts stands ready attempt) is = cc
  open_operations_may _ (closings.ended end) is = cc

-- An attempt whose entry was decided and is gone has no document staged.
use Rattle.std.proofs.Common.{◌≡◌, ◌≢◌, ℕ, zero, suc, ◌<◌, ◌≤◌, Bool, true, false, ◌⊎◌, inl, inr, ⊎_elim, List, Option, Some, None, refl, sym, ap, ◌∙◌, subst, slice_get, arith}
use Rattle.std.proofs.lemmas.Option.{none-some}
use Rattle.cbt_json.specs.declared.value.Json.{Json}
use Rattle.cbt_model.specs.History.{made_at, own, is_done, TakesEffect}
use Rattle.cbt_model.specs.Table.{may_drop, touches_doc}
use Rattle.cbt_model.specs.declared.documents.DocState.{DocState}
use Rattle.cbt_model.specs.declared.documents.Stage.{Stage}
use Rattle.cbt_model.specs.declared.entries.Entry.{Entry}
use Rattle.cbt_model.specs.declared.entries.EntryState.{EntryState}
use Rattle.cbt_model.specs.declared.entries.EntryState.TheVariants.{Pending}
use Rattle.cbt_model.specs.declared.entries.Lists.{Lists}
use Rattle.cbt_model.specs.declared.events.Event.{Event}
use Rattle.cbt_model.specs.declared.events.Made.{Made}
use Rattle.cbt_model.specs.declared.states.State.{State}
use Rattle.cbt_model.specs.declared.steps.Expect.{Expect}
use Rattle.cbt_model.specs.declared.steps.Reply.TheVariants as reply
use Rattle.cbt_model.specs.declared.steps.Step.{Step}
use Rattle.cbt_model.specs.declared.steps.Step.TheVariants as step
use Rattle.cbt_book.specs.Licence.{IsListed, MayHaveStaged, Unstages, ShowsDecided, IsDue, Clears, MayDrop}
use Rattle.cbt_book.specs.Licence as licence
use Rattle.cbt_book.specs.Numbers.{client_of}
use Rattle.cbt_book.specs.OwnLists.{In}
use Rattle.cbt_book.specs.Shown.{adds, decides, ReadsDoc, StagesAt}
use Rattle.cbt_core.specs.Invariant.{DecidedAt}
use Rattle.cbt_core.proofs.interleaving.Answers.{doc_told, no_doc_told, effect_told, publish_refused_told, delete_refused_told, unstick_refused_told}
use Rattle.cbt_core.proofs.interleaving.Decisions.{Closing, commit, abort, Sent, closer, closed_at, closed-decided, closed_last, guarded_pending}
use Rattle.cbt_core.proofs.interleaving.Documents.{doc_then, Staged, StagedBy, by_staging, from_first, staged_by}
use Rattle.cbt_core.proofs.interleaving.Entries.{Deciding, by_commit, by_abort, Goes, stays, is_added, is_decided, is_dropped, goes, Settled, by_decision, in_opening, settled, stays_decided, entry_then}
use Rattle.cbt_core.proofs.runs.Lawful.{Lawful, may}
use Rattle.cbt_core.proofs.interleaving.Listed.{changes_it, done_changes, stood_since, listed_decided}
use Rattle.cbt_core.proofs.runs.Past.{some_same, one_event, below_next, Order, first, equal, after as later_one, order, Earlier, Standing, once_at, kept_at, in_at, Member}
use Rattle.cbt_core.proofs.interleaving.Worth.{HasDecided, decided_shown, named_record, stager, staged_before, stage_done}

same_commit : (r t a b : ℕ) (l m : Lists) → step.Commit r a l ≡ step.Commit t b m → l ≡ m
same_commit r t a b l m same = cc

same_abort : (r t a b : ℕ) (l m : Lists) → step.Abort r a l ≡ step.Abort t b m → l ≡ m
same_abort r t a b l m same = cc

not_both : (r t a b : ℕ) (l m : Lists) → step.Commit r a l ≡ step.Abort t b m → ⊥
not_both r t a b l m same = cc

unguarded : (state : EntryState) (g : Bool) → state ≢ Pending → may_drop g state ≡ true → g ≡ false
unguarded state true decided is = absurd (decided (guarded_pending state is))
unguarded state false decided is = refl

closing_lists : (r t a : ℕ) (l m : Lists) (st : Step) → Closing r a l st → Closing t a m st → l ≡ m
closing_lists r t a l m st (commit is) (commit its) = same_commit r t a a l m (sym is ∙ its)
closing_lists r t a l m st (commit is) (abort its) = absurd (not_both r t a a l m (sym is ∙ its))
closing_lists r t a l m st (abort is) (commit its) = absurd (not_both t r a a m l (sym its ∙ is))
closing_lists r t a l m st (abort is) (abort its) = same_abort r t a a l m (sym is ∙ its)

closing_decides : (r a : ℕ) (l : Lists) (st : Step) → Closing r a l st → decides st ≡ Some a
closing_decides r a l st (commit is) = ap decides is
closing_decides r a l st (abort is) = ap decides is

unstages_touches : (d : List ℕ) (x : ℕ) (st : Step) → Unstages d x st → touches_doc st ≡ Some d
unstages_touches d x st (licence.publishes body is) = ap touches_doc is
unstages_touches d x st (licence.deletes is) = ap touches_doc is
unstages_touches d x st (licence.unsticks is) = ap touches_doc is

module _ (s0 : State) (h : List Event) (lawful : Lawful s0 h) where
  abbrev settled_closing : (r a : ℕ) (e : Entry) (f : Event) → Deciding r a e.lists f.step e.state → Closing r a e.lists f.step
  settled_closing r a e f (by_commit is state) = commit is
  settled_closing r a e f (by_abort is state) = abort is

  -- the drop of an entry that was decided
  pub record DroppedAt (n i r a : ℕ) : Type 0 where
    pub place : ℕ
    pub event : Event
    pub from : n ≤ place
    pub before : place < i
    pub takes : TakesEffect s0 h place event
    pub is : event.step ≡ step.DropEntry r a false
    pub old : Entry
    pub there : entry_then s0 h lawful place (r, a) ≡ Some old
    pub decided : old.state ≢ Pending

  dropped_next : (n i r a : ℕ) (x : Entry) → n ≤ i → entry_then s0 h lawful n (r, a) ≡ Some x → x.state ≢ Pending → Goes s0 h lawful (r, a) i
      → (entry_then s0 h lawful i (r, a) ≡ None → DroppedAt n i r a) → entry_then s0 h lawful (suc i) (r, a) ≡ None → DroppedAt n (suc i) r a
  dropped_next n i r a x low there decided (stays is) ih gone =
      let it = ih (sym is ∙ gone) in
      record { place = it.place; event = it.event; from = it.from; before = (let b = it.before in omega arith); takes = it.takes; is = it.is; old = it.old; there = it.there; decided = it.decided }
  dropped_next n i r a x low there decided (is_added e exp y takes is none now pending start) ih gone = absurd (none-some y (sym gone ∙ now))
  dropped_next n i r a x low there decided (is_decided e lists old y takes deciding at pending now same start) ih gone = absurd (none-some y (sym gone ∙ now))
  dropped_next n i r a x low there decided (is_dropped e g old takes is at may_be now) ih gone =
      let still : old.state ≢ Pending = λ q. absurd (decided (sym (stays_decided s0 h lawful n i (r, a) x old low there decided at).0 ∙ q)) in
      record {
        place = i;
        event = e;
        from = low;
        before = omega arith;
        takes = takes;
        is = is ∙ ap (λ b. step.DropEntry r a b) (unguarded old.state g still may_be);
        old = old;
        there = at;
        decided = still;
      }

  pub dropped_at : (n i r a : ℕ) (x : Entry) → n ≤ i → entry_then s0 h lawful n (r, a) ≡ Some x → x.state ≢ Pending → entry_then s0 h lawful i (r, a) ≡ None → DroppedAt n i r a
  dropped_at n zero r a x low there decided gone = absurd (none-some x (sym gone ∙ subst (λ k. entry_then s0 h lawful k (r, a) ≡ Some x) (zero_is n low) there))
    where
      zero_is : (n : ℕ) → n ≤ 0 → n ≡ 0
      zero_is n low = omega arith
  dropped_at n (suc i) r a x low there decided gone =
      ⊎_elim (λ (l : n < suc i). dropped_next n i r a x (omega arith) there decided (goes s0 h lawful i (r, a)) (λ none. dropped_at n i r a x (omega arith) there decided none) gone)
      (λ (s : n ≡ suc i). absurd (none-some x (sym gone ∙ subst (λ k. entry_then s0 h lawful k (r, a) ≡ Some x) s there))) (below_next n (suc i) (omega arith))

  -- what a drop is due to have cleared is what the entry lists
  due_lists : (m s r a : ℕ) (f g : Event) (z : Entry) (shown due : Lists) → slice_get h m ≡ Some f → slice_get h s ≡ Some g → s < m → entry_then s0 h lawful m (r, a) ≡ Some z
      → z.state ≢ Pending → HasDecided s0 h lawful r a shown (suc s) → IsDue (own s0 h f.actor m) a shown due → due ≡ z.lists
  due_lists m s r a f g z shown due at at2 low there decided was (licence.of_shown none same) =
      same ∙ sym was.lists_are ∙ sym (stays_decided s0 h lawful was.place m (r, a) was.entry z (let b = was.before in omega arith) was.there was.decided there).1
  due_lists m s r a f g z shown due at at2 low there decided was (licence.of_own kept) = go (settled s0 h lawful m (r, a) z there decided)
    where
      own_last : Standing s0 h (λ n _. (t : ℕ) × ((n.step ≡ step.Commit t a due) ⊎ (n.step ≡ step.Abort t a due))) (λ n _. decides n.step ≡ Some a) f.actor m
      own_last = kept_at s0 h (λ n _. (t : ℕ) × ((n.step ≡ step.Commit t a due) ⊎ (n.step ≡ step.Abort t a due))) (λ n _. decides n.step ≡ Some a) f.actor m kept

      own_closing : Closing own_last.holds.0 a due own_last.event.step
      own_closing = ⊎_elim (λ is. commit is) (λ is. abort is) own_last.holds.1

      sent : Sent s0 h lawful own_last.holds.0 a own_last.event.actor own_last.place
      sent = closer s0 h lawful own_last.place own_last.holds.0 a due own_last.event own_last.is own_closing

      go : Settled s0 h lawful (r, a) m z → due ≡ z.lists
      go (by_decision q e old y low2 takes deciding old_at pending now state same) = by_order (order q own_last.place)
        where
          closing : Closing r a z.lists e.step
          closing = settled_closing r a z e deciding

          actor : e.actor ≡ f.actor
          actor = sym (closer s0 h lawful q r a z.lists e takes.event closing).owner ∙ sent.owner ∙ own_last.by

          by_order : Order q own_last.place → due ≡ z.lists
          by_order (first l) = absurd (closed_last s0 h lawful q own_last.place r own_last.holds.0 a z.lists due e own_last.event l takes closing own_last.is own_closing)
          by_order (equal s2) =
              let event : e ≡ own_last.event = one_event h own_last.place e own_last.event (subst (λ n. slice_get h n ≡ Some e) s2 takes.event) own_last.is in
              closing_lists own_last.holds.0 r a due z.lists own_last.event.step own_closing (subst (λ (w : Event). Closing r a z.lists w.step) event closing)
          by_order (later_one l) = absurd (own_last.since q e l low2 takes.event actor (closing_decides r a z.lists e.step closing))
      go (in_opening y at_zero state same) = absurd (lawful.fresh.no_entry sent.place r a sent.event y sent.at (ap adds sent.is) at_zero)

  refused_there : (p : ℕ) (d : List ℕ) (x have : ℕ) (ep : Event) (doc : DocState) → Unstages d x ep.step → doc_then s0 h lawful p d ≡ Some doc
      → (made_at s0 h p ep).answer.reply ≡ reply.CasMismatch have → doc.cas ≢ x
  refused_there p d x have ep doc (licence.publishes body is) there answer = publish_refused_told s0 h p ep d x have body doc there is answer
  refused_there p d x have ep doc (licence.deletes is) there answer = delete_refused_told s0 h p ep d x have doc there is answer
  refused_there p d x have ep doc (licence.unsticks is) there answer = unstick_refused_told s0 h p ep d x have doc there is answer

  place_is : (s n : ℕ) (f g : Event) → made_at s0 h s f ≡ made_at s0 h n g → s ≡ n
  place_is s n f g same = ap (λ (m : Made). m.answer.place) same

  -- nothing clears a document that stays staged by the attempt
  not_cleared : (s m i r a p : ℕ) (d : List ℕ) (f g ep : Event) (z : Entry) (doc : DocState) (stage : Stage) (shown : Lists)
      → slice_get h s ≡ Some g → s < p → p < m → m ≤ i → slice_get h p ≡ Some ep → ep.actor ≡ f.actor → HasDecided s0 h lawful r a shown (suc s)
      → doc_then s0 h lawful i d ≡ Some doc → doc.stage ≡ Some stage → stage.attempt ≡ a → Clears a (made_at s0 h s g) d (made_at s0 h p ep) (own s0 h f.actor p) → ⊥
  not_cleared s m i r a p d f g ep z doc stage shown at from to high at2 by was there staged own_one clears = go clears
    where
      -- the document from the showing on
      stands : (n : ℕ) → s < n → n ≤ i → doc_then s0 h lawful n d ≡ Some doc
      stands n above below =
          stood_since s0 h lawful was.place n i r a d was.entry doc stage (let b = was.before in omega arith) below was.there was.decided there staged own_one

      here : doc_then s0 h lawful p d ≡ Some doc
      here = stands p from (omega arith)

      next : doc_then s0 h lawful (suc p) d ≡ Some doc
      next = stands (suc p) (omega arith) (omega arith)

      own_before : (k : ℕ) (ek : Event) (x : ℕ) (w : Stage) → slice_get h k ≡ Some ek → ek.actor ≡ f.actor → k < p → w.attempt ≡ a → StagesAt d x w (made_at s0 h k ek)
          → ((n : ℕ) (en : Event) → k < n → n < p → slice_get h n ≡ Some en → en.actor ≡ f.actor → MayHaveStaged a d (made_at s0 h n en) → ⊥) → doc.cas ≢ x → ⊥
      own_before k ek x w at_k by_k low attempt stages since apart = by_origin (staged_by s0 h lawful i d doc stage there staged)
        where
          done : TakesEffect s0 h k ek × Staged s0 h lawful d (suc k) x w
          done = stage_done s0 h lawful k ek d x w at_k stages

          actor_of : (j : ℕ) (ej : Event) (ex : Expect) → slice_get h j ≡ Some ej → ej.step ≡ step.Stage d ex stage → ej.actor ≡ f.actor
          actor_of j ej ex at_j is =
              sym (stager s0 h lawful j d ej ex stage at_j is).owner ∙ ap client_of (own_one ∙ sym attempt) ∙ (stager s0 h lawful k d ek stages.0 w at_k stages.1).owner ∙ by_k

          below_p : (j : ℕ) (ej : Event) (ex : Expect) → slice_get h j ≡ Some ej → ej.step ≡ step.Stage d ex stage → j < p
          below_p j ej ex at_j is = by_settled (settled s0 h lawful was.place (r, a) was.entry was.there was.decided)
            where
              by_settled : Settled s0 h lawful (r, a) was.place was.entry → j < p
              by_settled (by_decision q e old y low2 takes deciding old_at pending now state same) =
                  let before = staged_before s0 h lawful q j r a was.entry.lists d e ej ex stage takes (settled_closing r a was.entry e deciding) at_j is own_one in
                  let b = was.before in omega arith
              by_settled (in_opening y at_zero state same) =
                  let sent = stager s0 h lawful j d ej ex stage at_j is in
                  absurd (lawful.fresh.no_entry sent.place r stage.attempt sent.event y sent.takes.event (ap adds sent.is) (subst (λ b. entry_then s0 h lawful 0 (r, b) ≡ Some y) (sym own_one) at_zero))

          by_origin : StagedBy s0 h lawful d i doc stage → ⊥
          by_origin (from_first since2) =
              let sent = stager s0 h lawful k d ek stages.0 w at_k stages.1 in
              lawful.fresh.no_staging sent.place a sent.event d doc stage sent.takes.event (ap adds sent.is ∙ ap (λ b. Some b) attempt) (since2 0 (omega arith)) staged own_one
          by_origin (by_staging j ej ex low2 takes is cas since2) = by_order (order j k)
            where
              by_order : Order j k → ⊥
              by_order (first l) = changes_it s0 h lawful k d ek doc done.0 (ap touches_doc stages.1) (since2 k l (omega arith)) (since2 (suc k) (omega arith) (omega arith))
              by_order (equal s2) =
                  let put = done.1 in
                  let same : doc ≡ put.doc = some_same (sym (since2 (suc k) (let e = s2 in omega arith) (omega arith)) ∙ put.there) in
                  apart (ap (λ (q : DocState). q.cas) same ∙ put.cas)
              by_order (later_one l) =
                  since j ej l (below_p j ej ex takes.event is) takes.event (actor_of j ej ex takes.event is)
                  ((stage.kind, (ex, stage, is, own_one, refl)), ⊎_elim (λ d2. inl (ap is_done d2)) (λ f2. inr f2) (effect_told s0 h j ej takes))

      go : Clears a (made_at s0 h s g) d (made_at s0 h p ep) (own s0 h f.actor p) → ⊥
      go (licence.unstaged x un done staged_then) = done_changes s0 h lawful p d ep doc at2 done (unstages_touches d x ep.step un) here next
      go (licence.absent it) = none-some doc (sym (no_doc_told s0 h p ep d it.0 it.1) ∙ here)
      go (licence.free x body it) =
          let read = doc_told s0 h p ep d x body None it.0 it.1 in
          none-some stage (sym read.stage_is ∙ ap (λ (q : DocState). q.stage) (some_same (sym read.there ∙ here)) ∙ staged)
      go (licence.of_another x body w it apart) =
          let read = doc_told s0 h p ep d x body (Some w) it.0 it.1 in
          let same : w ≡ stage = some_same (sym read.stage_is ∙ ap (λ (q : DocState). q.stage) (some_same (sym read.there ∙ here)) ∙ staged) in
          apart (ap (λ (q : Stage). q.attempt) same ∙ own_one)
      go (licence.elsewhere q x lists body w decided it apart) =
          let read = doc_told s0 h p ep d x body (Some w) it.0 it.1 in
          let same : w ≡ stage = some_same (sym read.stage_is ∙ ap (λ (q : DocState). q.stage) (some_same (sym read.there ∙ here)) ∙ staged) in
          let shown_there = decided_shown s0 h lawful s g q a lists at decided in
          apart (ap (λ (v : Stage). v.atr) same ∙ sym (named_record s0 h lawful i shown_there.place q a d doc stage shown_there.entry there staged own_one shown_there.there))
      go (licence.moved_on x have un answer once) =
          let it = once_at s0 h (λ n earlier. (body : Option Json) × (w : Stage) × ReadsDoc d x body (Some w) n × (w.attempt ≡ a) × In (made_at s0 h s g) earlier) f.actor p once in
          let read = doc_told s0 h it.place it.event d x it.holds.0 (Some it.holds.1) it.holds.2.0 it.holds.2.1 in
          let seen = in_at s0 h (made_at s0 h s g) f.actor it.place it.holds.4 in
          let above : s < it.place = (let e = place_is s seen.place g seen.event seen.made in let b = seen.before in omega arith) in
          let same : read.doc ≡ doc = some_same (sym read.there ∙ stands it.place above (let b = it.before in omega arith)) in
          refused_there p d x have ep doc un here answer (ap (λ (q : DocState). q.cas) (sym same) ∙ read.cas)
      go (licence.moved_from_own x have un answer kept) =
          let it = kept_at s0 h (λ n _. (w : Stage) × (w.attempt ≡ a) × StagesAt d x w n) (λ n _. MayHaveStaged a d n) f.actor p kept in
          own_before it.place it.event x it.holds.0 it.is it.by it.before it.holds.1 it.holds.2 it.since (refused_there p d x have ep doc un here answer)

  -- an attempt that was decided and whose entry is gone has no document staged
  pub gone_unstaged : (n i r a : ℕ) (d : List ℕ) (x : Entry) (doc : DocState) (stage : Stage) → n ≤ i → entry_then s0 h lawful n (r, a) ≡ Some x → x.state ≢ Pending
      → entry_then s0 h lawful i (r, a) ≡ None → doc_then s0 h lawful i d ≡ Some doc → doc.stage ≡ Some stage → stage.attempt ≡ a → ⊥
  gone_unstaged n i r a d x doc stage low there decided gone at staged own_one = go
    where
      drop : DroppedAt n i r a
      drop = dropped_at n i r a x low there decided gone

      may_drop_it : MayDrop (own s0 h drop.event.actor drop.place) r a
      may_drop_it = may s0 h lawful drop.place drop.event (step.DropEntry r a false) drop.takes.event drop.is

      seen : Member s0 h may_drop_it.showing drop.event.actor drop.place
      seen = in_at s0 h may_drop_it.showing drop.event.actor drop.place may_drop_it.earlier

      was : HasDecided s0 h lawful r a may_drop_it.shown (suc seen.place)
      was = decided_shown s0 h lawful seen.place seen.event r a may_drop_it.shown seen.is (subst (λ q. ShowsDecided r a may_drop_it.shown q) seen.made may_drop_it.decided)

      due : may_drop_it.due ≡ drop.old.lists
      due = due_lists drop.place seen.place r a drop.event seen.event drop.old may_drop_it.shown may_drop_it.due drop.takes.event seen.is seen.before drop.there drop.decided was may_drop_it.due_is

      at_drop : doc_then s0 h lawful drop.place d ≡ Some doc
      at_drop = stood_since s0 h lawful drop.place drop.place i r a d drop.old doc stage (omega arith) (let b = drop.before in omega arith) drop.there drop.decided at staged own_one

      is_due : IsListed d may_drop_it.due
      is_due = subst (λ l. IsListed d l) (sym due) (listed_decided s0 h lawful drop.place r a d drop.old doc stage drop.there drop.decided at_drop staged own_one)

      cleared : Earlier s0 h (λ m before. In may_drop_it.showing before × Clears a may_drop_it.showing d m before) drop.event.actor drop.place
      cleared = once_at s0 h (λ m before. In may_drop_it.showing before × Clears a may_drop_it.showing d m before) drop.event.actor drop.place (may_drop_it.cleared d is_due)

      shown_before : Member s0 h may_drop_it.showing drop.event.actor cleared.place
      shown_before = in_at s0 h may_drop_it.showing drop.event.actor cleared.place cleared.holds.0

      go : ⊥
      go =
          not_cleared seen.place drop.place i r a cleared.place d drop.event seen.event cleared.event drop.old doc stage may_drop_it.shown seen.is
          (let e = place_is seen.place shown_before.place seen.event shown_before.event (sym seen.made ∙ shown_before.made) in let b = shown_before.before in omega arith)
          cleared.before (let b = drop.before in omega arith) cleared.is cleared.by was at staged own_one
          (subst (λ q. Clears a q d (made_at s0 h cleared.place cleared.event) (own s0 h drop.event.actor cleared.place)) seen.made cleared.holds.1)

  -- the same of an attempt that was committed or aborted by an event
  pub gone_finished : (i q r a : ℕ) (d : List ℕ) (lists : Lists) (doc : DocState) (stage : Stage) → q < i → DecidedAt s0 h q a lists
      → ((r : ℕ) → entry_then s0 h lawful i (r, a) ≡ None) → doc_then s0 h lawful i d ≡ Some doc → doc.stage ≡ Some stage → stage.attempt ≢ a
  gone_finished i q r a d lists doc stage low it none at staged own_one =
      let closing : Closing it.atr a lists it.event.step = ⊎_elim (λ is. commit is) (λ is. abort is) it.is in
      let closed = closed_at s0 h lawful q it.atr a lists it.event it.takes closing in
      gone_unstaged (suc q) i it.atr a d closed.entry doc stage (omega arith) closed.now (closed-decided s0 h lawful q it.atr a lists it.event.step closed) (none it.atr) at staged own_one

  -- a staging that stands while its attempt's decision is past is as it was at the decision
  pub unchanged_since : (i q a : ℕ) (d : List ℕ) (lists : Lists) (doc : DocState) (stage : Stage) → q < i → DecidedAt s0 h q a lists → doc_then s0 h lawful i d ≡ Some doc
      → doc.stage ≡ Some stage → stage.attempt ≡ a → doc_then s0 h lawful q d ≡ Some doc
  unchanged_since i q a d lists doc stage low it at staged own_one = go (staged_by s0 h lawful i d doc stage at staged)
    where
      go : StagedBy s0 h lawful d i doc stage → doc_then s0 h lawful q d ≡ Some doc
      go (from_first since) = since q (omega arith)
      go (by_staging j g ex low2 takes is cas since) =
          since q (staged_before s0 h lawful q j it.atr a lists d it.event g ex stage it.takes (⊎_elim (λ x. commit x) (λ x. abort x) it.is) takes.event is own_one) (omega arith)

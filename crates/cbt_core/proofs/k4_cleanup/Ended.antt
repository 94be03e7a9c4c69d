-- What an attempt leaves that has ended: nothing, where its end tells so.
use Rattle.std.proofs.Common.{◌≡◌, ℕ, suc, ◌<◌, ◌≤◌, true, false, inl, inr, ⊎_elim, List, [], ◌∷◌, length, slice_get, Option, Some, None, refl, sym, ap, ◌∙◌, subst, arith}
use Rattle.cbt_model.specs.History.{own, made_at, is_done, commits}
use Rattle.cbt_model.specs.declared.entries.Entry.{Entry}
use Rattle.cbt_model.specs.declared.events.Event.{Event}
use Rattle.cbt_model.specs.declared.events.Made.{Made}
use Rattle.cbt_model.specs.declared.states.State.{State}
use Rattle.cbt_model.specs.declared.steps.Reply.TheVariants as reply
use Rattle.cbt_model.specs.declared.steps.Step.TheVariants as step
use Rattle.cbt_book.specs.Licence.{MayDrop, ShowsDecided}
use Rattle.cbt_book.specs.Numbers.{client_of}
use Rattle.cbt_book.specs.OwnLists.{Once, Kept, In, during}
use Rattle.cbt_book.specs.Passes.{IsDropped}
use Rattle.cbt_book.specs.Shown.{adds, aborts}
use Rattle.cbt_book.specs.Closing.{IsUndone, HasAborted}
use Rattle.cbt_book.specs.Closing as closing
use Rattle.cbt_book.specs.declared.book.Book.{Book}
use Rattle.cbt_book.specs.declared.clients.AttemptEnd.{AttemptEnd}
use Rattle.cbt_book.specs.declared.clients.AttemptEnd.TheVariants as attempt_end
use Rattle.cbt_book.specs.declared.clients.AttemptLog.{AttemptLog}
use Rattle.cbt_core.specs.Attempts.{Ends, course_of}
use Rattle.cbt_core.specs.Laws.{IsFinishedAt, leaves_nothing, AttemptsLeaveNothing}
use Rattle.cbt_core.specs.Operations.{ops_end}
use Rattle.cbt_core.specs.Runs.{IsLegalRun, LogsFollow, own_of}
use Rattle.cbt_core.specs.declared.case.Case.{Case}
use Rattle.cbt_core.proofs.interleaving.Answers.{done_told, drop_none_told, commit_none_told, abort_none_told}
use Rattle.cbt_core.proofs.logs.Calls.{Within, during_in, in_during, in_front, each_of, after_gap}
use Rattle.cbt_core.proofs.logs.Commits.{adding, attempt_by, inside_of, Inside}
use Rattle.cbt_core.proofs.interleaving.Decisions.{Sent, closer, not_at_first, commit, abort, commits_is}
use Rattle.cbt_core.proofs.interleaving.Entries.{entry_then, Came, by_event, at_first, came, sent_once, adds_is}
use Rattle.cbt_core.proofs.runs.Lawful.{Lawful, may}
use Rattle.cbt_core.proofs.interleaving.Listed.{done_is}
use Rattle.cbt_core.proofs.k6_once.Once.{same_log, aborts_is}
use Rattle.cbt_core.proofs.logs.Owners.{AttemptOf}
use Rattle.cbt_core.proofs.k4_cleanup.Passed.{finished_when, finished_from, dropped_done}
use Rattle.cbt_core.proofs.runs.Past.{one_event, in_at, Member}
use Rattle.cbt_core.proofs.interleaving.Worth.{HasDecided, decided_shown}

-- a call of which it is so, with those before it
with_past : (P : Made → List Made → Type 0) (l : List Made) → Once P l → (m : Made) × In m l × ((past : List Made) × P m past)
with_past P [] once = absurd once
with_past P (x ∷ l) once = ⊎_elim (λ (here : P x l). (x, inl refl, (l, here))) (λ (before : Once P l). let it = with_past P l before in (it.0, inr it.1, it.2)) once

pub kept_call : (P U : Made → List Made → Type 0) (l : List Made) → Kept P U l → (m : Made) × In m l × ((past : List Made) × P m past)
kept_call P U [] kept = absurd kept
kept_call P U (x ∷ l) kept =
    ⊎_elim (λ (here : P x l). (x, inl refl, (l, here))) (λ (before : (U x l → ⊥) × Kept P U l). let it = kept_call P U l before.1 in (it.0, inr it.1, it.2)) kept

module _ (s0 : State) (h : List Event) (lawful : Lawful s0 h) where
  -- an attempt whose entry was sent to a record, and is not there, has none from then on
  pub none_since : (p i r a actor : ℕ) → Sent s0 h lawful r a actor p → p ≤ i → entry_then s0 h lawful p (r, a) ≡ None → (q : ℕ) → entry_then s0 h lawful i (q, a) ≡ None
  none_since p i r a actor sent low gone q = go (entry_then s0 h lawful i (q, a)) refl
    where
      same_record : (s t b exp exp2 : ℕ) → step.AddEntry s b exp ≡ step.AddEntry t b exp2 → s ≡ t
      same_record s t b exp exp2 same = cc

      by_way : (x : Entry) → Came s0 h lawful (q, a) i → ⊥
      by_way x (by_event m f exp below takes is since) =
          let same : m ≡ sent.place = sent_once s0 h lawful m sent.place a f sent.event takes.event sent.at (ap adds is) (ap adds sent.is) in
          let one : f ≡ sent.event = one_event h sent.place f sent.event (subst (λ n. slice_get h n ≡ Some f) same takes.event) sent.at in
          let record_is : q ≡ r = same_record q r a exp sent.exp (sym is ∙ ap (λ (z : Event). z.step) one ∙ sent.is) in
          since p (let before = sent.before in omega arith) low (ap (λ n. entry_then s0 h lawful p (n, a)) record_is ∙ gone)
      by_way x (at_first since) = first (entry_then s0 h lawful 0 (q, a)) refl
        where
          first : (o : Option Entry) → entry_then s0 h lawful 0 (q, a) ≡ o → ⊥
          first None is = since 0 (omega arith) is
          first (Some y) is = not_at_first s0 h lawful r a actor p q y sent is

      go : (o : Option Entry) → entry_then s0 h lawful i (q, a) ≡ o → entry_then s0 h lawful i (q, a) ≡ None
      go None is = is
      go (Some x) is = absurd (by_way x (came s0 h lawful i (q, a) x is))

  pub finished_since : (p i r a actor : ℕ) → Sent s0 h lawful r a actor p → p ≤ i → entry_then s0 h lawful p (r, a) ≡ None → IsFinishedAt s0 h a i
  finished_since p i r a actor sent low gone = finished_when s0 h lawful i a (λ k up q. none_since p k r a actor sent (along low up) gone q)
    where
      along : {m n k : ℕ} → m ≤ n → n ≤ k → m ≤ k
      along one two = omega arith

  -- an own drop that was answered Done or NoEntry leaves nothing
  pub finished_drop : (p i r a : ℕ) (e : Event) → slice_get h p ≡ Some e → e.step ≡ step.DropEntry r a false → IsDropped (made_at s0 h p e).answer.reply → p < i → IsFinishedAt s0 h a i
  finished_drop p i r a e at is told low =
      ⊎_elim (λ (done : is_done (made_at s0 h p e).answer.reply ≡ true).
      let c = done_is (made_at s0 h p e).answer.reply done in
      finished_from s0 h lawful was.place (suc p) i r a was.entry (let b = was.before in let s = seen.before in omega arith) low was.there
      (dropped_done s0 h lawful p r a false e (done_told s0 h p e c.0 at c.1).0 is))
      (λ (none : (made_at s0 h p e).answer.reply ≡ reply.NoEntry).
      finished_from s0 h lawful was.place p i r a was.entry (let b = was.before in let s = seen.before in omega arith) (omega arith) was.there (drop_none_told s0 h p e r a false is none)) told
    where
      licence : MayDrop (own s0 h e.actor p) r a
      licence = may s0 h lawful p e (step.DropEntry r a false) at is

      seen : Member s0 h licence.showing e.actor p
      seen = in_at s0 h licence.showing e.actor p licence.earlier

      was : HasDecided s0 h lawful r a licence.shown (suc seen.place)
      was = decided_shown s0 h lawful seen.place seen.event r a licence.shown seen.is (subst (λ m. ShowsDecided r a licence.shown m) seen.made licence.decided)

module _ (case : Case) (book : Book) (legal : IsLegalRun case book) (follow : LogsFollow case book) (lawful : Lawful book.kept.opening book.kept.history)
    (p a r exp : ℕ) (e : Event) (at : slice_get book.kept.history p ≡ Some e) (is : e.step ≡ step.AddEntry r a exp) where
  abbrev s0 : State
  s0 = book.kept.opening

  abbrev h : List Event
  h = book.kept.history

  abbrev l : List Made
  l = own_of book (client_of a)

  -- the attempt whose entry was sent
  pub mine : AttemptOf case book legal follow a
  mine = attempt_by case book legal follow lawful p a e at (adding r exp is)

  here : Inside case book legal follow lawful a mine p e
  here = inside_of case book legal follow lawful p a e at (adding r exp is) mine

  in_closing : (m : Made) → In m mine.follows.closing → Within (record { from = ops_end mine.at mine.attempt.ops; to = mine.attempt.span.to }) m l
  in_closing m there = during_in _ m l (subst (λ c. In m c) (sym mine.follows.rest) (in_front m mine.follows.closing mine.follows.cut there))

  -- a call that closes the attempt, with its event
  event_of : (m : Made) → In m mine.follows.closing → Member s0 h m (client_of a) (length h)
  event_of m there = in_at s0 h m (client_of a) (length h) (in_closing m there).there

  ended : (m : Made) (there : In m mine.follows.closing) (i : ℕ) → mine.attempt.span.to ≤ i → (event_of m there).place < i
  ended m there i late = below (ap (λ (n : Made). n.answer.place) (event_of m there).made) (in_closing m there).high late
    where
      below : {b c d f : ℕ} → b ≡ c → b < d → d ≤ f → c < f
      below one two three = omega arith

  step_of : (m : Made) (there : In m mine.follows.closing) → (event_of m there).event.step ≡ m.step
  step_of m there = ap (λ (n : Made). n.step) (sym (event_of m there).made)

  reply_of : (m : Made) (there : In m mine.follows.closing) → (made_at s0 h (event_of m there).place (event_of m there).event).answer.reply ≡ m.answer.reply
  reply_of m there = ap (λ (n : Made). n.answer.reply) (sym (event_of m there).made)

  by_drop : (m : Made) (i : ℕ) → In m mine.follows.closing → mine.attempt.span.to ≤ i → (s : ℕ) × (m.step ≡ step.DropEntry s mine.t.id false) → IsDropped m.answer.reply → IsFinishedAt s0 h a i
  by_drop m i there late drops told =
      let it = event_of m there in
      finished_drop s0 h lawful it.place i drops.0 a it.event it.is (step_of m there ∙ drops.1 ∙ ap (λ b. step.DropEntry drops.0 b false) mine.id_is)
      (subst (λ x. IsDropped x) (sym (reply_of m there)) told) (ended m there i late)

  by_abort : (m : Made) (i : ℕ) → In m mine.follows.closing → mine.attempt.span.to ≤ i → aborts m.step ≡ Some mine.t.id → m.answer.reply ≡ reply.NoEntry → IsFinishedAt s0 h a i
  by_abort m i there late aborted none =
      let it = event_of m there in
      let st = aborts_is m.step mine.t.id aborted in
      let st_is = step_of m there ∙ st.2 ∙ ap (λ b. step.Abort st.0 b st.1) mine.id_is in
      finished_since s0 h lawful it.place i st.0 a it.event.actor (closer s0 h lawful it.place st.0 a st.1 it.event it.is (abort st_is)) (let low = ended m there i late in omega arith)
      (abort_none_told s0 h it.place it.event st.0 a st.1 st_is (reply_of m there ∙ none))

  by_commit : (m : Made) (i : ℕ) → In m mine.follows.closing → mine.attempt.span.to ≤ i → commits m.step ≡ Some mine.t.id → m.answer.reply ≡ reply.NoEntry → IsFinishedAt s0 h a i
  by_commit m i there late committed none =
      let it = event_of m there in
      let st = commits_is m.step mine.t.id committed in
      let st_is = step_of m there ∙ st.2 ∙ ap (λ b. step.Commit st.0 b st.1) mine.id_is in
      finished_since s0 h lawful it.place i st.0 a it.event.actor (closer s0 h lawful it.place st.0 a st.1 it.event it.is (commit st_is)) (let low = ended m there i late in omega arith)
      (commit_none_told s0 h it.place it.event st.0 a st.1 st_is (reply_of m there ∙ none))

  -- its entry was sent in its span
  sent_here : In (made_at s0 h p e) (during mine.attempt.span l)
  sent_here = in_during mine.attempt.span (made_at s0 h p e) l here.there (after_gap l mine.at mine.attempt.span (made_at s0 h p e) mine.follows.spanned here.there here.low) here.high

  undone : (i : ℕ) → mine.attempt.span.to ≤ i → IsUndone mine.t.id (during mine.attempt.span l) mine.follows.closing → IsFinishedAt s0 h a i
  undone i late (closing.unsent never none) =
      absurd (each_of (λ m. adds m.step ≡ Some mine.t.id → ⊥) (during mine.attempt.span l) (made_at s0 h p e) never sent_here (ap adds is ∙ ap (λ b. Some b) (sym mine.id_is)))
  undone i late (closing.no_entry once) =
      let m = with_past (λ m _. (aborts m.step ≡ Some mine.t.id) × (m.answer.reply ≡ reply.NoEntry)) mine.follows.closing once in
      by_abort m.0 i m.1 late m.2.1.0 m.2.1.1
  undone i late (closing.dropped once) =
      let m = with_past (λ m before. ((s : ℕ) × (m.step ≡ step.DropEntry s mine.t.id false)) × IsDropped m.answer.reply × HasAborted mine.t.id before) mine.follows.closing once in
      by_drop m.0 i m.1 late m.2.1.0 m.2.1.1

  no_true : false ≡ true → ⊥
  no_true same = cc

  pub ended_whole : (i : ℕ) → leaves_nothing mine.attempt.end ≡ true → mine.attempt.span.to ≤ i → IsFinishedAt s0 h a i
  ended_whole i so late = go mine.attempt.end so mine.follows.ends
    where
      go : (end : AttemptEnd) → leaves_nothing end ≡ true → Ends mine.t (course_of mine.t mine.attempt mine.follows.cut mine.follows.closing) (during mine.attempt.span l) end → IsFinishedAt s0 h a i
      go (attempt_end.Committed place true) tells ends =
          let m = with_past (λ m _. ((s : ℕ) × (m.step ≡ step.DropEntry s mine.t.id false)) × IsDropped m.answer.reply) mine.follows.closing ends.2.0 in
          by_drop m.0 i m.1 late m.2.1.0 m.2.1.1
      go (attempt_end.Committed place false) tells ends = absurd (no_true tells)
      go attempt_end.RolledBack tells ends = undone i late ends.1
      go (attempt_end.EntryLost place) tells ends =
          let m = kept_call (λ m _. (m.answer.place ≡ place) × (commits m.step ≡ Some mine.t.id) × (m.answer.reply ≡ reply.NoEntry)) (λ m _. commits m.step ≡ Some mine.t.id) mine.follows.closing ends.1 in
          by_commit m.0 i m.1 late m.2.1.1 m.2.1.2
      go attempt_end.Empty tells ends = absurd (no_true tells)
      go (attempt_end.Unknown c n) tells ends = absurd (no_true tells)
      go (attempt_end.Incomplete n) tells ends = absurd (no_true tells)
      go attempt_end.Stopped tells ends = absurd (no_true tells)

pub attempts_leave : (case : Case) (book : Book) (legal : IsLegalRun case book) (follow : LogsFollow case book) (lawful : Lawful book.kept.opening book.kept.history) → AttemptsLeaveNothing book
attempts_leave case book legal follow lawful client txn try_no p i log e log_is so at sends late =
    let st = adds_is e.step log.id sends in
    let same = same_log case book legal follow lawful client txn try_no log log_is log.id refl (mine case book legal follow lawful p log.id st.0 st.1 e at st.2) in
    ended_whole case book legal follow lawful p log.id st.0 st.1 e at st.2 i (ap (λ (x : AttemptLog). leaves_nothing x.end) same ∙ so) (subst (λ (x : AttemptLog). x.span.to ≤ i) (sym same) late)

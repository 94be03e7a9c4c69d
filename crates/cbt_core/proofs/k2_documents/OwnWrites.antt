-- What a commit lists are the attempt's own writes by kind, and so is what it has staged.
use Rattle.std.proofs.Common.{◌≡◌, ◌↔◌, ℕ, suc, ◌<◌, true, false, inl, ⊎_elim, List, Option, Some, None, refl, sym, ap, ◌∙◌, subst, arith}
use Rattle.cbt_model.specs.History.{own, made_at, is_done, TakesEffect}
use Rattle.cbt_model.specs.declared.documents.DocState.{DocState}
use Rattle.cbt_model.specs.declared.documents.OpKind.{OpKind}
use Rattle.cbt_model.specs.declared.documents.Stage.{Stage}
use Rattle.cbt_model.specs.declared.entries.Entry.{Entry}
use Rattle.cbt_model.specs.declared.entries.EntryState.{EntryState}
use Rattle.cbt_model.specs.declared.entries.EntryState.TheVariants.{Committed}
use Rattle.cbt_model.specs.declared.entries.Lists.{Lists}
use Rattle.cbt_model.specs.declared.events.Event.{Event}
use Rattle.cbt_model.specs.declared.states.State.{State}
use Rattle.cbt_model.specs.declared.steps.Step.TheVariants as step
use Rattle.cbt_book.specs.Licence.{listed, MayCommit, StagesFor, WritesFor, WritesInVain}
use Rattle.cbt_book.specs.Licence as licence
use Rattle.cbt_book.specs.Numbers.{client_of}
use Rattle.cbt_book.specs.OwnLists.{In}
use Rattle.cbt_book.specs.Shown.{adds, AddsEntry}
use Rattle.cbt_book.specs.declared.book.Book.{Book}
use Rattle.cbt_core.specs.Invariant.{WritesNoMore, IsOwnWrite, CommitsOwnWrites}
use Rattle.cbt_core.specs.Runs.{IsLegalRun, LogsFollow}
use Rattle.cbt_core.specs.Walk.{OwnWrite}
use Rattle.cbt_core.specs.WriteSets.{own_writes_of}
use Rattle.cbt_core.specs.declared.case.Case.{Case}
use Rattle.cbt_core.proofs.interleaving.Answers.{done_told, effect_row}
use Rattle.cbt_core.proofs.logs.Commits.{it as attempt_it, so, own_staged, not_own_unstaged}
use Rattle.cbt_core.proofs.interleaving.Decisions.{AtDecision, at_decision, is_commit, commits_is, closed_at, closed-decided, commit, Closed, closer}
use Rattle.cbt_core.proofs.interleaving.Documents.{doc_then, stamp}
use Rattle.cbt_core.proofs.interleaving.Entries.{entry_then, Deciding, by_commit, by_abort, one_record, sent_once, stays_decided}
use Rattle.cbt_core.proofs.interleaving.Gone.{unchanged_since}
use Rattle.cbt_core.proofs.interleaving.Held.{held}
use Rattle.cbt_core.proofs.runs.Lawful.{Lawful, may}
use Rattle.cbt_core.proofs.interleaving.Listed.{adds_by, done_is, listed_committed, true_or_false}
use Rattle.cbt_core.proofs.logs.Owners.{writes_are}
use Rattle.cbt_core.proofs.runs.Past.{some_same, kept_at, Standing}
use Rattle.cbt_core.proofs.k2_documents.Tables.{docs_stay}
use Rattle.cbt_core.proofs.interleaving.Worth.{stager}

module _ (case : Case) (book : Book) (legal : IsLegalRun case book) (follow : LogsFollow case book) (lawful : Lawful book.kept.opening book.kept.history)
    (q r a : ℕ) (lists : Lists) (e : Event) (takes : TakesEffect book.kept.opening book.kept.history q e) (is : e.step ≡ step.Commit r a lists) where
  abbrev s0 : State
  s0 = book.kept.opening

  abbrev h : List Event
  h = book.kept.history

  own_is : (d : List ℕ) → own_writes_of case.plans book.clients a d ≡ (so case book legal follow lawful q r a lists e takes is).own d
  own_is d = writes_are case book legal follow a (attempt_it case book legal follow lawful q r a lists e takes is) d

  -- what is staged at the commit is an own write
  own_as : (d : List ℕ) (doc : DocState) (stage : Stage) → doc_then s0 h lawful q d ≡ Some doc → doc.stage ≡ Some stage → stage.attempt ≡ a → IsOwnWrite case book a d stage
  own_as d doc stage at staged own_one = go ((so case book legal follow lawful q r a lists e takes is).own d) refl
    where
      go : (o : Option OwnWrite) → (so case book legal follow lawful q r a lists e takes is).own d ≡ o → IsOwnWrite case book a d stage
      go None free = absurd (not_own_unstaged case book legal follow lawful q r a lists e takes is d doc stage free at staged own_one)
      go (Some w) has =
          let x = own_staged case book legal follow lawful q r a lists e takes is d w has in
          let same : x.1 ≡ stage = some_same (sym x.3 ∙ ap (λ (z : DocState). z.stage) (some_same (sym x.2 ∙ at)) ∙ staged) in
          (w, own_is d ∙ has, sym x.6 ∙ ap (λ (z : Stage). z.kind) same, sym x.5 ∙ ap (λ (z : Stage). z.content) same)

  may_commit : MayCommit (own s0 h e.actor q) r a lists
  may_commit = may s0 h lawful q e (step.Commit r a lists) takes.event is

  owner : client_of a ≡ e.actor
  owner = (closer s0 h lawful q r a lists e takes.event (commit is)).owner

  decision : AtDecision s0 h lawful q r a
  decision = at_decision s0 h lawful q r a e takes (is_commit lists is)

  -- what the commit lists is staged then, under the same kind
  listed_own : (k : OpKind) (d : List ℕ) → In d (listed k lists) → (w : OwnWrite) × (own_writes_of case.plans book.clients a d ≡ Some w) × (w.kind ≡ k)
  listed_own k d there =
      let it = held s0 h lawful q last.place r a (stamp s0 h lawful last.place last.event) d stage decision.old decision.there decision.pending last.before
      (record { event = last.event; takes = took; expects = last.holds.0; is = last.holds.2; cas = effect_row s0 h last.place last.event took }) own_one no_more in
      let w = own_as d it.0 stage it.1 it.2 own_one in
      (w.0, w.1, w.2 ∙ last.holds.4)
    where
      last : Standing s0 h (λ m _. StagesFor a k d m) (WritesFor a d) e.actor q
      last = kept_at s0 h (λ m _. StagesFor a k d m) (WritesFor a d) e.actor q ((may_commit.named k d).0 there)

      stage : Stage
      stage = last.holds.1

      own_one : stage.attempt ≡ a
      own_one = last.holds.3

      added : Standing s0 h (λ m _. AddsEntry r a m) (WritesInVain a) e.actor q
      added = kept_at s0 h (λ m _. AddsEntry r a m) (WritesInVain a) e.actor q may_commit.written

      done : is_done (made_at s0 h last.place last.event).answer.reply ≡ true
      done =
          let sent = stager s0 h lawful last.place d last.event last.holds.0 stage last.is last.holds.2 in
          let place : added.place ≡ sent.place =
          sent_once s0 h lawful added.place sent.place a added.event sent.event added.is sent.takes.event (adds_by r a _ added.holds) (ap adds sent.is ∙ ap (λ b. Some b) own_one) in
          let before = sent.before in
          ⊎_elim (λ (it : is_done (made_at s0 h last.place last.event).answer.reply ≡ true). it)
          (λ (vain : is_done (made_at s0 h last.place last.event).answer.reply ≡ false).
          absurd (added.since last.place last.event (omega arith) last.before last.is last.by ((d, licence.stages k last.holds), vain))) (true_or_false (is_done (made_at s0 h last.place last.event).answer.reply))

      took : TakesEffect s0 h last.place last.event
      took = let c = done_is (made_at s0 h last.place last.event).answer.reply done in (done_told s0 h last.place last.event c.0 last.is c.1).0

      no_more : WritesNoMore s0 h a d last.place q
      no_more n f from to takes2 by writes =
          last.since n f from to takes2.event (by ∙ owner) (subst (λ c. WritesFor a d (made_at s0 h n f) (own s0 h c n)) (by ∙ owner) writes)

  closed : Closed s0 h lawful q r a lists e.step
  closed = closed_at s0 h lawful q r a lists e takes (commit is)

  now_committed : closed.entry.state ≡ Committed
  now_committed = go closed.deciding
    where
      commit_not : (r a : ℕ) (l : Lists) (r2 a2 : ℕ) (m : Lists) → step.Commit r a l ≡ step.Abort r2 a2 m → ⊥
      commit_not r a l r2 a2 m same = cc

      go : {state : EntryState} → Deciding r a lists e.step state → state ≡ Committed
      go (by_commit st state) = state
      go (by_abort st state) = absurd (commit_not r a lists r a lists (sym is ∙ st))

  -- an own write is listed under its kind
  own_listed : (k : OpKind) (d : List ℕ) → (w : OwnWrite) × (own_writes_of case.plans book.clients a d ≡ Some w) × (w.kind ≡ k) → In d (listed k lists)
  own_listed k d w =
      let x = own_staged case book legal follow lawful q r a lists e takes is d w.0 (sym (own_is d) ∙ w.1) in
      let there = listed_committed s0 h lawful (suc q) r a d closed.entry x.0 x.1 closed.now now_committed (docs_stay s0 h lawful q r a lists d e takes is ∙ x.2) x.3 x.4 in
      subst (λ n. In d (listed n lists)) (x.6 ∙ w.2) (subst (λ y. In d (listed x.1.kind y)) closed.lists_are there)

  -- the entry keeps the lists of its commit
  same_lists : (i s : ℕ) (y : Entry) → q < i → entry_then s0 h lawful i (s, a) ≡ Some y → lists ≡ y.lists
  same_lists i s y low there =
      let same : s ≡ r = one_record s0 h lawful i (suc q) s r a y closed.entry there closed.now in
      sym closed.lists_are
      ∙ sym (stays_decided s0 h lawful (suc q) i (r, a) closed.entry y (omega arith) closed.now (closed-decided s0 h lawful q r a lists e.step closed) (subst (λ n. entry_then s0 h lawful i (n, a) ≡ Some y) same there)).1

  listed_at : (i s : ℕ) (y : Entry) (k : OpKind) (d : List ℕ) → q < i → entry_then s0 h lawful i (s, a) ≡ Some y
      → In d (listed k y.lists) ↔ ((w : OwnWrite) × (own_writes_of case.plans book.clients a d ≡ Some w) × (w.kind ≡ k))
  listed_at i s y k d low there =
      let same = same_lists i s y low there in
      (λ (in_it : In d (listed k y.lists)). listed_own k d (subst (λ z. In d (listed k z)) (sym same) in_it), λ w. subst (λ z. In d (listed k z)) same (own_listed k d w))

  staged_at : (i : ℕ) (d : List ℕ) (doc : DocState) (stage : Stage) → q < i → doc_then s0 h lawful i d ≡ Some doc → doc.stage ≡ Some stage → stage.attempt ≡ a → IsOwnWrite case book a d stage
  staged_at i d doc stage low at staged own_one =
      own_as d doc stage (unchanged_since s0 h lawful i q a d lists doc stage low (record { event = e; takes = takes; atr = r; is = inl is }) at staged own_one) staged own_one

pub commits_own_writes : (case : Case) (book : Book) (legal : IsLegalRun case book) (follow : LogsFollow case book) (lawful : Lawful book.kept.opening book.kept.history) → CommitsOwnWrites case book
commits_own_writes case book legal follow lawful = record {
  listed_as = λ a q i r e k d it low there.
      let st = commits_is it.event.step a it.is in listed_at case book legal follow lawful q st.0 a st.1 it.event it.takes st.2 i r e k d low there;
  staged_as = λ a q i d doc stage it low at staged own_one.
      let st = commits_is it.event.step a it.is in staged_at case book legal follow lawful q st.0 a st.1 it.event it.takes st.2 i d doc stage low at staged own_one;
}

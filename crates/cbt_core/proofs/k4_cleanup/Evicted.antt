-- An entry is lost by an eviction alone.
use Rattle.std.proofs.Common.{◌≡◌, ◌≢◌, ℕ, zero, suc, ◌<◌, true, false, ⊎_elim, List, length, slice_get, Some, None, sym, ap, ◌∙◌, subst, arith, Ok, Err}
use Rattle.std.proofs.lemmas.Option.{none-some}
use Rattle.cbt_model.specs.History.{own, made_at, commits, TakesEffect}
use Rattle.cbt_model.specs.declared.entries.Entry.{Entry}
use Rattle.cbt_model.specs.declared.entries.Lists.{Lists}
use Rattle.cbt_model.specs.declared.events.Event.{Event}
use Rattle.cbt_model.specs.declared.events.Made.{Made}
use Rattle.cbt_model.specs.declared.states.State.{State}
use Rattle.cbt_model.specs.declared.steps.Reply.TheVariants as reply
use Rattle.cbt_model.specs.declared.steps.Step.TheVariants as step
use Rattle.cbt_book.specs.Licence.{MayDrop, ShowsDecided}
use Rattle.cbt_book.specs.Numbers.{client_of}
use Rattle.cbt_book.specs.OwnLists.{In, during}
use Rattle.cbt_book.specs.Shown.{adds, AddsEntry}
use Rattle.cbt_book.specs.Closing.{MayClose}
use Rattle.cbt_book.specs.Calls.{MayGet, MayWrite}
use Rattle.cbt_book.specs.declared.book.Book.{Book}
use Rattle.cbt_book.specs.declared.clients.AttemptEnd.TheVariants as attempt_end
use Rattle.cbt_book.specs.declared.clients.AttemptLog.{AttemptLog}
use Rattle.cbt_core.specs.Attempts.{Ends, AttemptFollows, course_of}
use Rattle.cbt_core.specs.Laws.{IsEvictedBefore, LostByEviction}
use Rattle.cbt_core.specs.OpCalls.{OpCalls, write_terms}
use Rattle.cbt_core.specs.Runs.{IsLegalRun, LogsFollow, own_of}
use Rattle.cbt_core.specs.Walk.{AttemptTerms, Request, Reads, Writes, Tests, request_of, Sofar}
use Rattle.cbt_core.specs.declared.case.Case.{Case}
use Rattle.cbt_core.proofs.interleaving.Answers.{commit_none_told}
use Rattle.cbt_core.proofs.logs.Calls.{in_empty, each_of, during_in, in_front}
use Rattle.cbt_core.proofs.logs.Commits.{closing_it, owner_of, owned_call}
use Rattle.cbt_core.proofs.interleaving.Decisions.{Added, added_at, Closing, commit, abort, closed_last, commits_is}
use Rattle.cbt_core.proofs.k4_cleanup.Ended.{kept_call}
use Rattle.cbt_core.proofs.interleaving.Entries.{entry_then, Goes, stays, is_added, is_decided, is_dropped, goes, Settled, by_decision, in_opening, settled, Deciding, by_commit, by_abort}
use Rattle.cbt_core.proofs.runs.Lawful.{Lawful, may}
use Rattle.cbt_core.proofs.k6_once.Once.{in_try}
use Rattle.cbt_core.proofs.logs.Owners.{ClientOf, home_of, Part, part_of, in_ops, in_cut, in_closing}
use Rattle.cbt_core.proofs.runs.Past.{at_once, below_next, in_at, kept_at, Member}
use Rattle.cbt_core.proofs.interleaving.Worth.{HasDecided, decided_shown}

-- no call of an attempt drops an entry under a guard
never_op : (t : AttemptTerms) (so : Sofar) (req : Request) (calls : List Made) (m : Made) (r a : ℕ) → OpCalls t so req calls → In m calls → m.step ≡ step.DropEntry r a true → ⊥
never_op t so (Reads d name) calls m r a may_call there is = subst (λ st. MayGet d st) is (each_of (λ x. MayGet d x.step) calls m may_call.only there)
never_op t so (Writes d kind (Ok content)) calls m r a may_call there is =
    subst (λ st. MayWrite (write_terms t) d st) is (each_of (λ x. MayWrite (write_terms t) d x.step) calls m may_call.0.only there)
never_op t so (Writes d kind (Err part)) calls m r a may_call there is = in_empty m calls may_call there
never_op t so (Tests truth) calls m r a may_call there is = in_empty m calls may_call there

never_part : (t : AttemptTerms) (l : List Made) (at : ℕ) (log : AttemptLog) (follows : AttemptFollows t l at log) (m : Made) (r a : ℕ) → Part t l at log follows m → m.step ≡ step.DropEntry r a true → ⊥
never_part t l at log follows m r a (in_ops home early) is = never_op t home.sofar (request_of home.sofar.bound home.op) (during home.log.span l) m r a home.follows.calls home.inside is
never_part t l at log follows m r a (in_cut so req calls next rest left may_call there late) is = never_op t so req calls m r a may_call there is
never_part t l at log follows m r a (in_closing past may_close before closes late) is = subst (λ st. MayClose t.id past st) is may_close

module _ (s0 : State) (h : List Event) (lawful : Lawful s0 h) where
  -- where an entry stood that is gone, and nobody decided it, a guarded drop took it
  pub record Evicted (i r a : ℕ) : Type 0 where
    pub place : ℕ
    pub event : Event
    pub before : place < i
    pub takes : TakesEffect s0 h place event
    pub is : event.step ≡ step.DropEntry r a true

  abbrev Undecided : ℕ → ℕ → Type 0
  Undecided i a = (q r : ℕ) (lists : Lists) (e : Event) → q < i → TakesEffect s0 h q e → Closing r a lists e.step → ⊥

  unguarded_not : (i r a : ℕ) (e sent : Event) (n exp : ℕ) → slice_get h n ≡ Some sent → sent.step ≡ step.AddEntry r a exp → slice_get h i ≡ Some e → e.step ≡ step.DropEntry r a false → Undecided i a → ⊥
  unguarded_not i r a e sent n exp at_sent is_sent at is undecided = go (settled s0 h lawful was.place (r, a) was.entry was.there was.decided)
    where
      licence : MayDrop (own s0 h e.actor i) r a
      licence = may s0 h lawful i e (step.DropEntry r a false) at is

      seen : Member s0 h licence.showing e.actor i
      seen = in_at s0 h licence.showing e.actor i licence.earlier

      was : HasDecided s0 h lawful r a licence.shown (suc seen.place)
      was = decided_shown s0 h lawful seen.place seen.event r a licence.shown seen.is (subst (λ m. ShowsDecided r a licence.shown m) seen.made licence.decided)

      closing : (f : Event) → Deciding r a was.entry.lists f.step was.entry.state → Closing r a was.entry.lists f.step
      closing f (by_commit st state) = commit st
      closing f (by_abort st state) = abort st

      go : Settled s0 h lawful (r, a) was.place was.entry → ⊥
      go (by_decision q f old y low takes deciding old_at pending now state lists) = undecided q r was.entry.lists f (let b = was.before in let s = seen.before in omega arith) takes (closing f deciding)
      go (in_opening y there state lists) = lawful.fresh.no_entry n r a sent y at_sent (ap adds is_sent) there

  evicted_next : (i r a : ℕ) (e : Event) (n exp : ℕ) → slice_get h n ≡ Some e → e.step ≡ step.AddEntry r a exp → Undecided (suc i) a → Goes s0 h lawful (r, a) i
      → (entry_then s0 h lawful i (r, a) ≡ None → Evicted i r a) → entry_then s0 h lawful (suc i) (r, a) ≡ None → Evicted (suc i) r a
  evicted_next i r a e n exp at_sent is_sent undecided (stays same) ih gone =
      let it = ih (sym same ∙ gone) in record { place = it.place; event = it.event; before = (let b = it.before in omega arith); takes = it.takes; is = it.is }
  evicted_next i r a e n exp at_sent is_sent undecided (is_added f exp2 y takes is none now pending start) ih gone = absurd (none-some y (sym gone ∙ now))
  evicted_next i r a e n exp at_sent is_sent undecided (is_decided f lists old y takes deciding at pending now same start) ih gone = absurd (none-some y (sym gone ∙ now))
  evicted_next i r a e n exp at_sent is_sent undecided (is_dropped f true old takes is at may_be now) ih gone = record { place = i; event = f; before = omega arith; takes = takes; is = is }
  evicted_next i r a e n exp at_sent is_sent undecided (is_dropped f false old takes is at may_be now) ih gone =
      absurd (unguarded_not i r a f e n exp at_sent is_sent takes.event is (λ q s lists g low. undecided q s lists g (omega arith)))

  evicted_at : (i r a : ℕ) (e : Event) (n exp : ℕ) (x : Entry) → slice_get h n ≡ Some e → e.step ≡ step.AddEntry r a exp → n < i → entry_then s0 h lawful (suc n) (r, a) ≡ Some x
      → Undecided i a → entry_then s0 h lawful i (r, a) ≡ None → Evicted i r a
  evicted_at zero r a e n exp x at_sent is_sent low there undecided gone = absurd (omega arith)
  evicted_at (suc i) r a e n exp x at_sent is_sent low there undecided gone =
      ⊎_elim (λ (l : n < i).
      evicted_next i r a e n exp at_sent is_sent undecided (goes s0 h lawful i (r, a))
      (λ none. evicted_at i r a e n exp x at_sent is_sent l there (λ q s lists g below. undecided q s lists g (omega arith)) none) gone)
      (λ (s : n ≡ i). absurd (none-some x (sym gone ∙ subst (λ k. entry_then s0 h lawful (suc k) (r, a) ≡ Some x) s there))) (below_next n i low)

  -- an own commit that finds no entry came after an eviction
  pub evicted_before : (p r a : ℕ) (lists : Lists) (e : Event) → slice_get h p ≡ Some e → e.step ≡ step.Commit r a lists → (made_at s0 h p e).answer.reply ≡ reply.NoEntry → Evicted p r a
  evicted_before p r a lists e at is none =
      evicted_at p r a added.event added.place added.exp added.entry added.takes.event added.is added.before added.now
      (λ q s other f low takes closing. closed_last s0 h lawful q p s r a other lists f e low takes closing at (commit is)) (commit_none_told s0 h p e r a lists is none)
    where
      added : Added s0 h lawful r a e.actor p
      added =
          let it = kept_at s0 h (λ m _. AddsEntry r a m) _ e.actor p (may s0 h lawful p e (step.Commit r a lists) at is).written in
          added_at s0 h lawful e.actor p r a (at_once s0 h (λ m _. AddsEntry r a m) e.actor p it.place it.event it.before it.is it.by it.holds)

module _ (case : Case) (book : Book) (legal : IsLegalRun case book) (follow : LogsFollow case book) (lawful : Lawful book.kept.opening book.kept.history) where
  abbrev s0 : State
  s0 = book.kept.opening

  abbrev h : List Event
  h = book.kept.history

  -- a client drops no entry under a guard
  never_evicts : (c k r a : ℕ) (f : Event) → ClientOf case book legal follow (client_of c) → slice_get h k ≡ Some f → f.step ≡ step.DropEntry r a true → f.actor ≢ client_of c
  never_evicts c k r a f client at is by =
      let there = owned_call case book legal follow lawful k c f at by in
      let home = home_of case book legal follow (client_of c) client (made_at s0 h k f) there in
      never_part _ (own_of book (client_of c)) home.at home.attempt home.follows (made_at s0 h k f) r a
      (part_of _ (own_of book (client_of c)) home.at home.attempt home.follows (made_at s0 h k f) there home.low home.high) is

  by_commit_at : (p r a : ℕ) (lists : Lists) (e : Event) → slice_get h p ≡ Some e → e.step ≡ step.Commit r a lists → (made_at s0 h p e).answer.reply ≡ reply.NoEntry → IsEvictedBefore s0 h a p
  by_commit_at p r a lists e at is none =
      let it = evicted_before s0 h lawful p r a lists e at is none in
      let owner = owner_of case book legal follow lawful p a e at (closing_it r lists (commit is)) in
      record { drop = it.place; event = it.event; before = it.before; takes = it.takes; atr = r; is = it.is; other = never_evicts a it.place r a it.event owner.client it.takes.event it.is }

  by_log : (client at place : ℕ) (t : AttemptTerms) (log : AttemptLog) (follows : AttemptFollows t (own_of book client) at log) → log.end ≡ attempt_end.EntryLost place → IsEvictedBefore s0 h log.id place
  by_log client at place t log follows end_is = go (kept_call (λ m _. (m.answer.place ≡ place) × (commits m.step ≡ Some t.id) × (m.answer.reply ≡ reply.NoEntry)) (λ m _. commits m.step ≡ Some t.id) follows.closing ends.1)
    where
      ends : Ends t (course_of t log follows.cut follows.closing) (during log.span (own_of book client)) (attempt_end.EntryLost place)
      ends = subst (λ x. Ends t (course_of t log follows.cut follows.closing) (during log.span (own_of book client)) x) end_is follows.ends

      go : (m : Made) × In m follows.closing × ((past : List Made) × ((m.answer.place ≡ place) × (commits m.step ≡ Some t.id) × (m.answer.reply ≡ reply.NoEntry))) → IsEvictedBefore s0 h log.id place
      go m =
          let there = during_in _ m.0 (own_of book client) (subst (λ c. In m.0 c) (sym follows.rest) (in_front m.0 follows.closing follows.cut m.1)) in
          let it = in_at s0 h m.0 client (length h) there.there in
          let st = commits_is m.0.step t.id m.2.1.1 in
          subst (λ b. IsEvictedBefore s0 h b place) (sym follows.id)
          (subst (λ n. IsEvictedBefore s0 h t.id n) (sym (ap (λ (n : Made). n.answer.place) it.made) ∙ m.2.1.0)
          (by_commit_at it.place st.0 t.id st.1 it.event it.is (ap (λ (n : Made). n.step) (sym it.made) ∙ st.2) (ap (λ (n : Made). n.answer.reply) (sym it.made) ∙ m.2.1.2)))

  pub lost_by_eviction : LostByEviction book
  lost_by_eviction client txn try_no place log log_is end_is =
      let it = in_try case book legal follow lawful client txn try_no log log_is in by_log client it.at place _ log it.follows end_is

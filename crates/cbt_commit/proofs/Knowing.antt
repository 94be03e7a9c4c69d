-- What the calls of a commit are, as far as it has come.
use Rattle.std.proofs.Common.{◌≡◌, ◌≢◌, ℕ, suc, ◌+◌, ◌<◌, Bool, true, false, is_some, inl, inr, ⊎_elim, List, ◌∷◌, slice_get, Option, Some, None, refl, ap, sym, ◌∙◌, subst, arith}
use Rattle.std.proofs.lemmas.Option.{none-some}
use Rattle.cbt_json.specs.declared.value.Json.{Json}
use Rattle.cbt_model.specs.History.{is_done, commits}
use Rattle.cbt_model.specs.declared.entries.Entry.{Entry}
use Rattle.cbt_model.specs.declared.entries.EntryState.TheVariants as state
use Rattle.cbt_model.specs.declared.events.Made.{Made}
use Rattle.cbt_model.specs.declared.steps.Reply.{Reply}
use Rattle.cbt_model.specs.declared.steps.Reply.TheVariants as reply
use Rattle.cbt_model.specs.declared.steps.Step.{Step}
use Rattle.cbt_model.specs.declared.steps.Step.TheVariants as step
use Rattle.cbt_book.specs.Closing.{IsInDoubt, CommitsInDoubt, Settles, ThirdInVain, CommitHolds, told, read, IsFinished, resolves, drops as drops_entry, finishes}
use Rattle.cbt_book.specs.OwnLists.{Once, Kept, Each}
use Rattle.cbt_book.specs.Passes.{IsDropped}
use Rattle.cbt_book.specs.Shown.{ReadsEntry, aborts, decides}
use Rattle.cbt_commit.specs.Ends.{LosesEntry, StaysUnknown, IsLastInDoubt, OnlySettles}
use Rattle.cbt_commit.specs.Phases.{Task, unstage_with, unstage, going_step, step_for, end_in, after}
use Rattle.cbt_commit.specs.Standing.{Runs, begun, goes_on}
use Rattle.cbt_commit.specs.Written.{Written}
use Rattle.cbt_commit.specs.declared.phases.FinishEnd.{FinishEnd}
use Rattle.cbt_commit.specs.declared.phases.FinishEnd.TheVariants.{Committed, EntryLost, NotCommitted, Unknown}
use Rattle.cbt_commit.specs.declared.phases.Phase.{Phase}
use Rattle.cbt_commit.specs.declared.phases.Phase.TheVariants.{Sending, Reading, Going, Ended}
use Rattle.cbt_commit.proofs.Moving.{IsPublished, by_it, before_it, Moves, commits_it, loses_entry, doubts, finds_committed, sends_again, gives_up, stays_unknown, publishes, drops, fails, some_same, moves}
use Rattle.cbt_commit.proofs.OwnCalls.{none_of, each_weaker, kept_weaker, sends, sends_more, sends_same}

true-false : {b : Bool} → b ≡ true → b ≡ false → ⊥
true-false one two = cc

abbrev pub reads_entry : Step → Bool
reads_entry (step.ReadEntry r a) = true
reads_entry _ = false

-- what a call is that publishes, or drops the entry
pub record IsUnstaging (s : Step) : Type 0 where
  pub no_commit : commits s ≡ None
  pub no_abort : aborts s ≡ None
  pub no_decision : decides s ≡ None
  pub no_reading : reads_entry s ≡ false
  pub finishing : finishes s ≡ true

content_unstages : (d : List ℕ) (x : ℕ) (content : Option Json) → IsUnstaging (unstage_with d x content)
content_unstages d x None = record { no_commit = refl; no_abort = refl; no_decision = refl; no_reading = refl; finishing = refl }
content_unstages d x (Some body) = record { no_commit = refl; no_abort = refl; no_decision = refl; no_reading = refl; finishing = refl }

going_unstages : (t : Task) (o : Option (List ℕ × Written)) → IsUnstaging (going_step t o)
going_unstages t None = record { no_commit = refl; no_abort = refl; no_decision = refl; no_reading = refl; finishing = refl }
going_unstages t (Some w) = content_unstages w.0 w.1.cas w.1.content

content_resolves : (d : List ℕ) (x : ℕ) (content : Option Json) → resolves (unstage_with d x content) ≡ Some d
content_resolves d x None = refl
content_resolves d x (Some body) = refl

content_drops : (d : List ℕ) (x : ℕ) (content : Option Json) → drops_entry (unstage_with d x content) ≡ None
content_drops d x None = refl
content_drops d x (Some body) = refl

pub unstaging : (w : List ℕ × Written) (m : Made) → m.step ≡ unstage w.0 w.1 → IsUnstaging m.step
unstaging w m is = subst IsUnstaging (sym is) (content_unstages w.0 w.1.cas w.1.content)

pub asked_unstaging : (t : Task) (commit at : ℕ) (m : Made) → step_for t (Going commit at) ≡ Some m.step → IsUnstaging m.step
asked_unstaging t commit at m asked = subst IsUnstaging (some_same asked) (going_unstages t (slice_get t.works at))

pub dropping : (t : Task) (m : Made) → m.step ≡ step.DropEntry t.atr t.attempt false → IsUnstaging m.step
dropping t m is = subst IsUnstaging (sym is) (going_unstages t None)

-- the answers tell apart what became of a call
pub not_failed : (r : Reply) → IsPublished r → r ≢ reply.Failed
not_failed r (by_it c done) failed = cc
not_failed r (before_it have moved) failed = cc

dropped_fine : (r : Reply) → IsDropped r → r ≢ reply.Failed
dropped_fine r dropped failed = ⊎_elim (λ done. true-false done (ap is_done failed)) (λ none. clash none) dropped
  where
    clash : r ≡ reply.NoEntry → ⊥
    clash none = cc

-- a commit in doubt, or a reading behind it that shows the entry not committed
pub data Tries (t : Task) (m : Made) : Type 0 where
  doubted : m.step ≡ step.Commit t.atr t.attempt t.lists → IsInDoubt m.answer.reply → Tries t m
  vain : (e : Entry) → ReadsEntry t.atr t.attempt e m → e.state ≢ state.Committed → Tries t m

tries_resolve : (t : Task) (d : List ℕ) (m : Made) → Tries t m → resolves m.step ≡ Some d → ⊥
tries_resolve t d m (doubted is doubt) it = none-some d (sym (ap resolves is) ∙ it)
tries_resolve t d m (vain e reads apart) it = none-some d (sym (ap resolves reads.0) ∙ it)

tries_drop : (t : Task) (m : Made) → Tries t m → drops_entry m.step ≡ Some t.attempt → ⊥
tries_drop t m (doubted is doubt) it = none-some t.attempt (sym (ap drops_entry is) ∙ it)
tries_drop t m (vain e reads apart) it = none-some t.attempt (sym (ap drops_entry reads.0) ∙ it)

tries_finish : (t : Task) (m : Made) → Tries t m → finishes m.step ≡ true → m.answer.reply ≢ reply.Failed
tries_finish t m (doubted is doubt) it failed = true-false it (ap finishes is)
tries_finish t m (vain e reads apart) it failed = true-false it (ap finishes reads.0)

tries_settle : (t : Task) (m : Made) → Tries t m → Settles t.attempt m
tries_settle t m (doubted is doubt) = inl (ap commits is)
tries_settle t m (vain e reads apart) = inr (t.atr, reads.0)

-- so many commits were sent, all in doubt, and none was the third in vain
pub record HasTried (t : Task) (n : ℕ) (mine : List Made) : Type 0 where
  pub count : sends mine ≡ n
  pub tries : Each (λ m _. Tries t m) mine
  pub third : ¬ ThirdInVain t.attempt mine

-- the commit may be sent so often again after this time
pub record Waits (t : Task) (left : ℕ) (mine : List Made) : Type 0 where
  pub sent : ℕ
  pub sum : sent + left ≡ 2
  pub tried : HasTried t sent mine

-- the newest call is the commit, at this place and in doubt
pub record Doubts (t : Task) (left commit : ℕ) (mine : List Made) : Type 0 where
  pub sent : ℕ
  pub sum : sent + left ≡ 3
  pub tried : HasTried t sent mine
  pub lists : Kept (λ m _. m.step ≡ step.Commit t.atr t.attempt t.lists) (λ m _. commits m.step ≡ Some t.attempt) mine
  pub doubt : Kept (λ m _. (m.answer.place ≡ commit) × CommitsInDoubt t.atr t.attempt m) (λ m _. Settles t.attempt m) mine

-- the commit at this place holds, and the own writes before a place of their order are published
pub record Publishes (t : Task) (commit at : ℕ) (mine : List Made) : Type 0 where
  pub holds : CommitHolds t.attempt commit mine
  pub lists : Kept (λ m _. m.step ≡ step.Commit t.atr t.attempt t.lists) (λ m _. commits m.step ≡ Some t.attempt) mine
  pub resolved : (d : List ℕ) → Once (λ m _. resolves m.step ≡ Some d) mine
      → (j : ℕ) × (w : List ℕ × Written) × (j < at) × (slice_get t.works j ≡ Some w) × (w.0 ≡ d)
  pub undropped : ¬ Once (λ m _. drops_entry m.step ≡ Some t.attempt) mine
  pub fine : Each (λ m _. finishes m.step ≡ true → m.answer.reply ≢ reply.Failed) mine
  pub third : ¬ ThirdInVain t.attempt mine

-- the third commit was in vain
pub record IsInVain (t : Task) (place : ℕ) (mine : List Made) : Type 0 where
  pub third : ThirdInVain t.attempt mine
  pub only : OnlySettles t.attempt mine
  pub last : IsLastInDoubt t.attempt place mine

abbrev pub EndsBy : Task → FinishEnd → List Made → Type 0
EndsBy t (Committed place complete) mine = CommitHolds t.attempt place mine × IsFinished t.attempt mine complete × (¬ ThirdInVain t.attempt mine)
EndsBy t (EntryLost place) mine = LosesEntry t.attempt place mine × (¬ ThirdInVain t.attempt mine)
EndsBy t (NotCommitted place) mine = IsInVain t place mine
EndsBy t (Unknown commit reading) mine = StaysUnknown t.attempt commit reading mine × (¬ ThirdInVain t.attempt mine)

-- what a phase tells of the calls
abbrev pub Knows : Task → Phase → List Made → Type 0
Knows t (Sending left) mine = Waits t left mine
Knows t (Reading left commit) mine = Doubts t left commit mine
Knows t (Going commit at) mine = Publishes t commit at mine
Knows t (Ended end) mine = EndsBy t end mine

-- a call that is no reading of an entry is no third in vain, nor is a reading that does not show it uncommitted
third_unread : (a : ℕ) (m : Made) (mine : List Made) → reads_entry m.step ≡ false → ¬ ThirdInVain a mine → ¬ ThirdInVain a (m ∷ mine)
third_unread a m mine unread none third = ⊎_elim (λ here. true-false (ap reads_entry here.1.1.0) unread) (λ later. none later) third

third_untold : (a : ℕ) (m : Made) (mine : List Made) → ((e : Entry) → m.answer.reply ≡ reply.Entry e → e.state ≡ state.Committed) → ¬ ThirdInVain a mine
    → ¬ ThirdInVain a (m ∷ mine)
third_untold a m mine untold none third = ⊎_elim (λ here. here.1.2 (untold here.1.0 here.1.1.1)) (λ later. none later) third

entry_same : (e f : Entry) → reply.Entry e ≡ reply.Entry f → e ≡ f
entry_same e f both = cc

fewer_sent : (n left : ℕ) → n + suc left ≡ 3 → n ≡ 3 → ⊥
fewer_sent n left sum is = omega arith

third_fewer : (a n left : ℕ) (m : Made) (mine : List Made) → sends mine ≡ n → n + suc left ≡ 3 → ¬ ThirdInVain a mine → ¬ ThirdInVain a (m ∷ mine)
third_fewer a n left m mine count sum none third = ⊎_elim (λ here. fewer_sent n left sum (sym count ∙ here.2)) (λ later. none later) third

holds_more : (a place : ℕ) (m : Made) (mine : List Made) → commits m.step ≡ None → CommitHolds a place mine → CommitHolds a place (m ∷ mine)
holds_more a place m mine unsent (told kept) = told (inr (λ it. none-some a (sym unsent ∙ it), kept))
holds_more a place m mine unsent (read kept) = read (inr (λ it. none-some a (sym unsent ∙ it), kept))

pub undoubted : (t : Task) (mine : List Made) (commit : ℕ)
    → Kept (λ m _. (m.answer.place ≡ commit) × CommitsInDoubt t.atr t.attempt m) (λ m _. Settles t.attempt m) mine
    → Kept (λ m _. CommitsInDoubt t.atr t.attempt m) (λ m _. Settles t.attempt m) mine
undoubted t mine commit kept =
    kept_weaker (λ m _. (m.answer.place ≡ commit) × CommitsInDoubt t.atr t.attempt m) (λ m _. CommitsInDoubt t.atr t.attempt m) (λ m _. Settles t.attempt m)
    (λ m _. Settles t.attempt m) mine (λ m past it. it.1) (λ m past it. it) kept

module _ (t : Task) (m : Made) (mine : List Made) where
  -- the attempt is committed, and nothing is published yet
  begins_to_publish : (commit n : ℕ) → CommitHolds t.attempt commit (m ∷ mine)
      → Kept (λ k _. k.step ≡ step.Commit t.atr t.attempt t.lists) (λ k _. commits k.step ≡ Some t.attempt) (m ∷ mine)
      → resolves m.step ≡ None → drops_entry m.step ≡ None → finishes m.step ≡ false → HasTried t n mine → ¬ ThirdInVain t.attempt (m ∷ mine)
      → Publishes t commit 0 (m ∷ mine)
  begins_to_publish commit n holds lists no_resolving no_dropping no_finishing tried third = record {
    holds = holds;
    lists = lists;
    resolved = λ d once. absurd (⊎_elim (λ here. none-some d (sym no_resolving ∙ here))
        (λ later. none_of (λ k. Tries t k) (λ k. resolves k.step ≡ Some d) mine (tries_resolve t d) tried.tries later) once);
    undropped = λ once. ⊎_elim (λ here. none-some t.attempt (sym no_dropping ∙ here))
        (λ later. none_of (λ k. Tries t k) (λ k. drops_entry k.step ≡ Some t.attempt) mine (tries_drop t) tried.tries later) once;
    fine = (
      λ it failed. true-false it no_finishing,
      each_weaker (λ k. Tries t k) (λ k. finishes k.step ≡ true → k.answer.reply ≢ reply.Failed) mine (tries_finish t) tried.tries,
    );
    third = third;
  }

  one_more_try : (n left : ℕ) → n + left ≡ 2 → suc n + left ≡ 3
  one_more_try n left sum = omega arith

  one_fewer : (n left : ℕ) → n + suc left ≡ 3 → n + left ≡ 2
  one_fewer n left sum = omega arith

  all_sent : (n : ℕ) → n + 0 ≡ 3 → n ≡ 3
  all_sent n sum = omega arith

  -- a commit is in doubt once more
  doubts_again : (left : ℕ) → m.step ≡ step.Commit t.atr t.attempt t.lists → IsInDoubt m.answer.reply → Waits t left mine → Doubts t left m.answer.place (m ∷ mine)
  doubts_again left is doubt waits = record {
    sent = suc waits.sent;
    sum = one_more_try waits.sent left waits.sum;
    tried = record {
      count = sends_more m mine (ap (λ s. is_some (commits s)) is) ∙ ap (λ n. suc n) waits.tried.count;
      tries = (doubted is doubt, waits.tried.tries);
      third = third_unread t.attempt m mine (ap reads_entry is) waits.tried.third;
    };
    lists = inl is;
    doubt = inl (refl, ((t.lists, is), doubt));
  }

  -- it took no effect, and is sent again
  waits_again : (left commit : ℕ) (e : Entry) → ReadsEntry t.atr t.attempt e m → e.state ≢ state.Committed → Doubts t (suc left) commit mine
      → Waits t left (m ∷ mine)
  waits_again left commit e reads apart was = record {
    sent = was.sent;
    sum = one_fewer was.sent left was.sum;
    tried = record {
      count = sends_same m mine (ap (λ s. is_some (commits s)) reads.0) ∙ was.tried.count;
      tries = (vain e reads apart, was.tried.tries);
      third = third_fewer t.attempt was.sent left m mine was.tried.count was.sum was.tried.third;
    };
  }

  -- it took no effect for the third time
  fails_thrice : (commit : ℕ) (e : Entry) → ReadsEntry t.atr t.attempt e m → e.state ≢ state.Committed → Doubts t 0 commit mine → IsInVain t commit (m ∷ mine)
  fails_thrice commit e reads apart was = record {
    third = inl (t.atr, (e, reads, apart), was.tried.count ∙ all_sent was.sent was.sum, undoubted t mine commit was.doubt);
    only = (inr (t.atr, reads.0), each_weaker (λ k. Tries t k) (λ k. Settles t.attempt k) mine (tries_settle t) was.tried.tries);
    last = inr (
      λ it. none-some t.attempt (sym (ap commits reads.0) ∙ it),
      kept_weaker (λ k _. (k.answer.place ≡ commit) × CommitsInDoubt t.atr t.attempt k)
          (λ k _. (k.answer.place ≡ commit) × ((r : ℕ) × CommitsInDoubt r t.attempt k))
          (λ k _. Settles t.attempt k) (λ k _. commits k.step ≡ Some t.attempt) mine (λ k past it. (it.0, (t.atr, it.1))) (λ k past it. inl it) was.doubt,
    );
  }

  -- one more document is published
  publishes_more : (commit at : ℕ) (w : List ℕ × Written) → slice_get t.works at ≡ Some w → m.step ≡ unstage w.0 w.1 → IsPublished m.answer.reply
      → Publishes t commit at mine
      → Publishes t commit (at + 1) (m ∷ mine)
  publishes_more commit at w here is off was =
      let it = unstaging w m is in
      record {
        holds = holds_more t.attempt commit m mine it.no_commit was.holds;
        lists = inr (λ commit_it. none-some t.attempt (sym it.no_commit ∙ commit_it), was.lists);
        resolved = λ d once. ⊎_elim (λ newest. (at, w, this_place at, here, some_same (sym (ap resolves is ∙ content_resolves w.0 w.1.cas w.1.content) ∙ newest)))
            (λ later. let old = was.resolved d later in (old.0, old.1, next_place old.0 at old.2, old.3, old.4)) once;
        undropped = λ once. ⊎_elim (λ newest. none-some t.attempt (sym (ap drops_entry is ∙ content_drops w.0 w.1.cas w.1.content) ∙ newest)) was.undropped once;
        fine = (λ _. not_failed m.answer.reply off, was.fine);
        third = third_unread t.attempt m mine it.no_reading was.third;
      }
    where
      this_place : (n : ℕ) → n < n + 1
      this_place n = omega arith

      next_place : (j n : ℕ) → j < n → j < n + 1
      next_place j n before = omega arith

  -- the call takes what is known from one phase to the next
  pub knows_on : (p q : Phase) → Moves t m p q → Knows t p mine → Knows t q (m ∷ mine)
  knows_on _ _ (commits_it left c is done) waits =
      begins_to_publish m.answer.place waits.sent (told (inl (refl, (t.atr, c, t.lists, is, done)))) (inl is)
      (ap resolves is) (ap drops_entry is) (ap finishes is) waits.tried
      (third_unread t.attempt m mine (ap reads_entry is) waits.tried.third)
  knows_on _ _ (loses_entry left is none) waits = (inl (refl, ap commits is, none), third_unread t.attempt m mine (ap reads_entry is) waits.tried.third)
  knows_on _ _ (doubts left is doubt) waits = doubts_again left is doubt waits
  knows_on _ _ (finds_committed left commit e reads is) was =
      begins_to_publish commit was.sent (read (inl (t.atr, (e, reads, is), was.doubt)))
      (inr (λ it. none-some t.attempt (sym (ap commits reads.0) ∙ it), was.lists)) (ap resolves reads.0) (ap drops_entry reads.0) (ap finishes reads.0) was.tried
      (third_untold t.attempt m mine (λ f shows. ap (λ (u : Entry). u.state) (sym (entry_same e f (sym reads.1 ∙ shows))) ∙ is) was.tried.third)
  knows_on _ _ (sends_again left commit e reads apart) was = waits_again left commit e reads apart was
  knows_on _ _ (gives_up commit e reads apart) was = fails_thrice commit e reads apart was
  knows_on _ _ (stays_unknown left commit is unshown) was = (
    inl (t.atr, refl, is, unshown, was.doubt),
    third_untold t.attempt m mine (λ e shows. absurd (⊎_elim (λ failed. clash e shows failed) (λ none. clash_none e shows none) unshown)) was.tried.third,
  )
    where
      clash : (e : Entry) → m.answer.reply ≡ reply.Entry e → m.answer.reply ≡ reply.Failed → ⊥
      clash e shows failed = cc

      clash_none : (e : Entry) → m.answer.reply ≡ reply.Entry e → m.answer.reply ≡ reply.NoEntry → ⊥
      clash_none e shows none = cc
  knows_on _ _ (publishes commit at w here is off) was = publishes_more commit at w here is off was
  knows_on _ _ (drops commit at past is dropped) was =
      let it = dropping t m is in (
        holds_more t.attempt commit m mine it.no_commit was.holds,
        (inl ((t.atr, is), dropped), (λ _. dropped_fine m.answer.reply dropped, was.fine)),
        third_unread t.attempt m mine it.no_reading was.third,
      )
  knows_on _ _ (fails commit at asked failed) was =
      let it = asked_unstaging t commit at m asked in
      (holds_more t.attempt commit m mine it.no_commit was.holds, inl (it.finishing, failed), third_unread t.attempt m mine it.no_reading was.third)

-- the calls are known at each moment
pub knows : (t : Task) (p : Phase) (mine : List Made) → Runs t p mine → Knows t p mine
knows t _ _ begun = record { sent = 0; sum = refl; tried = record { count = refl; tries = record {}; third = λ third. third } }
knows t _ _ (goes_on p mine m run asked fit) =
    knows_on t m mine p (after t p m.answer.place m.answer.reply) (moves t m p asked fit) (knows t p mine run)

-- what an end says
pub ends_by : (t : Task) (p : Phase) (mine : List Made) (end : FinishEnd) → Runs t p mine → end_in p ≡ Some end → EndsBy t end mine
ends_by t p mine end run ended = by p (knows t p mine run) ended
  where
    by : (q : Phase) → Knows t q mine → end_in q ≡ Some end → EndsBy t end mine
    by (Sending left) known it = absurd (none-some end it)
    by (Reading left commit) known it = absurd (none-some end it)
    by (Going commit at) known it = absurd (none-some end it)
    by (Ended last) known it = subst (λ e. EndsBy t e mine) (some_same it) known

-- there was no third in vain, but where it ended so
pub third_by : (t : Task) (p : Phase) (mine : List Made) → Runs t p mine → ((place : ℕ) → end_in p ≢ Some (NotCommitted place)) → ¬ ThirdInVain t.attempt mine
third_by t p mine run otherwise = by p (knows t p mine run) otherwise
  where
    by_end : (end : FinishEnd) → EndsBy t end mine → ((place : ℕ) → Some end ≢ Some (NotCommitted place)) → ¬ ThirdInVain t.attempt mine
    by_end (Committed place complete) it apart = it.2
    by_end (EntryLost place) it apart = it.1
    by_end (NotCommitted place) it apart = λ third. apart place refl
    by_end (Unknown commit reading) it apart = it.1

    by : (q : Phase) → Knows t q mine → ((place : ℕ) → end_in q ≢ Some (NotCommitted place)) → ¬ ThirdInVain t.attempt mine
    by (Sending left) known apart = known.tried.third
    by (Reading left commit) known apart = known.tried.third
    by (Going commit at) known apart = known.third
    by (Ended end) known apart = by_end end known apart

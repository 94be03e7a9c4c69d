-- Runs in which stops are kept: an actor has a stop where its log tells of one, and made no more calls than that.
use Rattle.std.proofs.Common.{◌≡◌, ◌≢◌, ℕ, suc, zero, Bool, true, false, ◌&&◌, not, inl, inr, List, [], ◌∷◌, ◌+◌, ◌≤◌, length, Some, None, refl, sym, ap, ◌∙◌, subst}
use Rattle.std.specs.List.{list_all}
use Rattle.cbt_expr.specs.declared.plans.ClientPlan.{ClientPlan}
use Rattle.cbt_model.specs.Stops.{stop_of}
use Rattle.cbt_model.specs.declared.entries.Lists.{Lists}
use Rattle.cbt_model.specs.declared.events.Made.{Made}
use Rattle.cbt_model.specs.declared.steps.Reply.TheVariants as reply
use Rattle.cbt_model.specs.declared.steps.Step.TheVariants as step
use Rattle.cbt_book.specs.Cleaners.{AtLast, HasNext}
use Rattle.cbt_book.specs.Closing.{CommitHolds, told, read, IsUndone, unsent, no_entry, dropped, finishes}
use Rattle.cbt_book.specs.OwnLists.{Once, Each, during}
use Rattle.cbt_book.specs.Shown.{adds}
use Rattle.cbt_book.specs.declared.book.Book.{Book}
use Rattle.cbt_book.specs.declared.cleaners.CleanerLog.{CleanerLog}
use Rattle.cbt_book.specs.declared.clients.AttemptEnd.{AttemptEnd}
use Rattle.cbt_book.specs.declared.clients.AttemptEnd.TheVariants as attempt_end
use Rattle.cbt_book.specs.declared.clients.AttemptLog.{AttemptLog}
use Rattle.cbt_book.specs.declared.clients.ClientLog.{ClientLog}
use Rattle.cbt_book.specs.declared.clients.TxnEnd.{TxnEnd}
use Rattle.cbt_book.specs.declared.clients.TxnEnd.TheVariants as txn_end
use Rattle.cbt_book.specs.declared.clients.TxnLog.{TxnLog}
use Rattle.cbt_core.specs.Attempts.{AttemptFollows, Ends, course_of}
use Rattle.cbt_core.specs.Runs.{cleaner_plan, own_of}
use Rattle.cbt_core.specs.Stops.{WasStopped, Asks, HasCall, LastHasCall, StopsKept}
use Rattle.cbt_core.specs.Walk.{AttemptTerms}
use Rattle.cbt_core.specs.WriteSets.{numbered}
use Rattle.cbt_core.specs.declared.case.Case.{Case}
use Rattle.cbt_rows.proofs.Named.{AllBoth, both_numbered, nothing, by_number, not_me}
use Rattle.cbt_rows.proofs.Never.{no_bool, filled, same-number}

-- ---- logs that tell of no stop

abbrev pub is_stopped : TxnEnd → Bool
is_stopped txn_end.Stopped = true
is_stopped _ = false

abbrev pub was_stopped : List TxnLog → Bool
was_stopped [] = false
was_stopped (log ∷ []) = is_stopped log.end
was_stopped (log ∷ next ∷ logs) = was_stopped (next ∷ logs)

was_stopped-told : (logs : List TxnLog) → WasStopped logs → was_stopped logs ≡ true
was_stopped-told [] h = absurd h
was_stopped-told (log ∷ []) h = ap is_stopped h
was_stopped-told (log ∷ next ∷ logs) h = was_stopped-told (next ∷ logs) h

-- a client whose log tells of no stop was not stopped
pub runs_on : {A : Type 0} (logs : List TxnLog) → was_stopped logs ≡ false → WasStopped logs → A
runs_on logs none h = absurd (no_bool (sym (was_stopped-told logs h) ∙ none))

-- no log of a client tells of a stop, and none of a cleaner
abbrev pub clients_run : List ClientLog → Bool
clients_run logs = list_all (λ log. not (was_stopped log.txns)) logs

abbrev pub cleaners_run : List CleanerLog → Bool
cleaners_run logs = list_all (λ log. not log.stopped) logs

some-same : {A : Type 0} {x y : A} → Some x ≡ Some y → x ≡ y
some-same e = cc

both-true : {b c : Bool} → (b && c) ≡ true → (b ≡ true) × (c ≡ true)
both-true {b = true} {c = true} e = (refl, refl)
both-true {b = true} {c = false} e = absurd (no_bool (sym e))
both-true {b = false} {c = true} e = absurd (no_bool (sym e))
both-true {b = false} {c = false} e = absurd (no_bool (sym e))

not-true : {b : Bool} → not b ≡ true → b ≡ false
not-true {b = true} e = absurd (no_bool (sym e))
not-true {b = false} e = refl

-- what is tested of each of a list is so of its n-th
numbered-test : {X : Type 0} (p : X → Bool) (xs : List X) → list_all p xs ≡ true → (n : ℕ) (x : X) → numbered xs n ≡ Some x → p x ≡ true
numbered-test p xs all zero x is = absurd (nothing is)
numbered-test p [] all (suc n) x is = absurd (nothing is)
numbered-test p (y ∷ ys) all (suc zero) x is = ap p (sym (some-same is)) ∙ (both-true all).0
numbered-test p (y ∷ ys) all (suc (suc n)) x is = numbered-test p ys (both-true all).1 (suc n) x is

-- ---- no actor made more calls than its stop names

abbrev pub IsWithin : Case → Book → Type 0
IsWithin case book = (actor most : ℕ) → actor ≤ length case.plans + length case.rounds → stop_of case.stops actor ≡ Some most → length (own_of book actor) ≤ most

within-none : (case : Case) (book : Book) → case.stops ≡ [] → IsWithin case book
within-none case book none actor most is at = absurd (nothing (sym (ap (λ stops. stop_of stops actor) none) ∙ at))

stop-here : (k calls : ℕ) → stop_of ((k, calls) ∷ []) k ≡ Some calls
stop-here k calls = rw (same-number k) refl

stop-elsewhere : (k calls actor : ℕ) → actor ≢ k → stop_of ((k, calls) ∷ []) actor ≡ None
stop-elsewhere k calls actor ne = rw (not_me k actor ne) refl

-- one stop is named, and its actor made no more calls
pub within_one : (case : Case) (book : Book) (k calls : ℕ) → case.stops ≡ (k, calls) ∷ [] → length (own_of book k) ≤ calls → IsWithin case book
within_one case book k calls one few actor most is at =
    by_number (λ a. stop_of ((k, calls) ∷ []) a ≡ Some most → length (own_of book a) ≤ most) k
    (λ here. subst (λ c. length (own_of book k) ≤ c) (some-same (sym (stop-here k calls) ∙ here)) few) actor
    (λ ne. λ there. absurd (nothing (sym (stop-elsewhere k calls actor ne) ∙ there))) (sym (ap (λ stops. stop_of stops actor) one) ∙ at)

-- ---- a run

-- what a client owes that was stopped
abbrev pub ClientKeeps : Case → Book → ℕ → ClientPlan → ClientLog → Type 0
ClientKeeps case book n plan log = WasStopped log.txns → (stop_of case.stops n ≡ Some log.calls) × LastHasCall n case.atrs (own_of book n) 0 1 plan.txns log.txns

-- and a cleaner
abbrev pub CleanerKeeps : Case → Book → ℕ → ℕ → CleanerLog → Type 0
CleanerKeeps case book n rounds log = log.stopped ≡ true → (stop_of case.stops (length case.plans + n) ≡ Some log.calls)
    × AtLast (HasNext (cleaner_plan case n rounds) (own_of book (length case.plans + n))) log.rounds

cleaner-runs : {A : Type 0} (book : Book) → cleaners_run book.cleaners ≡ true → (n : ℕ) (log : CleanerLog) → numbered book.cleaners n ≡ Some log → log.stopped ≡ true → A
cleaner-runs book run n log is stopped = absurd (no_bool (sym stopped ∙ not-true (numbered-test (λ log. not log.stopped) book.cleaners run n log is)))

-- where clients alone have been stopped
pub clients_stopped : (case : Case) (book : Book) → IsWithin case book → cleaners_run book.cleaners ≡ true
    → AllBoth (ClientKeeps case book) 1 case.plans book.clients → StopsKept case book
clients_stopped case book within run clients = record {
  within = within;
  client = both_numbered (ClientKeeps case book) case.plans book.clients clients;
  cleaner = λ n rounds log plan_is is stopped. cleaner-runs book run n log is stopped;
  sweep = λ log is. not-true (numbered-test (λ log. not log.stopped) book.cleaners run (suc (length case.rounds)) log is);
}

-- where nobody has been stopped, nor is any stop named
pub none_stopped : (case : Case) (book : Book) → case.stops ≡ [] → clients_run book.clients ≡ true → cleaners_run book.cleaners ≡ true → StopsKept case book
none_stopped case book none clients cleaners = record {
  within = within-none case book none;
  client = λ n plan log plan_is is stopped.
      runs_on log.txns (not-true (numbered-test (λ log. not (was_stopped log.txns)) book.clients clients n log is)) stopped;
  cleaner = λ n rounds log plan_is is stopped. cleaner-runs book cleaners n log is stopped;
  sweep = λ log is. not-true (numbered-test (λ log. not log.stopped) book.cleaners cleaners (suc (length case.rounds)) log is);
}

-- ---- an attempt that was stopped has no other end

refuted : (a : ℕ) (calls : List Made) → Each (λ m _. adds m.step ≢ Some a) calls → Once (λ m _. adds m.step ≡ Some a) calls → ⊥
refuted a [] none h = h
refuted a (m ∷ calls) none (inl h) = none.0 h
refuted a (m ∷ calls) none (inr h) = refuted a calls none.1 h

unheld : (a place : ℕ) → CommitHolds a place [] → ⊥
unheld a place (told h) = h
unheld a place (read h) = h

undone : (a : ℕ) (calls : List Made) → Once (λ m _. adds m.step ≡ Some a) calls → IsUndone a calls [] → ⊥
undone a calls sent (unsent none closing) = refuted a calls none sent
undone a calls sent (no_entry h) = h
undone a calls sent (dropped h) = h

-- it has sent its entry, and nothing that closes it
open-before : (t : AttemptTerms) (log : AttemptLog) (cut calls : List Made) → Once (λ m _. adds m.step ≡ Some t.id) calls
    → (e : AttemptEnd) → Ends t (course_of t log cut []) calls e → e ≡ attempt_end.Stopped
open-before t log cut calls sent (attempt_end.Committed place complete) (keep, holds, finished) = absurd (unheld t.id place holds)
open-before t log cut calls sent attempt_end.Empty (keep, none, silent) = absurd (refuted t.id calls silent sent)
open-before t log cut calls sent attempt_end.RolledBack (may, back, answered) = absurd (undone t.id calls sent back)
open-before t log cut calls sent (attempt_end.EntryLost place) (keep, h) = absurd h
open-before t log cut calls sent (attempt_end.Unknown commit reading) (keep, h) = absurd h
open-before t log cut calls sent (attempt_end.Incomplete place) (may, h) = absurd h
open-before t log cut calls sent attempt_end.Stopped h = refl

pub stopped_before_closing : (t : AttemptTerms) (l : List Made) (at : ℕ) (log : AttemptLog) (it : AttemptFollows t l at log) → log.end ≡ attempt_end.Stopped → it.closing ≡ []
    → Once (λ m _. adds m.step ≡ Some t.id) (during log.span l) → Asks t l (course_of t log it.cut it.closing) → HasCall t l at log
stopped_before_closing t l at log it stopped none sent asks = record {
  stopped = stopped;
  follows = it;
  unended = λ e h. open-before t log it.cut (during log.span l) sent e (subst (λ closing. Ends t (course_of t log it.cut closing) (during log.span l) e) none h);
  asks = asks;
}

module _ (a r : ℕ) (lists : Lists) (c : ℕ) (m : Made) (is : m.step ≡ step.Commit r a lists) (done : m.answer.reply ≡ reply.Done c) where
  no-drop : {A : Type 0} {q b : ℕ} → m.step ≡ step.DropEntry q b false → A
  no-drop at = absurd (no_bool (ap finishes (sym at ∙ is)))

  no-reading : {A : Type 0} {q b : ℕ} → m.step ≡ step.ReadEntry q b → A
  no-reading at = absurd (differs (sym is ∙ at))
    where
      differs : {q b r a : ℕ} {lists : Lists} → step.Commit r a lists ≡ step.ReadEntry q b → ⊥
      differs e = cc

  no-failure : {A : Type 0} → m.answer.reply ≡ reply.Failed → A
  no-failure at = absurd (differs (sym done ∙ at))
    where
      differs : {c : ℕ} → reply.Done c ≡ reply.Failed → ⊥
      differs e = cc

  no-loss : {A : Type 0} → m.answer.reply ≡ reply.NoEntry → A
  no-loss at = absurd (differs (sym done ∙ at))
    where
      differs : {c : ℕ} → reply.Done c ≡ reply.NoEntry → ⊥
      differs e = cc

  undone-after : (calls : List Made) → Once (λ m _. adds m.step ≡ Some a) calls → IsUndone a calls (m ∷ []) → ⊥
  undone-after calls sent (unsent none closing) = refuted a calls none sent
  undone-after calls sent (no_entry (inl (aborts, lost))) = no-loss lost
  undone-after calls sent (no_entry (inr h)) = h
  undone-after calls sent (dropped (inl ((q, at), answered, aborted))) = no-drop at
  undone-after calls sent (dropped (inr h)) = h

-- it has been told that it is committed, and has made no call after that
pub open_after : (t : AttemptTerms) (log : AttemptLog) (cut calls : List Made) (r c : ℕ) (lists : Lists) (m : Made) → m.step ≡ step.Commit r t.id lists
    → m.answer.reply ≡ reply.Done c → Once (λ m _. adds m.step ≡ Some t.id) calls
    → (e : AttemptEnd) → Ends t (course_of t log cut (m ∷ [])) calls e → e ≡ attempt_end.Stopped
open_after t log cut calls r c lists m is done sent (attempt_end.Committed place true) (keep, holds, (inl ((q, at), drops), fine)) =
    no-drop t.id r lists c m is done at
open_after t log cut calls r c lists m is done sent (attempt_end.Committed place true) (keep, holds, (inr h, fine)) = absurd h
open_after t log cut calls r c lists m is done sent (attempt_end.Committed place false) (keep, holds, inl (finishing, failed)) =
    no-failure t.id r lists c m is done failed
open_after t log cut calls r c lists m is done sent (attempt_end.Committed place false) (keep, holds, inr h) = absurd h
open_after t log cut calls r c lists m is done sent attempt_end.Empty (keep, none, silent) = absurd (filled none)
open_after t log cut calls r c lists m is done sent attempt_end.RolledBack (may, back, answered) = absurd (undone-after t.id r lists c m is done calls sent back)
open_after t log cut calls r c lists m is done sent (attempt_end.EntryLost place) (keep, inl (at, commits, lost)) = no-loss t.id r lists c m is done lost
open_after t log cut calls r c lists m is done sent (attempt_end.EntryLost place) (keep, inr (more, h)) = absurd h
open_after t log cut calls r c lists m is done sent (attempt_end.Unknown commit reading) (keep, inl (q, place, at, answered, earlier)) = no-reading t.id r lists c m is done at
open_after t log cut calls r c lists m is done sent (attempt_end.Unknown commit reading) (keep, inr h) = absurd h
open_after t log cut calls r c lists m is done sent (attempt_end.Incomplete place) (may, inl (at, failed, aborted)) = no-failure t.id r lists c m is done failed
open_after t log cut calls r c lists m is done sent (attempt_end.Incomplete place) (may, inr h) = absurd h
open_after t log cut calls r c lists m is done sent attempt_end.Stopped h = refl

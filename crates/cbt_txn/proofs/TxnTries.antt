-- What the tries of a transaction come to, on its client's own list.
use Rattle.std.proofs.Common.{◌≡◌, ◌≢◌, ℕ, zero, suc, ◌+◌, ◌-◌, ◌≤◌, ◌<◌, true, false, List, [], ◌∷◌, ◌++◌, length, slice_set, Option, Some, None, refl, sym, ap, ◌∙◌, subst, arith}
use Rattle.std.specs.Option.{unwrap_or}
use Rattle.std.proofs.lemmas.Bool.{ltb-false, ltb-true}
use Rattle.std.proofs.lemmas.List.{append_assoc}
use Rattle.cbt_base.specs.Ids.{attempt_number}
use Rattle.cbt_model.specs.declared.events.Made.{Made}
use Rattle.cbt_book.specs.Numbers.{Identity}
use Rattle.cbt_book.specs.OwnLists.{Descends, Once}
use Rattle.cbt_book.specs.Shown.{adds}
use Rattle.cbt_book.specs.Spans.{past_of}
use Rattle.cbt_book.specs.declared.clients.AttemptEnd.TheVariants as attempt_end
use Rattle.cbt_book.specs.declared.clients.AttemptLog.{AttemptLog}
use Rattle.cbt_book.specs.declared.clients.TxnEnd.{TxnEnd}
use Rattle.cbt_book.specs.declared.clients.TxnEnd.TheVariants as txn_end
use Rattle.cbt_core.specs.Attempts.{AttemptFollows}
use Rattle.cbt_core.specs.Transactions as core
use Rattle.cbt_core.specs.Transactions.{TxnTerms, TxnFollows, EndsTxn, HasTry, IsRetried, LastTry, attempt_terms, attempts_end, newest_now, now_before, start_of}
use Rattle.cbt_core.specs.Walk.{AttemptTerms}
use Rattle.cbt_logs.specs.Trying.{BeginsAt, Tried}
use Rattle.cbt_logs.proofs.Closed.{tried_more, txn_over}
use Rattle.cbt_logs.proofs.Snoc.{attempts_end_snoc, length_snoc}
use Rattle.cbt_logs.proofs.Spans.{newest_is}
use Rattle.cbt_txn.specs.Closings as closings
use Rattle.cbt_txn.specs.Closings.{Closes, IsRight, TryFollows, TryHalts, TryMayGoOn, end_in, log_of}
use Rattle.cbt_txn.specs.Transactions.{IsNewestTime, Stands, Tells, Tries, TxnStands, end_without_try, first_time, goes, is_past, is_retried, over, past_start, told_end, txn_log_of, with_last}
use Rattle.cbt_txn.specs.Tries.{outcome}
use Rattle.cbt_txn.specs.declared.transactions.Transaction.{Transaction}
use Rattle.cbt_txn.specs.declared.tries.Closing.{Closing}
use Rattle.cbt_txn.specs.declared.tries.Closing.TheVariants as closing
use Rattle.cbt_txn.specs.declared.tries.Outcome.{Outcome}
use Rattle.cbt_txn.specs.declared.tries.Outcome.TheVariants as outcomes
use Rattle.cbt_txn.specs.declared.tries.Try.{Try}
use Rattle.cbt_txn.proofs.Ending.{last_try}
use Rattle.cbt_txn.proofs.Halting.{try_halts}
use Rattle.cbt_txn.proofs.Retried.{ended_right, ended_unstopped, retried_called}

-- ---- lists

set_at : {X : Type 0} (xs : List X) (old new : X) → slice_set (xs ++ old ∷ []) (length xs) new ≡ xs ++ new ∷ []
set_at [] old new = refl
set_at (x ∷ xs) old new = ap (λ k. x ∷ k) (set_at xs old new)

-- a place in the front of a list
set_front : {X : Type 0} (xs ys : List X) (k : ℕ) (x : X) → k < length xs → slice_set (xs ++ ys) k x ≡ slice_set xs k x ++ ys
set_front [] ys k x within = absurd (omega arith)
set_front (y ∷ xs) ys zero x within = refl
set_front (y ∷ xs) ys (suc k) x within = ap (λ l. y ∷ l) (set_front xs ys k x (omega arith))

one_less : (n m : ℕ) → n ≡ suc m → n - 1 ≡ m
one_less n m is = omega arith

-- the last of these logs is told anew, before a further one
pub told_before : (logs : List AttemptLog) (untold log : AttemptLog) → logs ≢ [] → slice_set (logs ++ untold ∷ []) (length logs - 1) log ≡ with_last logs log ++ untold ∷ []
told_before [] untold log some = absurd (some refl)
told_before (first ∷ logs) untold log some = set_front (first ∷ logs) (untold ∷ []) (length (first ∷ logs) - 1) log (omega arith)

-- the last of these logs is told anew
pub told_last : (tries : List AttemptLog) (untold log : AttemptLog) → with_last (tries ++ untold ∷ []) log ≡ tries ++ log ∷ []
told_last tries untold log =
    ap (λ k. slice_set (tries ++ untold ∷ []) k log) (one_less (length (tries ++ untold ∷ [])) (length tries) (length_snoc tries untold)) ∙ set_at tries untold log

-- ---- when a transaction began

-- the time of the first call is that of the oldest
pub begins_so : (mine : List Made) → BeginsAt (start_of mine) mine
begins_so [] = tt
begins_so (m ∷ mine) = refl

-- what fits a list fits it before its newest call
pub begins_less : (start : ℕ) (m : Made) (mine : List Made) → BeginsAt start (m ∷ mine) → BeginsAt start mine
begins_less start m [] is = tt
begins_less start m (n ∷ mine) is = is

-- where there is a call only the time of the first one fits
pub begins_first : (start : ℕ) (mine : List Made) → mine ≢ [] → BeginsAt start mine → first_time mine ≡ Some start
begins_first start [] some begins = absurd (some refl)
begins_first start (m ∷ mine) some begins = ap Some (sym begins)

-- ---- the try under way

-- it is of the attempt that the terms name
pub try_is : (t : AttemptTerms) (it : Try) (l0 mine : List Made) → TryFollows t it l0 mine → it.operations.attempt.id ≡ t.id
try_is t it l0 mine fol = by it.closing fol.closes
  where
    by : (cl : Closing) → Closes t it l0 mine cl → it.operations.attempt.id ≡ t.id
    by _ (closings.open_yet unset going ops) = ops.under.id_is
    by _ (closings.finishes f calls ops parts unset follows done keep attempt stands going) = follows.under.id_is
    by _ (closings.undoes u own calls commits ops parts follows why attempt is_of stands going) = follows.under.id_is
    by _ (closings.ended end unstopped follows right) = follows.id

-- a try that goes on is told as one that was stopped
pub going_stopped : (it : Try) → outcome it ≡ None → (log_of it).end ≡ attempt_end.Stopped
going_stopped it going = by it.closing going
  where
    by : (cl : Closing) → Rattle.cbt_txn.specs.Tries.outcome_in it cl ≡ None → end_in cl ≡ attempt_end.Stopped
    by closing.Open going = refl
    by (closing.Finish f) going = refl
    by (closing.Undo u) going = refl
    by (closing.Ended end) going = cc

-- another try is due
pub is_again : (o : Option Outcome) → is_retried o ≡ true → o ≡ Some outcomes.Again
is_again None due = cc
is_again (Some outcomes.Again) due = refl
is_again (Some (outcomes.Ends end)) due = cc

-- ---- the log of a transaction

-- its last try has this log, and it ends so
module _ (x : TxnTerms) (txn : Transaction) (before tried this : List Made) (tries : List AttemptLog) (untold : AttemptLog) where
  abbrev l : List Made
  l = this ++ (tried ++ before)

  abbrev log : AttemptLog
  log = log_of txn.trying.it

  abbrev logs : List AttemptLog
  logs = tries ++ log ∷ []

  pub tells_by : (start : ℕ) → Descends l → txn.attempts ≡ tries ++ untold ∷ [] → start ≡ start_of (this ++ tried) → Tried x start before tried tries
      → AttemptFollows (attempt_terms x start (suc (length tries))) l (past_of (tried ++ before)) log → txn.trying.it.past ≡ past_of l
      → EndsTxn x l (start + x.plan.expiry) logs (told_end txn.end) → Tells x txn before (this ++ tried)
  tells_by start falls attempts begins added follows reach ends =
      let same : l ≡ (this ++ tried) ++ before = sym (append_assoc this tried before) in
      let told : with_last txn.attempts log ≡ logs = ap (λ k. with_last k log) attempts ∙ told_last tries untold log in
      let over = txn_over x start before tried this tries log (told_end txn.end) falls begins added follows reach ends in
      record {
        follows = subst (λ k. TxnFollows x k (past_of before) (txn_log_of txn)) same
            (subst (λ k. TxnFollows x l (past_of before) (record { attempts = k; end = told_end txn.end })) (sym told) over);
        reach = ap (attempts_end (past_of before)) told ∙ attempts_end_snoc (past_of before) tries log ∙ reach ∙ ap past_of same;
      }

-- ---- the transaction as it stands

module _ (x : TxnTerms) (txn : Transaction) (before mine : List Made) (falls : Descends (mine ++ before)) (it : Tries x txn before mine) where
  abbrev start : ℕ
  start = start_of mine

  abbrev t : AttemptTerms
  t = attempt_terms x start (suc (length it.tries))

  abbrev l0 : List Made
  l0 = it.tried ++ before

  parts : mine ++ before ≡ it.this ++ l0
  parts = ap (λ k. k ++ before) it.mine_is ∙ append_assoc it.this it.tried before

  pub falls_in_parts : Descends (it.this ++ l0)
  falls_in_parts = subst Descends parts falls

  pub trying_follows : TryFollows t txn.trying.it l0 it.this
  trying_follows = it.follows start (begins_so mine)

  halts : TryHalts t txn.trying.it l0 it.this
  halts = try_halts t txn.trying.it l0 it.this falls_in_parts (try_is t txn.trying.it l0 it.this trying_follows) trying_follows

  pub past_now : txn.trying.it.past ≡ past_of (mine ++ before)
  past_now = halts.past_is ∙ ap past_of (sym parts)

  -- its log so far, with this end
  pub tells_so : (new : Transaction) → new.attempts ≡ txn.attempts → new.trying.it ≡ txn.trying.it
      → EndsTxn x (it.this ++ l0) (start + x.plan.expiry) (it.tries ++ log_of txn.trying.it ∷ []) (told_end new.end) → Tells x new before mine
  tells_so new attempts trying ends =
      subst (λ k. Tells x new before k) (sym it.mine_is)
      (tells_by x new before it.tried it.this it.tries it.untold start falls_in_parts (attempts ∙ it.attempts_are) (ap start_of it.mine_is)
      (it.add_up start (begins_so mine))
      (subst (λ k. AttemptFollows t (it.this ++ l0) (past_of l0) (log_of k)) (sym trying) halts.follows)
      (ap (λ (k : Try). k.past) trying ∙ halts.past_is)
      (subst (λ k. EndsTxn x (it.this ++ l0) (start + x.plan.expiry) (it.tries ++ log_of k ∷ []) (told_end new.end)) (sym trying) ends))

  pub some_attempt : txn.attempts ≢ []
  some_attempt none = snoc_some it.tries it.untold (sym it.attempts_are ∙ none)
    where
      snoc_some : (logs : List AttemptLog) (log : AttemptLog) → logs ++ log ∷ [] ≡ [] → ⊥
      snoc_some [] log none = cc
      snoc_some (first ∷ logs) log none = cc

  -- while a try goes on it may be told as one that was stopped
  pub goes_tells : outcome txn.trying.it ≡ None → txn.end ≡ None → Tells x txn before mine
  goes_tells going unended =
      tells_so txn refl refl
      (subst (EndsTxn x (it.this ++ l0) (start + x.plan.expiry) (it.tries ++ log_of txn.trying.it ∷ [])) (sym (ap told_end unended))
      (core.in_attempt (last_try (λ log. log.end ≡ attempt_end.Stopped) it.tries (log_of txn.trying.it) (going_stopped txn.trying.it going))))

  -- its last try has ended the transaction
  pub ends_tells : (new : Transaction) (end : TxnEnd) → new.attempts ≡ txn.attempts → new.trying.it ≡ txn.trying.it → new.end ≡ Some end
      → outcome txn.trying.it ≡ Some (outcomes.Ends end) → Tells x new before mine
  ends_tells new end attempts trying ended by =
      let right = ended_right t txn.trying.it l0 it.this trying_follows (outcomes.Ends end) by in
      tells_so new attempts trying
      (subst (EndsTxn x (it.this ++ l0) (start + x.plan.expiry) (it.tries ++ log_of txn.trying.it ∷ [])) (sym (ap told_end ended))
      (right x it.tries refl))

  pub ends_unstopped : (end : TxnEnd) → outcome txn.trying.it ≡ Some (outcomes.Ends end) → end ≢ txn_end.Stopped
  ends_unstopped end by = ended_unstopped t txn.trying.it l0 it.this trying_follows end by

  -- ---- where another try is due

  module _ (due : outcome txn.trying.it ≡ Some outcomes.Again) where
    pub retried : IsRetried (log_of txn.trying.it)
    retried = ended_right t txn.trying.it l0 it.this trying_follows outcomes.Again due

    -- the try made a call, so that the transaction has a time
    some_call : mine ≢ []
    some_call none = retried_called t l0 it.this (log_of txn.trying.it) falls_in_parts halts.follows halts.past_is retried (front_none it.this it.tried (sym it.mine_is ∙ none))
      where
        front_none : (xs ys : List Made) → xs ++ ys ≡ [] → xs ≡ []
        front_none [] ys none = refl
        front_none (x ∷ xs) ys none = cc

    pub started : txn.start ≡ Some start
    started = it.start_is ∙ begins_first start mine some_call (begins_so mine)

    pub spent_tells : (new : Transaction) → new.attempts ≡ txn.attempts → new.trying.it ≡ txn.trying.it → new.end ≡ Some txn_end.TriesSpent
        → x.plan.tries ≤ length txn.attempts → Tells x new before mine
    spent_tells new attempts trying ended none_left =
        tells_so new attempts trying
        (subst (EndsTxn x (it.this ++ l0) (start + x.plan.expiry) (it.tries ++ log_of txn.trying.it ∷ [])) (sym (ap told_end ended)) (
          last_try IsRetried it.tries (log_of txn.trying.it) retried,
          spent (length (it.tries ++ log_of txn.trying.it ∷ [])) (length it.tries) (length txn.attempts) x.plan.tries (length_snoc it.tries (log_of txn.trying.it))
              (ap length it.attempts_are ∙ length_snoc it.tries it.untold) (it.add_up start (begins_so mine)).few none_left,
        ))
      where
        spent : (all some attempts most : ℕ) → all ≡ suc some → attempts ≡ suc some → some < most → most ≤ attempts → all ≡ most
        spent all some attempts most all_is attempts_are few none_left = omega arith

    has_try : length txn.attempts < x.plan.tries → HasTry x (it.tries ++ log_of txn.trying.it ∷ [])
    has_try left = record {
      retried = last_try IsRetried it.tries (log_of txn.trying.it) retried;
      left = subst (λ k. k < x.plan.tries) (ap length it.attempts_are ∙ length_snoc it.tries it.untold ∙ sym (length_snoc it.tries (log_of txn.trying.it))) left;
    }

    newest : newest_now (it.this ++ l0) ≡ txn.newest
    newest = ap newest_now (sym parts) ∙ by mine some_call it.now_is
      where
        by : (calls : List Made) → calls ≢ [] → IsNewestTime txn.newest calls → newest_now (calls ++ before) ≡ txn.newest
        by [] some is = absurd (some refl)
        by (m ∷ calls) some is = sym is

    newest_before : now_before (it.this ++ l0) (log_of txn.trying.it).span.to ≡ txn.newest
    newest_before = ap (now_before (it.this ++ l0)) halts.past_is ∙ newest_is (it.this ++ l0) falls_in_parts ∙ newest

    pub late_tells : (new : Transaction) → new.attempts ≡ txn.attempts → new.trying.it ≡ txn.trying.it → new.end ≡ Some (txn_end.Expired txn.newest)
        → length txn.attempts < x.plan.tries → start + x.plan.expiry < txn.newest → Tells x new before mine
    late_tells new attempts trying ended left late =
        tells_so new attempts trying
        (subst (EndsTxn x (it.this ++ l0) (start + x.plan.expiry) (it.tries ++ log_of txn.trying.it ∷ [])) (sym (ap told_end ended))
        (core.before_try (has_try left)
        (last_try (λ log. now_before (it.this ++ l0) log.span.to ≡ txn.newest) it.tries (log_of txn.trying.it) newest_before) late))

    -- a further try is due and left, and did not begin for want of memory
    pub waits_tells : txn.end ≡ None → length txn.attempts < x.plan.tries → Tells x txn before mine
    waits_tells unended left =
        tells_so txn refl refl
        (subst (EndsTxn x (it.this ++ l0) (start + x.plan.expiry) (it.tries ++ log_of txn.trying.it ∷ [])) (sym (ap told_end unended))
        (core.before_try (has_try left)))

    pub in_time_by : (expiry : ℕ) → x.plan.expiry ≡ expiry → is_past txn expiry ≡ false → txn.newest ≤ start + x.plan.expiry
    in_time_by expiry same in_time =
        subst (λ k. txn.newest ≤ start + k) (sym same)
        (ltb-false (start + expiry) txn.newest (sym (ap (λ k. past_start k expiry txn.newest) started) ∙ in_time))

    pub late_by : (expiry : ℕ) → x.plan.expiry ≡ expiry → is_past txn expiry ≡ true → start + x.plan.expiry < txn.newest
    late_by expiry same late =
        subst (λ k. start + k < txn.newest) (sym same)
        (ltb-true (start + expiry) txn.newest (sym (ap (λ k. past_start k expiry txn.newest) started) ∙ late))

    -- a further try has begun
    module _ (new : Transaction) (untold : AttemptLog) (attempts : new.attempts ≡ with_last txn.attempts (log_of txn.trying.it) ++ untold ∷ [])
        (left : length txn.attempts < x.plan.tries) (in_time : txn.newest ≤ start + x.plan.expiry) (start_same : new.start ≡ txn.start) (now_same : new.newest ≡ txn.newest) where
      abbrev logs_now : List AttemptLog
      logs_now = it.tries ++ log_of txn.trying.it ∷ []

      longer : length logs_now ≡ length txn.attempts
      longer = length_snoc it.tries (log_of txn.trying.it) ∙ sym (ap length it.attempts_are ∙ length_snoc it.tries it.untold)

      only : (other : ℕ) → BeginsAt other mine → other ≡ start
      only other begins = some_same (sym (begins_first other mine some_call begins) ∙ begins_first start mine some_call (begins_so mine))
        where
          some_same : {a b : ℕ} → Some a ≡ Some b → a ≡ b
          some_same both = cc

      more : Tried x start before (it.this ++ it.tried) logs_now
      more = tried_more x start before it.tried it.this it.tries (log_of txn.trying.it) falls_in_parts (it.add_up start (begins_so mine)) halts.follows halts.past_is
          retried (subst (λ k. k ≤ start + x.plan.expiry) (sym newest) in_time)
          (subst (λ k. k < x.plan.tries) (ap length it.attempts_are ∙ length_snoc it.tries it.untold) left)

      pub tries_on : ¬ Once (λ m _. adds m.step ≡ Some (attempt_number x.client x.number (suc (length txn.attempts)))) (mine ++ before)
          → ((start : ℕ) → TryFollows (attempt_terms x start (suc (length txn.attempts))) new.trying.it (mine ++ before) []) → Tries x new before mine
      tries_on unsent begun = record {
        tries = logs_now;
        untold = untold;
        tried = mine;
        this = [];
        attempts_are = attempts ∙ ap (λ k. k ++ untold ∷ []) (ap (λ k. with_last k (log_of txn.trying.it)) it.attempts_are ∙ told_last it.tries it.untold (log_of txn.trying.it));
        mine_is = refl;
        start_is = start_same ∙ it.start_is;
        now_is = subst (λ k. IsNewestTime k mine) (sym now_same) it.now_is;
        unsent = subst (λ k. ¬ Once (λ m _. adds m.step ≡ Some (attempt_number x.client x.number (suc k))) (mine ++ before)) (sym longer) unsent;
        add_up = λ other begins. subst (λ k. Tried x k before mine logs_now) (sym (only other begins)) (subst (λ k. Tried x start before k logs_now) (sym it.mine_is) more);
        follows = λ other begins. subst (λ k. TryFollows (attempt_terms x other (suc k)) new.trying.it (mine ++ before) []) (sym longer) (begun other);
      }

-- ---- it ends, or goes on

-- how it ended is told apart from its tries
pub tries_ended : (x : TxnTerms) (txn : Transaction) (before mine : List Made) (end : Option TxnEnd) → Tries x txn before mine
    → Tries x (record txn { end = end }) before mine
tries_ended x txn before mine end it = record {
  tries = it.tries;
  untold = it.untold;
  tried = it.tried;
  this = it.this;
  attempts_are = it.attempts_are;
  mine_is = it.mine_is;
  start_is = it.start_is;
  now_is = it.now_is;
  unsent = it.unsent;
  add_up = it.add_up;
  follows = it.follows;
}

module _ (x : TxnTerms) (txn : Transaction) (before mine : List Made) (falls : Descends (mine ++ before)) (it : Tries x txn before mine) where
  -- where no further try is made
  pub stands_so : (outcome txn.trying.it ≡ Some outcomes.Again → x.plan.tries ≤ length txn.attempts)
      → TxnStands x (record txn { end = end_without_try (outcome txn.trying.it) }) before mine
  stands_so none_left = by (outcome txn.trying.it) refl
    where
      by : (o : Option Outcome) → outcome txn.trying.it ≡ o → Stands x (record txn { end = end_without_try (outcome txn.trying.it) }) before mine (end_without_try o)
      by None is = goes is (tries_ended x txn before mine (end_without_try (outcome txn.trying.it)) it)
      by (Some (outcomes.Ends end)) is =
          over end (ends_unstopped x txn before mine falls it end is) (ends_tells x txn before mine falls it _ end refl refl (ap end_without_try is) is)
      by (Some outcomes.Again) is =
          over txn_end.TriesSpent (λ same. cc) (spent_tells x txn before mine falls it is _ refl refl (ap end_without_try is) (none_left is))

  -- a further try is due and left, and comes too late
  pub stands_late : outcome txn.trying.it ≡ Some outcomes.Again → length txn.attempts < x.plan.tries → start_of mine + x.plan.expiry < txn.newest
      → TxnStands x (record txn { end = Some (txn_end.Expired txn.newest) }) before mine
  stands_late due left late = over (txn_end.Expired txn.newest) (λ same. cc) (late_tells x txn before mine falls it due _ refl refl refl left late)

-- ---- a call was made

-- the time of the first call stands, or is that of this one
pub first_stands : (begun : Option ℕ) (m : Made) (mine : List Made) → begun ≡ first_time mine → first_time (m ∷ mine) ≡ Some (unwrap_or begun m.answer.now)
first_stands begun m mine is = subst (λ k. first_time (m ∷ mine) ≡ Some (unwrap_or k m.answer.now)) (sym is) (by mine)
  where
    by : (calls : List Made) → first_time (m ∷ calls) ≡ Some (unwrap_or (first_time calls) m.answer.now)
    by [] = refl
    by (n ∷ calls) = refl

-- the time of the first call is this one
pub first_start : (start : ℕ) (begun : Option ℕ) (m : Made) (mine : List Made) → begun ≡ first_time mine → BeginsAt start (m ∷ mine)
    → start ≡ unwrap_or begun m.answer.now
first_start start begun m mine is begins = begins ∙ some_same (first_stands begun m mine is)
  where
    some_same : {a b : ℕ} → Some a ≡ Some b → a ≡ b
    some_same both = cc

module _ (x : TxnTerms) (old new : Transaction) (before mine : List Made) (m : Made) (it : Tries x old before mine) where
  abbrev terms_at : ℕ → AttemptTerms
  terms_at start = attempt_terms x start (suc (length it.tries))

  same_list : mine ++ before ≡ it.this ++ (it.tried ++ before)
  same_list = ap (λ k. k ++ before) it.mine_is ∙ append_assoc it.this it.tried before

  pub call_falls : Descends ((m ∷ mine) ++ before) → Descends ((m ∷ it.this) ++ (it.tried ++ before))
  call_falls falls = subst (λ k. Descends (m ∷ k)) same_list falls

  pub trying_may : (who : Identity) → TryMayGoOn who old.trying.it (mine ++ before) → TryMayGoOn who old.trying.it (it.this ++ (it.tried ++ before))
  trying_may who may = subst (λ k. TryMayGoOn who old.trying.it k) same_list may

  -- where no memory was found, it is told as one that was stopped
  pub cut_tells : Descends ((m ∷ mine) ++ before) → new.attempts ≡ old.attempts → new.end ≡ None → new.trying.it.closing ≡ closing.Open
      → TryHalts (terms_at (start_of (m ∷ mine))) new.trying.it (it.tried ++ before) (m ∷ it.this) → Tells x new before (m ∷ mine)
  cut_tells falls attempts unended cut halts =
      subst (λ k. Tells x new before (m ∷ k)) (sym it.mine_is)
      (tells_by x new before it.tried (m ∷ it.this) it.tries it.untold (start_of (m ∷ mine)) (call_falls falls) (attempts ∙ it.attempts_are)
      (ap (λ k. start_of (m ∷ k)) it.mine_is) (it.add_up (start_of (m ∷ mine)) (begins_less (start_of (m ∷ mine)) m mine refl)) halts.follows halts.past_is
      (subst (EndsTxn x ((m ∷ it.this) ++ (it.tried ++ before)) (start_of (m ∷ mine) + x.plan.expiry) (it.tries ++ log_of new.trying.it ∷ []))
      (sym (ap told_end unended))
      (core.in_attempt (last_try (λ log. log.end ≡ attempt_end.Stopped) it.tries (log_of new.trying.it) (ap end_in cut)))))

  pub learns_tries : new.attempts ≡ old.attempts → new.start ≡ first_time (m ∷ mine) → new.newest ≡ m.answer.now
      → ((start : ℕ) → BeginsAt start (m ∷ mine) → TryFollows (terms_at start) new.trying.it (it.tried ++ before) (m ∷ it.this)) → Tries x new before (m ∷ mine)
  learns_tries attempts starts now follows = record {
    tries = it.tries;
    untold = it.untold;
    tried = it.tried;
    this = m ∷ it.this;
    attempts_are = attempts ∙ it.attempts_are;
    mine_is = ap (λ k. m ∷ k) it.mine_is;
    start_is = starts;
    now_is = now;
    unsent = it.unsent;
    add_up = λ start begins. it.add_up start (begins_less start m mine begins);
    follows = follows;
  }

-- ---- the first try

pub begins_tries : (x : TxnTerms) (txn : Transaction) (before : List Made) (untold : AttemptLog) → 0 < x.plan.tries → txn.attempts ≡ untold ∷ [] → txn.start ≡ None
    → ¬ Once (λ m _. adds m.step ≡ Some (attempt_number x.client x.number 1)) before → ((start : ℕ) → TryFollows (attempt_terms x start 1) txn.trying.it before []) → Tries x txn before []
begins_tries x txn before untold some attempts unbegun unsent begun = record {
  tries = [];
  untold = untold;
  tried = [];
  this = [];
  attempts_are = attempts;
  mine_is = refl;
  start_is = unbegun;
  now_is = tt;
  unsent = unsent;
  add_up = λ start begins. record { follow = tt; reach = refl; may = tt; few = some };
  follows = λ start begins. begun start;
}

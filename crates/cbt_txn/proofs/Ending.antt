-- How a try ends, and that what follows it is right.
use Rattle.std.proofs.Common.{◌≡◌, ℕ, suc, ◌-◌, Bool, true, false, List, [], ◌∷◌, ◌++◌, length, drop, slice_get, Some, refl, sym, ap, ◌∙◌, subst, arith}
use Rattle.std.proofs.lemmas.Option.{none-some}
use Rattle.cbt_expr.specs.declared.plans.Op.{Op}
use Rattle.cbt_model.specs.declared.events.Made.{Made}
use Rattle.cbt_book.specs.declared.clients.AttemptEnd.TheVariants as attempt_end
use Rattle.cbt_book.specs.declared.clients.AttemptLog.{AttemptLog}
use Rattle.cbt_book.specs.declared.clients.TxnEnd.TheVariants as txn_end
use Rattle.cbt_book.specs.declared.clients.Why.{Why}
use Rattle.cbt_book.specs.declared.clients.Why.TheVariants as why
use Rattle.cbt_book.specs.declared.operations.OpAnswer.{OpAnswer}
use Rattle.cbt_book.specs.declared.operations.OpAnswer.TheVariants as answer
use Rattle.cbt_book.specs.declared.operations.OpLog.{OpLog}
use Rattle.cbt_core.specs.Attempts.{LastIs, all_good}
use Rattle.cbt_core.specs.Operations.{OpsFollow, is_good}
use Rattle.cbt_core.specs.Transactions as transactions
use Rattle.cbt_core.specs.Transactions.{EndsTxn, IsRetried, LastTry, TxnTerms, is_retried}
use Rattle.cbt_core.specs.Walk.{AttemptTerms, Sofar}
use Rattle.cbt_txn.specs.Closings.{EndsWith, IsRight}
use Rattle.cbt_txn.specs.Tries.{after_answer, after_last, after_log}
use Rattle.cbt_txn.specs.declared.tries.Outcome.{Outcome}
use Rattle.cbt_txn.specs.declared.tries.Outcome.TheVariants as outcomes

-- what is so of the last try of a transaction
pub last_try : (P : AttemptLog → Type 0) (tries : List AttemptLog) (log : AttemptLog) → P log → LastTry P (tries ++ log ∷ [])
last_try P [] log it = it
last_try P (first ∷ []) log it = it
last_try P (first ∷ next ∷ tries) log it = last_try P (next ∷ tries) log it

some_same : {X : Type 0} {x y : X} → Some x ≡ Some y → x ≡ y
some_same both = cc

one_less : (n : ℕ) → suc (suc n) - 1 ≡ suc (suc n - 1)
one_less n = omega arith

-- the last of more than one is the last of those behind the first
behind : (first next : OpLog) (logs : List OpLog)
    → slice_get (first ∷ next ∷ logs) (length (first ∷ next ∷ logs) - 1) ≡ slice_get (next ∷ logs) (length (next ∷ logs) - 1)
behind first next logs = ap (λ k. slice_get (first ∷ next ∷ logs) k) (one_less (length logs))

-- what is so of the last answer
pub last_answer : (P : OpLog → Type 0) (logs : List OpLog) (log : OpLog) → slice_get logs (length logs - 1) ≡ Some log → LastIs P logs → P log
last_answer P [] log at last = absurd last
last_answer P (first ∷ []) log at last = subst P (some_same at) last
last_answer P (first ∷ next ∷ logs) log at last = last_answer P (next ∷ logs) log (sym (behind first next logs) ∙ at) last

pub is_last : (P : OpLog → Type 0) (logs : List OpLog) (log : OpLog) → slice_get logs (length logs - 1) ≡ Some log → P log → LastIs P logs
is_last P [] log at it = absurd (none-some log at)
is_last P (first ∷ []) log at it = subst P (sym (some_same at)) it
is_last P (first ∷ next ∷ logs) log at it = is_last P (next ∷ logs) log (sym (behind first next logs) ∙ at) it

-- there is a last answer
pub some_last : (P : OpLog → Type 0) (logs : List OpLog) → LastIs P logs → (log : OpLog) × (slice_get logs (length logs - 1) ≡ Some log)
some_last P [] last = absurd last
some_last P (first ∷ []) last = (first, refl)
some_last P (first ∷ next ∷ logs) last =
    let found = some_last P (next ∷ logs) last in
    (found.0, behind first next logs ∙ found.1)

-- no more operations are answered than the plan has
pub few_answered : (t : AttemptTerms) (l : List Made) (at n : ℕ) (so : Sofar) (ops : List Op) (logs : List OpLog) → OpsFollow t l at n so ops logs
    → drop (length logs) ops ≡ [] → length logs ≡ length ops
few_answered t l at n so [] [] follow all = refl
few_answered t l at n so (o ∷ ops) [] follow all = cc
few_answered t l at n so [] (log ∷ logs) follow all = absurd follow
few_answered t l at n so (o ∷ ops) (log ∷ logs) follow all = ap suc (few_answered t l log.span.to (suc n) _ ops logs follow.2 all)

-- ---- what follows a try that was rolled back for an answer

-- an answer that is not good is followed by another try, or ends the transaction for its reason
pub data IsFollowed (a : OpAnswer) : Outcome → Type 0 where
  again : is_retried a ≡ true → IsFollowed a outcomes.Again
  fails : (reason : Why) → transactions.Refuses a reason → IsFollowed a (outcomes.Ends (txn_end.Failed reason))

pub followed : (a : OpAnswer) → is_good a ≡ false → IsFollowed a (after_answer a)
followed (answer.Value value read) bad = cc
followed (answer.Staged place base) bad = cc
followed (answer.Unstaged place) bad = cc
followed (answer.DocExists read) bad = fails why.Exists (transactions.exists read)
followed (answer.DocNotFound read) bad = fails why.NotFound (transactions.not_found read)
followed (answer.Blocked by) bad = again refl
followed answer.Moved bad = again refl
followed answer.Contended bad = again refl
followed (answer.CallFailed place) bad = again refl
followed answer.Holds bad = cc
followed answer.NeedFalse bad = fails why.NeedFalse transactions.need_false
followed (answer.BadValue part) bad = fails why.BadValue (transactions.bad_value part)

module _ (t : AttemptTerms) (l : List Made) (log : AttemptLog) where
  -- how the last try ended tells how the transaction may end
  pub ends_committed : (place : ℕ) (complete : Bool) → log.end ≡ attempt_end.Committed place complete → EndsWith t l log (txn_end.Committed complete)
  ends_committed place complete is x tries plan =
      last_try (λ it. (at : ℕ) × (it.end ≡ attempt_end.Committed at complete)) tries log (place, is)

  pub ends_empty : log.end ≡ attempt_end.Empty → EndsWith t l log txn_end.Empty
  ends_empty is x tries plan = last_try (λ it. it.end ≡ attempt_end.Empty) tries log is

  pub ends_unknown : (commit reading : ℕ) → log.end ≡ attempt_end.Unknown commit reading → EndsWith t l log txn_end.Unknown
  ends_unknown commit reading is x tries plan =
      last_try (λ it. (c r : ℕ) × (it.end ≡ attempt_end.Unknown c r)) tries log (commit, reading, is)

  pub ends_failed_call : (place : ℕ) → log.end ≡ attempt_end.Incomplete place → EndsWith t l log (txn_end.CallFailed place)
  ends_failed_call place is x tries plan = last_try (λ it. it.end ≡ attempt_end.Incomplete place) tries log is

  pub ends_rolled_back : log.end ≡ attempt_end.RolledBack → length log.ops ≡ length t.plan.ops → all_good log.ops ≡ true → t.plan.keep ≡ false
      → EndsWith t l log txn_end.RolledBack
  ends_rolled_back is all good unkept x tries plan =
      last_try (λ it. (it.end ≡ attempt_end.RolledBack) × transactions.AnsweredWell x it × (x.plan.keep ≡ false)) tries log
      (is, record { all = all ∙ ap (λ p. length p.ops) (sym plan); good = good }, ap (λ p. p.keep) plan ∙ unkept)

  pub ends_refused : (reason : Why) → log.end ≡ attempt_end.RolledBack → LastIs (λ it. transactions.Refuses it.answer reason) log.ops
      → EndsWith t l log (txn_end.Failed reason)
  ends_refused reason is last x tries plan =
      last_try (λ it. (it.end ≡ attempt_end.RolledBack) × LastIs (λ o. transactions.Refuses o.answer reason) it.ops) tries log (is, last)

  pub ends_late : (now : ℕ) → log.end ≡ attempt_end.RolledBack → transactions.CutAt l t.latest now log → EndsWith t l log (txn_end.Expired now)
  ends_late now is cut x tries plan =
      transactions.in_operation (last_try (λ it. (it.end ≡ attempt_end.RolledBack) × transactions.CutAt l t.latest now it) tries log (is, cut))

  -- what follows a try that was rolled back since its last operation was answered so
  pub right_refused : log.end ≡ attempt_end.RolledBack → LastIs (λ it. is_good it.answer ≡ false) log.ops → IsRight t l log (Some (after_last log.ops))
  right_refused is last =
      let found = some_last (λ it. is_good it.answer ≡ false) log.ops last in
      let bad = last_answer (λ it. is_good it.answer ≡ false) log.ops found.0 found.1 last in
      subst (λ o. IsRight t l log (Some o)) (sym (ap after_log found.1)) (by (after_answer found.0.answer) (followed found.0.answer bad) found.0 refl found.1)
    where
      by : (o : Outcome) → {a : OpAnswer} → IsFollowed a o → (entry : OpLog) → entry.answer ≡ a → slice_get log.ops (length log.ops - 1) ≡ Some entry
          → IsRight t l log (Some o)
      by _ (again retried) entry same at =
          transactions.after_answer is (is_last (λ it. is_retried it.answer ≡ true) log.ops entry at (ap is_retried same ∙ retried))
      by _ (fails reason refuses) entry same at =
          ends_refused reason is (is_last (λ it. transactions.Refuses it.answer reason) log.ops entry at
          (subst (λ a. transactions.Refuses a reason) (sym same) refuses))

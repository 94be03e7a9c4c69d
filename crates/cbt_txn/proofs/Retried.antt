-- A try after which another one is due has made a call, and what follows a try that has ended is right.
use Rattle.std.proofs.Common.{◌≡◌, ◌≢◌, ℕ, suc, ◌-◌, ◌≤◌, Bool, true, false, inl, List, [], ◌∷◌, ◌++◌, length, slice_get, Option, Some, None, Result, Ok, Err, refl, sym, ap, ◌∙◌, subst, arith}
use Rattle.cbt_expr.specs.declared.plans.Op.{Op}
use Rattle.cbt_json.specs.declared.value.Json.{Json}
use Rattle.cbt_model.specs.History.{commits}
use Rattle.cbt_model.specs.declared.documents.OpKind.{OpKind}
use Rattle.cbt_model.specs.declared.documents.Stage.{Stage}
use Rattle.cbt_model.specs.declared.events.Made.{Made}
use Rattle.cbt_model.specs.declared.steps.Reply.TheVariants as reply
use Rattle.cbt_book.specs.Closing.{ThirdInVain}
use Rattle.cbt_book.specs.Outcomes.{ChangesHands, EndsFailed, IsContended}
use Rattle.cbt_book.specs.Outcomes as book
use Rattle.cbt_book.specs.OwnLists.{Descends, In, Kept, during}
use Rattle.cbt_book.specs.Spans.{past_of}
use Rattle.cbt_book.specs.declared.clients.AttemptEnd.{AttemptEnd}
use Rattle.cbt_book.specs.declared.clients.AttemptEnd.TheVariants as attempt_end
use Rattle.cbt_book.specs.declared.clients.AttemptLog.{AttemptLog}
use Rattle.cbt_book.specs.declared.clients.TxnEnd.{TxnEnd}
use Rattle.cbt_book.specs.declared.clients.TxnEnd.TheVariants as txn_end
use Rattle.cbt_book.specs.declared.operations.OpAnswer.{OpAnswer}
use Rattle.cbt_book.specs.declared.operations.OpAnswer.TheVariants as answer
use Rattle.cbt_book.specs.declared.operations.OpLog.{OpLog}
use Rattle.cbt_book.specs.declared.operations.Span.{Span}
use Rattle.cbt_core.specs.Attempts.{AttemptFollows, Ends, LastIs, course_of}
use Rattle.cbt_core.specs.OpAnswers.{Answered, GetAnswered, IsBadValue, TestAnswered, WriteAnswered}
use Rattle.cbt_core.specs.Operations.{OpsFollow, ops_end}
use Rattle.cbt_core.specs.Transactions.{IsRetried, is_retried}
use Rattle.cbt_core.specs.Transactions as transactions
use Rattle.cbt_core.specs.Walk.{AttemptTerms, Request, Sofar, Reads, Tests, Writes, noted, nothing_yet, request_of}
use Rattle.cbt_core.proofs.logs.Calls.{Within, during_in}
use Rattle.cbt_core.proofs.logs.Noted.{ops_low, span_order}
use Rattle.cbt_txn.specs.Closings.{Closes, IsRight, TryFollows, log_of}
use Rattle.cbt_txn.specs.Closings as closings
use Rattle.cbt_txn.specs.Tries.{after_answer, after_end, after_log, after_rollback, outcome, outcome_in}
use Rattle.cbt_txn.specs.declared.operations.Work.{Work}
use Rattle.cbt_txn.specs.declared.operations.Work.TheVariants as work
use Rattle.cbt_txn.specs.declared.tries.Closing.{Closing}
use Rattle.cbt_txn.specs.declared.tries.Outcome.{Outcome}
use Rattle.cbt_txn.specs.declared.tries.Outcome.TheVariants as outcomes
use Rattle.cbt_txn.specs.declared.tries.Try.{Try}

-- ---- without calls

-- no call lies in a span that ends where it begins
none_during : (span : Span) (l : List Made) → span.to ≤ span.from → during span l ≡ []
none_during span l none = by (during span l) (λ m there. nothing m (during_in span m l there))
  where
    nothing : (m : Made) → Within span m l → ⊥
    nothing m it = let low = it.low in let high = it.high in omega arith

    by : (calls : List Made) → ((m : Made) → In m calls → ⊥) → calls ≡ []
    by [] none_in = refl
    by (m ∷ calls) none_in = absurd (none_in m (inl refl))

no_front : (asked older : List Made) → [] ≡ asked ++ older → length asked ≡ 4 → ⊥
no_front [] older is four = cc
no_front (m ∷ asked) older is four = cc

-- without a call no document has changed hands, and no call has failed
no_hands : (d : List ℕ) (n x : ℕ) (stage : Stage) (calls : List Made) → ChangesHands d n x stage calls → calls ≢ []
no_hands d _ _ _ _ (book.once x stage m body reads) none = cc
no_hands d _ _ _ _ (book.again n x y old stage m asked older body reads other seen before) none = cc

uncontended : (d : List ℕ) → IsContended d [] → ⊥
uncontended d it = no_hands d 9 it.0 it.1 [] it.2 refl

unfailed : (place : ℕ) → EndsFailed place [] → ⊥
unfailed place it = let are = it.calls_are in cc

-- so no operation has an answer after which its transaction is tried again
get_unanswered : (so : Sofar) (d : List ℕ) (a : OpAnswer) → GetAnswered so d [] a → is_retried a ≡ true → ⊥
get_unanswered so d answer.Contended answered retried = uncontended d answered.1
get_unanswered so d (answer.CallFailed place) answered retried = unfailed place answered
get_unanswered so d (answer.Blocked by) answered retried = answered
get_unanswered so d answer.Moved answered retried = answered
get_unanswered so d _ answered retried = cc

write_unanswered : (t : AttemptTerms) (l : List Made) (so : Sofar) (d : List ℕ) (kind : OpKind) (content : Option Json) (a : OpAnswer)
    → WriteAnswered t l so d kind content [] a → is_retried a ≡ true → ⊥
write_unanswered t l so d kind content answer.Contended answered retried = uncontended d answered.1
write_unanswered t l so d kind content (answer.CallFailed place) answered retried = unfailed place answered
write_unanswered t l so d kind content (answer.Blocked by) answered retried = no_front answered.asks.asked answered.older answered.asks.calls_are answered.asks.four
write_unanswered t l so d kind content answer.Moved answered retried = let are = answered.calls_are in cc
write_unanswered t l so d kind content _ answered retried = cc

bad_unanswered : (part : ℕ) (a : OpAnswer) → IsBadValue part [] a → is_retried a ≡ true → ⊥
bad_unanswered part answer.Contended answered retried = answered
bad_unanswered part (answer.CallFailed place) answered retried = answered
bad_unanswered part (answer.Blocked by) answered retried = answered
bad_unanswered part answer.Moved answered retried = answered
bad_unanswered part _ answered retried = cc

test_unanswered : (truth : Result Bool ℕ) (a : OpAnswer) → TestAnswered truth a → is_retried a ≡ true → ⊥
test_unanswered truth answer.Contended answered retried = answered
test_unanswered truth (answer.CallFailed place) answered retried = answered
test_unanswered truth (answer.Blocked by) answered retried = answered
test_unanswered truth answer.Moved answered retried = answered
test_unanswered truth _ answered retried = cc

unanswered : (t : AttemptTerms) (l : List Made) (so : Sofar) (r : Request) (a : OpAnswer) → Answered t l so r [] a → is_retried a ≡ true → ⊥
unanswered t l so (Reads d name) a answered retried = get_unanswered so d a answered retried
unanswered t l so (Writes d kind (Ok content)) a answered retried = write_unanswered t l so d kind content a answered retried
unanswered t l so (Writes d kind (Err part)) a answered retried = bad_unanswered part a answered retried
unanswered t l so (Tests truth) a answered retried = test_unanswered truth a answered retried

last_unanswered : (t : AttemptTerms) (l : List Made) (at n : ℕ) (so : Sofar) (ops : List Op) (logs : List OpLog) → OpsFollow t l at n so ops logs
    → ops_end at logs ≤ at → LastIs (λ it. is_retried it.answer ≡ true) logs → ⊥
last_unanswered t l at n so ops [] follow low last = last
last_unanswered t l at n so [] (log ∷ logs) follow low last = follow
last_unanswered t l at n so (o ∷ ops) (log ∷ []) follow low last =
    let begins = follow.0.spanned.follows in
    let none : during log.span l ≡ [] = none_during log.span l (omega arith) in
    unanswered t l so (request_of so.bound o) log.answer (subst (λ k. Answered t l so (request_of so.bound o) k log.answer) none follow.0.answered) last
last_unanswered t l at n so (o ∷ ops) (log ∷ next ∷ logs) follow low last =
    let begins = follow.0.spanned.follows in
    let ordered = span_order l at log.span follow.0.spanned in
    last_unanswered t l log.span.to (suc n) (noted o log so) ops (next ∷ logs) follow.2 (omega arith) last

front_empty : (xs ys : List Made) → xs ++ ys ≡ [] → xs ≡ []
front_empty [] ys none = refl
front_empty (x ∷ xs) ys none = cc

-- a try after which another one is due has made a call
pub retried_called : (t : AttemptTerms) (l0 this : List Made) (log : AttemptLog) → Descends (this ++ l0) → AttemptFollows t (this ++ l0) (past_of l0) log
    → log.span.to ≡ past_of (this ++ l0) → IsRetried log → this ≢ []
retried_called t l0 this log falls follows reach retried none = by retried
  where
    ends : log.span.to ≡ past_of l0
    ends = reach ∙ ap (λ k. past_of (k ++ l0)) none

    unclosed : follows.closing ≡ []
    unclosed =
        let begins = ops_low t (this ++ l0) (past_of l0) 1 nothing_yet t.plan.ops log.ops follows.ops in
        front_empty follows.closing follows.cut
        (sym follows.rest ∙ none_during (record { from = ops_end (past_of l0) log.ops; to = log.span.to }) (this ++ l0) (omega (arith, ends)))

    by : IsRetried log → ⊥
    by (transactions.after_answer ended last) =
        let held = follows.held in
        last_unanswered t (this ++ l0) (past_of l0) 1 nothing_yet t.plan.ops log.ops follows.ops (omega (arith, ends)) last
    by (transactions.after_commits ended set) = subst (λ k. ThirdInVain t.id k) unclosed (follows.third.0 set)
    by (transactions.after_loss place ended) =
        let lost = subst (λ e. Ends t (course_of t log follows.cut follows.closing) (during log.span (this ++ l0)) e) ended follows.ends in
        subst (λ k. Kept (λ m _. (m.answer.place ≡ place) × (commits m.step ≡ Some t.id) × (m.answer.reply ≡ reply.NoEntry)) (λ m _. commits m.step ≡ Some t.id) k) unclosed lost.1

-- ---- what follows a try that has ended

some_same : {X : Type 0} {x y : X} → Some x ≡ Some y → x ≡ y
some_same both = cc

none_is : {X : Type 0} {x : X} {P : Type 0} → None ≡ Some x → P
none_is both = cc

-- no try is followed by a transaction that was stopped
answer_unstopped : (a : OpAnswer) (end : TxnEnd) → after_answer a ≡ outcomes.Ends end → end ≢ txn_end.Stopped
answer_unstopped (answer.DocNotFound read) end is stopped = cc
answer_unstopped (answer.DocExists read) end is stopped = cc
answer_unstopped answer.NeedFalse end is stopped = cc
answer_unstopped (answer.BadValue part) end is stopped = cc
answer_unstopped _ end is stopped = cc

log_unstopped : (log : Option OpLog) (end : TxnEnd) → after_log log ≡ outcomes.Ends end → end ≢ txn_end.Stopped
log_unstopped None end is stopped = cc
log_unstopped (Some log) end is stopped = answer_unstopped log.answer end is stopped

rollback_unstopped : (vain : Bool) (w : Work) (logs : List OpLog) (end : TxnEnd) → after_rollback vain w logs ≡ outcomes.Ends end → end ≢ txn_end.Stopped
rollback_unstopped true w logs end is stopped = cc
rollback_unstopped false (work.Late now) logs end is stopped = cc
rollback_unstopped false work.Refused logs end is stopped = log_unstopped (slice_get logs (length logs - 1)) end is stopped
rollback_unstopped false _ logs end is stopped = cc

end_unstopped : (it : Try) (last : AttemptEnd) (end : TxnEnd) → last ≢ attempt_end.Stopped → after_end it last ≡ outcomes.Ends end → end ≢ txn_end.Stopped
end_unstopped it attempt_end.RolledBack end unstopped is stopped =
    rollback_unstopped it.not_committed it.operations.work it.operations.logs end is stopped
end_unstopped it attempt_end.Stopped end unstopped is stopped = unstopped refl
end_unstopped it _ end unstopped is stopped = cc

pub ended_unstopped : (t : AttemptTerms) (it : Try) (l0 mine : List Made) → TryFollows t it l0 mine → (end : TxnEnd) → outcome it ≡ Some (outcomes.Ends end)
    → end ≢ txn_end.Stopped
ended_unstopped t it l0 mine fol end is = by it.closing fol.closes is
  where
    by : (cl : Closing) → Closes t it l0 mine cl → outcome_in it cl ≡ Some (outcomes.Ends end) → end ≢ txn_end.Stopped
    by _ (closings.open_yet unset going ops) ends = none_is ends
    by _ (closings.finishes f calls ops parts unset follows done keep attempt stands going) ends = none_is ends
    by _ (closings.undoes u own calls commits ops parts follows why attempt is_of stands going) ends = none_is ends
    by _ (closings.ended last unstopped follows right) ends = end_unstopped it last end unstopped (some_same ends)

-- and what follows is right
pub ended_right : (t : AttemptTerms) (it : Try) (l0 mine : List Made) → TryFollows t it l0 mine → (o : Outcome) → outcome it ≡ Some o
    → IsRight t (mine ++ l0) (log_of it) (Some o)
ended_right t it l0 mine fol o is = by it.closing fol.closes is
  where
    by : (cl : Closing) → Closes t it l0 mine cl → outcome_in it cl ≡ Some o → IsRight t (mine ++ l0) (log_of it) (Some o)
    by _ (closings.open_yet unset going ops) ends = none_is ends
    by _ (closings.finishes f calls ops parts unset follows done keep attempt stands going) ends = none_is ends
    by _ (closings.undoes u own calls commits ops parts follows why attempt is_of stands going) ends = none_is ends
    by _ (closings.ended last unstopped follows right) ends = subst (λ k. IsRight t (mine ++ l0) (log_of it) k) is right

-- Operations whose request is known, as the written expressions do not compute by themselves.
use Rattle.std.proofs.Common.{◌≡◌, ℕ, ◌≤◌, true, List, Option, Some, None, Ok, Err, ap, sym, subst, ◌∙◌}
use Rattle.std.specs.Option.{option_map}
use Rattle.cbt_json.specs.declared.value.Json.{Json}
use Rattle.cbt_expr.specs.Values.{value_of}
use Rattle.cbt_expr.specs.declared.expressions.Expr.{Expr}
use Rattle.cbt_expr.specs.declared.plans.Op.{Op}
use Rattle.cbt_expr.specs.declared.plans.Op.TheVariants as op
use Rattle.cbt_model.specs.History.{is_done}
use Rattle.cbt_model.specs.declared.documents.OpKind.TheVariants.{Insert, Replace}
use Rattle.cbt_model.specs.declared.events.Made.{Made}
use Rattle.cbt_model.specs.declared.steps.Reply.TheVariants as reply
use Rattle.cbt_book.specs.OwnLists.{Each, during}
use Rattle.cbt_book.specs.Spans.{IsSpan}
use Rattle.cbt_book.specs.declared.operations.OpAnswer.TheVariants as answer
use Rattle.cbt_book.specs.declared.operations.OpLog.{OpLog}
use Rattle.cbt_core.specs.Committed.{applied}
use Rattle.cbt_core.specs.OpAnswers.{Answered}
use Rattle.cbt_core.specs.OpCalls.{OpCalls}
use Rattle.cbt_core.specs.Operations.{OpFollows, StandsAt}
use Rattle.cbt_core.specs.Walk.{AttemptTerms, Sofar, Request, Writes, content_of, request_of, noted, noted_as}
use Rattle.cbt_rows.proofs.WrittenValues.{value-n1, value-n2, value-n3, value-n9, value-got2, value-got3, value-more-n1, value-more-n2, value-n-none}
use Rattle.cbt_rows.specs.Words.{name_x, n, got}
use Rattle.cbt_rows.specs.Written.{n_of, n_x, got_x, one_more}

-- the log of an operation that asks for this
pub record FollowsAs (t : AttemptTerms) (l : List Made) (at n : ℕ) (so : Sofar) (q : Request) (log : OpLog) : Type 0 where
  pub counted : log.op ≡ n
  pub spanned : IsSpan l at log.span
  pub answered : Answered t l so q (during log.span l) log.answer
  pub calls : OpCalls t so q (during log.span l)
  pub stands : Each (λ m _. is_done m.answer.reply ≡ true → StandsAt m.answer.place log.answer m.step) (during log.span l)
  pub failed : Each (λ m _. m.answer.reply ≡ reply.Failed → log.answer ≡ answer.CallFailed m.answer.place) (during log.span l)
  pub in_time : Each (λ m _. m.answer.now ≤ t.latest) (during log.span l)

-- after so much an operation asks for this
pub record Asks (so : Sofar) (o : Op) (q : Request) : Type 0 where
  pub is : request_of so.bound o ≡ q

-- the calls of an operation are those of what it asks for
pub calls_as : (t : AttemptTerms) (calls : List Made) {so : Sofar} {o : Op} {q : Request} → Asks so o q → OpCalls t so q calls
    → OpCalls t so (request_of so.bound o) calls
calls_as t calls {so} asks it = subst (λ r. OpCalls t so r calls) (sym asks.is) it

-- an operation follows by what it asks for
pub follows_as : {t : AttemptTerms} {l : List Made} {at n : ℕ} {so : Sofar} {o : Op} {q : Request} {log : OpLog} → Asks so o q
    → FollowsAs t l at n so q log → OpFollows t l at n so o log
follows_as {t} {l} {at} {n} {so} {o} {q} {log} asks it = record {
  counted = it.counted;
  spanned = it.spanned;
  answered = subst (λ r. Answered t l so r (during log.span l) log.answer) (sym asks.is) it.answered;
  calls = calls_as t (during log.span l) asks it.calls;
  stands = it.stands;
  failed = it.failed;
  in_time = it.in_time;
}

-- and is answered by it
pub answered_as : {t : AttemptTerms} {l : List Made} {at n : ℕ} {so : Sofar} {o : Op} {q : Request} {log : OpLog} → Asks so o q
    → OpFollows t l at n so o log → Answered t l so q (during log.span l) log.answer
answered_as {t} {l} {at} {n} {so} {o} {q} {log} asks it = subst (λ r. Answered t l so r (during log.span l) log.answer) asks.is it.answered

-- the same after as much, in other words
pub follows_after : {t : AttemptTerms} {l : List Made} {at n : ℕ} {so now : Sofar} {o : Op} {log : OpLog} → so ≡ now
    → OpFollows t l at n now o log → OpFollows t l at n so o log
follows_after {t} {l} {at} {n} {so} {now} {o} {log} is it = subst (λ s. OpFollows t l at n s o log) (sym is) it

-- what the answer to a request adds
pub noted_by : (so : Sofar) {o : Op} {q : Request} → Asks so o q → (log : OpLog) → noted o log so ≡ noted_as q log.span log.answer so
noted_by so {o} {q} asks log = ap (λ r. noted_as r log.span log.answer so) asks.is

-- and behind others
pub then_noted : {so between : Sofar} {o : Op} {q : Request} → so ≡ between → Asks between o q → (log : OpLog)
    → noted o log so ≡ noted_as q log.span log.answer between
then_noted {so} {between} {o} is asks log = ap (noted o log) is ∙ noted_by between asks log

-- what an attempt's answers leave of a document
abbrev pub left_of : Sofar → List ℕ → Option (Option Json)
left_of so d = option_map (λ w. w.content) (so.own d)

pub left_by : {so now : Sofar} → so ≡ now → (d : List ℕ) → left_of so d ≡ left_of now d
left_by is d = ap (λ s. left_of s d) is

-- a document in the table after a commit
pub table_by : {so now : Sofar} → so ≡ now → (d : List ℕ) (old : Option Json) → applied (left_of so d) old ≡ applied (left_of now d) old
table_by is d old = ap (λ s. applied (left_of s d) old) is

-- ---- the requests of the written operations

pub inserts : {so : Sofar} {e : Expr} {v : Json} → value_of so.bound e ≡ Ok v → (d : List ℕ) → Asks so (op.Insert d e) (Writes d Insert (Ok (Some v)))
inserts is d = record { is = ap (λ r. Writes d Insert (content_of r)) is }

pub inserts-n1 : {so : Sofar} (d : List ℕ) → Asks so (op.Insert d (n_of 1)) (Writes d Insert (Ok (Some (n 1))))
inserts-n1 {so} = inserts (value-n1 so.bound)

pub inserts-n2 : {so : Sofar} (d : List ℕ) → Asks so (op.Insert d (n_of 2)) (Writes d Insert (Ok (Some (n 2))))
inserts-n2 {so} = inserts (value-n2 so.bound)

pub inserts-n9 : {so : Sofar} (d : List ℕ) → Asks so (op.Insert d (n_of 9)) (Writes d Insert (Ok (Some (n 9))))
inserts-n9 {so} = inserts (value-n9 so.bound)

pub replaces : {so : Sofar} {e : Expr} {v : Json} → value_of so.bound e ≡ Ok v → (d : List ℕ)
    → Asks so (op.Replace d e) (Writes d Replace (Ok (Some v)))
replaces is d = record { is = ap (λ r. Writes d Replace (content_of r)) is }

pub replaces-n1 : {so : Sofar} (d : List ℕ) → Asks so (op.Replace d (n_of 1)) (Writes d Replace (Ok (Some (n 1))))
replaces-n1 {so} = replaces (value-n1 so.bound)

pub replaces-n2 : {so : Sofar} (d : List ℕ) → Asks so (op.Replace d (n_of 2)) (Writes d Replace (Ok (Some (n 2))))
replaces-n2 {so} = replaces (value-n2 so.bound)

pub replaces-n3 : {so : Sofar} (d : List ℕ) → Asks so (op.Replace d (n_of 3)) (Writes d Replace (Ok (Some (n 3))))
replaces-n3 {so} = replaces (value-n3 so.bound)

-- of these two over what was bound to `x`
pub inserts-got2 : {so : Sofar} (d : List ℕ) → so.bound name_x ≡ Some (n 2) → Asks so (op.Insert d got_x) (Writes d Insert (Ok (Some (got 2))))
inserts-got2 {so} d is = inserts (value-got2 so.bound is) d

pub inserts-got3 : {so : Sofar} (d : List ℕ) → so.bound name_x ≡ Some (n 3) → Asks so (op.Insert d got_x) (Writes d Insert (Ok (Some (got 3))))
inserts-got3 {so} d is = inserts (value-got3 so.bound is) d

pub replaces-more-n1 : {so : Sofar} (d : List ℕ) → so.bound name_x ≡ Some (n 0) → Asks so (op.Replace d one_more) (Writes d Replace (Ok (Some (n 1))))
replaces-more-n1 {so} d is = replaces (value-more-n1 so.bound is) d

pub replaces-more-n2 : {so : Sofar} (d : List ℕ) → so.bound name_x ≡ Some (n 1) → Asks so (op.Replace d one_more) (Writes d Replace (Ok (Some (n 2))))
replaces-more-n2 {so} d is = replaces (value-more-n2 so.bound is) d

-- an insert whose expression has no value
pub inserts-n-none : {so : Sofar} (d : List ℕ) → so.bound name_x ≡ None → Asks so (op.Insert d n_x) (Writes d Insert (Err 1))
inserts-n-none {so} d none = record { is = ap (λ r. Writes d Insert (content_of r)) (value-n-none so.bound none) }

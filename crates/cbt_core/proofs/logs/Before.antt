-- What the calls of an attempt before one of its operations, and in it, have done.
use Rattle.std.proofs.Common.{◌≡◌, ◌≢◌, ℕ, ◌<◌, ◌≤◌, true, inl, inr, ⊎_elim, List, Some, refl, sym, ap, ◌∙◌, subst, arith, Ok, Err}
use Rattle.std.proofs.lemmas.Bool.{cases_lt}
use Rattle.std.proofs.lemmas.Option.{none-some}
use Rattle.cbt_expr.specs.declared.plans.Op.{Op}
use Rattle.cbt_model.specs.History.{is_done}
use Rattle.cbt_model.specs.Table.{touches_doc}
use Rattle.cbt_model.specs.declared.events.Made.{Made}
use Rattle.cbt_model.specs.declared.steps.Reply.TheVariants as reply
use Rattle.cbt_model.specs.declared.steps.Step.{Step}
use Rattle.cbt_model.specs.declared.steps.Step.TheVariants as step
use Rattle.cbt_book.specs.OwnLists.{In, during}
use Rattle.cbt_book.specs.Calls.{MayGet, MayWrite, writes_doc, WriteTerms}
use Rattle.cbt_book.specs.declared.book.Book.{Book}
use Rattle.cbt_book.specs.declared.operations.OpAnswer.TheVariants as answer
use Rattle.cbt_book.specs.declared.operations.OpLog.{OpLog}
use Rattle.cbt_core.specs.OpCalls.{OpCalls, write_terms}
use Rattle.cbt_core.specs.Right.{IsAnswer}
use Rattle.cbt_core.specs.Runs.{IsLegalRun, LogsFollow, own_of}
use Rattle.cbt_core.specs.Walk.{AttemptTerms, Sofar, Request, Reads, Writes, Tests, request_of, walked, nothing_yet}
use Rattle.cbt_core.specs.declared.case.Case.{Case}
use Rattle.cbt_core.proofs.logs.Calls.{in_empty, in_during, after_gap, each_of}
use Rattle.cbt_core.proofs.logs.Find.{find_op, none_failed}
use Rattle.cbt_core.proofs.logs.Index.{OpOf, op_of_run}
use Rattle.cbt_core.proofs.logs.Noted.{WritesDone, IsNoted, noted_all, noted_none, ops_low}
use Rattle.cbt_core.proofs.runs.Past.{some_same}

-- the calls of an operation that change a document are its stagings and unsticks
get_touches : (q d : List ℕ) (st : Step) → MayGet q st → touches_doc st ≡ Some d → ⊥
get_touches q d (step.ReadDoc p) may touches = none-some d touches
get_touches q d (step.ReadEntry r a) may touches = none-some d touches
get_touches q d _ may touches = may

pub write_touches : (t : WriteTerms) (q d : List ℕ) (m : Made) (st : Step) → m.step ≡ st → MayWrite t q st → touches_doc st ≡ Some d → (writes_doc st ≡ true) × (is_done m.answer.reply ≡ true → WritesDone d m)
write_touches t q d m (step.Stage p ex stage) is may touches =
    (refl, λ done. inl (record { expects = ex; stage = stage; is = is ∙ ap (λ x. step.Stage x ex stage) (some_same touches); done = done }))
write_touches t q d m (step.Unstick p x) is may touches = (refl, λ done. inr (record { cas = x; is = is ∙ ap (λ y. step.Unstick y x) (some_same touches); done = done }))
write_touches t q d m (step.ReadDoc p) is may touches = absurd (none-some d touches)
write_touches t q d m (step.ReadEntry r a) is may touches = absurd (none-some d touches)
write_touches t q d m (step.AddEntry r a exp) is may touches = absurd (none-some d touches)
write_touches t q d m _ is may touches = absurd may

op_touches : (t : AttemptTerms) (so : Sofar) (r : Request) (calls : List Made) (d : List ℕ) (m : Made) → OpCalls t so r calls → In m calls → touches_doc m.step ≡ Some d → is_done m.answer.reply ≡ true → WritesDone d m
op_touches t so (Reads q name) calls d m may there touches done = absurd (get_touches q d m.step (each_of (λ x. MayGet q x.step) calls m may.only there) touches)
op_touches t so (Writes q kind (Ok content)) calls d m may there touches done =
    (write_touches (write_terms t) q d m m.step refl (each_of (λ x. MayWrite (write_terms t) q x.step) calls m may.0.only there) touches).1 done
op_touches t so (Writes q kind (Err part)) calls d m may there touches done = absurd (in_empty m calls may there)
op_touches t so (Tests truth) calls d m may there touches done = absurd (in_empty m calls may there)

module _ (case : Case) (book : Book) (legal : IsLegalRun case book) (follow : LogsFollow case book)
    (client txn try_no n : ℕ) (o : Op) (log : OpLog) (so : Sofar) (it : IsAnswer case book client txn try_no n o log so) where
  abbrev own_list : List Made
  own_list = own_of book client

  pub op_here : OpOf case book legal follow client txn try_no it.plan it.attempt o log so
  op_here = op_of_run case book legal follow client txn try_no n o log so it

  pub from_at : op_here.from ≤ op_here.at
  from_at = let a = op_here.at_is in let b = ops_low op_here.t own_list op_here.from 1 nothing_yet op_here.ops op_here.logs op_here.before in omega arith

  -- what the answers before it add up to, told by the calls
  pub noted_before : IsNoted op_here.t own_list op_here.from op_here.at so
  noted_before =
      subst (λ s. IsNoted op_here.t own_list op_here.from op_here.at s) (sym op_here.so_is)
      (subst (λ i. IsNoted op_here.t own_list op_here.from i (walked op_here.ops op_here.logs nothing_yet)) (sym op_here.at_is)
      (noted_all op_here.t own_list op_here.from op_here.from 1 nothing_yet op_here.ops op_here.logs op_here.before (omega arith) (noted_none op_here.t own_list op_here.from)))

  -- what was done to a document by a call before it is a staging or an unstick
  pub early_writes : (d : List ℕ) (m : Made) → In m own_list → op_here.from ≤ m.answer.place → m.answer.place < op_here.at → touches_doc m.step ≡ Some d → is_done m.answer.reply ≡ true → WritesDone d m
  early_writes d m there low high touches done =
      let home = find_op op_here.t own_list op_here.from 1 nothing_yet op_here.ops op_here.logs m op_here.before there low (let a = op_here.at_is in omega arith) in
      op_touches op_here.t home.sofar (request_of home.sofar.bound home.op) (during home.log.span own_list) d m home.follows.calls home.inside touches done

  -- a call of the operation
  pub in_op : (m : Made) → In m own_list → op_here.at ≤ m.answer.place → m.answer.place < log.span.to → In m (during log.span own_list)
  in_op m there low high = in_during log.span m own_list there (after_gap own_list op_here.at log.span m op_here.follows.spanned there low) high

  -- no call failed, where the operation was not answered so
  pub none_failed_yet : ((place : ℕ) → log.answer ≢ answer.CallFailed place) → (m : Made) → In m own_list → op_here.from ≤ m.answer.place → m.answer.place < log.span.to → m.answer.reply ≢ reply.Failed
  none_failed_yet other m there low high = λ failed.
      ⊎_elim (λ (early : m.answer.place < op_here.at).
      none_failed op_here.t own_list op_here.from 1 nothing_yet op_here.ops op_here.logs m op_here.before op_here.good there low (let a = op_here.at_is in omega arith) failed)
      (λ (late : op_here.at ≤ m.answer.place).
      other m.answer.place
      (each_of (λ x. x.answer.reply ≡ reply.Failed → log.answer ≡ answer.CallFailed x.answer.place) (during log.span own_list) m op_here.follows.failed (in_op m there late high) failed))
      (cases_lt m.answer.place op_here.at)

-- What stands once the answer to a call was taken in, and what the calls of an operation are that goes on or comes back late.
use Rattle.std.proofs.Common.{◌≡◌, ℕ, ◌+◌, ◌<◌, Bool, true, false, cond, ⊎_elim, List, [], ◌∷◌, ◌++◌, count_by, Option, Some, None, ◌⊎◌, refl, sym, ap, ◌∙◌, subst, arith}
use Rattle.std.proofs.lemmas.List.{append-nil}
use Rattle.std.proofs.lemmas.Option.{none-some}
use Rattle.cbt_expr.specs.declared.plans.Op.{Op}
use Rattle.cbt_model.specs.Fitting.{fits}
use Rattle.cbt_model.specs.declared.documents.OpKind.{OpKind}
use Rattle.cbt_model.specs.declared.events.Answer.{Answer}
use Rattle.cbt_model.specs.declared.events.Made.{Made}
use Rattle.cbt_model.specs.declared.steps.Expect.TheVariants as expect
use Rattle.cbt_model.specs.declared.steps.Step.{Step}
use Rattle.cbt_model.specs.declared.steps.Step.TheVariants as step
use Rattle.cbt_book.specs.Calls.{GetCalls, WriteCalls, WriteTerms, reads_doc}
use Rattle.cbt_book.specs.OwnLists.{Each}
use Rattle.cbt_book.specs.Spans.{past_of}
use Rattle.cbt_core.specs.OpAnswers.{agrees_last}
use Rattle.cbt_core.specs.OpCalls.{OpCalls, ReadsAnew, write_terms}
use Rattle.cbt_core.specs.OpCalls as op_calls
use Rattle.cbt_core.specs.Walk.{AttemptTerms, Sofar}
use Rattle.cbt_core.proofs.runs.Past.{some_same}
use Rattle.cbt_attempt.specs.Notes.{stage_of}
use Rattle.cbt_attempt.specs.declared.attempt.Attempt.{Attempt}
use Rattle.cbt_logs.specs.Operating.{Operates, Told, asked, sofar}
use Rattle.cbt_read.proofs.Stands as get_stands
use Rattle.cbt_stage.specs.PutCalls.{PutCalls}
use Rattle.cbt_stage.specs.Rewrites.{asked_by, asked_for, call_of}
use Rattle.cbt_stage.specs.declared.agains.Again.{Again}
use Rattle.cbt_stage.specs.declared.ends.PutEnd.{PutEnd}
use Rattle.cbt_stage.specs.declared.puts.Put.{Put}
use Rattle.cbt_stage.specs.declared.rewrites.Rewrite.{Rewrite}
use Rattle.cbt_stage.proofs.Counting.{counts_not, put_calls}
use Rattle.cbt_stage.proofs.Joining.{own_calls, write_calls}
use Rattle.cbt_stage.proofs.Rewriting as again_stands
use Rattle.cbt_stage.proofs.Stands as put_stands
use Rattle.cbt_txn.specs.Feeding.{first_with}
use Rattle.cbt_txn.specs.Following.{Follows, IsUnder, PutsOn, Works, first_place}
use Rattle.cbt_txn.specs.Following as following
use Rattle.cbt_txn.specs.Works.{step_of}
use Rattle.cbt_txn.specs.declared.operations.Operations.{Operations}
use Rattle.cbt_txn.specs.declared.operations.Work.{Work}
use Rattle.cbt_txn.specs.declared.operations.Work.TheVariants as work
use Rattle.cbt_txn.proofs.Readings.{get_writes}

abbrev pub made_of : Step → Answer → Made
made_of s ans = record { step = s; answer = ans }

-- the operations once the answer at this place was taken in, with what the attempt noted
abbrev pub taken_in : Operations → ℕ → Attempt → Operations
taken_in c place a = record c { first = first_with c.first place; past = place + 1; attempt = a; work = work.Done }

-- what is told, and where the operation under way began
pub record Stood (t : AttemptTerms) (c : Operations) (l0 told calls : List Made) : Type 0 where
  pub first_is : c.first ≡ first_place calls
  pub past_is : c.past ≡ past_of (calls ++ (told ++ l0))
  pub tells : Told t l0 told c.logs

first_more : (place : ℕ) (m : Made) (calls : List Made) → m.answer.place ≡ place → first_with (first_place calls) place ≡ first_place (m ∷ calls)
first_more place m [] is = ap Some (sym is)
first_more place m (n ∷ calls) is = refl

pub stood_on : (t : AttemptTerms) (c : Operations) (l0 told calls : List Made) (s : Step) (ans : Answer) (a : Attempt) → Stood t c l0 told calls
    → Stood t (taken_in c ans.place a) l0 told (made_of s ans ∷ calls)
stood_on t c l0 told calls s ans a it = record {
  first_is = ap (λ f. first_with f ans.place) it.first_is ∙ first_more ans.place (made_of s ans) calls refl;
  past_is = omega arith;
  tells = it.tells;
}

-- the calls of the operation, with this one
none_counted : (p : Made → Bool) (l : List Made) → Each (λ m _. p m ≡ false) l → count_by p l ≡ 0
none_counted p [] each = refl
none_counted p (m ∷ l) each = counts_not p m l each.0 ∙ none_counted p l each.1

put_alone : (w : WriteTerms) (so : Sofar) (d : List ℕ) (kind : OpKind) (mine : List Made) → PutCalls w d mine → WriteCalls w d mine × ReadsAnew so d kind mine
put_alone w so d kind mine calls = (own_calls w d mine calls, op_calls.unread (none_counted (λ m. reads_doc m.step) mine calls.unread))

pub put_bounded : (w : WriteTerms) (so : Sofar) (d : List ℕ) (kind : OpKind) (mine reads : List Made) → so.own d ≡ None → PutCalls w d mine
    → ((reads ≡ []) ⊎ (GetCalls d reads × (agrees_last kind (so.read d) ≡ false))) → WriteCalls w d (mine ++ reads) × ReadsAnew so d kind (mine ++ reads)
put_bounded w so d kind mine reads none calls reads_are =
    ⊎_elim
    (λ (empty : reads ≡ []). subst (λ k. WriteCalls w d (mine ++ k) × ReadsAnew so d kind (mine ++ k)) (sym empty)
    (subst (λ k. WriteCalls w d k × ReadsAnew so d kind k) (sym (append-nil mine)) (put_alone w so d kind mine calls)))
    (λ (gets : GetCalls d reads × (agrees_last kind (so.read d) ≡ false)).
    (write_calls w d mine reads calls gets.0, op_calls.unserved none gets.1)) reads_are

step_called : (o : Rewrite) (end : Option PutEnd) (s : Step) → asked_for o end ≡ Some s → s ≡ call_of o
step_called o None s asked = sym (some_same asked)
step_called o (Some end) s asked = absurd (none-some s asked)

pub called : (it : Again) (s : Step) → asked_by it ≡ Some s → s ≡ call_of it.task
called it s asked = step_called it.task it.end s asked

reads_none : (o : Rewrite) → reads_doc (call_of o) ≡ false
reads_none o = by_back o.back
  where
    by_back : (back : Bool) → reads_doc (cond back (step.Unstick o.doc o.cas) (step.Stage o.doc (expect.Cas o.cas) (stage_of o.attempt o.atr o.write))) ≡ false
    by_back true = refl
    by_back false = refl

pub again_bounded : (w : WriteTerms) (so : Sofar) (kind : OpKind) (it : Again) (s : Step) (ans : Answer) → asked_by it ≡ Some s
    → WriteCalls w it.task.doc (made_of s ans ∷ [])
    → WriteCalls w it.task.doc (made_of s ans ∷ []) × ReadsAnew so it.task.doc kind (made_of s ans ∷ [])
again_bounded w so kind it s ans asked calls =
    (calls, op_calls.unread (counts_not (λ m. reads_doc m.step) (made_of s ans) [] (ap reads_doc (called it s asked) ∙ reads_none it.task)))

module _ (t : AttemptTerms) (c : Operations) (older : List Made) (s : Step) (ans : Answer) (fit : fits s ans.reply ≡ true) where
  pub put_operates : (o : Op) (it : Put) (mine reads : List Made) → PutsOn t c older it mine reads o → (sofar t c.logs).own it.task.doc ≡ None
      → step_of (work.Put it) ≡ Some s → OpCalls t (sofar t c.logs) (asked t c.logs o) ((made_of s ans ∷ mine) ++ reads)
  put_operates o it mine reads on none asks =
      let stands = put_stands.stands_on (write_terms t) it mine s ans asks fit on.stands in
      subst (λ r. OpCalls t (sofar t c.logs) r ((made_of s ans ∷ mine) ++ reads)) (sym on.asks)
      (put_bounded (write_terms t) (sofar t c.logs) it.task.doc it.task.write.kind (made_of s ans ∷ mine) reads none
      (put_calls (write_terms t) it.task.doc _ (made_of s ans ∷ mine) stands.room) on.reads_are)

  pub operates : (calls : List Made) (w : Work) → Works t c older calls w → step_of w ≡ Some s → Operates t c.logs (made_of s ans ∷ calls)
  operates calls w (following.gets o it name goes asks unwritten stands going) is = record {
    op = o;
    next = goes.next;
    bounded = subst (λ r. OpCalls t (sofar t c.logs) r (made_of s ans ∷ calls)) (sym asks) (get_stands.stands_on it calls s ans is fit stands).bounded;
    fine = goes.fine;
  }
  operates calls w (following.reads o it write goes for stands going) is = record {
    op = o;
    next = goes.next;
    bounded = subst (λ r. OpCalls t (sofar t c.logs) r (made_of s ans ∷ calls)) (sym for.asks) (
      get_writes (write_terms t) it.doc (made_of s ans ∷ calls) (get_stands.stands_on it calls s ans is fit stands).bounded,
      op_calls.unserved (goes.agrees.own_none it.doc for.unwritten) for.unserved,
    );
    fine = goes.fine;
  }
  operates calls w (following.puts o it mine reads goes same on going) is = record {
    op = o;
    next = goes.next;
    bounded = subst (λ k. OpCalls t (sofar t c.logs) (asked t c.logs o) (made_of s ans ∷ k)) (sym same)
        (put_operates o it mine reads on (goes.agrees.own_none it.task.doc on.unwritten) is);
    fine = goes.fine;
  }
  operates calls w (following.agains o it goes again going) is = record {
    op = o;
    next = goes.next;
    bounded = again_operates;
    fine = goes.fine;
  }
    where
      again_operates : OpCalls t (sofar t c.logs) (asked t c.logs o) (made_of s ans ∷ calls)
      again_operates =
          let none = again_stands.made_none it calls s is again.stands.knows in
          let new = again_stands.stands_on (write_terms t) it calls s ans is fit again.stands in
          subst (λ r. OpCalls t (sofar t c.logs) r (made_of s ans ∷ calls)) (sym again.asks)
          (subst (λ k. WriteCalls (write_terms t) it.task.doc (made_of s ans ∷ k) × ReadsAnew (sofar t c.logs) it.task.doc again.kind (made_of s ans ∷ k)) (sym none)
          (again_bounded (write_terms t) (sofar t c.logs) again.kind it s ans is
          (subst (λ k. WriteCalls (write_terms t) it.task.doc (made_of s ans ∷ k)) none new.calls)))
  operates calls w (following.done none good all) is = absurd (none-some s is)
  operates calls w (following.refused none last) is = absurd (none-some s is)
  operates calls w (following.late newest before same late it) is = absurd (none-some s is)

  -- an answer that came back late
  pub late_follows : (l0 told calls : List Made) (w : Work) (a : Attempt) → older ≡ told ++ l0 → Stood t c l0 told calls → Works t c older calls w
      → step_of w ≡ Some s → IsUnder t a → t.latest < ans.now
      → Follows t (record (taken_in c ans.place a) { work = work.Late ans.now }) l0 ((made_of s ans ∷ calls) ++ told)
  late_follows l0 told calls w a same stood works asked under late =
      let on = stood_on t c l0 told calls s ans a stood in
      record {
        told = told;
        calls = made_of s ans ∷ calls;
        mine_is = refl;
        under = under;
        first_is = on.first_is;
        past_is = on.past_is;
        tells = on.tells;
        works = following.late (made_of s ans) calls refl late (operates calls w works asked);
      }

use Rattle.std.proofs.Common.{◌≡◌, ℕ, zero, suc, ◌<◌, ◌≢◌, [], ◌∷◌, Some, None, refl, sym, ap, ◌∙◌, arith, lit≤, lit<}
use Rattle.cbt_base.specs.Clock.{clock_of}
use Rattle.cbt_model.specs.Table.{row}
use Rattle.cbt_expr.specs.declared.plans.Op.{Op}
use Rattle.cbt_expr.specs.declared.plans.Op.TheVariants as op
use Rattle.cbt_expr.specs.declared.plans.TxnPlan.{TxnPlan}
use Rattle.cbt_model.specs.History.{CommitsAt}
use Rattle.cbt_model.specs.declared.steps.Step.TheVariants as step
use Rattle.cbt_book.specs.declared.operations.OpAnswer.TheVariants as answer
use Rattle.cbt_book.specs.declared.operations.When.TheVariants as when
use Rattle.cbt_core.specs.Laws.{WroteOver, TxnCommitsAt}
use Rattle.cbt_core.specs.Walk.{nothing_yet}
use Rattle.cbt_core.specs.WriteSets.{numbered, write_set}
use Rattle.cbt_rows.proofs.Never.{differ, some-none, plain_lost}
use Rattle.cbt_rows.proofs.Requested.{noted_by, left_by, replaces-n3}
use Rattle.cbt_rows.specs.Unlawful.{one_doc, update_lost, run_case, lost_book, tries_book, attempt, other, second_try, call, committing, replacing, staged_log}
use Rattle.cbt_rows.specs.Words.{doc_a, n, lists_of, span_of}
use Rattle.cbt_rows.specs.Written.{n_of}
use Rattle.cbt_rows.proofs.unlawful.laws_that_are_broken.Goals as goal

some-plan : {x y : TxnPlan} → Some x ≡ Some y → x ≡ y
some-plan e = cc

none_after : (o : Op) (m : ℕ) (later : Op) → 1 < m → numbered (o ∷ []) m ≡ Some later → ⊥
none_after o zero later h e = absurd (omega arith)
none_after o (suc zero) later h e = absurd (omega arith)
none_after o (suc (suc k)) later h e = some-none later (sym e)

first : CommitsAt one_doc update_lost attempt 8
unfolding row clock_of
first = record { event = call 1 (committing attempt); takes = record { event = refl; not_lost = λ e. plain_lost e; done = refl }; is = refl }

second : CommitsAt one_doc update_lost other 4
unfolding row clock_of
second = record { event = call 2 (committing other); takes = record { event = refl; not_lost = λ e. plain_lost e; done = refl }; is = refl }

wrote : WroteOver run_case lost_book attempt doc_a 0
wrote = record {
  client = 1;
  txn = 1;
  try_no = 1;
  log = staged_log attempt 7 0;
  log_is = refl;
  id = refl;
  n = 1;
  op = op.Replace doc_a (n_of 2);
  op_log = record { op = 1; span = span_of 0 9; answer = answer.Staged 7 (when.At 0) };
  sofar = nothing_yet;
  staged = record {
    plan = replacing 2;
    plan_is = refl;
    attempt = staged_log attempt 7 0;
    attempt_is = refl;
    op_is = refl;
    log_is = refl;
    sofar_is =
        refl;
  };
  doc = refl;
  place = 7;
  answered = refl;
  kept = λ m later later_log later_sofar at more is doc e. none_after (op.Replace doc_a (n_of 2)) m later more
      (ap (λ (p : TxnPlan). numbered p.ops m) (some-plan is.plan_is) ∙ is.op_is);
}

-- the other attempt wrote the document too
overwritten : write_set run_case.plans lost_book.clients other doc_a ≢ None
overwritten none = some-none (Some (n 3)) (sym (left_by (noted_by nothing_yet (replaces-n3 doc_a) (record {
  op = 1;
  span = span_of 0 9;
  answer =
      answer.Staged 3 (when.At 1);
})) doc_a) ∙ none)

first_try : TxnCommitsAt tries_book 1 1 1 1
unfolding row clock_of
first_try = record {
  log = staged_log attempt 0 0;
  log_is = refl;
  commits = record {
    event = call 1 (step.Commit 0 attempt (lists_of [] [] []));
    takes = record { event = refl; not_lost = λ e. plain_lost e; done = refl };
    is = refl;
  };
}

next_try : TxnCommitsAt tries_book 1 1 2 3
unfolding row clock_of
next_try = record {
  log = staged_log second_try 0 0;
  log_is = refl;
  commits = record {
    event = call 1 (step.Commit 0 second_try (lists_of [] []
        []));
    takes = record { event = refl; not_lost = λ e. plain_lost e; done = refl };
    is = refl;
  };
}

pub returns : goal.returns
unfolding row clock_of
returns c = record {
  documents = λ all. some-none _ (sym (all 1 doc_a (lit≤ tt)));
  update = λ none. none attempt other 4 8 0 doc_a first wrote second (differ other attempt refl) overwritten (lit< tt) (lit< tt);
  once = λ most. differ 1 2 refl (most.one 1 1 1 2 1 3 first_try next_try).0;
}

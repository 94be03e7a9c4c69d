use Rattle.std.proofs.Common.{◌≡◌, ℕ, ◌≤◌, ◌<◌, inl, [], Some, refl, sym, ap, ◌∙◌, arith, lit<, slice_get}
use Rattle.cbt_base.specs.Clock.{clock_of}
use Rattle.cbt_model.specs.Table.{row}
use Rattle.cbt_model.specs.declared.documents.DocState.{DocState}
use Rattle.cbt_model.specs.declared.events.Event.{Event}
use Rattle.cbt_model.specs.declared.steps.Expect.TheVariants as expect
use Rattle.cbt_model.specs.declared.steps.Step.TheVariants as step
use Rattle.cbt_core.specs.Invariant.{StagesEffectively, WritesNoMore, DecidedAt}
use Rattle.cbt_rows.proofs.Never.{differ, some-none, plain_lost}
use Rattle.cbt_rows.specs.Unlawful.{one_doc, unstuck_by_another, listed_nowhere, attempt, call, staging, stage_doc}
use Rattle.cbt_rows.specs.Words.{doc_a, lists_of}
use Rattle.cbt_rows.proofs.unlawful.invariants_that_are_broken.Goals as goal

above : 1 ≤ 0 → ⊥
above h = omega arith

some-event : {x y : Event} → Some x ≡ Some y → x ≡ y
some-event e = cc

some-doc : {x y : DocState} → Some x ≡ Some y → x ≡ y
some-doc e = cc

staged : StagesEffectively one_doc unstuck_by_another 1 doc_a (staging attempt 2) 3
unfolding row clock_of
staged = record { event = call 1 (stage_doc attempt 2 1); takes = record { event = refl; not_lost = λ e. plain_lost e; done = refl }; expects = expect.Cas 1; is = refl; cas = refl }

quiet : WritesNoMore one_doc unstuck_by_another attempt doc_a 1 3
quiet k e low high takes actor writes = differ 2 1 refl (ap (λ (x : Event). x.actor) (some-event (there k low high ∙ takes.event)) ∙ actor)
  where
    two : (k : ℕ) → 1 < k → k < 3 → 2 ≡ k
    two k low high = omega arith

    there : (k : ℕ) → 1 < k → k < 3 → Some (call 2 (step.Unstick doc_a 3)) ≡ slice_get unstuck_by_another k
    there k low high = ap (λ i. slice_get unstuck_by_another i) (two k low high)

decided : DecidedAt one_doc listed_nowhere 2 attempt (lists_of [] [] [])
unfolding row clock_of
decided = record { event = call 1 (step.Commit 0 attempt (lists_of [] [] [])); takes = record { event = refl; not_lost = λ e. plain_lost e; done = refl }; atr = 0; is = inl refl }

pub returns : goal.returns
unfolding row clock_of
returns c = record {
  stamps = λ rise. above (rise.docs 0 doc_a _ refl);
  held = λ stay. let h = stay 3 1 0 attempt 3 doc_a (staging attempt 2) _ refl refl (lit< tt) staged refl quiet in
      some-none (staging attempt 2) (sym h.2 ∙ ap (λ (x : DocState). x.stage) (sym (some-doc h.1)));
  listed = λ listed. listed.committed 3 0 attempt doc_a _ _ (staging attempt 2) refl refl refl refl refl;
  gone = λ gone. gone 4 2 0 attempt doc_a (lists_of [] [] []) _ (staging attempt 2) (lit< tt) decided (λ r. refl) refl refl refl;
}

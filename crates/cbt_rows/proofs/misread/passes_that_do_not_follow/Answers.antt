use Rattle.std.proofs.Common.{◌≡◌, ℕ, List, [], ◌∷◌, ◌++◌, sym, subst}
use Rattle.cbt_base.specs.Ids.{cleaner_number}
use Rattle.cbt_model.specs.declared.events.Made.{Made}
use Rattle.cbt_model.specs.declared.steps.Step.TheVariants as step
use Rattle.cbt_book.specs.Passes.{MayPass, PassCalls, covered_by}
use Rattle.cbt_rows.specs.CleanerFreesPendingStage as freed
use Rattle.cbt_rows.specs.Changes.{beat_behind}
use Rattle.cbt_rows.proofs.Never.{filled}
use Rattle.cbt_rows.proofs.Passes.{keeps_it, not_finished}
use Rattle.cbt_rows.proofs.misread.passes_that_do_not_follow.Goals as goal

-- a pass does not hold a call that no pass may make
never-passes : (r : ℕ) (m : Made) (older : List Made) (first : Made) (later : List Made) → (m.step ≡ step.ReadAtr r → ⊥)
    → ((covered : List ℕ) (past : List Made) → MayPass r covered past m.step → ⊥) → m ∷ older ≡ later ++ first ∷ [] → PassCalls r first later → ⊥
never-passes r m older first [] other never calls may = other (subst (λ (x : Made). x.step ≡ step.ReadAtr r) (sym (same calls)) may.reads)
  where
    same : m ∷ older ≡ first ∷ [] → m ≡ first
    same e = cc
never-passes r m older first (x ∷ later) other never calls may =
    never _ later (subst (λ (y : Made). MayPass r (covered_by first.answer.reply first.answer.now) later y.step) (sym (same calls)) may.only.0)
  where
    same : m ∷ older ≡ x ∷ later ++ first ∷ [] → m ≡ x
    same e = cc

beat-reads : step.Beat (cleaner_number 1) 60000 1 [] ≡ step.ReadAtr 0 → ⊥
beat-reads e = cc

pub returns : goal.returns
returns c = record {
  covers_nothing = λ kept. filled (sym (keeps_it _ [] kept));
  skips = not_finished;
  beats = λ may. may.only.0;
  beats_within = λ it. never-passes 0 beat_behind (freed.m6 ∷ freed.m5 ∷ []) it.first it.later beat-reads (λ covered past may. may) it.calls it.may;
  not_due = λ may. may.only.0.1;
}

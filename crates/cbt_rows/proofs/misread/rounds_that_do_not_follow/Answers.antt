use Rattle.std.proofs.Common.{◌≡◌, ◌⊎◌, inl, inr, List, [], ◌∷◌, ◌++◌, length, length-append, sym, ap, ◌∙◌, arith}
use Rattle.cbt_model.specs.declared.events.Made.{Made}
use Rattle.cbt_model.specs.declared.steps.Step.TheVariants as step
use Rattle.cbt_book.specs.Cleaners.{Shared, Unshared, Whole}
use Rattle.cbt_rows.specs.Changes.{round_alone, cleaner_alone}
use Rattle.cbt_rows.specs.CleanerFreesPendingStage as freed
use Rattle.cbt_rows.proofs.Never.{some-none}
use Rattle.cbt_rows.proofs.misread.rounds_that_do_not_follow.Goals as goal

last_is : (later : List Made) (x y : Made) → freed.m6 ∷ freed.m5 ∷ [] ≡ later ++ x ∷ y ∷ [] → y ≡ freed.m5
last_is [] x y e = cc
last_is (a ∷ []) x y e = cc
last_is (a ∷ b ∷ later) x y e = absurd (too_long (ap length e))
  where
    too_long : 2 ≡ length (a ∷ b ∷ later ++ x ∷ y ∷ []) → ⊥
    too_long h = absurd (grind (arith, length-append {A = Made}))

read_atr : step.ReadAtr 0 ≡ step.ReadClients → ⊥
read_atr e = cc

pub returns : goal.returns
returns c it = go it.goes
  where
    go : Shared cleaner_alone (freed.m6 ∷ freed.m5 ∷ []) Whole round_alone ⊎ Unshared cleaner_alone (freed.m6 ∷ freed.m5 ∷ []) Whole round_alone → ⊥
    go (inl shared) = read_atr (ap (λ (m : Made). m.step) (sym (last_is shared.later shared.beat shared.read shared.calls)) ∙ shared.reads)
    go (inr unshared) = some-none _ unshared.share

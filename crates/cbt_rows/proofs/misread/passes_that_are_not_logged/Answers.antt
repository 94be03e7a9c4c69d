use Rattle.std.proofs.Common.{◌≡◌, ℕ, List, [], ◌∷◌, ◌++◌, refl, sym, ap, ◌∙◌, subst, lit≤}
use Rattle.cbt_model.specs.declared.events.Made.{Made}
use Rattle.cbt_book.specs.Cleaners.{StandBehind, none, unfinished, Whole, Cut}
use Rattle.cbt_book.specs.Passes.{MayPass, PassCalls, EndsPass, covered_by}
use Rattle.cbt_book.specs.declared.cleaners.PassEnd.{PassEnd}
use Rattle.cbt_book.specs.declared.cleaners.PassEnd.TheVariants as pass_end
use Rattle.cbt_rows.specs.Changes.{two_begun}
use Rattle.cbt_rows.specs.CleanerFreesPendingStage as freed
use Rattle.cbt_rows.specs.CleanersCutOff as cut_off
use Rattle.cbt_rows.proofs.Never.{filled, unfailed, whole_cut}
use Rattle.cbt_rows.proofs.Passes.{not_kept}
use Rattle.cbt_rows.proofs.misread.passes_that_are_not_logged.Goals as goal

-- a list of one call is a pass's first call
only_first : (m first : Made) (later : List Made) → m ∷ [] ≡ later ++ first ∷ [] → m ≡ first
only_first m first [] e = cc
only_first m first (x ∷ []) e = cc
only_first m first (x ∷ y ∷ later) e = cc

goes_on : (end : PassEnd) → ¬ EndsPass 0 freed.m5 (freed.m5 ∷ []) end
goes_on (pass_end.Ok covered) kept = not_kept covered kept
goes_on (pass_end.CallFailed place) (it, older) = unfailed freed.m5 refl (ap (λ (m : Made). m.answer.reply) (same it.calls_are) ∙ it.failed)
  where
    same : {m : Made} {l : List Made} → freed.m5 ∷ [] ≡ m ∷ l → freed.m5 ≡ m
    same e = cc

-- of two calls the newer is no call of the older's pass
second : (r : ℕ) (first : Made) (later : List Made) → two_begun ≡ later ++ first ∷ [] → PassCalls r first later → ⊥
second r first [] e may = filled (one e)
  where
    one : {a b x : Made} → a ∷ b ∷ [] ≡ x ∷ [] → b ∷ [] ≡ []
    one e = cc
second r first (x ∷ later) e may = subst (λ (y : Made). MayPass r (covered_by first.answer.reply first.answer.now) later y.step) (sym (same e)) may.only.0
  where
    same : {a b x : Made} {l : List Made} → a ∷ b ∷ [] ≡ x ∷ l → a ≡ x
    same e = cc

two : ¬ StandBehind Cut (0 ∷ 1 ∷ []) two_begun
two (none empty) = filled empty
two (unfinished r more first later course left calls may going) = second r first later calls may

-- its only call showed no expired entry
over : (r : ℕ) (first : Made) → cut_off.m2 ≡ first → EndsPass r first (cut_off.m2 ∷ []) (pass_end.Ok [])
over r first e = subst (λ m. EndsPass r m (cut_off.m2 ∷ []) (pass_end.Ok [])) e (record {
  entries = [];
  shown = refl;
  covered_is = refl;
  finished = λ a h. absurd h;
  answered = (unfailed cut_off.m2 refl, tt);
})

ended : ¬ StandBehind Cut (0 ∷ []) (cut_off.m2 ∷ [])
ended (none empty) = filled empty
ended (unfinished r more first later course left calls may going) = going (pass_end.Ok []) (over r first (only_first cut_off.m2 first later calls))

whole : ¬ StandBehind Whole (0 ∷ []) (freed.m5 ∷ [])
whole (none empty) = filled empty
whole (unfinished r more first later course left calls may going) = whole_cut course

pub returns : goal.returns
returns c = record {
  begun = unfinished 0 [] freed.m5 [] refl refl refl (record { reads = refl; only = tt; documents = lit≤ tt }) goes_on;
  two = two;
  ended = ended;
  whole = whole;
}

-- A history goes on keeping its terms.
use Rattle.std.proofs.Common.{◌≡◌, ℕ, suc, ◌+◌, ◌<◌, Bool, true, false, cond, nat_le, if◌then◌else◌, ⊎_elim, List, [], ◌∷◌, ◌++◌, length, Some, refl, sym, ap, ◌∙◌, arith, slice_get}
use Rattle.std.proofs.lemmas.Grind.{common_steps}
use Rattle.std.proofs.lemmas.Option.{slice_get_within}
use Rattle.cbt_base.specs.Clock.{held}
use Rattle.cbt_model.specs.Faults.{fate_of}
use Rattle.cbt_model.specs.Fitting.{step_fits}
use Rattle.cbt_model.specs.Legal.{Terms, AreReadings, KeepsTerms, calls_below, ahead_at, line_due}
use Rattle.cbt_model.specs.declared.events.Event.{Event}
use Rattle.cbt_model.specs.declared.events.Mark.{Mark}
use Rattle.cbt_model.proofs.Longer.{get-next_cases, calls_below-longer}

-- a reading more, as it was due
pub readings-next : (due : ℕ → ℕ) (h : List Event) (marks : List Mark) (e : Event)
    → AreReadings due h marks → e.reading ≡ held (due (length h) + ahead_at marks (length h)) → AreReadings due (h ++ e ∷ []) marks
readings-next due h marks e before here = record {
  each = λ i x there. ⊎_elim (λ (l : (i < length h) × (slice_get h i ≡ Some x)). before.each i x l.1)
      (λ (r : (i ≡ length h) × (x ≡ e)). ap (λ (y : Event). y.reading) r.1 ∙ here ∙ ap (λ k. held (due k + ahead_at marks k)) (sym r.0)) (get-next_cases h e i x there);
}

-- an event more, as the terms have it
pub keeps-next : (terms : Terms) (h : List Event) (marks : List Mark) (e : Event)
    → KeepsTerms terms h marks → e.fate ≡ fate_of terms.faults e.actor (suc (calls_below h e.actor (length h))) → step_fits e.step ≡ true
    → ((line : ℕ × ℕ) → terms.line ≡ Some line → e.reading ≡ held (line_due line (length h) + ahead_at marks (length h)))
    → KeepsTerms terms (h ++ e ∷ []) marks
keeps-next terms h marks e before fate fit reading = record {
  fates = λ i x there. ⊎_elim
      (λ (l : (i < length h) × (slice_get h i ≡ Some x)).
      before.fates i x l.1 ∙ ap (λ n. fate_of terms.faults x.actor (suc n)) (sym (calls_below-longer h (e ∷ []) x.actor i (omega arith))))
      (λ (r : (i ≡ length h) × (x ≡ e)).
      ap (λ (y : Event). y.fate) r.1 ∙ fate
      ∙ ap (λ n. fate_of terms.faults e.actor (suc n)) (sym (calls_below-longer h (e ∷ []) e.actor (length h) (omega arith)))
      ∙ ap (λ k. fate_of terms.faults e.actor (suc (calls_below (h ++ e ∷ []) e.actor k))) (sym r.0)
      ∙ ap (λ (y : Event). fate_of terms.faults y.actor (suc (calls_below (h ++ e ∷ []) y.actor i))) (sym r.1))
      (get-next_cases h e i x there);
  fitting = λ i x there. ⊎_elim (λ (l : (i < length h) × (slice_get h i ≡ Some x)). before.fitting i x l.1)
      (λ (r : (i ≡ length h) × (x ≡ e)). ap (λ (y : Event). step_fits y.step) r.1 ∙ fit) (get-next_cases h e i x there);
  readings = λ line is. readings-next (line_due line) h marks e (before.readings line is) (reading line is);
}

-- a mark at the end counts for no earlier place
pub ahead_at-marked : (marks : List Mark) (m : Mark) (i : ℕ) → i < m.place → ahead_at (marks ++ m ∷ []) i ≡ ahead_at marks i
ahead_at-marked [] m i low = past (nat_le m.place i) refl
  where
    past : (b : Bool) → nat_le m.place i ≡ b → cond b m.ms 0 + 0 ≡ 0
    past true at = absurd (grind (arith, common_steps))
    past false at = omega arith
ahead_at-marked (n ∷ marks) m i low = ap (λ k. (if nat_le n.place i then n.ms else 0) + k) (ahead_at-marked marks m i low)

pub readings-marked : (due : ℕ → ℕ) (h : List Event) (marks : List Mark) (m : Mark)
    → AreReadings due h marks → m.place ≡ length h → AreReadings due h (marks ++ m ∷ [])
readings-marked due h marks m before place = record {
  each = λ i x there. before.each i x there ∙ ap (λ n. held (due i + n)) (sym (ahead_at-marked marks m i (below i x there)));
}
  where
    below : (i : ℕ) (x : Event) → slice_get h i ≡ Some x → i < m.place
    below i x there = let low : i < length h = slice_get_within h i x there in omega arith

-- a mark at the end of the history
pub keeps-marked : (terms : Terms) (h : List Event) (marks : List Mark) (m : Mark)
    → KeepsTerms terms h marks → m.place ≡ length h → KeepsTerms terms h (marks ++ m ∷ [])
keeps-marked terms h marks m before place = record {
  fates = before.fates;
  fitting = before.fitting;
  readings = λ line is. readings-marked (line_due line) h marks m (before.readings line is) place;
}

-- nothing has happened yet
pub keeps-none : (terms : Terms) → KeepsTerms terms [] []
keeps-none terms = record {
  fates = λ i e there. absurd (no-event i e there);
  fitting = λ i e there. absurd (no-event i e there);
  readings = λ line is. record { each = λ i e there. absurd (no-event i e there) };
}
  where
    no-event : (i : ℕ) (e : Event) → slice_get [] i ≡ Some e → ⊥
    no-event i e there = cc

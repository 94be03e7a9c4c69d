-- The commits below a place are the first of all commits.
use Rattle.std.proofs.Common.{◌≡◌, ℕ, zero, suc, ◌+◌, ◌-◌, ◌≤◌, List, [], ◌++◌, length, take, sym, ap, ◌∙◌, arith, append_assoc}
use Rattle.std.specs.Prelude.{reverse, slice_get}
use Rattle.std.specs.Option.{option_to_list}
use Rattle.std.proofs.lemmas.List.{length-reverse, reverse-append, reverse-reverse}
use Rattle.std.proofs.Math.Seq.{take-append_seam}
use Rattle.cbt_model.specs.History.{commits_below, commit_order, committed_by, after}
use Rattle.cbt_model.specs.declared.events.Event.{Event}
use Rattle.cbt_model.specs.declared.states.State.{State}

module _ (s0 : State) (h : List Event) where
  -- later commits stand before those below a place
  commits-longer : (i k : ℕ) → (newer : List ℕ) × (commits_below s0 h (k + i) ≡ newer ++ commits_below s0 h i)
  commits-longer i zero = ([], ap (λ j. commits_below s0 h j) (zero-plus i))
    where
      zero-plus : (i : ℕ) → zero + i ≡ i
      zero-plus i = omega arith
  commits-longer i (suc k) = go (commits-longer i k)
    where
      next : (k i : ℕ) → suc k + i ≡ suc (k + i)
      next k i = omega arith

      go : (newer : List ℕ) × (commits_below s0 h (k + i) ≡ newer ++ commits_below s0 h i) → (newer : List ℕ) × (commits_below s0 h (suc k + i) ≡ newer ++ commits_below s0 h i)
      go (newer, is) = (
        option_to_list (committed_by (after s0 h (k + i)) (slice_get h (k + i))) ++ newer,
        ap (λ j. commits_below s0 h j) (next k i)
            ∙ ap (λ l. option_to_list (committed_by (after s0 h (k + i)) (slice_get h (k + i))) ++ l) is
            ∙ sym (append_assoc (option_to_list (committed_by (after s0 h (k + i)) (slice_get h (k + i)))) newer (commits_below s0 h i)),
      )

  pub commits-counted : (i : ℕ) → i ≤ length h → commits_below s0 h i ≡ reverse (take (length (commits_below s0 h i)) (commit_order s0 h))
  commits-counted i low = go (commits-longer i (length h - i))
    where
      whole : (i n : ℕ) → i ≤ n → n - i + i ≡ n
      whole i n low = omega arith

      go : (newer : List ℕ) × (commits_below s0 h (length h - i + i) ≡ newer ++ commits_below s0 h i)
          → commits_below s0 h i ≡ reverse (take (length (commits_below s0 h i)) (commit_order s0 h))
      go (newer, is) =
          let all : commits_below s0 h (length h) ≡ newer ++ commits_below s0 h i = ap (λ j. commits_below s0 h j) (sym (whole i (length h) low)) ∙ is in
          let order : commit_order s0 h ≡ reverse (commits_below s0 h i) ++ reverse newer = ap reverse all ∙ reverse-append newer (commits_below s0 h i) in
          let first : take (length (commits_below s0 h i)) (commit_order s0 h) ≡ reverse (commits_below s0 h i) =
          ap (λ l. take (length (commits_below s0 h i)) l) order
          ∙ ap (λ n. take n (reverse (commits_below s0 h i) ++ reverse newer)) (sym (length-reverse (commits_below s0 h i)))
          ∙ take-append_seam (reverse (commits_below s0 h i)) (reverse newer) in
          sym (ap reverse first ∙ reverse-reverse (commits_below s0 h i))

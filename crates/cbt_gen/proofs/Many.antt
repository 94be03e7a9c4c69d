-- Values that are drawn one after another.
use Rattle.std.proofs.Common.{◌≡◌, ℕ, zero, suc, ◌+◌, List, [], ◌∷◌, ◌++◌, length, refl, sym, ap, ap₂, ◌∙◌, arith, length-append}
use Rattle.std.specs.List.{All}
use Rattle.std.proofs.lemmas.List.Elements.{All-nil, All-push, All-same}
use Rattle.rand_pcg.specs.Lcg.{Lcg}
use Rattle.cbt_gen.specs.Draws.{Drawn, many}

module _ {A : Type 0} (next : ℕ → Drawn A) (start : Lcg) where
  pub many-none : many 0 next start ≡ ([], start)
  unfolding many
  many-none = refl

  many-step : (n : ℕ) → many (suc n) next start ≡ ((many n next start).0 ++ (next (n + 1) (many n next start).1).0 ∷ [], (next (n + 1) (many n next start).1).1)
  unfolding many
  many-step n = refl

  pub many-more : (n : ℕ) → many (n + 1) next start ≡ ((many n next start).0 ++ (next (n + 1) (many n next start).1).0 ∷ [], (next (n + 1) (many n next start).1).1)
  many-more n = let e : n + 1 ≡ suc n = omega arith in ap (λ k. many k next start) e ∙ many-step n

  -- ---- of all values

  pub values-more : (n : ℕ) → (many (suc n) next start).0 ≡ (many n next start).0 ++ (next (n + 1) (many n next start).1).0 ∷ []
  values-more n = ap (λ d. d.0) (many-step n)

  pub values-all : (P : A → Type 0) → ((k : ℕ) (stream : Lcg) → P (next k stream).0) → (n : ℕ) → All P (many n next start).0
  values-all P each zero = All-same P (many 0 next start).0 [] (ap (λ d. d.0) many-none) (All-nil P)
  values-all P each (suc n) =
      let x = (next (n + 1) (many n next start).1).0 in
      All-same P (many (suc n) next start).0 ((many n next start).0 ++ x ∷ []) (values-more n) (All-push P (many n next start).0 x (values-all P each n) (each (n + 1) (many n next start).1))

  pub length-values : (n : ℕ) → length (many n next start).0 ≡ n
  length-values zero = ap (λ d. length d.0) many-none
  length-values (suc n) =
      let x = (next (n + 1) (many n next start).1).0 in
      omega (arith, ap length (values-more n), length-append (many n next start).0 (x ∷ []), length-values n)

  -- ---- as they are drawn by a loop

  -- so many values, and the stream behind them
  pub record AreDrawn (n : ℕ) (values : List A) (stream : Lcg) : Type 0 where
    pub drawn : values ≡ (many n next start).0
    pub behind : stream ≡ (many n next start).1

  pub drawn-none : (values : List A) → values ≡ [] → AreDrawn 0 values start
  drawn-none values none = record { drawn = none ∙ ap (λ d. d.0) (sym many-none); behind = ap (λ d. d.1) (sym many-none) }

  pub drawn-more : (n : ℕ) (values more : List A) (stream behind : Lcg) (x : A) → AreDrawn n values stream
      → x ≡ (next (n + 1) stream).0 → behind ≡ (next (n + 1) stream).1 → more ≡ values ++ x ∷ [] → AreDrawn (n + 1) more behind
  drawn-more n values more stream behind x before is left pushed = record {
    drawn = rw (many-more n) (pushed ∙ ap₂ (λ xs y. xs ++ y ∷ []) before.drawn (is ∙ ap (λ s. (next (n + 1) s).0) before.behind));
    behind = rw (many-more n) (left ∙ ap (λ s. (next (n + 1) s).1) before.behind);
  }

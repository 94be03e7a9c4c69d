-- The orders of a state's keys: each is total, and keys that are equal by it are the same.
use Rattle.std.proofs.Common.{◌≡◌, ◌≢◌, ℕ, true, false, ◌⊎◌, inl, inr, refl, sym, ap, ◌∙◌}
use Rattle.std.specs.declared.cmp.Ordering.{Ordering}
use Rattle.std.specs.declared.cmp.Ordering.TheVariants.{Less, Equal, Greater}
use Rattle.std.specs.Ordering.{nat_cmp, is_eq}
use Rattle.std.specs.Cmp.{IsTotalOrder, nat_cmp_total, on_total, then_total}
use Rattle.std.specs.Cmp.Lexicographic.{nat_list_cmp_total}
use Rattle.std.proofs.lemmas.Map.Lookups.{exact_bytes, exact_unsigned, exact_pairs}
use Rattle.std.proofs.lemmas.Cmp.{tied_itself}
use Rattle.cbt_model.specs.Keys.{doc_cmp, entry_cmp, id_cmp}

-- a total order by which only the same are equal
pub record IsKeyOrder {K : Type 0} (cmp : K → K → Ordering) : Type 0 where
  pub total : IsTotalOrder cmp
  pub same : (a b : K) → cmp a b ≡ Equal → a ≡ b

pub doc_order : IsKeyOrder doc_cmp
doc_order = record { total = nat_list_cmp_total; same = exact_bytes }

pub id_order : IsKeyOrder id_cmp
id_order = record { total = nat_cmp_total; same = exact_unsigned }

pub entry_order : IsKeyOrder entry_cmp
entry_order = record { total = then_total (on_total (λ (p : ℕ × ℕ). p.0) nat_cmp_total) (on_total (λ (p : ℕ × ℕ). p.1) nat_cmp_total); same = exact_pairs nat_cmp nat_cmp exact_unsigned exact_unsigned }

module _ {K : Type 0} {cmp : K → K → Ordering} (order : IsKeyOrder cmp) where
  -- two keys are the same, or the test of their order tells them apart
  pub key_cases : (a b : K) → ((is_eq (cmp a b) ≡ true) × (a ≡ b)) ⊎ ((is_eq (cmp a b) ≡ false) × (a ≢ b))
  key_cases a b = go (cmp a b) refl
    where
      differ : (o : Ordering) → cmp a b ≡ o → (o ≡ Equal → ⊥) → a ≢ b
      differ o at apart e = apart (sym at ∙ ap (λ x. cmp a x) (sym e) ∙ tied_itself order.total a)

      go : (o : Ordering) → cmp a b ≡ o → ((is_eq o ≡ true) × (a ≡ b)) ⊎ ((is_eq o ≡ false) × (a ≢ b))
      go Less at = inr (refl, differ Less at (λ e. cc))
      go Equal at = inl (refl, order.same a b at)
      go Greater at = inr (refl, differ Greater at (λ e. cc))

  -- a key is equal to itself
  pub key_itself : (a : K) → is_eq (cmp a a) ≡ true
  key_itself a = ap is_eq (tied_itself order.total a)

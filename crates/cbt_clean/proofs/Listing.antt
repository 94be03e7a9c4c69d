-- Lists: what is among expired entries, and where a listed document stands.
use Rattle.std.proofs.Common.{◌≡◌, ℕ, suc, Bool, true, false, cond, inl, inr, ⊎_elim, List, [], ◌∷◌, ◌++◌, filter, slice_get, Some, refl, sym, ap, subst, arith}
use Rattle.cbt_model.specs.View.{IsExpired}
use Rattle.cbt_model.specs.declared.documents.OpKind.TheVariants.{Insert, Replace, Remove}
use Rattle.cbt_model.specs.declared.entries.Entry.{Entry}
use Rattle.cbt_model.specs.declared.entries.Lists.{Lists}
use Rattle.cbt_book.specs.Licence.{IsListed}
use Rattle.cbt_book.specs.OwnLists.{In}
use Rattle.cbt_book.specs.Passes.{is_expired}
use Rattle.cbt_clean.specs.Phases.{docs_of}

-- what passes the test is in the list, and has expired
pub in_filter : (now : ℕ) (x : ℕ × Entry) (entries : List (ℕ × Entry)) → In x (filter (λ e. is_expired now e.1) entries) → In x entries × IsExpired x.1 now
in_filter now x [] there = absurd there
in_filter now x (y ∷ entries) there = by (λ later. in_filter now x entries later) (is_expired now y.1) refl there
  where
    by : (In x (filter (λ e. is_expired now e.1) entries) → In x entries × IsExpired x.1 now) → (b : Bool) → is_expired now y.1 ≡ b
        → In x (cond b (y ∷ filter (λ e. is_expired now e.1) entries) (filter (λ e. is_expired now e.1) entries))
        → In x (y ∷ entries) × IsExpired x.1 now
    by among true passes at = ⊎_elim (λ is. (inl is, subst (λ (z : ℕ × Entry). IsExpired z.1 now) (sym is) (grind arith))) (λ later. let it = among later in (inr it.0, it.1)) at
    by among false fails at = let it = among at in (inr it.0, it.1)

-- what is in a list stands at a place of it, also with more around it
in_front : (d : List ℕ) (xs ys : List (List ℕ)) → In d xs → (j : ℕ) × (slice_get (xs ++ ys) j ≡ Some d)
in_front d [] ys there = absurd there
in_front d (x ∷ xs) ys there = ⊎_elim (λ is. (0, ap (λ u. Some u) (sym is))) (λ later. let it = in_front d xs ys later in (suc it.0, it.1)) there

in_back : (d : List ℕ) (xs ys : List (List ℕ)) → (j : ℕ) × (slice_get ys j ≡ Some d) → (j : ℕ) × (slice_get (xs ++ ys) j ≡ Some d)
in_back d [] ys it = it
in_back d (x ∷ xs) ys it = let more = in_back d xs ys it in (suc more.0, more.1)

in_place : (d : List ℕ) (xs : List (List ℕ)) → In d xs → (j : ℕ) × (slice_get xs j ≡ Some d)
in_place d [] there = absurd there
in_place d (x ∷ xs) there = ⊎_elim (λ is. (0, ap (λ u. Some u) (sym is))) (λ later. let it = in_place d xs later in (suc it.0, it.1)) there

-- a listed document is one of those that the pass goes through
pub listed_at : (d : List ℕ) (lists : Lists) → IsListed d lists → (j : ℕ) × (slice_get (docs_of lists) j ≡ Some d)
listed_at d lists (Insert, there) = in_front d lists.ins (lists.rep ++ lists.rem) there
listed_at d lists (Replace, there) = in_back d lists.ins (lists.rep ++ lists.rem) (in_front d lists.rep lists.rem there)
listed_at d lists (Remove, there) = in_back d lists.ins (lists.rep ++ lists.rem) (in_back d lists.rep lists.rem (in_place d lists.rem there))

-- What a map has at a key after a key was set or taken away, over any order of keys.
use Rattle.std.proofs.Common.{◌≡◌, List, [], ◌∷◌, Option, Some, None, Bool, true, false, cond, refl, ap, sym, ◌∙◌}
use Rattle.std.specs.declared.cmp.Ordering.{Ordering}
use Rattle.std.specs.declared.cmp.Ordering.TheVariants.{Less, Equal, Greater}
use Rattle.std.specs.Ordering.{is_eq, ordering_reverse, match_ordering}
use Rattle.std.specs.Cmp.{IsTotalOrder}
use Rattle.std.specs.List.{AllByRecursion}
use Rattle.std.specs.List.Sorted.{IsStrictlySortedBy}
use Rattle.std.specs.Map.{lookup, keys_of, remove_entry}
use Rattle.std.specs.BTreeMap.{insert_entry, is_at}
use Rattle.cbt_base.specs.Keyed.{at_key, with_pair, without_key, Rises}

module _ {K : Type 0} (cmp : K → K → Ordering) (order : IsTotalOrder cmp) where
  -- equal keys compare alike to any other
  pub same-against : (q k l : K) → cmp k l ≡ Equal → cmp q k ≡ cmp q l
  same-against q k l same =
      order.antisymm q k ∙ ap ordering_reverse (order.congr k l q same) ∙ sym (order.antisymm q l)

  -- what lies above a key lies above an equal one
  all-above : (q k : K) (es : List K) → cmp q k ≡ Equal → AllByRecursion (λ y. cmp k y ≡ Less) es → AllByRecursion (λ y. cmp q y ≡ Less) es
  all-above q k [] same all = tt
  all-above q k (y ∷ ys) same all = (order.congr q k y same ∙ all.0, all-above q k ys same all.1)

  -- a query is not equal to two keys that differ
  two-differ : (q k l : K) (o : Ordering) → cmp k l ≡ o → (o ≡ Equal → ⊥) → cmp q k ≡ Equal → cmp q l ≡ Equal → ⊥
  two-differ q k l o at apart here there = apart (sym at ∙ sym (order.congr q k l here) ∙ there)

  -- a key below the first is below all
  below-all : (k l : K) (es : List K) → cmp k l ≡ Less → AllByRecursion (λ y. cmp l y ≡ Less) es → AllByRecursion (λ y. cmp k y ≡ Less) es
  below-all k l [] low all = tt
  below-all k l (y ∷ ys) low all = (order.trans k l y low all.0, below-all k l ys low all.1)

module _ {V : Type 0} where
  -- setting the value of a key that is there
  over-it : (v w r : Option V) (o : Ordering) → cond (is_eq o) v r ≡ cond (is_eq o) v (cond (is_eq o) w r)
  over-it v w r Less = refl
  over-it v w r Equal = refl
  over-it v w r Greater = refl

  -- none is none by any test
  none-either : (b : Bool) → ◌≡◌ {A = Option V} None (cond b None None)
  none-either true = refl
  none-either false = refl

  -- two tests that do not hold both may change places
  either-first : (v w r : Option V) (o p : Ordering) → (o ≡ Equal → p ≡ Equal → ⊥)
      → cond (is_eq p) w (cond (is_eq o) v r) ≡ cond (is_eq o) v (cond (is_eq p) w r)
  either-first v w r Equal Equal apart = absurd (apart refl refl)
  either-first v w r Equal Less apart = refl
  either-first v w r Equal Greater apart = refl
  either-first v w r Less Less apart = refl
  either-first v w r Less Equal apart = refl
  either-first v w r Less Greater apart = refl
  either-first v w r Greater Less apart = refl
  either-first v w r Greater Equal apart = refl
  either-first v w r Greater Greater apart = refl

module _ {K V : Type 0} (cmp : K → K → Ordering) (order : IsTotalOrder cmp) where
  -- the step of the look-up after an insertion
  insert-step : (e : K × V) (es : List (K × V)) (k : K) (v : V) (q : K)
      → lookup (is_at (cmp q)) (insert_entry cmp es k v) ≡ cond (is_eq (cmp q k)) (Some v) (lookup (is_at (cmp q)) es)
      → (o : Ordering) → cmp k e.0 ≡ o
      → lookup (is_at (cmp q)) (match_ordering o ((k, v) ∷ e ∷ es) ((e.0, v) ∷ es) (e ∷ insert_entry cmp es k v))
      ≡ cond (is_eq (cmp q k)) (Some v) (lookup (is_at (cmp q)) (e ∷ es))
  insert-step e es k v q before Less at = refl
  insert-step e es k v q before Equal at =
      over-it (Some v) (Some e.1) (lookup (is_at (cmp q)) es) (cmp q e.0)
      ∙ ap (λ o. cond (is_eq o) (Some v) (cond (is_eq (cmp q e.0)) (Some e.1) (lookup (is_at (cmp q)) es))) (sym (same-against cmp order q k e.0 at))
  insert-step e es k v q before Greater at =
      ap (λ r. cond (is_eq (cmp q e.0)) (Some e.1) r) before
      ∙ either-first (Some v) (Some e.1) (lookup (is_at (cmp q)) es) (cmp q k) (cmp q e.0) (two-differ cmp order q k e.0 Greater at (λ clash. cc))

  -- the key that was set has the new value, and each other key what it had
  pub at_key-with_pair : (m : List (K × V)) (k : K) (v : V) (q : K)
      → at_key cmp (with_pair cmp m k v) q ≡ cond (is_eq (cmp q k)) (Some v) (at_key cmp m q)
  at_key-with_pair [] k v q = refl
  at_key-with_pair (e ∷ es) k v q = insert-step e es k v q (at_key-with_pair es k v q) (cmp k e.0) refl

  -- a key below all has no value
  none-below : (q : K) (es : List (K × V)) → AllByRecursion (λ y. cmp q y ≡ Less) (keys_of es) → lookup (is_at (cmp q)) es ≡ None
  none-below q [] all = refl
  none-below q (e ∷ es) all = ap (λ o. cond (is_eq o) (Some e.1) (lookup (is_at (cmp q)) es)) all.0 ∙ none-below q es all.1

  -- the first key goes, and no later one is equal to it
  remove-first : (e : K × V) (es : List (K × V)) (q : K) → AllByRecursion (λ y. cmp e.0 y ≡ Less) (keys_of es)
      → (p : Ordering) → cmp q e.0 ≡ p
      → lookup (is_at (cmp q)) es ≡ cond (is_eq p) None (cond (is_eq p) (Some e.1) (lookup (is_at (cmp q)) es))
  remove-first e es q above Equal there = none-below q es (all-above cmp order q e.0 (keys_of es) there above)
  remove-first e es q above Less there = refl
  remove-first e es q above Greater there = refl

  -- the step of the look-up after a removal
  remove-step : (e : K × V) (es : List (K × V)) (k q : K)
      → AllByRecursion (λ y. cmp e.0 y ≡ Less) (keys_of es)
      → lookup (is_at (cmp q)) (remove_entry (is_at (cmp k)) es) ≡ cond (is_eq (cmp q k)) None (lookup (is_at (cmp q)) es)
      → (o : Ordering) → cmp k e.0 ≡ o
      → lookup (is_at (cmp q)) (cond (is_eq o) es (e ∷ remove_entry (is_at (cmp k)) es))
      ≡ cond (is_eq (cmp q k)) None (lookup (is_at (cmp q)) (e ∷ es))
  remove-step e es k q above before Equal at =
      remove-first e es q above (cmp q e.0) refl
      ∙ ap (λ o. cond (is_eq o) None (cond (is_eq (cmp q e.0)) (Some e.1) (lookup (is_at (cmp q)) es))) (sym (same-against cmp order q k e.0 at))
  remove-step e es k q above before Less at =
      ap (λ r. cond (is_eq (cmp q e.0)) (Some e.1) r) before
      ∙ either-first None (Some e.1) (lookup (is_at (cmp q)) es) (cmp q k) (cmp q e.0) (two-differ cmp order q k e.0 Less at (λ clash. cc))
  remove-step e es k q above before Greater at =
      ap (λ r. cond (is_eq (cmp q e.0)) (Some e.1) r) before
      ∙ either-first None (Some e.1) (lookup (is_at (cmp q)) es) (cmp q k) (cmp q e.0) (two-differ cmp order q k e.0 Greater at (λ clash. cc))

  -- the key that went has no value, and each other key what it had
  pub at_key-without_key : (m : List (K × V)) (k q : K) → Rises cmp m
      → at_key cmp (without_key cmp m k) q ≡ cond (is_eq (cmp q k)) None (at_key cmp m q)
  unfolding IsStrictlySortedBy
  at_key-without_key [] k q rises = none-either (is_eq (cmp q k))
  at_key-without_key (e ∷ es) k q rises = remove-step e es k q rises.0 (at_key-without_key es k q rises.1) (cmp k e.0) refl

  -- what holds of the keys and of the new one holds after it was set
  all-inserted : (P : K → Type 0) (es : List (K × V)) (k : K) (v : V) → AllByRecursion P (keys_of es) → P k → AllByRecursion P (keys_of (insert_entry cmp es k v))
  all-inserted P [] k v all here = (here, tt)
  all-inserted P (e ∷ es) k v all here = step (cmp k e.0) (all-inserted P es k v all.1 here)
    where
      step : (o : Ordering) → AllByRecursion P (keys_of (insert_entry cmp es k v))
          → AllByRecursion P (keys_of (match_ordering o ((k, v) ∷ e ∷ es) ((e.0, v) ∷ es) (e ∷ insert_entry cmp es k v)))
      step Less tail = (here, all)
      step Equal tail = all
      step Greater tail = (all.0, tail)

  -- the keys still rise after one was set
  pub rises-with_pair : (m : List (K × V)) (k : K) (v : V) → Rises cmp m → Rises cmp (with_pair cmp m k v)
  unfolding IsStrictlySortedBy
  rises-with_pair [] k v rises = (tt, tt)
  rises-with_pair (e ∷ es) k v rises = step (cmp k e.0) refl (rises-with_pair es k v rises.1)
    where
      step : (o : Ordering) → cmp k e.0 ≡ o → Rises cmp (insert_entry cmp es k v)
          → Rises cmp (match_ordering o ((k, v) ∷ e ∷ es) ((e.0, v) ∷ es) (e ∷ insert_entry cmp es k v))
      step Less at tail = ((at, below-all cmp order k e.0 (keys_of es) at rises.0), rises)
      step Equal at tail = rises
      step Greater at tail = (all-inserted (λ y. cmp e.0 y ≡ Less) es k v rises.0 (order.antisymm e.0 k ∙ ap ordering_reverse at), tail)

  -- what holds of the keys holds after one went
  all-removed : (P : K → Type 0) (es : List (K × V)) (k : K) → AllByRecursion P (keys_of es) → AllByRecursion P (keys_of (remove_entry (is_at (cmp k)) es))
  all-removed P [] k all = tt
  all-removed P (e ∷ es) k all = step (is_eq (cmp k e.0)) (all-removed P es k all.1)
    where
      step : (b : Bool) → AllByRecursion P (keys_of (remove_entry (is_at (cmp k)) es))
          → AllByRecursion P (keys_of (cond b es (e ∷ remove_entry (is_at (cmp k)) es)))
      step true tail = all.1
      step false tail = (all.0, tail)

  -- the keys still rise after one went
  pub rises-without_key : (m : List (K × V)) (k : K) → Rises cmp m → Rises cmp (without_key cmp m k)
  unfolding IsStrictlySortedBy
  rises-without_key [] k rises = tt
  rises-without_key (e ∷ es) k rises = step (is_eq (cmp k e.0)) (rises-without_key es k rises.1)
    where
      step : (b : Bool) → Rises cmp (remove_entry (is_at (cmp k)) es) → Rises cmp (cond b es (e ∷ remove_entry (is_at (cmp k)) es))
      step true tail = rises.1
      step false tail = (all-removed (λ y. cmp e.0 y ≡ Less) es k rises.0, tail)

-- What stands at a text in a map after a pair was put in, its length, and pairs that are put in between others.
use Rattle.std.proofs.Common.{◌≡◌, ℕ, cond, List, [], ◌∷◌, ◌++◌, length, suc, Some, None, Ordering, Less, Equal, Greater, is_eq, refl, sym, ap, ◌∙◌}
use Rattle.std.specs.Cmp.{IsTotalOrder}
use Rattle.std.specs.List.{AllByRecursion}
use Rattle.std.specs.List.Sorted.{IsStrictlySortedBy}
use Rattle.std.specs.Map.{lookup, keys_of}
use Rattle.std.specs.BTreeMap.{insert_entry, is_at}
use Rattle.std.specs.Ordering.{ordering_reverse, match_ordering}
use Rattle.std.proofs.lemmas.Cmp.{nat_list_cmp_total}
use Rattle.std.proofs.lemmas.Map.Text.{is_eq-slice_cmp}
use Rattle.cbt_base.specs.Keyed.{at_key, with_pair, Rises}
use Rattle.cbt_base.proofs.Maps.{at_key-with_pair}
use Rattle.cbt_base.proofs.Rising.{all-at}
use Rattle.cbt_script.proofs.FieldsBack.{bytes_same, bytes_other}
use Rattle.cbt_model.specs.Keys.{doc_cmp}

module _ {V : Type 0} where
  pub at_other : (m : List (List ℕ × V)) (key other : List ℕ) (v : V) → (key ≡ other → ⊥) → at_key doc_cmp (with_pair doc_cmp m key v) other ≡ at_key doc_cmp m other
  at_other m key other v apart =
      at_key-with_pair doc_cmp nat_list_cmp_total m key v other
      ∙ ap (λ t. cond t (Some v) (at_key doc_cmp m other)) (is_eq-slice_cmp other key ∙ bytes_other other key (λ e. apart (sym e)))

  pub at_same : (m : List (List ℕ × V)) (key : List ℕ) (v : V) → at_key doc_cmp (with_pair doc_cmp m key v) key ≡ Some v
  at_same m key v =
      at_key-with_pair doc_cmp nat_list_cmp_total m key v key
      ∙ ap (λ t. cond t (Some v) (at_key doc_cmp m key)) (is_eq-slice_cmp key key ∙ bytes_same key)

module _ {K V : Type 0} (cmp : K → K → Ordering) where
  longer_if : (e : K × V) (es : List (K × V)) (k : K) (v : V) (o : Ordering) → cmp k e.0 ≡ o → cond (is_eq o) (Some e.1) (lookup (is_at (cmp k)) es) ≡ None
      → (lookup (is_at (cmp k)) es ≡ None → length (insert_entry cmp es k v) ≡ suc (length es))
      → length (match_ordering o ((k, v) ∷ e ∷ es) ((e.0, v) ∷ es) (e ∷ insert_entry cmp es k v)) ≡ suc (length (e ∷ es))
  longer_if e es k v Less is none ih = refl
  longer_if e es k v Equal is none ih = absurd (cc)
  longer_if e es k v Greater is none ih = ap suc (ih none)

  -- a key that was not there makes a map longer
  pub longer : (es : List (K × V)) (k : K) (v : V) → at_key cmp es k ≡ None → length (with_pair cmp es k v) ≡ suc (length es)
  longer [] k v none = refl
  longer (e ∷ es) k v none = longer_if e es k v (cmp k e.0) refl none (longer es k v)

  -- all keys stand before this one
  abbrev pub AllBelow : List (K × V) → K → Type 0
  AllBelow es k = AllByRecursion (λ e. cmp e.0 k ≡ Less) es

  -- all keys stand behind this one
  abbrev pub AllAbove : List (K × V) → K → Type 0
  AllAbove es k = AllByRecursion (λ e. cmp k e.0 ≡ Less) es

  pub insert_between : IsTotalOrder cmp → (es rest : List (K × V)) (k : K) (v : V) → AllBelow es k → AllAbove rest k → with_pair cmp (es ++ rest) k v ≡ es ++ (k, v) ∷ rest
  insert_between order [] [] k v below above = refl
  insert_between order [] (e ∷ rest) k v below above = ap (λ o. match_ordering o ((k, v) ∷ e ∷ rest) ((e.0, v) ∷ rest) (e ∷ insert_entry cmp rest k v)) above.0
  insert_between order (e ∷ es) rest k v below above =
      let behind : cmp k e.0 ≡ Greater = order.antisymm k e.0 ∙ ap ordering_reverse below.0 in
      ap (λ o. match_ordering o ((k, v) ∷ e ∷ es ++ rest) ((e.0, v) ∷ es ++ rest) (e ∷ insert_entry cmp (es ++ rest) k v)) behind
      ∙ ap (λ tail. e ∷ tail) (insert_between order es rest k v below.1 above)

  pub none_between : IsTotalOrder cmp → (es rest : List (K × V)) (k : K) → AllBelow es k → AllAbove rest k → at_key cmp (es ++ rest) k ≡ None
  none_between order [] [] k below above = refl
  none_between order [] (e ∷ rest) k below above = ap (λ o. cond (is_eq o) (Some e.1) (lookup (is_at (cmp k)) rest)) above.0 ∙ none_between order [] rest k tt above.1
  none_between order (e ∷ es) rest k below above =
      let behind : cmp k e.0 ≡ Greater = order.antisymm k e.0 ∙ ap ordering_reverse below.0 in
      ap (λ o. cond (is_eq o) (Some e.1) (lookup (is_at (cmp k)) (es ++ rest))) behind ∙ none_between order es rest k below.1 above

  pub keys_above : (k : K) (rest : List (K × V)) → AllByRecursion (λ y. cmp k y ≡ Less) (keys_of rest) → AllAbove rest k
  keys_above k [] all = tt
  keys_above k (e ∷ rest) all = (all.0, keys_above k rest all.1)

  -- the pairs before and behind one of those that rise
  pub rises_below : (es rest : List (K × V)) (k : K) (v : V) → Rises cmp (es ++ (k, v) ∷ rest) → AllBelow es k
  unfolding IsStrictlySortedBy
  rises_below [] rest k v rises = tt
  rises_below (e ∷ es) rest k v rises = (all-at (λ y. cmp e.0 y ≡ Less) es k v rest rises.0, rises_below es rest k v rises.1)

  pub rises_above : (es rest : List (K × V)) (k : K) (v : V) → Rises cmp (es ++ (k, v) ∷ rest) → AllAbove rest k
  unfolding IsStrictlySortedBy
  rises_above [] rest k v rises = keys_above k rest rises.0
  rises_above (e ∷ es) rest k v rises = rises_above es rest k v rises.1

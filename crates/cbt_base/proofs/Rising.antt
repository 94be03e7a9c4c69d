-- Pairs that rise by key, as those of a map do.
use Rattle.std.proofs.Common.{◌≡◌, List, [], ◌∷◌, ◌++◌, refl, ap, sym, ◌∙◌, append_assoc, subst}
use Rattle.std.specs.declared.cmp.Ordering.{Ordering}
use Rattle.std.specs.declared.cmp.Ordering.TheVariants.{Less, Greater}
use Rattle.std.specs.Ordering.{ordering_reverse, match_ordering}
use Rattle.std.specs.Cmp.{IsTotalOrder}
use Rattle.std.specs.List.{AllByRecursion}
use Rattle.std.specs.List.Sorted.{IsStrictlySortedBy}
use Rattle.std.specs.Map.{keys_of}
use Rattle.std.specs.BTreeMap.{insert_entry}
use Rattle.cbt_base.specs.Keyed.{Rises}

module _ {K V : Type 0} where
  -- what holds of all keys holds of the one in their midst
  pub all-at : (P : K → Type 0) (es : List (K × V)) (k : K) (v : V) (rest : List (K × V)) → AllByRecursion P (keys_of (es ++ (k, v) ∷ rest)) → P k
  all-at P [] k v rest all = all.0
  all-at P (e ∷ es) k v rest all = all-at P es k v rest all.1

  -- a key above all goes to the end
  pub insert-last : (cmp : K → K → Ordering) → IsTotalOrder cmp → (es : List (K × V)) (k : K) (v : V) (rest : List (K × V))
      → Rises cmp (es ++ (k, v) ∷ rest) → insert_entry cmp es k v ≡ es ++ (k, v) ∷ []
  unfolding IsStrictlySortedBy
  insert-last cmp order [] k v rest rises = refl
  insert-last cmp order (e ∷ es) k v rest rises =
      let below : cmp e.0 k ≡ Less = all-at (λ y. cmp e.0 y ≡ Less) es k v rest rises.0 in
      let above : cmp k e.0 ≡ Greater = order.antisymm k e.0 ∙ ap ordering_reverse below in
      ap (λ o. match_ordering o ((k, v) ∷ e ∷ es) ((e.0, v) ∷ es) (e ∷ insert_entry cmp es k v)) above
      ∙ ap (λ tail. e ∷ tail) (insert-last cmp order es k v rest rises.1)

  -- one more pair is copied
  pub copy-on : (cmp : K → K → Ordering) → IsTotalOrder cmp → (all done new left rest : List (K × V)) (k l : K) (v w : V)
      → Rises cmp all → done ++ left ≡ all → left ≡ (k, v) ∷ rest → l ≡ k → w ≡ v → new ≡ insert_entry cmp done l w → new ++ rest ≡ all
  copy-on cmp order all done new left rest k l v w rises whole next same-key same-value made =
      let split : done ++ (k, v) ∷ rest ≡ all = ap (λ x. done ++ x) (sym next) ∙ whole in
      let last : insert_entry cmp done k v ≡ done ++ (k, v) ∷ [] = insert-last cmp order done k v rest (subst (Rises cmp) (sym split) rises) in
      let new-is : new ≡ done ++ (k, v) ∷ [] = made ∙ ap (λ x. insert_entry cmp done x w) same-key ∙ ap (λ x. insert_entry cmp done k x) same-value ∙ last in
      ap (λ x. x ++ rest) new-is ∙ append_assoc done ((k, v) ∷ []) rest ∙ split

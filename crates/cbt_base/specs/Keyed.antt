-- A map as the list of its pairs: what stands at a key, and the list with a key set or gone.
use Rattle.std.specs.Prelude.{Option, List}
use Rattle.std.specs.declared.cmp.Ordering.{Ordering}
use Rattle.std.specs.BTreeMap.{insert_entry, is_at}
use Rattle.std.specs.Map.{lookup, remove_entry, keys_of}
use Rattle.std.specs.List.Sorted.{IsStrictlySortedBy}

module _ {K V : Type 0} (cmp : K → K → Ordering) where
  -- the value at the key, where there is one
  abbrev pub at_key : List (K × V) → K → Option V
  at_key m k = lookup (is_at (cmp k)) m

  -- the same pairs with this value at the key
  abbrev pub with_pair : List (K × V) → K → V → List (K × V)
  with_pair m k v = insert_entry cmp m k v

  -- the same pairs without the key
  abbrev pub without_key : List (K × V) → K → List (K × V)
  without_key m k = remove_entry (is_at (cmp k)) m

  -- the keys rise strictly
  abbrev pub Rises : List (K × V) → Type 0
  Rises m = IsStrictlySortedBy cmp (keys_of m)

-- How a map takes back what was lent from it.
use Rattle.std.specs.Prelude.{◌≡◌, Option, List, OnSome}
use Rattle.std.specs.Borrow.{LendsSo, MutBor, Fml}
use Rattle.std.specs.BTreeMap.{is_at}
use Rattle.std.specs.Map.{set_value}
use Rattle.std.specs.BTreeMap.Lent.{OrdMembers}
use denote.RattleType.{RattleType}
use Rattle.cbt_base.specs.contracts.map.Map.{the_row}

-- the map ends with the value at this key set to the last value behind r; at `None` it stays
abbrev pub lends_value : (K V : RattleType) → OrdMembers K.Denot → MutBor (List (K.Denot × V.Denot)) → K.Denot → Option (MutBor V.Denot) → Fml
lends_value K V ord m key r = LendsSo (the_row K V (record { cmp = ord.cmp }) (record { eq = ord.eq }) (record { partial_cmp = ord.partial_cmp })) V m r
    (λ n w. OnSome r (n ≡ set_value (is_at (ord.cmp key)) m.now w)) (λ n. n ≡ m.now)

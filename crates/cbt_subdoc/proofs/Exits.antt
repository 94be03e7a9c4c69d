-- The exit of a reading that stopped in a part of it.
use Rattle.std.proofs.Common.{◌≡◌, ℕ, Result, Err, sym, subst}
use Rattle.cbt_subdoc.specs.declared.parsing.Stop.{Stop}
use Rattle.cbt_subdoc.specs.declared.parsing.Stop.TheVariants.{Left, NoMemory}
use Rattle.cbt_subdoc.specs.Readings.{Reads}

stopped : {A B C D : Type 0} (part : A → B) (all : C → D) (stop : Stop) (from : Result B ℕ) (to : Result D ℕ) → Reads part (Err stop) from
    → ((left : ℕ) → from ≡ Err left → to ≡ Err left) → Reads all (Err stop) to
stopped part all (Left left) from to reads along = along left reads
stopped part all NoMemory from to reads along = tt

pub exits : {A B C D : Type 0} (part : A → B) (all : C → D) (stop : Stop) (r : Result C Stop) (from : Result B ℕ) (to : Result D ℕ) → r ≡ Err stop
    → Reads part (Err stop) from → ((left : ℕ) → from ≡ Err left → to ≡ Err left) → Reads all r to
exits {C} part all stop r from to is reads along =
    let P : Result C Stop → Type 0 = λ x. Reads all x to in subst P (sym is) (stopped part all stop from to reads along)

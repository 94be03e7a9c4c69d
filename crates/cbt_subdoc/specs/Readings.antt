-- How the answer of a function that reads stands to a reading; want of memory is free.
use Rattle.std.specs.Prelude.{◌≡◌, ℕ, Option, Some, None, Result, Ok, Err}
use Rattle.cbt_subdoc.specs.declared.parsing.Stop.{Stop}
use Rattle.cbt_subdoc.specs.declared.parsing.Stop.TheVariants.{Left, NoMemory}

abbrev pub Reads : {A B : Type 0} → (A → B) → Result A Stop → Result B ℕ → Type 0
Reads view (Ok x) reading = reading ≡ Ok (view x)
Reads view (Err (Left left)) reading = reading ≡ Err left
Reads view (Err NoMemory) reading = Unit {0}

-- a reading that has no answer ends at the text's end
abbrev pub ReadsName : {A B : Type 0} → (A → B) → Result A Stop → Option B → Type 0
ReadsName view (Ok x) reading = reading ≡ Some (view x)
ReadsName view (Err (Left left)) reading = (reading ≡ None) × (left ≡ 0)
ReadsName view (Err NoMemory) reading = Unit {0}

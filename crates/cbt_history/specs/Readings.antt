-- Reading one field after another, and what it is that a reader gives what its definition reads.
use Rattle.std.specs.Prelude.{◌≡◌, Bool, true, false, Option, Some, None, Result, Ok, Err}
use Rattle.cbt_history.specs.declared.faults.BadField.{BadField}
use Rattle.cbt_history.specs.declared.faults.LineFault.{LineFault}
use Rattle.cbt_history.specs.declared.faults.LineFault.TheVariants.{Refused, NoMemory}

-- one reading after another
abbrev pub and_then : {A B : Type 0} → Option A → (A → Option B) → Option B
and_then (Some x) next = next x
and_then None next = None

infixl 10 ◌>>=◌
abbrev pub ◌>>=◌ : {A B : Type 0} → Option A → (A → Option B) → Option B
read >>= next = and_then read next

-- nothing, where a test holds
abbrev pub require : Bool → Option (Unit {0})
require true = Some tt
require false = None

-- what was found is what the definition reads
abbrev pub Finds : {A B : Type 0} → (A → B) → Result A BadField → Option B → Type 0
Finds view (Ok x) read = read ≡ Some (view x)
Finds view (Err bad) read = read ≡ None

-- the same, unless memory ran out
abbrev pub Gives : {A B : Type 0} → (A → B) → Result A LineFault → Option B → Type 0
Gives view (Ok x) read = read ≡ Some (view x)
Gives view (Err Refused) read = read ≡ None
Gives view (Err NoMemory) read = Unit {0}

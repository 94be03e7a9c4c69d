-- Reading one part of a written form after another; the first fault decides.
use Rattle.std.specs.Prelude.{◌≡◌, Bool, true, false, Result, Ok, Err}
use Rattle.cbt_shape.specs.declared.fault.ShapeFault.{ShapeFault}
use Rattle.cbt_shape.specs.declared.fault.ShapeFault.TheVariants.{Shape, NoMemory}

abbrev pub and_then : {A B : Type 0} → Result A ShapeFault → (A → Result B ShapeFault) → Result B ShapeFault
and_then (Ok x) next = next x
and_then (Err fault) next = Err fault

infixl 10 ◌>>=◌
abbrev pub ◌>>=◌ : {A B : Type 0} → Result A ShapeFault → (A → Result B ShapeFault) → Result B ShapeFault
read >>= next = and_then read next

-- nothing, where a test holds, and else the fault of the whole
abbrev pub require : Bool → Result (Unit {0}) ShapeFault
require true = Ok tt
require false = Err (Shape 0)

-- what was read is what the definition reads, unless memory ran out
abbrev pub Reads : {A B : Type 0} → (A → B) → Result A ShapeFault → Result B ShapeFault → Type 0
Reads view (Ok x) reading = reading ≡ Ok (view x)
Reads view (Err (Shape at)) reading = reading ≡ Err (Shape at)
Reads view (Err NoMemory) reading = Unit {0}

-- Fields of a record, and which of them are bad.
use Rattle.std.specs.Prelude.{ℕ, Option, Some, None, Result, Ok, Err}
use Rattle.cbt_shape.specs.declared.fault.ShapeFault.{ShapeFault}
use Rattle.cbt_shape.specs.declared.fault.ShapeFault.TheVariants.{Shape}
use Rattle.cbt_shape.specs.declared.fields.Field.{Field}
use Rattle.cbt_shape.specs.declared.fields.Field.TheVariants.{Missing, OtherForm, Good}

-- a field that is there, by what its form makes of it
abbrev pub judged : {A : Type 0} → Option A → Field A
judged (Some x) = Good x
judged None = OtherForm

-- a field, by its form
abbrev pub field : {T A : Type 0} → (T → Option A) → Option T → Field A
field form (Some t) = judged (form t)
field form None = Missing

-- field `at` should be there
abbrev pub wanted : {A : Type 0} → ℕ → Field A → Result A ShapeFault
wanted at (Good x) = Ok x
wanted at Missing = Err (Shape at)
wanted at OtherForm = Err (Shape at)

-- field `at` should not be there
abbrev pub absent : {T : Type 0} → ℕ → Option T → Result (Unit {0}) ShapeFault
absent at None = Ok tt
absent at (Some t) = Err (Shape at)

-- nothing says whether field `at` should be there: it is judged by its form alone
abbrev pub formed : {A : Type 0} → ℕ → Field A → Result (Unit {0}) ShapeFault
formed at OtherForm = Err (Shape at)
formed at Missing = Ok tt
formed at (Good x) = Ok tt

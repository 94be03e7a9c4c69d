-- The value that an operation takes.
use Rattle.std.specs.Prelude.{Bool, true, false}
use Rattle.cbt_subdoc.specs.declared.changes.Mut.{Mut}
use Rattle.cbt_subdoc.specs.declared.changes.MutOp.{MutOp}
use Rattle.cbt_subdoc.specs.declared.changes.MutOp.TheVariants.{Delete, Counter}
use Rattle.cbt_subdoc.specs.declared.changes.MutValue.{MutValue}
use Rattle.cbt_subdoc.specs.declared.changes.MutValue.TheVariants as value

abbrev pub is_absent : MutValue → Bool
is_absent value.None = true
is_absent _ = false

abbrev pub is_delta : MutValue → Bool
is_delta (value.Delta d) = true
is_delta _ = false

-- a JSON value or the macro
abbrev pub is_value : MutValue → Bool
is_value (value.Json v) = true
is_value value.MacroCas = true
is_value _ = false

abbrev pub takes : MutOp → MutValue → Bool
takes Delete v = is_absent v
takes Counter v = is_delta v
takes _ v = is_value v

-- the change has the kind of value that its operation takes
abbrev pub mut_fits : Mut → Bool
mut_fits change = takes change.op change.value

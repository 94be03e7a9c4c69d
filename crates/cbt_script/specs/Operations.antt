-- The operations of a transaction, over the names that the gets before them have bound.
use Rattle.std.specs.Prelude.{ℕ, ◌==◌, if◌then◌else◌, List, length, Result, Ok, Err, codes}
use Rattle.cbt_expr.specs.declared.expressions.Cond.{Cond}
use Rattle.cbt_expr.specs.declared.expressions.Expr.{Expr}
use Rattle.cbt_expr.specs.declared.plans.Op.{Op}
use Rattle.cbt_expr.specs.declared.plans.Op.TheVariants as op
use Rattle.cbt_script.specs.declared.cause.Cause.{Cause}
use Rattle.cbt_script.specs.declared.cause.Cause.TheVariants as cause
use Rattle.cbt_script.specs.declared.cause.LineFault.{LineFault}
use Rattle.cbt_script.specs.declared.cause.LineFault.TheVariants as fault
use Rattle.cbt_script.specs.declared.keywords.Operation.{Operation}
use Rattle.cbt_script.specs.declared.keywords.Operation.TheVariants.{Get, Insert, Replace, Remove, Need}
use Rattle.cbt_syntax.specs.Bound.{is_bound_in}
use Rattle.cbt_syntax.specs.Whole.{expr_of, cond_of}
use Rattle.cbt_syntax.specs.declared.fault.SyntaxFault.{SyntaxFault}
use Rattle.cbt_syntax.specs.declared.fault.SyntaxFault.TheVariants.{NotWhole, Malformed, Unbound, NoMemory}
use Rattle.cbt_script.specs.Causes.{◌>>=◌}
use Rattle.cbt_script.specs.Fields.{id_field, fixed_field, name_field, end_field}

-- the names that gets have bound, as the keys of a map
abbrev pub Bound : Type 0
Bound = List (List ℕ × Unit {0})

abbrev pub line_fault_of : SyntaxFault → LineFault
line_fault_of NotWhole = fault.Refused cause.NotWhole
line_fault_of Malformed = fault.Refused cause.Expr
line_fault_of Unbound = fault.Refused cause.Unbound
line_fault_of NoMemory = fault.NoMemory

-- what a text reads as, or what is wrong with its line
abbrev pub told : {A : Type 0} → Result A SyntaxFault → Result A Cause
told (Ok x) = Ok x
told (Err NotWhole) = Err cause.NotWhole
told (Err Unbound) = Err cause.Unbound
told (Err fault) = Err cause.Expr

-- an expression: the rest of the line
abbrev pub expr_field : Bound → List ℕ → Result Expr Cause
expr_field bound text = if length text == 0 then Err cause.Form else told (expr_of (is_bound_in bound) text)

-- a condition: the rest of the line
abbrev pub cond_field : Bound → List ℕ → Result Cond Cause
cond_field bound text = if length text == 0 then Err cause.Form else told (cond_of (is_bound_in bound) text)

-- `get ID as NAME`
unfoldable pub get_field : List ℕ → Result Op Cause
get_field rest = do
  id ← id_field rest
  behind ← fixed_field (codes "as") id.1
  name ← name_field behind
  _ ← end_field name.1
  Ok (op.Get id.0 name.0)

-- `insert ID EXPR`
unfoldable pub insert_field : Bound → List ℕ → Result Op Cause
insert_field bound rest = do
  id ← id_field rest
  value ← expr_field bound id.1
  Ok (op.Insert id.0 value)

-- `replace ID EXPR`
unfoldable pub replace_field : Bound → List ℕ → Result Op Cause
replace_field bound rest = do
  id ← id_field rest
  value ← expr_field bound id.1
  Ok (op.Replace id.0 value)

-- `remove ID`
unfoldable pub remove_field : List ℕ → Result Op Cause
remove_field rest = do
  id ← id_field rest
  _ ← end_field id.1
  Ok (op.Remove id.0)

-- `need COND`
unfoldable pub need_field : Bound → List ℕ → Result Op Cause
need_field bound rest = do
  cond ← cond_field bound rest
  Ok (op.Need cond)

abbrev pub op_field : Operation → Bound → List ℕ → Result Op Cause
op_field Get bound rest = get_field rest
op_field Insert bound rest = insert_field bound rest
op_field Replace bound rest = replace_field bound rest
op_field Remove bound rest = remove_field rest
op_field Need bound rest = need_field bound rest

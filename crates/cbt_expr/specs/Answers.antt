-- What an evaluation answers; want of memory is free.
use Rattle.std.specs.Prelude.{◌≡◌, ℕ, List, Option, Result, Ok, Err}
use Rattle.std.specs.Option.{option_flatten}
use Rattle.std.specs.Ordering.{nat_cmp}
use Rattle.std.specs.Cmp.Lexicographic.{slice_cmp}
use Rattle.cbt_base.specs.Keyed.{at_key}
use Rattle.cbt_json.specs.declared.value.Json.{Json}
use Rattle.cbt_expr.specs.declared.values.EvalFault.{EvalFault}
use Rattle.cbt_expr.specs.declared.values.EvalFault.TheVariants.{BadValue, NoMemory}

-- what a map binds to a name; a name that is not there counts as bound to none
abbrev pub bound_in : List (List ℕ × Option Json) → List ℕ → Option Json
bound_in m name = option_flatten (at_key (slice_cmp nat_cmp) m name)

-- the answer where memory is enough: the value, or the number of the first part without one
abbrev pub answer_of : {A : Type 0} → Result A ℕ → Result A EvalFault
answer_of (Ok v) = Ok v
answer_of (Err part) = Err (BadValue part)

-- an answer is this value, or names this part
abbrev pub Answers : {A : Type 0} → Result A EvalFault → Result A ℕ → Type 0
Answers (Ok v) valued = valued ≡ Ok v
Answers (Err (BadValue part)) valued = valued ≡ Err part
Answers (Err NoMemory) valued = Unit {0}

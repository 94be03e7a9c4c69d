-- The words that causes are printed by, and what it is that a reader gives what its definition reads.
use Rattle.std.specs.Prelude.{◌≡◌, ℕ, Bool, true, false, List, Result, Ok, Err, codes}
use Rattle.cbt_script.specs.declared.cause.Cause.{Cause}
use Rattle.cbt_script.specs.declared.cause.Cause.TheVariants.{NotUtf8, Word, Form, Name, Id, Number, NotJson, NotWhole, Big, Attrs, Expr, Unbound, Unknown, Twice, Limit, Unended}
use Rattle.cbt_script.specs.declared.cause.LineFault.{LineFault}
use Rattle.cbt_script.specs.declared.cause.LineFault.TheVariants.{Refused, NoMemory}

abbrev pub cause_word : Cause → List ℕ
cause_word NotUtf8 = codes "NotUtf8"
cause_word Word = codes "Word"
cause_word Form = codes "Form"
cause_word Name = codes "Name"
cause_word Id = codes "Id"
cause_word Number = codes "Number"
cause_word NotJson = codes "NotJson"
cause_word NotWhole = codes "NotWhole"
cause_word Big = codes "Big"
cause_word Attrs = codes "Attrs"
cause_word Expr = codes "Expr"
cause_word Unbound = codes "Unbound"
cause_word Unknown = codes "Unknown"
cause_word Twice = codes "Twice"
cause_word Limit = codes "Limit"
cause_word Unended = codes "Unended"

-- one reading after another; the first cause decides
abbrev pub and_then : {A B : Type 0} → Result A Cause → (A → Result B Cause) → Result B Cause
and_then (Ok x) next = next x
and_then (Err why) next = Err why

infixl 10 ◌>>=◌
abbrev pub ◌>>=◌ : {A B : Type 0} → Result A Cause → (A → Result B Cause) → Result B Cause
read >>= next = and_then read next

-- nothing, where a test holds
abbrev pub require : Bool → Cause → Result (Unit {0}) Cause
require true why = Ok tt
require false why = Err why

-- what was found is what the definition reads
abbrev pub Finds : {A B : Type 0} → (A → B) → Result A Cause → Result B Cause → Type 0
Finds view (Ok x) read = read ≡ Ok (view x)
Finds view (Err why) read = read ≡ Err why

-- the same, unless memory ran out
abbrev pub Gives : {A B : Type 0} → (A → B) → Result A LineFault → Result B Cause → Type 0
Gives view (Ok x) read = read ≡ Ok (view x)
Gives view (Err (Refused why)) read = read ≡ Err why
Gives view (Err NoMemory) read = Unit {0}

-- what was changed in place is what the definition makes of it, unless memory ran out
abbrev pub Steps : {B : Type 0} → Result (Unit {0}) LineFault → B → Result B Cause → Type 0
Steps (Ok x) new read = read ≡ Ok new
Steps (Err (Refused why)) new read = read ≡ Err why
Steps (Err NoMemory) new read = Unit {0}

-- the same of two things at once
abbrev pub StepsBoth : {B C : Type 0} → Result (Unit {0}) LineFault → B → C → Result (B × C) Cause → Type 0
StepsBoth (Ok x) new other read = read ≡ Ok (new, other)
StepsBoth (Err (Refused why)) new other read = read ≡ Err why
StepsBoth (Err NoMemory) new other read = Unit {0}

-- Readings of the front of a text, and how the answer of a function that reads stands to one.
use Rattle.std.specs.Prelude.{◌≡◌, ℕ, List, Result, Ok, Err}
use Rattle.cbt_syntax.specs.declared.fault.SyntaxFault.{SyntaxFault}
use Rattle.cbt_syntax.specs.declared.fault.SyntaxFault.TheVariants.{NotWhole, Malformed, Unbound, NoMemory}

-- what is read, or why nothing is
abbrev pub Outcome : Type 0 → Type 0
Outcome A = Result A SyntaxFault

-- what stands at the front of a text and what stands behind it, or why nothing is read
abbrev pub Read : Type 0 → Type 0
Read A = Outcome (A × List ℕ)

-- one reading after another; the first fault decides
infixl 10 ◌>>=◌
abbrev pub ◌>>=◌ : {A B : Type 0} → Outcome A → (A → Outcome B) → Outcome B
Ok x >>= f = f x
Err fault >>= f = Err fault

-- an answer is the reading's, or tells of want of memory
abbrev pub Reads : {A B : Type 0} → (A → B) → Outcome A → Outcome B → Type 0
Reads view (Ok x) reading = reading ≡ Ok (view x)
Reads view (Err NotWhole) reading = reading ≡ Err NotWhole
Reads view (Err Malformed) reading = reading ≡ Err Malformed
Reads view (Err Unbound) reading = reading ≡ Err Unbound
Reads view (Err NoMemory) reading = Unit {0}

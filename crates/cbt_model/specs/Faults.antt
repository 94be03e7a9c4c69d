-- The calls that are to fail.
use Rattle.std.specs.Prelude.{ℕ, Option, Some, None}
use Rattle.std.specs.Prelude.{unwrap_or}
use Rattle.std.specs.declared.cmp.Ordering.{Ordering}
use Rattle.std.specs.Ordering.{nat_cmp, ordering_then}
use Rattle.cbt_base.specs.Keyed.{at_key, with_pair}
use Rattle.cbt_model.specs.declared.events.Fate.{Fate}
use Rattle.cbt_model.specs.declared.events.Fate.TheVariants.{Plain}
use Rattle.cbt_model.specs.declared.events.Fault.{Fault}
use Rattle.cbt_model.specs.declared.events.Faults.{Faults}

-- calls stand by their actor, and then by their number
abbrev pub call_cmp : ℕ × ℕ → ℕ × ℕ → Ordering
call_cmp a b = ordering_then (nat_cmp a.0 b.0) (nat_cmp a.1 b.1)

-- the fate that is named for a call of an actor
abbrev pub fault_at : Faults → ℕ → ℕ → Option Fate
fault_at faults actor call = at_key call_cmp faults.fates (actor, call)

-- the fate of a call of an actor
abbrev pub fate_of : Faults → ℕ → ℕ → Fate
fate_of faults actor call = unwrap_or (fault_at faults actor call) Plain

-- a fault that is there already stays
abbrev pub with_fault_over : Option Fate → Faults → Fault → Faults
with_fault_over (Some _) faults fault = faults
with_fault_over None faults fault = record { fates = with_pair call_cmp faults.fates (fault.actor, fault.call) fault.fate }

-- the faults with one more; of two for one call the first counts
abbrev pub with_fault : Faults → Fault → Faults
with_fault faults fault = with_fault_over (fault_at faults fault.actor fault.call) faults fault

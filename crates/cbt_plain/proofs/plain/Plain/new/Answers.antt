use Rattle.std.proofs.Common.{length, sym, ap, ◌∙◌, arith}
use Rattle.cbt_base.specs.Clock.{held}
use Rattle.cbt_plain.specs.Counts.{count_of}
use Rattle.cbt_model.specs.History.{after}
use Rattle.cbt_model.specs.Legal.{ahead_at, calls_below}
use Rattle.cbt_plain.proofs.Calls.{kept-none, opening-bound}
use Rattle.cbt_plain.proofs.plain.Plain.new.Goals as goal

pub invariant_of-result-clause-stands : goal.invariant_of-result-clause-stands
invariant_of-result-clause-stands g c = c.in_ok-state.ensures ∙ ap (λ h. after c.args.opening h (length h)) (sym c.new.ensures)

pub invariant_of-result-clause-within : goal.invariant_of-result-clause-within
invariant_of-result-clause-within g c =
    let same = ap (λ s. s.last) c.in_ok-state.ensures in let bound = opening-bound in omega arith

pub invariant_of-result-clause-counted : goal.invariant_of-result-clause-counted
invariant_of-result-clause-counted g c a =
    ap (λ m. count_of m a) c.new-3.ensures ∙ ap (λ h. calls_below h a (length h)) (sym c.new.ensures)

pub invariant_of-result-clause-kept : goal.invariant_of-result-clause-kept
invariant_of-result-clause-kept g c = kept-none _ _ _ c.new.ensures c.new-2.ensures

pub invariant_of-result-clause-marked : goal.invariant_of-result-clause-marked
invariant_of-result-clause-marked g c i low = ap (λ m. held (ahead_at m i)) (sym c.new-2.ensures)

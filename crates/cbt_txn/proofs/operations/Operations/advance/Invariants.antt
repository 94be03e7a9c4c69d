use Rattle.std.proofs.Common.{◌≡◌, ◌≤◌, List, length}
use Rattle.cbt_model.specs.declared.events.Made.{Made}
use Rattle.cbt_core.specs.Walk.{AttemptTerms}
use Rattle.cbt_txn.specs.Following.{Between}
use Rattle.cbt_txn.proofs.operations.Operations.advance.Given as goal

-- where it stood between operations it does so still
abbrev pub invariant-loop-at : goal.invariant-loop-at
invariant-loop-at l = record {
  follows : (t : AttemptTerms) (l0 told : List Made) → t.plan.ops ≡ l.ops → Between t l.initial.self l0 told → Between t l.self l0 told;
  at_is : length l.self.logs ≡ l.at;
  behind : length l.initial.self.logs ≤ length l.self.logs;
  attempt : l.self.attempt ≡ l.initial.self.attempt;
}

use Rattle.std.proofs.Common.{◌≡◌, ◌++◌}
use Rattle.cbt_model.proofs.table.rows_of.Given as goal

-- what is copied and what is left make the whole
abbrev pub invariant-loop-id : goal.invariant-loop-id
invariant-loop-id l = l.rows ++ l.id-iterator ≡ l.clients

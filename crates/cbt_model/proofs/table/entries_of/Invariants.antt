use Rattle.std.proofs.Common.{◌≡◌, ◌++◌}
use Rattle.cbt_model.specs.Table.{entries_of}
use Rattle.cbt_model.proofs.table.entries_of.Given as goal

-- what is found and what is left to look through make the whole
abbrev pub invariant-loop-key : goal.invariant-loop-key
invariant-loop-key l = l.found ++ entries_of l.atr l.key-iterator ≡ entries_of l.atr l.entries

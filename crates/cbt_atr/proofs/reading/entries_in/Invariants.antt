use Rattle.std.proofs.Common.{◌≡◌, drop}
use Rattle.cbt_atr.specs.EntriesRead.{entries_in}
use Rattle.cbt_atr.proofs.Walks.{read_behind}
use Rattle.cbt_atr.proofs.reading.entries_in.Given as goal

-- the entries so far, with those of the members that are left, are all
abbrev pub invariant-loop-name : goal.invariant-loop-name
invariant-loop-name l = read_behind l.entries (entries_in (drop l.name-index l.members)) ≡ entries_in l.members

use Rattle.std.proofs.Common.{◌≡◌, map, take}
use Rattle.std.specs.List.{AllByRecursion}
use Rattle.cbt_shape.proofs.Sound.{AreSound}
use Rattle.cbt_atr.specs.Entries.{written_entry}
use Rattle.cbt_atr.proofs.SoundEntries.{Fit}
use Rattle.cbt_atr.proofs.writing.members_of.Given as goal

-- the entries so far
abbrev pub invariant-loop-id : goal.invariant-loop-id
invariant-loop-id l = record {
  all : l.members ≡ map written_entry (take l.id-index l.entries);
  sound : AreSound 3 l.members;
  fit : AllByRecursion Fit (take l.id-index l.entries);
}

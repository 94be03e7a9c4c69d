use Rattle.std.proofs.Common.{◌≡◌, drop}
use Rattle.cbt_model.specs.Fitting.{ids_rise, ids_rise_from}
use Rattle.cbt_model.proofs.fitting.ids_rise.Given as goal

-- the ids rise where those that are left rise above the last one
abbrev pub invariant-loop-item : goal.invariant-loop-item
invariant-loop-item g l = ids_rise_from l.low (drop l.item-index l.items) ≡ ids_rise l.items

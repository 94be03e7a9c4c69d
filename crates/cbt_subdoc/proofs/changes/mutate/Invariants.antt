use Rattle.std.proofs.Common.{◌≡◌, drop}
use Rattle.cbt_json.specs.Rules.{IsJson}
use Rattle.cbt_subdoc.specs.Along.{all_changed}
use Rattle.cbt_subdoc.proofs.changes.mutate.Given as goal

abbrev pub invariant-loop-i : goal.invariant-loop-i
invariant-loop-i l = record { same : all_changed l.cas l.i (drop l.i l.changes) l.work ≡ all_changed l.cas 0 l.changes l.tree; rules : IsJson l.work }

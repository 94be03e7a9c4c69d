use Rattle.std.proofs.Common.{◌≡◌, drop}
use Rattle.cbt_model.specs.Table.{without_gone}
use Rattle.cbt_model.proofs.table.remove_rows.Given as goal

-- what is left to remove makes the whole
abbrev pub invariant-loop-id : goal.invariant-loop-id
invariant-loop-id l = without_gone l.me (drop l.id-index l.gone) l.clients ≡ without_gone l.me l.gone l.initial.clients

use Rattle.cbt_stage.specs.declared.ends.PutEnd.TheVariants.{Staged, Unstaged, Blocked, Moved, CallFailed}
use Rattle.cbt_stage.proofs.Rewriting.{ends_by, ends_failed}
use Rattle.cbt_stage.proofs.laws.agains_end_right.Goals as goal

pub returns-clause-staged : goal.returns-clause-staged
returns-clause-staged c t again mine place base stands ended = ends_by again mine (Staged place base) stands.knows ended

pub returns-clause-unstaged : goal.returns-clause-unstaged
returns-clause-unstaged c t again mine place stands ended = ends_by again mine (Unstaged place) stands.knows ended

pub returns-clause-moved : goal.returns-clause-moved
returns-clause-moved c t again mine stands ended = ends_by again mine Moved stands.knows ended

pub returns-clause-failed : goal.returns-clause-failed
returns-clause-failed c t again mine place stands ended = ends_failed again.task place mine (ends_by again mine (CallFailed place) stands.knows ended)

pub returns-clause-blocked : goal.returns-clause-blocked
returns-clause-blocked c t again mine by stands ended = ends_by again mine (Blocked by) stands.knows ended

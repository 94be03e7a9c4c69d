use Rattle.cbt_stage.specs.declared.ends.PutEnd.TheVariants.{Staged, Unstaged, Blocked, Moved, CallFailed}
use Rattle.cbt_stage.proofs.Knowing.{ends_by}
use Rattle.cbt_stage.proofs.laws.puts_end_right.Goals as goal

pub returns-clause-staged : goal.returns-clause-staged
returns-clause-staged c t put mine place base stands ended = ends_by put.task put.phase mine (Staged place base) stands.knows ended

pub returns-clause-moved : goal.returns-clause-moved
returns-clause-moved c t put mine stands ended = ends_by put.task put.phase mine Moved stands.knows ended

pub returns-clause-blocked : goal.returns-clause-blocked
returns-clause-blocked c t put mine by stands ended = ends_by put.task put.phase mine (Blocked by) stands.knows ended

pub returns-clause-failed : goal.returns-clause-failed
returns-clause-failed c t put mine place stands ended = ends_by put.task put.phase mine (CallFailed place) stands.knows ended

pub returns-clause-unstaged : goal.returns-clause-unstaged
returns-clause-unstaged c t put mine place stands ended = ends_by put.task put.phase mine (Unstaged place) stands.knows ended

use Rattle.std.proofs.Common.{◌≡◌, true}
use Rattle.cbt_book.specs.Outcomes.{DoneAt, is_refusal}
use Rattle.cbt_stage.proofs.Joining.{staging_behind, blocked_behind, failed_behind}
use Rattle.cbt_stage.proofs.laws.puts_end_behind_gets.Goals as goal

pub returns-clause-staged : goal.returns-clause-staged
returns-clause-staged c o place mine reads it = staging_behind o (DoneAt place) mine reads it

pub returns-clause-moved : goal.returns-clause-moved
returns-clause-moved c o mine reads it = staging_behind o (λ m. is_refusal m.answer.reply ≡ true) mine reads it

pub returns-clause-blocked : goal.returns-clause-blocked
returns-clause-blocked c = blocked_behind

pub returns-clause-failed : goal.returns-clause-failed
returns-clause-failed c = failed_behind

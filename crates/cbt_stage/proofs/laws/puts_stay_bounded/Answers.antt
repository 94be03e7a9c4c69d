use Rattle.cbt_stage.proofs.Counting.{put_calls}
use Rattle.cbt_stage.proofs.Joining.{write_calls, own_calls}
use Rattle.cbt_stage.proofs.laws.puts_stay_bounded.Goals as goal

pub returns-clause-calls : goal.returns-clause-calls
returns-clause-calls c t put mine stands = put_calls t put.task.doc put.phase mine stands.room

pub returns-clause-after_get : goal.returns-clause-after_get
returns-clause-after_get c t put mine reads stands get = write_calls t put.task.doc mine reads (put_calls t put.task.doc put.phase mine stands.room) get

pub returns-clause-alone : goal.returns-clause-alone
returns-clause-alone c t put mine stands = own_calls t put.task.doc mine (put_calls t put.task.doc put.phase mine stands.room)

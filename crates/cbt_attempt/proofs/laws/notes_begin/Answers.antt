use Rattle.cbt_attempt.proofs.Notes.{writes_begin, all_begin, all_entered}
use Rattle.cbt_attempt.proofs.laws.notes_begin.Goals as goal

pub returns-clause-writes : goal.returns-clause-writes
returns-clause-writes c = writes_begin

pub returns-clause-all : goal.returns-clause-all
returns-clause-all c = all_begin

pub returns-clause-entered : goal.returns-clause-entered
returns-clause-entered c = all_entered

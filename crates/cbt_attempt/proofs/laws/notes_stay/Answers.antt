use Rattle.cbt_attempt.proofs.Notes.{writes_unstaged, writes_refused, all_quiet}
use Rattle.cbt_attempt.proofs.laws.notes_stay.Goals as goal

pub returns-clause-writes : goal.returns-clause-writes
returns-clause-writes c = writes_unstaged

pub returns-clause-refused : goal.returns-clause-refused
returns-clause-refused c = writes_refused

pub returns-clause-all : goal.returns-clause-all
returns-clause-all c = all_quiet

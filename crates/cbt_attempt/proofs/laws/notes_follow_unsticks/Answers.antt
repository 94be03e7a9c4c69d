use Rattle.cbt_attempt.proofs.Notes.{writes_taken_back, all_taken_back, writes_unstick_failed}
use Rattle.cbt_attempt.proofs.laws.notes_follow_unsticks.Goals as goal

pub returns-clause-writes_done : goal.returns-clause-writes_done
returns-clause-writes_done c a r x own new l m d is done noted = writes_taken_back a r own l m new d x is done noted

pub returns-clause-all_done : goal.returns-clause-all_done
returns-clause-all_done c a r x own new l m d w at cas is done noted = all_taken_back a r own l m new d x is done noted w at cas

pub returns-clause-writes_failed : goal.returns-clause-writes_failed
returns-clause-writes_failed c a r x own new l m d w is none noted = writes_unstick_failed a r own l m new d w noted x is none

use Rattle.cbt_attempt.proofs.Notes.{writes_staged, all_staged, writes_failed}
use Rattle.cbt_attempt.proofs.laws.notes_follow_stagings.Goals as goal

pub returns-clause-writes_done : goal.returns-clause-writes_done
returns-clause-writes_done c a r x own new l m d e w is answer cas noted = writes_staged a r own l m new d e w noted x is answer cas

pub returns-clause-all_done : goal.returns-clause-all_done
returns-clause-all_done c a r x own new l m d e w is answer cas noted = all_staged a r own l m new d e w noted x is answer cas

pub returns-clause-writes_failed : goal.returns-clause-writes_failed
returns-clause-writes_failed c a r own new l m d e stage w is none noted = writes_failed a r own l m new d w noted e stage is none

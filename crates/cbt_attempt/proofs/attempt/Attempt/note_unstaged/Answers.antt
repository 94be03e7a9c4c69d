use Rattle.std.proofs.Common.{None}
use Rattle.cbt_attempt.specs.OwnWrites.{noted}
use Rattle.cbt_attempt.proofs.Noting.{sets_by_test}
use Rattle.cbt_attempt.proofs.attempt.Attempt.note_unstaged.Goals as goal

pub returns-clause-unwritten : goal.returns-clause-unwritten
returns-clause-unwritten c = sets_by_test (noted c.args.self.now.writes) (noted c.remove.new.self) c.args.doc.now None c.remove.ensures.found

pub returns-clause-unread : goal.returns-clause-unread
returns-clause-unread c = sets_by_test (noted c.args.self.now.seen) (noted c.remove-2.new.self) c.args.doc.now None c.remove-2.ensures.found

use Rattle.std.proofs.Common.{Some}
use Rattle.std.proofs.lemmas.Result.{on_ok_weaker}
use Rattle.cbt_attempt.specs.OwnWrites.{noted}
use Rattle.cbt_attempt.proofs.Noting.{sets_by_test}
use Rattle.cbt_attempt.proofs.attempt.Attempt.note_read.Goals as goal

pub returns-clause-noted : goal.returns-clause-noted
returns-clause-noted c =
    on_ok_weaker _ (sets_by_test (noted c.args.self.now.seen) (noted c.insert.new.self) c.args.doc (Some c.args.seen)) c.insert.ensures.found

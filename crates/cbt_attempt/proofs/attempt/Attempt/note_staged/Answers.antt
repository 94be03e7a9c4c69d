use Rattle.std.proofs.Common.{Some}
use Rattle.std.proofs.lemmas.Result.{on_ok_weaker}
use Rattle.cbt_attempt.specs.OwnWrites.{noted}
use Rattle.cbt_attempt.proofs.Noting.{sets_by_test}
use Rattle.cbt_attempt.proofs.attempt.Attempt.note_staged.Goals as goal

pub returns-clause-noted : goal.returns-clause-noted
returns-clause-noted c =
    on_ok_weaker _ (sets_by_test (noted c.args.self.now.writes) (noted c.insert.new.self) c.args.doc (Some c.args.own)) c.insert.ensures.found

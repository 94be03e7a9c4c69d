use Rattle.std.proofs.Common.{subst}
use Rattle.cbt_book.specs.declared.book.Book.{Book}
use Rattle.cbtx.specs.Commands.{run_text}
use Rattle.cbtx.specs.Statuses.{IsCut}
use Rattle.cbtx.proofs.Ended.{same_some}
use Rattle.cbtx.proofs.commands.run.Goals as goal

pub returns-clause-cut : goal.returns-clause-cut
returns-clause-cut g c four book is =
    subst (λ (b : Book). IsCut (g.K.Sink.taken c.args.out.now) (g.K.Sink.taken c.report-status.new.out) (g.K.Sink.faults c.args.out.now)
    (g.K.Sink.faults c.report-status.new.out) (run_text c.args.command.now c.args.script b)) (same_some c.in-Ok.ran.book book is) (c.report-status.ensures.cut four)

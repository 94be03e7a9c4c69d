use Rattle.std.proofs.Common.{Ok, sym, ap, ◌∙◌}
use Rattle.cbt_script.proofs.Utf8.{text_taken, text_refused}
use Rattle.cbt_script.proofs.reading.text_at.Goals as goal

pub returns-in-Ok : goal.returns-in-Ok
returns-in-Ok c = text_taken c.args.line.now c.in-Ok.ensures.cases.1 ∙ ap (λ s. Ok s) (sym c.in-Ok.ensures.cases.0)

pub returns-in-Err : goal.returns-in-Err
returns-in-Err c = text_refused c.args.line.now c.in-Err.ensures.cases.0

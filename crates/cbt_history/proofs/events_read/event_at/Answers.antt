use Rattle.std.proofs.Common.{sym, ap, ◌∙◌, subst}
use Rattle.cbt_history.specs.EventsRead.{event_in}
use Rattle.cbt_history.specs.Readings.{Gives}
use Rattle.cbt_history.proofs.Utf8.{text_taken, text_refused}
use Rattle.cbt_history.proofs.events_read.event_at.Goals as goal

pub returns-in-Ok : goal.returns-in-Ok
returns-in-Ok c =
    subst (Gives (λ event. event) c.read_event.result)
    (ap (event_in c.args.place) c.in-Ok.ensures.cases.0 ∙ sym (text_taken c.args.line.now (event_in c.args.place c.args.line.now) c.in-Ok.ensures.cases.1))
    c.read_event.ensures

pub returns-in-Err : goal.returns-in-Err
returns-in-Err c = text_refused c.args.line.now (event_in c.args.place c.args.line.now) c.in-Err.ensures.cases.0

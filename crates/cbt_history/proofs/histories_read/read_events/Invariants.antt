use Rattle.std.proofs.Common.{◌≡◌, ◌+◌, ◌≤◌, length}
use Rattle.cbt_lex.specs.Pieces.{pieces}
use Rattle.cbt_history.specs.HistoriesRead.{events_in}
use Rattle.cbt_history.proofs.EventsOn.{behind}
use Rattle.cbt_history.proofs.histories_read.read_events.Given as goal

-- the events so far, with those of the lines that are left, are all
abbrev pub invariant-loop-line : goal.invariant-loop-line
invariant-loop-line l = record {
  read : behind l.events (events_in (l.first + l.place) l.place (pieces 10 l.rest)) ≡ events_in l.first 0 (pieces 10 l.text);
  few : l.place + length l.rest ≤ length l.text;
}

abbrev pub decreases-loop-line : goal.decreases-loop-line
decreases-loop-line l = length l.rest

use Rattle.std.proofs.Common.{◌≡◌, ◌≤◌, ◌+◌, ◌++◌, ◌^◌, drop}
use Rattle.cbt_lex.specs.Lines.{lined}
use Rattle.cbt_history.specs.Events.{event_lines}
use Rattle.cbt_history.proofs.events.push_events.Given as goal

-- what is written and the lines that are left make the whole, and the clock is not far past its last reading
abbrev pub invariant-loop-event : goal.invariant-loop-event
invariant-loop-event l = record {
  place : l.place ≡ l.event-index;
  text : l.out ++ lined (event_lines l.event-index l.state (drop l.event-index l.kept.history)) ≡ l.fn.out ++ lined (event_lines 0 l.kept.opening l.kept.history);
  clock : l.state.last ≤ 2 ^ 63 + 2 ^ 32 + l.event-index;
}

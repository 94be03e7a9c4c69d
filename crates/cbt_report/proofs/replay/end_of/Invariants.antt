use Rattle.std.proofs.Common.{◌≡◌, ◌≤◌, ◌+◌, ◌^◌, length}
use Rattle.cbt_model.specs.History.{after, commits_below}
use Rattle.cbt_report.proofs.replay.end_of.Given as goal

-- the events so far have happened, and the clock is not far past its last reading
abbrev pub invariant-loop-event : goal.invariant-loop-event
invariant-loop-event l = record {
  state : l.state ≡ after l.kept.opening l.kept.history l.event-index;
  commits : l.commits ≡ length (commits_below l.kept.opening l.kept.history l.event-index);
  few : l.commits ≤ l.event-index;
  clock : l.state.last ≤ 2 ^ 63 + 2 ^ 32 + l.event-index;
}

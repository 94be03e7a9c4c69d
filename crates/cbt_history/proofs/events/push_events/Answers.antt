use Rattle.std.proofs.Common.{◌++◌, refl, ap, arith}
use Rattle.cbt_lex.specs.Lines.{lined}
use Rattle.cbt_history.specs.Events.{event_lines}
use Rattle.cbt_history.proofs.Lines.{opening_clock}
use Rattle.cbt_history.proofs.events.push_events.Goals as goal

pub loop-event-init : goal.loop-event-init
loop-event-init c = record {
  place = refl;
  text = ap (λ s. c.args.out.now ++ lined (event_lines 0 s c.args.kept.now.history)) c.in_ok-state.ensures;
  clock = omega (arith, opening_clock c.in_ok-state.state c.args.kept.now.opening c.in_ok-state.ensures c.requires.last);
}

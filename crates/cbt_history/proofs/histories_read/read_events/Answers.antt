use Rattle.std.proofs.Common.{◌+◌, ◌≤◌, ◌∷◌, inl, length, length-append, sym, ap, arith}
use Rattle.std.proofs.lemmas.Bool.{ne_eqb}
use Rattle.std.proofs.lemmas.Result.{err_from_is_err_and}
use Rattle.cbt_lex.specs.Pieces.{pieces}
use Rattle.cbt_history.specs.HistoriesRead.{events_in}
use Rattle.cbt_history.proofs.EventsOn.{next_event, refused_line, left_over}
use Rattle.cbt_history.proofs.Pieces.{whole_cut}
use Rattle.cbt_history.proofs.histories_read.read_events.Goals as goal

pub returns-in_err-event : goal.returns-in_err-event
returns-in_err-event c =
    let p = err_from_is_err_and c.from_residual.result c.from_residual.ensures.1 in
    record {
      answer = rw (p.1, p.2) (refused_line c.args.first c.loop-line.place c.loop-line.events c.loop-line.rest.now (events_in c.args.first 0 (pieces 10 c.args.text.now))
          c.loop-line.invariant.read c.in-Some.line.now c.in-Some.more.now c.in-Some.ensures c.in_err-event.field-0.0 c.in_err-event.ensures);
    }

pub loop-line-preserved : goal.loop-line-preserved
loop-line-preserved c =
    let line = c.in-Some.line.now in
    let more = c.in-Some.more.now in
    let before : c.loop-line.place + length c.loop-line.rest.now ≤ length c.args.text.now = c.loop-line.invariant.few in
    record {
      read = next_event c.args.first c.loop-line.place c.loop-line.events c.loop-line.rest.now (events_in c.args.first 0 (pieces 10 c.args.text.now))
          c.loop-line.invariant.read line more c.in-Some.ensures c.in_ok-event.event c.push.new.self c.in_ok-event.ensures c.in_ok-push.ensures.ok;
      few = omega (arith, ap length (whole_cut c.loop-line.rest.now line more c.in-Some.ensures), length-append line (10 ∷ more));
    }

pub returns-then-rest-gt0 : goal.returns-then-rest-gt0
returns-then-rest-gt0 c = record {
  answer = inl (sym (left_over c.args.first c.loop-line.place c.loop-line.events c.loop-line.rest.now (events_in c.args.first 0 (pieces 10 c.args.text.now))
      c.loop-line.invariant.read c.in_default.ensures (ne_eqb (length c.loop-line.rest.now) 0 (λ none. omega (arith, c.if-rest-gt0.true)))));
}

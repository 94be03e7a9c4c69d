use Rattle.std.proofs.Common.{◌≡◌, ◌≤◌, ◌^◌, length, sym, ap, ◌∙◌, subst, arith}
use Rattle.cbt_core.specs.Runs.{terms_of}
use Rattle.cbt_model.specs.Legal.{AreReadings}
use Rattle.cbt_runs.specs.Driven.{kept_by}
use Rattle.cbtx.specs.Cases.{case_of}
use Rattle.cbtx.proofs.Kept.{driven-kept, kept-is, turns-kept}
use Rattle.cbtx.proofs.Promising.{crew-stands, few-sweeps, sweep-stands}
use Rattle.cbtx.proofs.Whole.{DrivenLaws, is-run, keeps-stops}
use Rattle.cbtx.proofs.run.run_script_on.Goals as goal

pub drive_then_sweep-refused-requires : goal.drive_then_sweep-refused-requires
drive_then_sweep-refused-requires g c = record {
  numbers = (let all = c.requires.crew.all in let clients = c.requires.rules.clients_few in let cleaners = c.requires.rules.cleaners_few in
      let one = c.requires.sweep.all in let few = few-sweeps c.args.script.now.sweep in omega arith);
  workers = crew-stands c.args.script.now c.args.workers c.requires.crew;
  sweep = sweep-stands c.args.script.now c.args.sweep c.requires.sweep;
  empty = c.requires.unused;
}

pub returns : goal.returns
returns g c =
    let script = c.args.script.now in
    let node = c.drive_then_sweep-refused.new.node in
    let workers = c.drive_then_sweep-refused.new.workers in
    let sweep = c.drive_then_sweep-refused.new.sweep in
    let drive = c.drive_then_sweep-refused.ensures in
    let kept = c.finish-kept.result in
    let book = c.in_ok-book.book in
    let handed : kept_by g.N.Node node ≡ kept =
    kept-is kept (g.N.Node.opening node) (g.N.Node.history node) (g.N.Node.marks node) c.finish-kept.ensures.opening c.finish-kept.ensures.history c.finish-kept.ensures.marks in
    let same = c.in_ok-book.ensures.kept in
    let laws : DrivenLaws = record {
      legal = c.driven_runs.ensures.legal;
      licensed = c.driven_runs.ensures.licensed;
      follow = c.driven_runs.ensures.follow;
      stops = c.stops_are_kept.ensures;
    } in
    let driven = driven-kept (g.N.Node.terms c.args.node) (terms_of (case_of script)) (kept_by g.N.Node node) kept book.kept c.args.workers workers c.args.sweep sweep
    c.requires.terms handed same drive.driven in
    let run = is-run script book c.args.workers workers c.args.sweep sweep c.requires.rules c.requires.crew c.requires.sweep driven
    (ap (λ k. k.opening) same ∙ c.finish-kept.ensures.opening ∙ drive.opening ∙ c.requires.opening)
    c.in_ok-book.ensures.clients c.in_ok-book.ensures.cleaners
    c.cleaners_are_licensed.ensures.made c.clients_tell.ensures.follows
    (record { cleaner = c.cleaners_tell.ensures.cleaner; sweep = c.cleaners_tell.ensures.sweep }) laws in
    record {
      legal = run.legal;
      licensed = run.licensed;
      follow = run.follow;
      stops = keeps-stops script book (kept_by g.N.Node node) c.drive_then_sweep-refused.result c.args.workers workers c.args.sweep sweep
          c.requires.rules c.requires.crew c.requires.sweep driven c.in_ok-book.ensures.clients c.in_ok-book.ensures.cleaners (handed ∙ sym same)
          drive.within drive.stopped run
          (record {
            calls = c.clients_tell.ensures.calls;
            stopped = c.clients_tell.ensures.stopped;
            asks = c.clients_tell.ensures.asks;
            has_call = c.clients_have_calls.ensures.has_call;
          })
          (record {
            calls = c.cleaners_tell.ensures.calls;
            stopped = c.cleaners_tell.ensures.stopped;
            asks = c.cleaners_tell.ensures.asks;
            next = c.cleaners_tell.ensures.next;
          })
          (record {
            unwritten = c.openings_are_fresh.ensures;
            sound = c.fresh_openings.ensures.sound;
            fresh = c.fresh_openings.ensures.fresh;
            stays = c.shown_stays.ensures;
          })
          laws;
      turns = turns-kept script c.args.workers c.args.sweep c.unwrap_or-ahead.result c.drive_then_sweep-refused.result
          (g.N.Node.history node) (g.N.Node.marks c.args.node) (g.N.Node.marks node) kept book.kept c.requires.crew c.requires.sweep c.unwrap_or-ahead.ensures c.requires.unmarked
          c.finish-kept.ensures.history c.finish-kept.ensures.marks same drive.turns;
      short = subst (λ k. length k.history ≤ 2 ^ 62) (sym same) (subst (λ h. length h ≤ 2 ^ 62) (sym c.finish-kept.ensures.history) (g.met.N.Node.stays_short node));
      readings = λ none f by.
          subst (λ k. AreReadings f k.history k.marks) (handed ∙ sym same)
          (g.met.N.Node.reads_right node f (drive.readings f by)
          (ap (λ t. t.line) drive.terms ∙ ap (λ t. t.line) c.requires.terms ∙ none));
    }

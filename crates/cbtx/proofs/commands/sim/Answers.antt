use Rattle.std.proofs.Common.{sym, ◌∙◌}
use Rattle.cbtx.specs.Statuses.{is_refusal, bad_line}
use Rattle.cbtx.proofs.Ended.{read_is, bad_is, refuses_bad, cut_off, runs_too}
use Rattle.cbtx.proofs.commands.sim.Goals as goal

pub run-requires : goal.run-requires
run-requires g c = record {
  rules = c.scripts_keep_rules.ensures c.in-Ok.bytes c.in-Ok-read.script
      (read_is c.as_slice.result.now c.in-Ok.bytes c.in-Ok-read.script c.as_slice.ensures c.in-Ok-read.ensures.answer);
}

pub returns-in-Ok-read-clause-write_failed : goal.returns-in-Ok-read-clause-write_failed
returns-in-Ok-read-clause-write_failed g c four =
    cut_off c.args.command.now _ _ _ _ _ _ c.in-Ok-read.script c.run.result.script c.run.result.book
    (runs_too c.args.command.now c.requires.sims) (c.run.ensures.told four) c.run.ensures.together c.run.ensures.same (c.run.ensures.cut four)

pub returns-in-Err-Bad-clause-refused : goal.returns-in-Err-Bad-clause-refused
returns-in-Err-Bad-clause-refused g c one =
    let is = bad_is c.as_slice.result.now c.in-Ok.bytes c.in-Err-Bad.bad c.as_slice.ensures (rw c.in-Err-Bad.field-0-is at c.in-Err-Bad.ensures.answer) in
    record {
      text = bad_line c.in-Err-Bad.bad;
      refused = refuses_bad _ _ c.in-Ok.bytes c.in-Ok.ensures.whole c.in-Err-Bad.bad is;
      written = c.refuse.ensures.whole (sym c.ended-in-Err-Bad.ensures.status ∙ one);
    }

pub returns-in-Err-Bad-clause-write_failed : goal.returns-in-Err-Bad-clause-write_failed
returns-in-Err-Bad-clause-write_failed g c four =
    let is = bad_is c.as_slice.result.now c.in-Ok.bytes c.in-Err-Bad.bad c.as_slice.ensures (rw c.in-Err-Bad.field-0-is at c.in-Err-Bad.ensures.answer) in
    record {
      text = bad_line c.in-Err-Bad.bad;
      due = is_refusal c.requires.sims c.ended-in-Err-Bad.ensures.script (refuses_bad _ _ c.in-Ok.bytes c.in-Ok.ensures.whole c.in-Err-Bad.bad is);
      cut = c.refuse.ensures.cut (sym c.ended-in-Err-Bad.ensures.status ∙ four);
    }

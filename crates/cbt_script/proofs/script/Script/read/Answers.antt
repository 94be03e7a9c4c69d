use Rattle.std.proofs.Common.{◌∙◌, arith}
use Rattle.std.proofs.lemmas.Result.{err_from_is_err_and}
use Rattle.cbt_lex.specs.Lines.{lines_of}
use Rattle.cbt_script.specs.Drafts.{start}
use Rattle.cbt_script.specs.Reading.{script_of, read_lines}
use Rattle.cbt_script.proofs.ReadOn.{read_further, shorter_rest, refused_here, all_read}
use Rattle.cbt_script.proofs.script.Script.read.Goals as goal

pub returns-in_err-take_line : goal.returns-in_err-take_line
unfolding script_of
returns-in_err-take_line c =
    let p = err_from_is_err_and c.from_residual.result c.from_residual.ensures.1 in
    record {
      answer = rw (p.1, p.2) (refused_here c.loop-rest.line c.loop-rest.draft c.loop-rest.rest.now c.cut_line.result.0.now c.cut_line.result.1.now c.cut_line.ensures (omega arith)
          c.take_line.new.draft (read_lines 1 start (lines_of c.args.bytes.now)) c.loop-rest.invariant.0 c.in_err-take_line.field-0.0 c.in_err-take_line.ensures);
    }

pub loop-rest-preserved : goal.loop-rest-preserved
loop-rest-preserved c =
    let less = shorter_rest c.loop-rest.line c.loop-rest.draft c.loop-rest.rest.now c.cut_line.result.0.now c.cut_line.result.1.now c.cut_line.ensures (omega arith) in (
      read_further c.loop-rest.line c.loop-rest.draft c.loop-rest.rest.now c.cut_line.result.0.now c.cut_line.result.1.now c.cut_line.ensures (omega arith)
          c.take_line.new.draft c.in_ok-take_line.ensures ∙ c.loop-rest.invariant.0,
      omega arith,
    )

pub returns : goal.returns
unfolding script_of
returns c = record {
  answer = all_read c.loop-rest.line c.loop-rest.draft c.loop-rest.rest.now (read_lines 1 start (lines_of c.args.bytes.now)) c.finish.result (omega arith) c.loop-rest.invariant.0 c.finish.ensures.answer;
}

use Rattle.std.proofs.Common.{◌∙◌, arith, rules}
use Rattle.std.proofs.lemmas.Result.{err_from_is_err_and}
use Rattle.cbt_lex.specs.Words.{words_of}
use Rattle.cbt_script.specs.Course.{add_items}
use Rattle.cbt_script.proofs.Ordered.{taken, all_refused, onward, shorter}
use Rattle.cbt_script.proofs.course.Course.take_items.Goals as goal

pub returns-in_err-take_item : goal.returns-in_err-take_item
returns-in_err-take_item c =
    let p = err_from_is_err_and c.from_residual.result c.from_residual.ensures.1 in
    rw (p.1, p.2) (all_refused c.args.actors.now c.loop-rest.self c.take_item.new.self c.loop-rest.rest.now c.cut_word.result.0.now c.cut_word.result.1.now c.cut_word.ensures (omega arith)
    c.loop-rest.invariant.1 (add_items c.args.actors.now c.args.self.now (words_of c.args.words.now)) c.loop-rest.invariant.0 c.in_err-take_item.field-0.0 c.in_err-take_item.ensures)

pub loop-rest-smaller : goal.loop-rest-smaller
loop-rest-smaller c = shorter c.args.actors.now c.loop-rest.self c.loop-rest.rest.now c.cut_word.result.0.now c.cut_word.result.1.now c.cut_word.ensures (omega arith) c.loop-rest.invariant.1

pub loop-rest-preserved : goal.loop-rest-preserved
loop-rest-preserved c = (
  taken c.args.actors.now c.loop-rest.self c.loop-rest.rest.now c.cut_word.result.0.now c.cut_word.result.1.now c.cut_word.ensures (omega arith) c.loop-rest.invariant.1
      c.take_item.new.self c.in_ok-take_item.ensures ∙ c.loop-rest.invariant.0,
  onward c.args.actors.now c.loop-rest.self c.loop-rest.rest.now c.cut_word.result.0.now c.cut_word.result.1.now c.cut_word.ensures (omega arith) c.loop-rest.invariant.1,
  search rules,
)

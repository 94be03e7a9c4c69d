use Rattle.std.proofs.Common.{sym, ap, ◌∙◌}
use Rattle.cbt_lex.specs.Lines.{skip_spaces}
use Rattle.cbt_lex.proofs.Onward.{skipped_once}
use Rattle.cbt_script.proofs.course.Course.take_order.Goals as goal

pub take_items-requires : goal.take_items-requires
take_items-requires c = ap skip_spaces c.past_spaces-rest.ensures ∙ skipped_once c.args.rest.now ∙ sym c.past_spaces-rest.ensures

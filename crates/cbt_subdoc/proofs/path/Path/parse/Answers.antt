use Rattle.std.proofs.Common.{◌∙◌, ap, Err}
use Rattle.cbt_subdoc.proofs.FirstBad.{left-within}
use Rattle.cbt_subdoc.proofs.path.Path.parse.Goals as goal

pub overflow_sub-result : goal.overflow_sub-result
overflow_sub-result c = let is = c.in-Err-Left.is ∙ ap Err c.in-Err-Left.field-0-is in left-within c.args.text.now c.in-Err-Left.left (rw is at c.parts_of.ensures)

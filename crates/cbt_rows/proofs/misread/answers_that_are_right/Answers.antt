use Rattle.std.proofs.Common.{Some, refl, sym}
use Rattle.cbt_base.specs.Clock.{clock_of}
use Rattle.cbt_model.specs.Table.{row}
use Rattle.cbt_core.specs.Walk.{nothing_yet}
use Rattle.cbt_rows.proofs.Requested.{noted_by, replaces-n2, table_by}
use Rattle.cbt_rows.specs.ReaderBeforeCommit as reader
use Rattle.cbt_rows.specs.Words.{doc_a, n}
use Rattle.cbt_rows.proofs.misread.answers_that_are_right.Goals as goal

pub returns : goal.returns
unfolding row clock_of
returns c = (refl, refl, sym (table_by (noted_by nothing_yet (replaces-n2 doc_a) reader.op_1_1_1_1) doc_a (Some (n 1))))

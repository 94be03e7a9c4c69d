use Rattle.std.proofs.Common.{ap}
use Rattle.cbt_core.specs.Committed.{table_after}
use Rattle.cbt_core.proofs.k2_documents.Counting.{commits-counted}
use Rattle.cbt_core.proofs.laws.tables_count_commits.Goals as goal

pub returns : goal.returns
returns c writes s0 h i d low = ap (λ l. table_after writes s0 l d) (commits-counted s0 h i low)

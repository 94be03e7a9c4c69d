use Rattle.cbt_subdoc.proofs.Accepted.{written-read}
use Rattle.cbt_subdoc.proofs.Grammar.{read-written}
use Rattle.cbt_subdoc.proofs.laws.what_is_written_is_read.Goals as goal

pub returns : goal.returns
returns c = λ text parts. (read-written text parts, written-read text parts)

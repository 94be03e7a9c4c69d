use Rattle.cbt_streams.proofs.Counts.{Rose-iff}
use Rattle.cbt_streams.proofs.whole.rose_is_larger_or_at_the_end.Goals as goal

pub returns : goal.returns
returns c = Rose-iff

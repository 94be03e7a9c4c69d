use Rattle.std.proofs.Common.{length}
use Rattle.std.specs.Prelude.{slice_range}
use Rattle.cbt_words.proofs.Ranges.{result_keeps}
use Rattle.cbt_words.proofs.command.command_of.Goals as goal

pub returns-in-len1-up-clause-ranges : goal.returns-in-len1-up-clause-ranges
returns-in-len1-up-clause-ranges c = result_keeps c.as_str.result.now (slice_range c.args.words.now 1 (length c.args.words.now)) c.command_in.result c.command_in.ensures

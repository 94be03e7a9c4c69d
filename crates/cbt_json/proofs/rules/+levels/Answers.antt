use Rattle.std.proofs.Common.{arith}
use Rattle.std.proofs.lemmas.Grind.{common_steps}
use Rattle.cbt_json.proofs.Views.{data_of-Object}
use Rattle.cbt_json.proofs.rules.+levels.Goals as goal

pub levels_within-returns-then-room-gt0-2 : goal.levels_within-returns-then-room-gt0-2
levels_within-returns-then-room-gt0-2 t c = grind (arith, common_steps, data_of-Object)

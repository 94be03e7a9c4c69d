use Rattle.std.proofs.Common.{arith}
use Rattle.std.proofs.lemmas.Grind.{common_steps}
use Rattle.cbt_json.proofs.Views.{data_of-Object}
use Rattle.cbt_json.proofs.fit.+fit.Goals as goal

pub room_after-returns-in_ok-room_behind-in-Object : goal.room_after-returns-in_ok-room_behind-in-Object
room_after-returns-in_ok-room_behind-in-Object t c = grind (arith, common_steps, data_of-Object)

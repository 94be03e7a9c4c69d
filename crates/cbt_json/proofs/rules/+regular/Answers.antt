use Rattle.std.proofs.Common.{arith}
use Rattle.std.proofs.lemmas.Grind.{common_steps}
use Rattle.cbt_json.proofs.Views.{data_of-Object}
use Rattle.cbt_json.proofs.rules.+regular.Goals as goal

pub is_regular_tree-returns-then-have_rising_names : goal.is_regular_tree-returns-then-have_rising_names
is_regular_tree-returns-then-have_rising_names t c = grind (arith, common_steps, data_of-Object)

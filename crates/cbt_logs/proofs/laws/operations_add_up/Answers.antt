use Rattle.std.proofs.Common.{refl}
use Rattle.cbt_core.specs.Walk.{nothing_yet}
use Rattle.cbt_logs.proofs.Closed.{told_more}
use Rattle.cbt_logs.proofs.Snoc.{walked_snoc}
use Rattle.cbt_logs.proofs.laws.operations_add_up.Goals as goal

pub returns-clause-first : goal.returns-clause-first
returns-clause-first c t l0 = record { follow = tt; reach = refl }

pub returns-clause-more : goal.returns-clause-more
returns-clause-more c = told_more

pub returns-clause-teaches : goal.returns-clause-teaches
returns-clause-teaches c t logs o log next = walked_snoc t.plan.ops logs nothing_yet o next.rest log next.left

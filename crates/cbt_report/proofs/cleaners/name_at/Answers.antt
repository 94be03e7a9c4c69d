use Rattle.std.proofs.Common.{◌∙◌}
use Rattle.cbt_report.proofs.NextLines.{name_at-behind, name_at-there}
use Rattle.cbt_report.proofs.cleaners.name_at.Goals as goal

pub returns-in-Some : goal.returns-in-Some
returns-in-Some c = c.as_str.ensures ∙ name_at-there c.args.cleaners.now c.args.k c.in-Some.field-0.now c.in-Some.ensures.lookup.3.0 c.in-Some.ensures.lookup.1

pub returns-in-None : goal.returns-in-None
returns-in-None c = name_at-behind c.args.cleaners.now c.args.k c.in-None.ensures.lookup.3

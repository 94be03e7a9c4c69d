use Rattle.std.proofs.Common.{rules, arith, sym, ap, ◌∙◌}
use Rattle.std.proofs.lemmas.Grind.{common_steps}
use Rattle.cbt_syntax.specs.Named.{by_name, names_rise}
use Rattle.cbt_syntax.proofs.Named.{rising_by_name}
use Rattle.cbt_syntax.proofs.members.by_name.Goals as goal

pub returns-then-names_rise : goal.returns-then-names_rise
returns-then-names_rise c = sym (rising_by_name c.args.members (ap names_rise (sym c.as_slice.ensures) ∙ sym c.names_rise.ensures ∙ c.if-names_rise.true))

pub loop-name-init : goal.loop-name-init
unfolding by_name
loop-name-init c = first_of (search rules, grind (arith, common_steps))

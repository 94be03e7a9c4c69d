use Rattle.std.proofs.Common.{◌++◌, ap, ◌∙◌}
use Rattle.std.specs.Fmt.{styled_decimal}
use Rattle.cbt_gen.proofs.Padded.{four_written}
use Rattle.cbt_gen.proofs.names.with_four_digits.Goals as goal

pub returns : goal.returns
returns c = c.from_string.ensures ∙ c.in_ok-text.ensures.ok
    ∙ ap (λ ds. c.args.prefix.now ++ ds) (ap (λ s. styled_decimal s c.args.number) c.laid_out.ensures ∙ four_written c.args.number c.requires)

use Rattle.std.proofs.Common.{◌∙◌, ap, sym, subst}
use Rattle.cbt_clean.specs.Phases.{after}
use Rattle.cbt_clean.proofs.Bounds.{InMemory, fewer_at, reading_fits}
use Rattle.cbt_clean.proofs.phases.Phase.after.Goals as goal

pub after_clearing-requires : goal.after_clearing-requires
after_clearing-requires c = record {
  fits = λ there. reading_fits c.args.atr c.in-Clearing.cover c.in-Clearing.at c.args.self c.args.answer.reply c.in-Clearing.is c.requires.fits there;
}

pub returns-in-Clearing-clause-fewer : goal.returns-in-Clearing-clause-fewer
returns-in-Clearing-clause-fewer c =
    fewer_at c.args.atr c.args.self c.after_clearing.result c.args.answer c.requires.asked c.requires.fits
    (subst (λ p. InMemory p c.args.answer) (sym c.in-Clearing.is) c.after_clearing.ensures.few)
    (c.after_clearing.ensures.phase ∙ ap (λ p. after c.args.atr p c.args.answer.place c.args.answer.now c.args.answer.reply) (sym c.in-Clearing.is))

use Rattle.std.proofs.Common.{sym, ap, ◌∙◌, ◌∷◌, subst}
use Rattle.cbt_read.specs.Phases.{after}
use Rattle.cbt_read.specs.Standing.{StandsFor}
use Rattle.cbt_read.proofs.Stands.{stands_on}
use Rattle.cbt_read.proofs.gets.Get.learn.Goals as goal

pub returns-clause-stands : goal.returns-clause-stands
returns-clause-stands c mine s asked stands =
    subst (λ p. StandsFor (record { doc = c.args.self.now.doc; phase = p }) (record { step = s; answer = c.args.answer } ∷ mine))
    (sym (c.after.ensures ∙ ap (λ p. after p c.args.answer.place c.args.answer.reply) c.replace-phase.ensures.value))
    (stands_on c.args.self.now mine s c.args.answer asked (c.requires.fits s asked) stands)

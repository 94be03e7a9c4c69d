use Rattle.std.proofs.Common.{rules, ◌≡◌, ◌∙◌, ◌∷◌, ap, sym, subst}
use Rattle.cbt_clean.specs.Phases.{after}
use Rattle.cbt_clean.specs.Standing.{Runs, goes_on}
use Rattle.cbt_clean.proofs.passes.Pass.learn.Goals as goal

pub returns-clause-stands : goal.returns-clause-stands
returns-clause-stands c mine s asked stands =
    let old = c.args.self.now in
    let answer = c.args.answer in
    let was : c.replace-phase.result ≡ old.phase = search rules in
    let is : c.in_ok-self.field-0 ≡ after old.atr c.replace-phase.result answer.place answer.now answer.reply = c.in_ok-self.ensures.ok in
    subst (λ p. Runs old.atr p (record { step = s; answer = answer } ∷ mine)) (sym (is ∙ ap (λ p. after old.atr p answer.place answer.now answer.reply) was))
    (goes_on old.phase mine (record { step = s; answer = answer }) stands asked (c.requires.fits s asked))

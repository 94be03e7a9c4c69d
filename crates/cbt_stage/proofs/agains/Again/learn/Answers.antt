use Rattle.std.proofs.Common.{Some, ◌∷◌, sym, subst}
use Rattle.cbt_stage.specs.Rewriting.{StandsOnce}
use Rattle.cbt_stage.proofs.Rewriting.{stands_on}
use Rattle.cbt_stage.proofs.agains.Again.learn.Goals as goal

pub returns-clause-stands : goal.returns-clause-stands
returns-clause-stands c t mine s asked stands =
    subst (λ end. StandsOnce t (record { task = c.args.self.now.task; end = Some end }) (record { step = s; answer = c.args.answer } ∷ mine)) (sym c.ended.ensures)
    (stands_on t c.args.self.now mine s c.args.answer asked (c.requires.fits s asked) stands)

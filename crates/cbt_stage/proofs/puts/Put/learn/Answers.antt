use Rattle.std.proofs.Common.{◌<◌, ◌∷◌, sym, subst}
use Rattle.cbt_stage.specs.Phases.{left_in}
use Rattle.cbt_stage.specs.Standing.{StandsFor}
use Rattle.cbt_stage.proofs.Counting.{fewer_left}
use Rattle.cbt_stage.proofs.Stands.{stands_on}
use Rattle.cbt_stage.proofs.puts.Put.learn.Goals as goal

pub returns-clause-stands : goal.returns-clause-stands
returns-clause-stands c t mine s asked stands =
    subst (λ p. StandsFor t (record { task = c.args.self.now.task; phase = p }) (record { step = s; answer = c.args.answer } ∷ mine)) (sym c.after-self.ensures)
    (stands_on t c.args.self.now mine s c.args.answer asked (c.requires.fits s asked) stands)

pub returns-clause-fewer : goal.returns-clause-fewer
returns-clause-fewer c =
    subst (λ p. left_in p < left_in c.args.self.now.phase) (sym c.after-self.ensures)
    (fewer_left c.args.self.now.task c.args.self.now.phase c.args.answer.place c.args.answer.reply c.requires.asked)

use Rattle.std.proofs.Common.{[], refl, sym, subst}
use Rattle.cbt_lost.specs.Cleaning.{StandsFor}
use Rattle.cbt_lost.specs.declared.rounds.Terms.{Terms}
use Rattle.cbt_lost.proofs.Coming.{sweep_stands}
use Rattle.cbt_lost.proofs.cleaners.Cleaner.sweep.Goals as goal
use Rattle.std.proofs.Common.{true}

pub returns-clause-stands : goal.returns-clause-stands
returns-clause-stands c =
    let terms : Terms = record { id = c.args.id; atrs = c.args.atrs; lapse = 0; sweep = true } in
    subst (λ k. StandsFor k []) (sym c.settle.ensures)
    (sweep_stands terms c.in_ok-logs.logs c.in_ok-round.round refl c.in_ok-logs.ensures (λ rounds stop. c.in_ok-round.ensures.stands c.args.id 0 rounds stop))

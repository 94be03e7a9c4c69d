use Rattle.std.proofs.Common.{[], sym, ap, ◌∙◌, subst}
use Rattle.cbt_lost.specs.Rounds.{Begins, Halts}
use Rattle.cbt_lost.specs.Tours.{AtNext}
use Rattle.cbt_lost.specs.declared.rounds.Round.{Round}
use Rattle.cbt_lost.specs.declared.tours.Tour.{Tour}
use Rattle.cbt_lost.proofs.Outcomes.{err_of, ok_of}
use Rattle.cbt_lost.proofs.Touring.{first_next}
use Rattle.cbt_lost.proofs.rounds.Round.begin_tour.Goals as goal

pub returns-clause-begins : goal.returns-clause-begins
returns-clause-begins c base past =
    ok_of c.go_on-begun.result _ _
    (λ goes. subst (λ (k : Round). Begins c.args.atrs c.args.share base k.work) (sym c.set_work.ensures) (c.go_on-begun.ensures.share ∙ ap (λ (k : Tour). k.share) c.begin-tour.ensures, goes))
    (c.go_on-begun.ensures.follows base [] past (subst (λ k. AtNext c.args.atrs k base []) (sym c.begin-tour.ensures) (first_next c.args.atrs c.args.share base)))

pub returns-clause-halts : goal.returns-clause-halts
returns-clause-halts c base past =
    err_of c.go_on-begun.result _ _
    (λ cut. subst (λ (k : Round). Halts c.args.atrs c.args.share base k.work) (sym c.set_work.ensures) (c.go_on-begun.ensures.share ∙ ap (λ (k : Tour). k.share) c.begin-tour.ensures, cut))
    (c.go_on-begun.ensures.halts base [] (subst (λ k. AtNext c.args.atrs k base []) (sym c.begin-tour.ensures) (first_next c.args.atrs c.args.share base)))

use Rattle.std.proofs.Common.{[], sym, ap, ◌∙◌, subst}
use Rattle.cbt_stage.specs.Phases.{start}
use Rattle.cbt_stage.specs.PutCalls.{terms_of}
use Rattle.cbt_stage.specs.Standing.{StandsFor}
use Rattle.cbt_stage.specs.Tasks.{task_of}
use Rattle.cbt_stage.proofs.Stands.{stands_first}
use Rattle.cbt_stage.proofs.puts.Put.begin.Goals as goal

pub returns-clause-stands : goal.returns-clause-stands
returns-clause-stands c =
    let o = task_of c.args.attempt.now c.args.doc c.args.kind c.args.content c.args.seen in
    subst (λ w. StandsFor (terms_of c.args.attempt.now) (record { task = w; phase = c.start-phase.result }) []) (sym c.new-task.ensures)
    (subst (λ p. StandsFor (terms_of c.args.attempt.now) (record { task = o; phase = p }) []) (sym (c.start-phase.ensures ∙ ap start c.new-task.ensures))
    (stands_first c.args.attempt.now c.args.doc c.args.kind c.args.content c.args.seen))

use Rattle.std.proofs.Common.{rules, ◌≡◌, true, Some, refl}
use Rattle.cbt_script.specs.Printed.{script_text}
use Rattle.cbtx.specs.Commands.{runs}
use Rattle.cbtx.specs.Statuses.{is_script}
use Rattle.cbtx.proofs.Ended.{cut_off, hands_back_else}
use Rattle.cbtx.proofs.commands.generate.Goals as goal
use Rattle.cbtx.proofs.commands.generate.Goals.{in-Gen-default-default-default-default-true, in_default, in_default-2}

pub returns-then-matches-clause-write_failed : goal.returns-then-matches-clause-write_failed
returns-then-matches-clause-write_failed g c four left left' =
    let ran : runs (Some c.args.command.now) ≡ true = elim c.match-matches.branch [
      | in-Gen-default-default-default-default-true w ↦ cc
      | in_default w ↦ absurd (cc)
      | in_default-2 w ↦ absurd (cc)
    ] in
    cut_off c.args.command.now left left' _ _ _ _ c.args.script c.run.result.script c.run.result.book
    ran (c.run.ensures.told four) c.run.ensures.together c.run.ensures.same (c.run.ensures.cut four)

pub returns-else-matches-clause-write_failed : goal.returns-else-matches-clause-write_failed
returns-else-matches-clause-write_failed g c four left left' =
    let not_run : runs (Some c.args.command.now) ≡ true → ⊥ = λ ran. elim c.match-matches.branch [
      | in-Gen-default-default-default-default-true w ↦ absurd (cc)
      | in_default w ↦ absurd (search rules)
      | in_default-2 w ↦ absurd (search rules)
    ] in
    record {
      text = script_text c.args.script;
      due = is_script (hands_back_else c.args.command.now c.requires.draws not_run) c.args.script (c.hand_back.ensures.there (λ five. absurd (cc))) refl;
      cut = c.hand_back.ensures.cut four;
    }

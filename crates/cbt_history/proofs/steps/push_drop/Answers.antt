use Rattle.std.proofs.Common.{◌≡◌, ◌∷◌, ◌++◌, codes}
use Rattle.std.proofs.lemmas.Result.{IfOk-weaker}
use Rattle.cbt_history.specs.Steps.{guard_word, of_entry}
use Rattle.cbt_history.proofs.Joined.{spaced}
use Rattle.cbt_history.proofs.steps.push_drop.Goals as goal

pub returns : goal.returns
returns c =
    let entry = of_entry (codes "drop-entry ") c.args.atr c.args.attempt in
    let guard = guard_word c.args.guarded in
    IfOk-weaker c.push_guard.result (λ _. c.push_guard.new.out ≡ c.push_entry.new.out ++ 32 ∷ guard)
    (λ _. c.push_guard.new.out ≡ c.args.out.now ++ (entry ++ codes " " ++ guard))
    (λ _ grown. spaced c.args.out.now c.push_entry.new.out c.push_guard.new.out entry guard c.in_ok-push_entry.ensures grown)
    c.push_guard.ensures

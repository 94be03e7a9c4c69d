-- A fault is handed on as it is.
use Rattle.std.proofs.Common.{◌≡◌, ℕ, Result, Err, ap, sym, subst, ◌∙◌}
use Rattle.cbt_expr.specs.declared.values.EvalFault.{EvalFault}
use Rattle.cbt_expr.specs.declared.values.EvalFault.TheVariants.{BadValue, NoMemory}
use Rattle.cbt_expr.specs.Answers.{Answers}

-- the fault of a part is that of the whole, where the whole has no value for its sake
pub handed_on : {A B : Type 0} (answer : Result A EvalFault) (fault inner : EvalFault) (part_valued : Result B ℕ) (valued : Result A ℕ)
    → answer ≡ Err fault → fault ≡ inner → Answers {A = B} (Err inner) part_valued → ((part : ℕ) → part_valued ≡ Err part → valued ≡ Err part)
    → Answers answer valued
handed_on answer fault (BadValue part) part_valued valued is same known stays = subst (λ r. Answers r valued) (sym (is ∙ ap Err same)) (stays part known)
handed_on answer fault NoMemory part_valued valued is same known stays = subst (λ r. Answers r valued) (sym (is ∙ ap Err same)) tt

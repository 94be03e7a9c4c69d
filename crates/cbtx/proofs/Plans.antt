-- The plans of a script's clients.
use Rattle.std.proofs.Common.{◌≡◌, ◌≤◌, ℕ, List, [], ◌∷◌, Some, slice_get, subst, arith}
use Rattle.std.proofs.lemmas.List.Elements.{All-cons, All-get_or, All-head, All-tail}
use Rattle.std.proofs.lemmas.Option.{get_or_from_slice_get, slice_get_within}
use Rattle.std.specs.List.{All}
use Rattle.cbt_expr.specs.declared.plans.TxnPlan.{TxnPlan}
use Rattle.cbt_script.specs.Rules.{IsPlan}

-- what is so of each is so of the one at a place
pub each-at : {X : Type 0} (P : X → Type 0) (xs : List X) (k : ℕ) (x : X) → All P xs → slice_get xs k ≡ Some x → P x
each-at P xs k x all at = subst P (get_or_from_slice_get xs k x x at) (All-get_or P xs k x (slice_get_within xs k x at) all)

-- each transaction has a try
pub tried : (plans : List TxnPlan) → All IsPlan plans → All (λ (txn : TxnPlan). 1 ≤ txn.tries) plans
tried [] known = λ k txn low. absurd (omega arith)
tried (plan ∷ plans) known =
    All-cons (λ (txn : TxnPlan). 1 ≤ txn.tries) plan plans (All-head IsPlan plan plans known).tries.0 (tried plans (All-tail IsPlan plan plans known))

-- A script keeps within the limits of a case.
use Rattle.std.proofs.Common.{◌≡◌, ℕ, ◌≤◌, ◌<◌, ◌^◌, List, length, Option, Some, None, refl, subst, arith}
use Rattle.std.specs.List.{All}
use Rattle.std.specs.Option.{option_and_then}
use Rattle.std.proofs.lemmas.List.{length-map}
use Rattle.std.proofs.lemmas.Option.{none-some}
use Rattle.cbt_core.specs.Runs.{IsWithinLimits}
use Rattle.cbt_core.specs.WriteSets.{numbered}
use Rattle.cbt_expr.specs.declared.plans.ClientPlan.{ClientPlan}
use Rattle.cbt_expr.specs.declared.plans.TxnPlan.{TxnPlan}
use Rattle.cbt_script.specs.Rules.{IsClient, IsPlan, IsScript}
use Rattle.cbt_script.specs.declared.script.Script.{Script}
use Rattle.cbtx.specs.Cases.{case_of}
use Rattle.cbtx.proofs.Places.{mapped-at, numbered-at}
use Rattle.cbtx.proofs.Plans.{each-at}

-- each client of a script keeps the rules
client-rules : (script : Script) → IsScript script → (n : ℕ) (plan : ClientPlan) → numbered (case_of script).plans n ≡ Some plan
    → All IsPlan plan.txns × (length plan.txns ≤ 1024)
client-rules script rules n plan is =
    let at = numbered-at (case_of script).plans n plan is in
    let client = mapped-at (λ (c : List ℕ × ClientPlan). c.1) script.clients at.0 plan at.2 in
    let known : IsClient client.0 = each-at IsClient script.clients at.0 client.0 rules.clients client.1 in
    subst (λ p. All IsPlan p.txns × (length p.txns ≤ 1024)) client.2 (known.1, known.2)

pub within-limits : (script : Script) → IsScript script → IsWithinLimits (case_of script)
within-limits script rules = record {
  txns = λ n plan is. (let known = (client-rules script rules n plan is).1 in omega arith);
  tries = λ n k plan is. tried n k plan (numbered (case_of script).plans n) refl is;
  actors =
      (let clients = length-map script.clients (λ (c : List ℕ × ClientPlan). c.1) in
      let cleaners = length-map script.cleaners (λ (c : List ℕ × ℕ). c.1) in omega arith);
}
  where
    tried : (n k : ℕ) (plan : TxnPlan) (o : Option ClientPlan) → numbered (case_of script).plans n ≡ o
        → option_and_then (λ p. numbered p.txns k) o ≡ Some plan → plan.tries < 2 ^ 32
    tried n k plan None there is = absurd (none-some plan is)
    tried n k plan (Some p) there is =
        let at = numbered-at p.txns k plan is in
        let known : IsPlan plan = each-at IsPlan p.txns at.0 plan (client-rules script rules n p there).0 at.2 in
        let few = known.tries.1 in omega arith

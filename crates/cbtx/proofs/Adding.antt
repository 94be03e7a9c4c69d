-- Actors that are added to a list, one after another.
use Rattle.std.proofs.Common.{◌≡◌, ℕ, suc, ◌+◌, ◌<◌, ⊎_elim, List, [], ◌∷◌, ◌++◌, length, slice_get, Some, refl, sym, ap, ◌∙◌, subst, arith}
use Rattle.std.proofs.lemmas.Option.{slice_get_within}
use Rattle.cbt_expr.specs.declared.plans.ClientPlan.{ClientPlan}
use Rattle.cbt_model.proofs.Longer.{get-longer, get-next_cases, length-next}
use Rattle.cbt_script.specs.declared.script.Script.{Script}
use Rattle.cbtx.specs.Adding.{AddsCleaners, AreClients}
use Rattle.cbtx.specs.Crew.{CleansAs, IsCrew, TransactsAs, cleaner_terms}
use Rattle.cbtx.specs.declared.workers.Worker.{Worker}
use Rattle.cbtx.proofs.Places.{same-item}

pub clients-next : (atrs : ℕ) (clients : List (List ℕ × ClientPlan)) (workers : List Worker) (w : Worker) (k : ℕ) (client : List ℕ × ClientPlan)
    → AreClients atrs clients workers → length workers ≡ k → slice_get clients k ≡ Some client → TransactsAs (suc k) atrs client.1 w
    → AreClients atrs clients (workers ++ w ∷ [])
clients-next atrs clients workers w k client before counted at new j other x other_at x_at =
    ⊎_elim (λ (old : (j < length workers) × (slice_get workers j ≡ Some x)). before j other x other_at old.1)
    (λ (last : (j ≡ length workers) × (x ≡ w)). here (last.0 ∙ counted) last.1) (get-next_cases workers w j x x_at)
  where
    here : j ≡ k → x ≡ w → TransactsAs (suc j) atrs other.1 x
    here same is =
        let known : other ≡ client = same-item other client (sym other_at ∙ ap (λ i. slice_get clients i) same ∙ at) in
        subst (λ y. TransactsAs (suc j) atrs other.1 y) (sym is)
        (subst (λ i. TransactsAs (suc i) atrs other.1 w) (sym same) (subst (λ c. TransactsAs (suc k) atrs c.1 w) (sym known) new))

pub cleaners-next : (script : Script) (k : ℕ) (old workers : List Worker) (w : Worker) (cleaner : List ℕ × ℕ)
    → AddsCleaners script k old workers → slice_get script.cleaners k ≡ Some cleaner → CleansAs (cleaner_terms script (suc k)) cleaner.1 w
    → AddsCleaners script (suc k) old (workers ++ w ∷ [])
cleaners-next script k old workers w cleaner before at new = record {
  counted = (let longer = length-next workers w in let so_far = before.counted in omega arith);
  kept = λ j low. get-longer workers (w ∷ []) j (let so_far = before.counted in omega arith) ∙ before.kept j low;
  each = λ j other x other_at x_at.
      ⊎_elim (λ (there : (length old + j < length workers) × (slice_get workers (length old + j) ≡ Some x)). before.each j other x other_at there.1)
      (λ (last : (length old + j ≡ length workers) × (x ≡ w)). here j other x other_at (let so_far = before.counted in let place = last.0 in omega arith) last.1)
      (get-next_cases workers w (length old + j) x x_at);
}
  where
    here : (j : ℕ) (other : List ℕ × ℕ) (x : Worker) → slice_get script.cleaners j ≡ Some other → j ≡ k → x ≡ w
        → CleansAs (cleaner_terms script (suc j)) other.1 x
    here j other x other_at same is =
        let known : other ≡ cleaner = same-item other cleaner (sym other_at ∙ ap (λ i. slice_get script.cleaners i) same ∙ at) in
        subst (λ y. CleansAs (cleaner_terms script (suc j)) other.1 y) (sym is)
        (subst (λ i. CleansAs (cleaner_terms script (suc i)) other.1 w) (sym same) (subst (λ c. CleansAs (cleaner_terms script (suc k)) c.1 w) (sym known) new))

pub none-added : (script : Script) (old : List Worker) → AddsCleaners script 0 old old
none-added script old = record {
  counted = omega arith;
  kept = λ j low. refl;
  each = λ j other x other_at x_at. absurd (let within = slice_get_within old (length old + j) x x_at in omega arith);
}

-- clients, and cleaners behind them
pub crew-is : (script : Script) (clients workers : List Worker) → AreClients script.atrs script.clients clients
    → length clients ≡ length script.clients → AddsCleaners script (length script.cleaners) clients workers → IsCrew script workers
crew-is script clients workers are counted added = record {
  all = added.counted ∙ ap (λ n. n + length script.cleaners) counted;
  clients = λ k client w at w_at.
      are k client w at (sym (added.kept k (let low = slice_get_within script.clients k client at in omega arith)) ∙ w_at);
  cleaners = λ k cleaner w at w_at. added.each k cleaner w at (ap (λ n. slice_get workers (n + k)) counted ∙ w_at);
}

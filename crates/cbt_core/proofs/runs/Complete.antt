-- Who was not stopped began and ended all that its plan has.
use Rattle.std.proofs.Common.{◌≡◌, ◌≢◌, ℕ, suc, Bool, true, false, ⊎_elim, List, [], ◌∷◌, length, refl, sym, ap, ◌∙◌}
use Rattle.cbt_expr.specs.declared.plans.TxnPlan.{TxnPlan}
use Rattle.cbt_model.specs.declared.events.Made.{Made}
use Rattle.cbt_book.specs.OwnLists.{In}
use Rattle.cbt_book.specs.declared.book.Book.{Book}
use Rattle.cbt_book.specs.declared.clients.TxnEnd.TheVariants as txn_end
use Rattle.cbt_book.specs.declared.clients.TxnLog.{TxnLog}
use Rattle.cbt_core.specs.Clients.{IsWhole, TxnsFollow}
use Rattle.cbt_core.specs.Runs.{LogsFollow}
use Rattle.cbt_core.specs.Stops.{WasStopped, StopsKept, ClientsComplete, CleanersComplete}
use Rattle.cbt_core.specs.Transactions.{attempts_end}
use Rattle.cbt_core.specs.declared.case.Case.{Case}

all_begun : (plans : List TxnPlan) (logs : List TxnLog) → IsWhole plans logs → ¬ WasStopped logs → length logs ≡ length plans
all_begun [] [] whole running = refl
all_begun (plan ∷ plans) [] whole running = absurd whole
all_begun [] (log ∷ logs) whole running = absurd whole
all_begun (plan ∷ plans) (log ∷ []) whole running =
    ⊎_elim (λ (none : plans ≡ []). ap (λ (rest : List TxnPlan). suc (length rest)) (sym none)) (λ stopped. absurd (running stopped)) whole
all_begun (plan ∷ plans) (log ∷ next ∷ logs) whole running = ap suc (all_begun plans (next ∷ logs) whole running)

all_ended : (client atrs : ℕ) (l : List Made) (at n : ℕ) (plans : List TxnPlan) (logs : List TxnLog) → TxnsFollow client atrs l at n plans logs → ¬ WasStopped logs
    → (txn : TxnLog) → In txn logs → txn.end ≢ txn_end.Stopped
all_ended client atrs l at n plans [] follow running txn there = absurd there
all_ended client atrs l at n [] (log ∷ logs) follow running txn there = absurd follow
all_ended client atrs l at n (plan ∷ plans) (log ∷ []) follow running txn there =
    ⊎_elim (λ (same : txn ≡ log). λ stopped. running (ap (λ (t : TxnLog). t.end) (sym same) ∙ stopped)) (λ none. absurd none) there
all_ended client atrs l at n (plan ∷ plans) (log ∷ next ∷ logs) follow running txn there =
    ⊎_elim (λ (same : txn ≡ log). λ stopped. follow.1 (ap (λ (t : TxnLog). t.end) (sym same) ∙ stopped))
    (λ (later : In txn (next ∷ logs)). all_ended client atrs l (attempts_end at log.attempts) (suc n) plans (next ∷ logs) follow.2 running txn later) there

module _ (case : Case) (book : Book) (follow : LogsFollow case book) (kept : StopsKept case book) where
  pub clients_complete : ClientsComplete case book
  clients_complete n plan log plan_is log_is free =
      let follows = follow.clients.each n plan log plan_is log_is in
      let running : ¬ WasStopped log.txns = λ stopped. free (kept.client n plan log plan_is log_is stopped).0 in
      record {
        all = all_begun plan.txns log.txns follows.whole running;
        ended = λ txn there. all_ended n case.atrs _ 0 1 plan.txns log.txns follows.txns running txn there;
      }

  pub cleaners_complete : CleanersComplete case book
  cleaners_complete n rounds log rounds_is log_is free = go log.stopped refl
    where
      go : (b : Bool) → log.stopped ≡ b → length log.rounds ≡ rounds
      go true stopped = absurd (free (kept.cleaner n rounds log rounds_is log_is stopped).0)
      go false running = (follow.cleaners.each n rounds log rounds_is log_is).whole running

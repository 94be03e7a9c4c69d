-- Each actor of a script made licensed calls alone.
use Rattle.std.proofs.Common.{◌≡◌, ℕ, suc, ◌+◌, ◌-◌, ◌<◌, ◌≤◌, ⊎_elim, List, [], length, slice_get, Option, Some, None, refl, sym, ap, ◌∙◌, subst, arith}
use Rattle.std.proofs.lemmas.Bool.{cases_lt}
use Rattle.std.proofs.lemmas.List.{length-map}
use Rattle.std.proofs.lemmas.Option.{slice_get_within}
use Rattle.cbt_base.specs.Ids.{cleaner_number}
use Rattle.cbt_book.specs.Licence.{IsLicensed}
use Rattle.cbt_book.specs.Numbers.{Identity}
use Rattle.cbt_core.specs.Runs.{identity_of, sweeps}
use Rattle.cbt_expr.specs.declared.plans.ClientPlan.{ClientPlan}
use Rattle.cbt_lost.specs.Cleaning as lost
use Rattle.cbt_lost.specs.declared.cleaners.Cleaner.{Cleaner}
use Rattle.cbt_lost.specs.declared.rounds.Terms.{Terms}
use Rattle.cbt_model.specs.declared.events.Made.{Made}
use Rattle.cbt_runs.specs.Promises.{PromiseLicence}
use Rattle.cbt_script.specs.declared.script.Script.{Script}
use Rattle.cbtx.specs.Cases.{case_of}
use Rattle.cbtx.specs.Crew.{IsCrew, IsSweep, sweep_terms, cleaner_terms}
use Rattle.cbtx.specs.contracts.workers.WorkerActor.TheImpl.{ghosts}
use Rattle.cbtx.specs.declared.workers.Worker.{Worker}
use Rattle.cbtx.proofs.Actors.{CleanerNow, ClientNow, cleaner-now, client-now, new-cleaner-stands, new-client-stands}
use Rattle.cbtx.proofs.Places.{item-at, numbered-at}

-- the actor at a place is a client or a cleaner
pub data WhoseAt (script : Script) (k : ℕ) : Type 0 where
  is_client : (client : List ℕ × ClientPlan) → slice_get script.clients k ≡ Some client → WhoseAt script k
  is_cleaner : (j : ℕ) (cleaner : List ℕ × ℕ) → k ≡ length script.clients + j → slice_get script.cleaners j ≡ Some cleaner → WhoseAt script k

pub whose-at : (script : Script) (k : ℕ) → k < length script.clients + length script.cleaners → WhoseAt script k
whose-at script k low =
    ⊎_elim (λ (below : k < length script.clients). (let it = item-at script.clients k below in is_client it.0 it.1))
    (λ (high : length script.clients ≤ k).
    (let it = item-at script.cleaners (k - length script.clients) (omega arith) in is_cleaner (k - length script.clients) it.0 (omega arith) it.1))
    (cases_lt k (length script.clients))

-- the actors of a script stand for no calls before their first
pub crew-stands : (script : Script) (workers : List Worker) → IsCrew script workers → (k : ℕ) (w : Worker) → slice_get workers k ≡ Some w
    → ghosts.stands_for w []
crew-stands script workers crew k w at = by (whose-at script k (let within = slice_get_within workers k w at in let all = crew.all in omega arith))
  where
    by : WhoseAt script k → ghosts.stands_for w []
    by (is_client client client_at) = new-client-stands (suc k) script.atrs client.1 w (crew.clients k client w client_at at)
    by (is_cleaner j cleaner place cleaner_at) =
        new-cleaner-stands (cleaner_terms script (suc j)) cleaner.1 w
        (crew.cleaners j cleaner w cleaner_at (ap (λ n. slice_get workers n) (sym place) ∙ at))

pub sweep-stands : (script : Script) (sweep : List Worker) → IsSweep script sweep → (k : ℕ) (w : Worker) → slice_get sweep k ≡ Some w
    → ghosts.stands_for w []
sweep-stands script sweep is k w at = new-cleaner-stands (sweep_terms script) 1 w (is.each k w at)

-- there is one sweep at most
pub few-sweeps : (o : Option ℕ) → sweeps o ≤ 1
few-sweeps None = omega arith
few-sweeps (Some ms) = omega arith

-- the law on the calls of cleaners
abbrev pub CleanersAreLicensed : Type 0
CleanersAreLicensed = (who : Identity) (c : Cleaner) (l : List Made) → who.cleaner ≡ c.terms.id → lost.StandsFor c l → IsLicensed who l

module _ (script : Script) (workers sweep : List Worker) (crew : IsCrew script workers) (swept : IsSweep script sweep) (law : CleanersAreLicensed) where
  plans-count : length (case_of script).plans ≡ length script.clients
  plans-count = length-map script.clients (λ (c : List ℕ × ClientPlan). c.1)

  rounds-count : length (case_of script).rounds ≡ length script.cleaners
  rounds-count = length-map script.cleaners (λ (c : List ℕ × ℕ). c.1)

  by-client : (number atrs : ℕ) (plan : ClientPlan) (now : Worker) (l : List Made) → ClientNow number atrs plan now l
      → (who : Identity) → who.number ≡ number → IsLicensed who l
  by-client number atrs plan now l it who same = it.stands.licensed who (same ∙ sym it.actor)

  by-cleaner : (terms : Terms) (rounds : ℕ) (now : Worker) (l : List Made) → CleanerNow terms rounds now l
      → (who : Identity) → who.cleaner ≡ terms.id → IsLicensed who l
  by-cleaner terms rounds now l it who same = law who it.c l (same ∙ ap (λ (t : Terms). t.id) (sym it.terms_are)) it.stands

  worker-licensed : (k : ℕ) (begun now : Worker) (l : List Made) → slice_get workers k ≡ Some begun → ghosts.same_origin begun now
      → ghosts.stands_for now l → WhoseAt script k → IsLicensed (identity_of (case_of script) (suc k)) l
  worker-licensed k begun now l at same stands (is_client client client_at) =
      by-client (suc k) script.atrs client.1 now l
      (client-now (suc k) script.atrs client.1 begun now l (crew.clients k client begun client_at at) same stands)
      (identity_of (case_of script) (suc k)) refl
  worker-licensed k begun now l at same stands (is_cleaner j cleaner place cleaner_at) =
      by-cleaner (cleaner_terms script (suc j)) cleaner.1 now l
      (cleaner-now (cleaner_terms script (suc j)) cleaner.1 begun now l
      (crew.cleaners j cleaner begun cleaner_at (ap (λ n. slice_get workers n) (sym place) ∙ at)) same stands)
      (identity_of (case_of script) (suc k)) (ap cleaner_number (let count = plans-count in omega arith))

  pub promise-licence : PromiseLicence ghosts (case_of script) workers sweep
  promise-licence = record {
    of_worker = λ n begun now l is same stands.
        (let at = numbered-at workers n begun is in
        subst (λ m. IsLicensed (identity_of (case_of script) m) l) (sym at.1)
        (worker-licensed at.0 begun now l at.2 same stands
        (whose-at script at.0 (let within = slice_get_within workers at.0 begun at.2 in let all = crew.all in omega arith))));
    of_sweep = λ begun now l is same stands.
        by-cleaner (sweep_terms script) 1 now l (cleaner-now (sweep_terms script) 1 begun now l (swept.each 0 begun is) same stands)
        (identity_of (case_of script) (length (case_of script).plans + suc (length (case_of script).rounds)))
        (ap cleaner_number (let rounds = rounds-count in omega arith));
  }

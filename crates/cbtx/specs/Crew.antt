-- The actors of a script, as they are begun: they have made no call.
use Rattle.std.specs.Prelude.{◌≡◌, ℕ, suc, ◌+◌, true, false, List, [], length, slice_get, Some}
use Rattle.cbt_base.specs.Ids.{cleaner_number}
use Rattle.cbt_core.specs.Runs.{sweeps}
use Rattle.cbt_expr.specs.declared.plans.ClientPlan.{ClientPlan}
use Rattle.cbt_lost.specs.Cleaning as lost
use Rattle.cbt_lost.specs.declared.cleaners.Cleaner.{Cleaner}
use Rattle.cbt_lost.specs.declared.rounds.Terms.{Terms}
use Rattle.cbt_script.specs.declared.script.Script.{Script}
use Rattle.cbtx.specs.declared.workers.Worker.{Worker}
use Rattle.cbtx.specs.declared.workers.Worker.TheVariants.{Transacts, Cleans}
use Rattle.cbt_txn.specs.Clients as txn
use Rattle.cbt_txn.specs.declared.clients.Client.{Client}

pub record IsNewClient (number atrs : ℕ) (plan : ClientPlan) (c : Client) : Type 0 where
  pub actor : c.origin.actor ≡ number
  pub plan_is : c.origin.plan ≡ plan
  pub atrs_are : c.origin.atrs ≡ atrs
  pub runs : c.stopped ≡ false
  pub fresh : txn.StandsFor c []

pub record IsNewCleaner (terms : Terms) (rounds : ℕ) (c : Cleaner) : Type 0 where
  pub terms_are : c.terms ≡ terms
  pub rounds_are : length c.logs ≡ rounds
  pub runs : c.stopped ≡ false
  pub fresh : lost.StandsFor c []

-- the actor is the client with this number and plan
abbrev pub TransactsAs : (number atrs : ℕ) → ClientPlan → Worker → Type 0
TransactsAs number atrs plan (Transacts c) = IsNewClient number atrs plan c
TransactsAs number atrs plan (Cleans c) = ⊥

-- the actor is a cleaner that makes so many rounds on these terms
abbrev pub CleansAs : Terms → ℕ → Worker → Type 0
CleansAs terms rounds (Transacts c) = ⊥
CleansAs terms rounds (Cleans c) = IsNewCleaner terms rounds c

-- on what terms the n-th cleaner makes its rounds, and the sweep its one
abbrev pub cleaner_terms : Script → ℕ → Terms
cleaner_terms script n = record { id = cleaner_number n; atrs = script.atrs; lapse = script.lapse; sweep = false }

abbrev pub sweep_terms : Script → Terms
sweep_terms script = record { id = cleaner_number (suc (length script.cleaners)); atrs = script.atrs; lapse = 0; sweep = true }

-- the actors are the clients of the script and behind them its cleaners
pub record IsCrew (script : Script) (workers : List Worker) : Type 0 where
  pub all : length workers ≡ length script.clients + length script.cleaners
  pub clients : (k : ℕ) (client : List ℕ × ClientPlan) (w : Worker) → slice_get script.clients k ≡ Some client → slice_get workers k ≡ Some w
      → TransactsAs (suc k) script.atrs client.1 w
  pub cleaners : (k : ℕ) (cleaner : List ℕ × ℕ) (w : Worker) → slice_get script.cleaners k ≡ Some cleaner
      → slice_get workers (length script.clients + k) ≡ Some w → CleansAs (cleaner_terms script (suc k)) cleaner.1 w

-- the one actor is the sweep of the script, where it has one
pub record IsSweep (script : Script) (sweep : List Worker) : Type 0 where
  pub all : length sweep ≡ sweeps script.sweep
  pub each : (k : ℕ) (w : Worker) → slice_get sweep k ≡ Some w → CleansAs (sweep_terms script) 1 w

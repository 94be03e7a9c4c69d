-- What an actor is when its run has ended: the client or the cleaner that it was begun as.
use Rattle.std.proofs.Common.{◌≡◌, ℕ, Bool, true, false, List, [], length, refl, sym, ap, ◌∙◌}
use Rattle.cbt_expr.specs.declared.plans.ClientPlan.{ClientPlan}
use Rattle.cbt_lost.specs.Cleaning as lost
use Rattle.cbt_lost.specs.declared.cleaners.Cleaner.{Cleaner}
use Rattle.cbt_lost.specs.declared.rounds.Terms.{Terms}
use Rattle.cbt_model.specs.declared.events.Made.{Made}
use Rattle.cbtx.specs.Crew.{CleansAs, TransactsAs}
use Rattle.cbtx.specs.contracts.workers.WorkerActor.TheImpl.{ghosts}
use Rattle.cbtx.specs.declared.workers.Worker.{Worker}
use Rattle.cbtx.specs.declared.workers.Worker.TheVariants.{Transacts, Cleans}
use Rattle.cbt_txn.specs.Clients as txn
use Rattle.cbt_txn.specs.declared.clients.Client.{Client}
use Rattle.cbt_txn.specs.declared.origins.Origin.{Origin}

-- whether it is a client
abbrev pub transacts : Worker → Bool
transacts (Transacts c) = true
transacts (Cleans c) = false

-- it stands for no calls before its first
pub new-client-stands : (number atrs : ℕ) (plan : ClientPlan) (w : Worker) → TransactsAs number atrs plan w → ghosts.stands_for w []
new-client-stands number atrs plan (Transacts c) new = new.fresh
new-client-stands number atrs plan (Cleans c) new = absurd new

pub new-cleaner-stands : (terms : Terms) (rounds : ℕ) (w : Worker) → CleansAs terms rounds w → ghosts.stands_for w []
new-cleaner-stands terms rounds (Transacts c) new = absurd new
new-cleaner-stands terms rounds (Cleans c) new = new.fresh

-- the client with this number and plan, at the end of its run
pub record ClientNow (number atrs : ℕ) (plan : ClientPlan) (w : Worker) (l : List Made) : Type 0 where
  pub c : Client
  pub is : w ≡ Transacts c
  pub actor : c.origin.actor ≡ number
  pub plan_is : c.origin.plan ≡ plan
  pub atrs_are : c.origin.atrs ≡ atrs
  pub stands : txn.StandsFor c l

pub client-now : (number atrs : ℕ) (plan : ClientPlan) (begun now : Worker) (l : List Made) → TransactsAs number atrs plan begun
    → ghosts.same_origin begun now → ghosts.stands_for now l → ClientNow number atrs plan now l
client-now number atrs plan (Cleans b) now l new same stands = absurd new
client-now number atrs plan (Transacts b) (Cleans c) l new same stands = absurd same
client-now number atrs plan (Transacts b) (Transacts c) l new same stands = record {
  c = c;
  is = refl;
  actor = ap (λ (o : Origin). o.actor) (sym same) ∙ new.actor;
  plan_is = ap (λ (o : Origin). o.plan) (sym same) ∙ new.plan_is;
  atrs_are = ap (λ (o : Origin). o.atrs) (sym same) ∙ new.atrs_are;
  stands = stands;
}

-- a cleaner on these terms, at the end of its run
pub record CleanerNow (terms : Terms) (rounds : ℕ) (w : Worker) (l : List Made) : Type 0 where
  pub c : Cleaner
  pub is : w ≡ Cleans c
  pub terms_are : c.terms ≡ terms
  pub rounds_are : length c.logs ≡ rounds
  pub stands : lost.StandsFor c l

pub cleaner-now : (terms : Terms) (rounds : ℕ) (begun now : Worker) (l : List Made) → CleansAs terms rounds begun
    → ghosts.same_origin begun now → ghosts.stands_for now l → CleanerNow terms rounds now l
cleaner-now terms rounds (Transacts b) now l new same stands = absurd new
cleaner-now terms rounds (Cleans b) (Transacts c) l new same stands = absurd same
cleaner-now terms rounds (Cleans b) (Cleans c) l new same stands = record {
  c = c;
  is = refl;
  terms_are = sym same.0 ∙ new.terms_are;
  rounds_are = sym same.1 ∙ new.rounds_are;
  stands = stands;
}

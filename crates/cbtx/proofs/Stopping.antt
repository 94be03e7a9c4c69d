-- Each actor of a script was stopped as its log tells.
use Rattle.std.proofs.Common.{◌≡◌, ◌≢◌, ◌↔◌, ℕ, zero, suc, ◌+◌, Bool, true, false, List, ◌++◌, length, slice_get, Option, Some, None, IsSome, refl, sym, ap, ◌∙◌, subst, arith}
use Rattle.std.proofs.lemmas.List.{length-map}
use Rattle.std.proofs.lemmas.Option.{none-some, slice_get_within}
use Rattle.cbt_book.specs.Cleaners.{AtLast, HasNext}
use Rattle.cbt_book.specs.OwnLists.{Descends}
use Rattle.cbt_book.specs.declared.book.Book.{Book}
use Rattle.cbt_book.specs.declared.cleaners.CleanerLog.{CleanerLog}
use Rattle.cbt_book.specs.declared.clients.ClientLog.{ClientLog}
use Rattle.cbt_core.specs.Runs.{cleaner_plan, own_of}
use Rattle.cbt_core.specs.Staying.{StaysAsShown}
use Rattle.cbt_core.specs.Stops.{LastHasCall, WasStopped}
use Rattle.cbt_core.specs.WriteSets.{numbered}
use Rattle.cbt_expr.specs.declared.plans.ClientPlan.{ClientPlan}
use Rattle.cbt_lost.specs.Cleaning as lost
use Rattle.cbt_lost.specs.Cleaning.{cleaner_log_of}
use Rattle.cbt_lost.specs.Rounds.{plan_of}
use Rattle.cbt_lost.specs.declared.cleaners.Cleaner.{Cleaner}
use Rattle.cbt_lost.specs.declared.rounds.Terms.{Terms}
use Rattle.cbt_model.specs.Stops.{stop_of}
use Rattle.cbt_model.specs.declared.events.Made.{Made}
use Rattle.cbt_model.specs.declared.steps.Step.{Step}
use Rattle.cbt_runs.specs.Driven.{HasRun, HaveRun}
use Rattle.cbt_runs.specs.Promises.{PromiseStops, TellsStop}
use Rattle.cbt_sched.specs.Stopping.{StopReached}
use Rattle.cbt_script.specs.declared.script.Script.{Script}
use Rattle.cbtx.specs.Cases.{case_of}
use Rattle.cbtx.specs.Crew.{CleansAs, IsCrew, IsSweep, TransactsAs, cleaner_terms, sweep_terms}
use Rattle.cbtx.specs.Told.{cleaner_logs, client_logs}
use Rattle.cbtx.specs.contracts.workers.WorkerActor.TheImpl.{ghosts}
use Rattle.cbtx.specs.declared.workers.Worker.{Worker}
use Rattle.cbtx.specs.declared.workers.Worker.TheVariants.{Transacts, Cleans}
use Rattle.cbtx.proofs.Actors.{CleanerNow, ClientNow, cleaner-now, client-now}
use Rattle.cbtx.proofs.Places.{mapped-at, numbered-at}
use Rattle.cbtx.proofs.Promising.{WhoseAt, is_client, is_cleaner, whose-at}
use Rattle.cbtx.proofs.Telling.{cleaner-log, client-log, sweep-log}
use Rattle.cbt_txn.specs.Clients as txn
use Rattle.cbt_txn.specs.Clients.{client_log_of}
use Rattle.cbt_txn.specs.declared.clients.Client.{Client}

-- ---- no actor is begun stopped

new-client-runs : (number atrs : ℕ) (plan : ClientPlan) (w : Worker) → TransactsAs number atrs plan w → ghosts.is_stopped w ≡ false
new-client-runs number atrs plan (Transacts c) new = new.runs
new-client-runs number atrs plan (Cleans c) new = absurd new

new-cleaner-runs : (terms : Terms) (rounds : ℕ) (w : Worker) → CleansAs terms rounds w → ghosts.is_stopped w ≡ false
new-cleaner-runs terms rounds (Transacts c) new = absurd new
new-cleaner-runs terms rounds (Cleans c) new = new.runs

crew-runs : (script : Script) (workers : List Worker) → IsCrew script workers → (k : ℕ) (w : Worker) → slice_get workers k ≡ Some w
    → ghosts.is_stopped w ≡ false
crew-runs script workers crew k w at = by (whose-at script k (let within = slice_get_within workers k w at in let all = crew.all in omega arith))
  where
    by : WhoseAt script k → ghosts.is_stopped w ≡ false
    by (is_client client client_at) = new-client-runs (suc k) script.atrs client.1 w (crew.clients k client w client_at at)
    by (is_cleaner j cleaner place cleaner_at) =
        new-cleaner-runs (cleaner_terms script (suc j)) cleaner.1 w
        (crew.cleaners j cleaner w cleaner_at (ap (λ n. slice_get workers n) (sym place) ∙ at))

-- ---- what the laws on clients and cleaners say of stops

pub record ClientsStop : Type 0 where
  pub calls : (c : Client) (l : List Made) → txn.StandsFor c l → (client_log_of c).calls ≡ length l
  pub stopped : (c : Client) (l : List Made) → txn.StandsFor c l → Descends l → WasStopped (client_log_of c).txns ↔ (txn.has_ended c ≡ false)
  pub asks : (c : Client) (l : List Made) → txn.StandsFor c l → Descends l → txn.has_ended c ≡ false → txn.step_now c ≡ None → c.stopped ≡ true
  pub has_call : (c : Client) (l : List Made) (s : Step) → txn.StandsFor c l → Descends l → StaysAsShown l → txn.step_now c ≡ Some s
      → LastHasCall c.origin.actor c.origin.atrs l 0 1 c.origin.plan.txns (client_log_of (record c { stopped = true })).txns

pub record CleanersStop : Type 0 where
  pub calls : (c : Cleaner) (l : List Made) → lost.StandsFor c l → (cleaner_log_of c).calls ≡ length l
  pub stopped : (c : Cleaner) → (cleaner_log_of c).stopped ≡ true ↔ (lost.has_ended c ≡ false)
  pub asks : (c : Cleaner) (l : List Made) → lost.StandsFor c l → lost.has_ended c ≡ false → lost.step_now c ≡ None → c.stopped ≡ true
  pub next : (c : Cleaner) (l : List Made) (stop : Option ℕ) → lost.StandsFor c l → Descends l → c.terms.sweep ≡ false
      → (cleaner_log_of c).stopped ≡ true → AtLast (HasNext (plan_of c.terms (length c.logs) stop) l) (cleaner_log_of c).rounds

some-is : {A : Type 0} (o : Option A) → IsSome o → (x : A) × (o ≡ Some x)
some-is None there = absurd (cc)
some-is (Some x) there = (x, refl)

not-true : (b : Bool) → b ≢ true → b ≡ false
not-true false not = refl
not-true true not = absurd (not refl)

true-false : (b : Bool) → b ≡ true → b ≡ false → ⊥
true-false b is is_not = (let clash : true ≡ false = sym is ∙ is_not in cc)

-- ---- the end of a client's run

module _ (law : ClientsStop) (number atrs : ℕ) (plan : ClientPlan) (begun now : Worker) (l : List Made) (new : TransactsAs number atrs plan begun)
    (run : HasRun ghosts begun now l) where
  abbrev ended-as : ClientNow number atrs plan now l
  ended-as = client-now number atrs plan begun now l new run.origin run.stands

  client-stopped : WasStopped (client_log_of ended-as.c).txns → ghosts.is_stopped now ≡ true
  client-stopped was =
      subst (λ w. ghosts.is_stopped w ≡ true) (sym ended-as.is)
      (law.asks ended-as.c l ended-as.stands run.descends ((law.stopped ended-as.c l ended-as.stands run.descends).0 was)
      (subst (λ w. ghosts.step_now w ≡ None) ended-as.is run.ended))

  -- where it was stopped with a next call, its log has that call
  client-has-call : (stop : Option ℕ) → StaysAsShown l
      → StopReached ghosts.stands_for ghosts.step_now ghosts.same_origin ghosts.stopped_as stop begun now l
      → LastHasCall number atrs l 0 1 plan.txns (client_log_of ended-as.c).txns
  client-has-call stop stays reached =
      subst (λ c. LastHasCall number atrs l 0 1 plan.txns (client_log_of c).txns) (sym is)
      (subst (λ n. LastHasCall n atrs l 0 1 plan.txns (client_log_of (record it.c { stopped = true })).txns) it.actor
      (subst (λ a. LastHasCall it.c.origin.actor a l 0 1 plan.txns (client_log_of (record it.c { stopped = true })).txns) it.atrs_are
      (subst (λ (p : ClientPlan). LastHasCall it.c.origin.actor it.c.origin.atrs l 0 1 p.txns (client_log_of (record it.c { stopped = true })).txns) it.plan_is
      (law.has_call it.c l asked.0 it.stands run.descends stays asked.1))))
    where
      it : ClientNow number atrs plan reached.before l
      it = client-now number atrs plan begun reached.before l new reached.origin reached.stands

      is : ended-as.c ≡ record it.c { stopped = true }
      is = subst (λ w. ghosts.stopped_as (Transacts it.c) w) ended-as.is (subst (λ w. ghosts.stopped_as w now) it.is reached.stopped)

      asked : (s : Step) × (txn.step_now it.c ≡ Some s)
      asked = some-is (txn.step_now it.c) (subst (λ w. IsSome (ghosts.step_now w)) it.is reached.asks)

-- ---- the end of a cleaner's run

module _ (law : CleanersStop) (terms : Terms) (rounds : ℕ) (begun now : Worker) (l : List Made) (new : CleansAs terms rounds begun)
    (run : HasRun ghosts begun now l) where
  abbrev cleaned-as : CleanerNow terms rounds now l
  cleaned-as = cleaner-now terms rounds begun now l new run.origin run.stands

  cleaner-stopped : (cleaner_log_of cleaned-as.c).stopped ≡ true → ghosts.is_stopped now ≡ true
  cleaner-stopped was =
      subst (λ w. ghosts.is_stopped w ≡ true) (sym cleaned-as.is)
      (law.asks cleaned-as.c l cleaned-as.stands ((law.stopped cleaned-as.c).0 was)
      (subst (λ w. ghosts.step_now w ≡ None) cleaned-as.is run.ended))

  cleaner-has-next : (stop : Option ℕ) → terms.sweep ≡ false → (cleaner_log_of cleaned-as.c).stopped ≡ true
      → AtLast (HasNext (plan_of terms rounds stop) l) (cleaner_log_of cleaned-as.c).rounds
  cleaner-has-next stop single was =
      subst (λ t. AtLast (HasNext (plan_of t rounds stop) l) (cleaner_log_of cleaned-as.c).rounds) cleaned-as.terms_are
      (subst (λ r. AtLast (HasNext (plan_of cleaned-as.c.terms r stop) l) (cleaner_log_of cleaned-as.c).rounds) cleaned-as.rounds_are
      (law.next cleaned-as.c l stop cleaned-as.stands run.descends (ap (λ (t : Terms). t.sweep) cleaned-as.terms_are ∙ single) was))

-- ---- the actors of a script

module _ (script : Script) (book : Book) (workers worked sweep swept : List Worker) (crew : IsCrew script workers) (is_sweep : IsSweep script sweep)
    (have_worked : HaveRun ghosts 1 book.kept workers worked) (have_swept : HaveRun ghosts (suc (length workers)) book.kept sweep swept)
    (clients_are : book.clients ≡ client_logs (worked ++ swept)) (cleaners_are : book.cleaners ≡ cleaner_logs (worked ++ swept))
    (clients_stop : ClientsStop) (cleaners_stop : CleanersStop) (stays : (actor : ℕ) → StaysAsShown (own_of book actor)) where
  client-tells : (k : ℕ) (client : List ℕ × ClientPlan) (log : ClientLog) (begun now : Worker) (l : List Made) → StaysAsShown l
      → slice_get script.clients k ≡ Some client → slice_get book.clients k ≡ Some log
      → slice_get workers k ≡ Some begun → slice_get worked k ≡ Some now → HasRun ghosts begun now l → WasStopped log.txns
      → TellsStop ghosts (stop_of script.stops (suc k)) begun now l log.calls (LastHasCall (suc k) script.atrs l 0 1 client.1.txns log.txns)
  client-tells k client log begun now l shown at log_at begun_at now_at run was = record {
    stopped = client-stopped clients_stop (suc k) script.atrs client.1 begun now l new run (subst (λ (g : ClientLog). WasStopped g.txns) (sym log_is) was);
    counted = ap (λ (g : ClientLog). g.calls) (sym log_is) ∙ clients_stop.calls it.c l it.stands;
    asked = λ reached.
        subst (λ (g : ClientLog). LastHasCall (suc k) script.atrs l 0 1 client.1.txns g.txns) log_is
        (client-has-call clients_stop (suc k) script.atrs client.1 begun now l new run (stop_of script.stops (suc k)) shown reached);
  }
    where
      new : TransactsAs (suc k) script.atrs client.1 begun
      new = crew.clients k client begun at begun_at

      it : ClientNow (suc k) script.atrs client.1 now l
      it = client-now (suc k) script.atrs client.1 begun now l new run.origin run.stands

      log_is : client_log_of it.c ≡ log
      log_is = client-log script book workers worked sweep swept crew is_sweep have_worked have_swept clients_are cleaners_are k client log now l it at now_at log_at

  cleaner-tells : (j : ℕ) (cleaner : List ℕ × ℕ) (log : CleanerLog) (begun now : Worker) (l : List Made) (stop : Option ℕ)
      → slice_get script.cleaners j ≡ Some cleaner → slice_get book.cleaners j ≡ Some log
      → slice_get workers (length script.clients + j) ≡ Some begun → slice_get worked (length script.clients + j) ≡ Some now
      → HasRun ghosts begun now l → log.stopped ≡ true
      → TellsStop ghosts stop begun now l log.calls (AtLast (HasNext (plan_of (cleaner_terms script (suc j)) cleaner.1 stop) l) log.rounds)
  cleaner-tells j cleaner log begun now l stop at log_at begun_at now_at run was = record {
    stopped = cleaner-stopped cleaners_stop (cleaner_terms script (suc j)) cleaner.1 begun now l new run was_so;
    counted = ap (λ (g : CleanerLog). g.calls) (sym log_is) ∙ cleaners_stop.calls it.c l it.stands;
    asked = λ reached.
        subst (λ (g : CleanerLog). AtLast (HasNext (plan_of (cleaner_terms script (suc j)) cleaner.1 stop) l) g.rounds) log_is
        (cleaner-has-next cleaners_stop (cleaner_terms script (suc j)) cleaner.1 begun now l new run stop refl was_so);
  }
    where
      new : CleansAs (cleaner_terms script (suc j)) cleaner.1 begun
      new = crew.cleaners j cleaner begun at begun_at

      it : CleanerNow (cleaner_terms script (suc j)) cleaner.1 now l
      it = cleaner-now (cleaner_terms script (suc j)) cleaner.1 begun now l new run.origin run.stands

      log_is : cleaner_log_of it.c ≡ log
      log_is = cleaner-log script book workers worked sweep swept crew is_sweep have_worked have_swept clients_are cleaners_are
          (cleaner_terms script (suc j)) cleaner.1 j log now l it now_at log_at

      was_so : (cleaner_log_of it.c).stopped ≡ true
      was_so = ap (λ (g : CleanerLog). g.stopped) log_is ∙ was

  sweep-tells : (log : CleanerLog) (begun now : Worker) (l : List Made) → slice_get book.cleaners (length script.cleaners) ≡ Some log
      → slice_get sweep 0 ≡ Some begun → slice_get swept 0 ≡ Some now → HasRun ghosts begun now l → ghosts.is_stopped now ≡ false → log.stopped ≡ false
  sweep-tells log begun now l log_at begun_at now_at run runs =
      ap (λ (g : CleanerLog). g.stopped) (sym log_is) ∙ not-true (cleaner_log_of it.c).stopped (λ was.
      true-false (ghosts.is_stopped now) (cleaner-stopped cleaners_stop (sweep_terms script) 1 begun now l new run was) runs)
    where
      new : CleansAs (sweep_terms script) 1 begun
      new = is_sweep.each 0 begun begun_at

      it : CleanerNow (sweep_terms script) 1 now l
      it = cleaner-now (sweep_terms script) 1 begun now l new run.origin run.stands

      log_is : cleaner_log_of it.c ≡ log
      log_is = sweep-log script book workers worked sweep swept crew is_sweep have_worked have_swept clients_are cleaners_are
          (sweep_terms script) 1 log now l it now_at log_at

  plans-count : length (case_of script).plans ≡ length script.clients
  plans-count = length-map script.clients (λ (c : List ℕ × ClientPlan). c.1)

  rounds-count : length (case_of script).rounds ≡ length script.cleaners
  rounds-count = length-map script.cleaners (λ (c : List ℕ × ℕ). c.1)

  of-client : (n : ℕ) (plan : ClientPlan) (log : ClientLog) (begun now : Worker)
      → numbered (case_of script).plans n ≡ Some plan → numbered book.clients n ≡ Some log
      → numbered workers n ≡ Some begun → numbered worked n ≡ Some now → HasRun ghosts begun now (own_of book n) → WasStopped log.txns
      → TellsStop ghosts (stop_of script.stops n) begun now (own_of book n) log.calls (LastHasCall n script.atrs (own_of book n) 0 1 plan.txns log.txns)
  of-client zero plan log begun now is log_is begun_is now_is run was = absurd (none-some plan is)
  of-client (suc k) plan log begun now is log_is begun_is now_is run was =
      let client = mapped-at (λ (c : List ℕ × ClientPlan). c.1) script.clients k plan is in
      subst (λ (p : ClientPlan). TellsStop ghosts (stop_of script.stops (suc k)) begun now (own_of book (suc k)) log.calls
      (LastHasCall (suc k) script.atrs (own_of book (suc k)) 0 1 p.txns log.txns)) client.2
      (client-tells k client.0 log begun now (own_of book (suc k)) (stays (suc k)) client.1 log_is begun_is now_is run was)

  of-cleaner : (n rounds : ℕ) (log : CleanerLog) (begun now : Worker)
      → numbered (case_of script).rounds n ≡ Some rounds → numbered book.cleaners n ≡ Some log
      → numbered workers (length (case_of script).plans + n) ≡ Some begun → numbered worked (length (case_of script).plans + n) ≡ Some now
      → HasRun ghosts begun now (own_of book (length (case_of script).plans + n)) → log.stopped ≡ true
      → TellsStop ghosts (stop_of script.stops (length (case_of script).plans + n)) begun now (own_of book (length (case_of script).plans + n)) log.calls
      (AtLast (HasNext (cleaner_plan (case_of script) n rounds) (own_of book (length (case_of script).plans + n))) log.rounds)
  of-cleaner zero rounds log begun now is log_is begun_is now_is run was = absurd (none-some rounds is)
  of-cleaner (suc j) rounds log begun now is log_is begun_is now_is run was =
      let cleaner = mapped-at (λ (c : List ℕ × ℕ). c.1) script.cleaners j rounds is in
      let number = length (case_of script).plans + suc j in
      let place : number ≡ suc (length script.clients + j) = let count = plans-count in omega arith in
      subst (λ r. TellsStop ghosts (stop_of script.stops number) begun now (own_of book number) log.calls
      (AtLast (HasNext (cleaner_plan (case_of script) (suc j) r) (own_of book number)) log.rounds)) cleaner.2
      (cleaner-tells j cleaner.0 log begun now (own_of book number) (stop_of script.stops number) cleaner.1 log_is
      (ap (λ n. numbered workers n) (sym place) ∙ begun_is) (ap (λ n. numbered worked n) (sym place) ∙ now_is) run was)

  pub promise-stops : PromiseStops ghosts (case_of script) book workers worked sweep swept
  promise-stops = record {
    workers_run = λ n begun is. (let at = numbered-at workers n begun is in crew-runs script workers crew at.0 begun at.2);
    sweep_runs = λ begun is. new-cleaner-runs (sweep_terms script) 1 begun (is_sweep.each 0 begun is);
    of_client = of-client;
    of_cleaner = of-cleaner;
    of_sweep = λ log begun now log_is begun_is now_is run runs.
        sweep-tells log begun now (own_of book (length (case_of script).plans + suc (length (case_of script).rounds)))
        (ap (λ n. slice_get book.cleaners n) (sym rounds-count) ∙ log_is) begun_is now_is run runs;
  }

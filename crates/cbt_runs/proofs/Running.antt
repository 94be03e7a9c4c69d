-- What driven actors leave is a run of which the laws speak.
use Rattle.std.proofs.Common.{◌≡◌, ℕ, zero, suc, ◌+◌, ◌<◌, ◌≤◌, ◌⊎◌, inl, inr, ⊎_elim, List, [], length, slice_get, Option, Some, None, sym, ap, ◌∙◌, subst, arith}
use Rattle.std.proofs.lemmas.Bool.{cases_lt}
use Rattle.cbt_expr.specs.declared.plans.ClientPlan.{ClientPlan}
use Rattle.cbt_model.specs.Stops.{stop_of}
use Rattle.cbt_model.specs.declared.actors.Actor.{Ghosts as ActorOf}
use Rattle.cbt_model.specs.declared.events.Event.{Event}
use Rattle.cbt_book.specs.Cleaners.{AtLast, HasNext}
use Rattle.cbt_book.specs.Licence.{IsLicensed}
use Rattle.cbt_book.specs.declared.book.Book.{Book}
use Rattle.cbt_book.specs.declared.cleaners.CleanerLog.{CleanerLog}
use Rattle.cbt_core.specs.Runs.{cleaner_plan, identity_of, own_of, sweeps, terms_of, AreLicensed, CleanersFollow, ClientsFollow, LogsFollow}
use Rattle.cbt_core.specs.Stops.{LastHasCall, StopsKept}
use Rattle.cbt_core.specs.WriteSets.{numbered}
use Rattle.cbt_core.specs.declared.case.Case.{Case}
use Rattle.cbt_sched.proofs.Ending.{counterpart}
use Rattle.cbt_runs.specs.Driven.{AreDriven, HasRun}
use Rattle.cbt_runs.specs.Promises.{AreAll, PromiseLicence, PromiseLogs, PromiseStops, TellsStop}
use Rattle.cbt_runs.specs.Stopped.{AreStopped, StayWithin}
use Rattle.cbt_runs.proofs.Numbering.{numbered_at, numbered_within, one-plus, own_none}

few_sweeps : (sweep : Option ℕ) → sweeps sweep ≤ 1
few_sweeps None = omega arith
few_sweeps (Some ms) = omega arith

module _ {A : Type 0} (kind : ActorOf A) (case : Case) (book : Book) (workers worked sweep swept : List A)
    (all : AreAll case book workers sweep) (driven : AreDriven kind (terms_of case) book.kept workers worked sweep swept) where
  -- an actor, and what became of it
  record Ran (now : List A) (n number : ℕ) (begun : A) : Type 0 where
    is : A
    at : numbered now n ≡ Some is
    run : HasRun kind begun is (own_of book number)

  worker_ran : (n : ℕ) (begun : A) → numbered workers n ≡ Some begun → Ran worked n n begun
  worker_ran zero begun at = absurd (cc)
  worker_ran (suc k) begun at =
      let now = counterpart workers worked k begun (sym driven.have_worked.same_length) at in
      record {
        is = now.0;
        at = now.1;
        run = subst (λ n. HasRun kind begun now.0 (own_of book n)) (one-plus k) (driven.have_worked.each k begun now.0 at now.1);
      }

  abbrev last : ℕ
  last = length case.plans + suc (length case.rounds)

  last-is : suc (length workers) + 0 ≡ last
  last-is = let count = all.all_workers in omega arith

  sweep_ran : (begun : A) → numbered sweep 1 ≡ Some begun → Ran swept 1 last begun
  sweep_ran begun at =
      let now = counterpart sweep swept 0 begun (sym driven.have_swept.same_length) at in
      record {
        is = now.0;
        at = now.1;
        run = subst (λ n. HasRun kind begun now.0 (own_of book n)) last-is (driven.have_swept.each 0 begun now.0 at now.1);
      }

  nobody : (actor : ℕ) → (actor < 1) ⊎ (length workers + length sweep < actor) → own_of book actor ≡ []
  nobody actor outside = own_none book.kept.opening book.kept.history actor (length book.kept.history) none
    where
      none : (j : ℕ) (e : Event) → slice_get book.kept.history j ≡ Some e → e.actor ≡ actor → ⊥
      none j e there by =
          let known = driven.legal.numbered j e there in
          let from = known.0 in
          let to = known.1 in
          ⊎_elim (λ (low : actor < 1). (omega arith)) (λ (high : length workers + length sweep < actor). (omega arith)) outside

  pub are_licensed : PromiseLicence kind case workers sweep → AreLicensed case book
  are_licensed promise actor =
      ⊎_elim (λ (low : actor < 1). outside (inl low))
      (λ (from : 1 ≤ actor). ⊎_elim (λ (high : length workers < actor). ⊎_elim (λ (over : length workers + length sweep < actor). outside (inr over))
      (λ (to : actor ≤ length workers + length sweep). by_sweep high to) (cases_lt (length workers + length sweep) actor))
      (λ (to : actor ≤ length workers). by_worker from to) (cases_lt (length workers) actor)) (cases_lt actor 1)
    where
      outside : (actor < 1) ⊎ (length workers + length sweep < actor) → IsLicensed (identity_of case actor) (own_of book actor)
      outside out = subst (λ l. IsLicensed (identity_of case actor) l) (sym (nobody actor out)) tt

      by_worker : 1 ≤ actor → actor ≤ length workers → IsLicensed (identity_of case actor) (own_of book actor)
      by_worker from to =
          let begun = numbered_at workers actor from to in
          let ran = worker_ran actor begun.0 begun.1 in
          promise.of_worker actor begun.0 ran.is (own_of book actor) begun.1 ran.run.origin ran.run.stands

      by_sweep : length workers < actor → actor ≤ length workers + length sweep → IsLicensed (identity_of case actor) (own_of book actor)
      by_sweep high to =
          let count = all.all_workers in
          let one = all.all_sweeps in
          let few = few_sweeps case.sweep in
          let begun = numbered_at sweep 1 (omega arith) (omega arith) in
          let ran = sweep_ran begun.0 begun.1 in
          let same : last ≡ actor = omega arith in
          subst (λ n. IsLicensed (identity_of case n) (own_of book n)) same
          (promise.of_sweep begun.0 ran.is (own_of book last) begun.1 ran.run.origin ran.run.stands)

  -- who stands for a client, a cleaner or the sweep
  client_begun : (n : ℕ) (plan : ClientPlan) → numbered case.plans n ≡ Some plan → (begun : A) × (numbered workers n ≡ Some begun)
  client_begun n plan at =
      let within = numbered_within case.plans n plan at in
      let from = within.0 in
      let to = within.1 in
      let count = all.all_workers in
      numbered_at workers n from (omega arith)

  cleaner_begun : (n rounds : ℕ) → numbered case.rounds n ≡ Some rounds → (begun : A) × (numbered workers (length case.plans + n) ≡ Some begun)
  cleaner_begun n rounds at =
      let within = numbered_within case.rounds n rounds at in
      let from = within.0 in
      let to = within.1 in
      let count = all.all_workers in
      numbered_at workers (length case.plans + n) (omega arith) (omega arith)

  sweep_begun : (log : CleanerLog) → numbered book.cleaners (suc (length case.rounds)) ≡ Some log → (begun : A) × (numbered sweep 1 ≡ Some begun)
  sweep_begun log at =
      let to = (numbered_within book.cleaners (suc (length case.rounds)) log at).1 in
      let one = all.all_sweeps in
      let logs = all.cleaners in
      numbered_at sweep 1 (omega arith) (omega arith)

  module _ (promise : PromiseLogs kind case book workers worked sweep swept) where
    clients_follow : ClientsFollow case book
    clients_follow = record {
      all = all.clients;
      each = λ n plan log at logged.
          (let begun = client_begun n plan at in
          let ran = worker_ran n begun.0 begun.1 in
          promise.of_client n plan log begun.0 ran.is (own_of book n) at logged begun.1 ran.at ran.run);
    }

    cleaners_follow : CleanersFollow case book
    cleaners_follow = record {
      all = all.cleaners;
      each = λ n rounds log at logged.
          (let begun = cleaner_begun n rounds at in
          let ran = worker_ran (length case.plans + n) begun.0 begun.1 in
          promise.of_cleaner n rounds log begun.0 ran.is (own_of book (length case.plans + n)) at logged begun.1 ran.at ran.run);
      sweep = λ ms log is logged.
          (let begun = sweep_begun log logged in
          let ran = sweep_ran begun.0 begun.1 in
          promise.of_sweep log begun.0 ran.is (own_of book last) logged begun.1 ran.at ran.run);
    }

    pub logs_follow : LogsFollow case book
    logs_follow = record { clients = clients_follow; cleaners = cleaners_follow }

  module _ (within : StayWithin case.stops (length workers) book.kept) (stops : AreStopped kind case.stops book.kept workers worked sweep swept)
      (promise : PromiseStops kind case book workers worked sweep swept) where
    -- a worker whose log tells of a stop came to it, and had a next call
    told : (n calls : ℕ) (HasCall : Type 0) (begun now : A) → numbered workers n ≡ Some begun → numbered worked n ≡ Some now
        → TellsStop kind (stop_of case.stops n) begun now (own_of book n) calls HasCall → (stop_of case.stops n ≡ Some calls) × HasCall
    told n calls HasCall begun now at is tells =
        let reached = stops.reached n begun now at is (promise.workers_run n begun at) tells.stopped in
        (reached.reached ∙ ap (λ k. Some k) (sym tells.counted), tells.asked reached)

    pub stops_kept : StopsKept case book
    stops_kept = record {
      within = λ actor most low stop. (let count = all.all_workers in within actor most (omega arith) stop);
      client = λ n plan log at logged was.
          (let begun = client_begun n plan at in
          let ran = worker_ran n begun.0 begun.1 in
          told n log.calls (LastHasCall n case.atrs (own_of book n) 0 1 plan.txns log.txns) begun.0 ran.is begun.1 ran.at
          (promise.of_client n plan log begun.0 ran.is at logged begun.1 ran.at ran.run was));
      cleaner = λ n rounds log at logged was.
          (let begun = cleaner_begun n rounds at in
          let ran = worker_ran (length case.plans + n) begun.0 begun.1 in
          told (length case.plans + n) log.calls (AtLast (HasNext (cleaner_plan case n rounds) (own_of book (length case.plans + n))) log.rounds)
          begun.0 ran.is begun.1 ran.at
          (promise.of_cleaner n rounds log begun.0 ran.is at logged begun.1 ran.at ran.run was));
      sweep = λ log logged.
          (let begun = sweep_begun log logged in
          let ran = sweep_ran begun.0 begun.1 in
          promise.of_sweep log begun.0 ran.is logged begun.1 ran.at ran.run
          (stops.never 1 begun.0 ran.is begun.1 ran.at (promise.sweep_runs begun.0 begun.1)));
    }

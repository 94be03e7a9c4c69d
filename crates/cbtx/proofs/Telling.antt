-- The book has the log of each actor, which follows its plan.
use Rattle.std.proofs.Common.{◌≡◌, ℕ, zero, suc, ◌+◌, ◌-◌, ◌<◌, ◌≤◌, ◌⊎◌, inl, inr, ⊎_elim, true, false, List, [], ◌∷◌, ◌++◌, length, length-append, slice_get, Option, Some, None, refl, sym, ap, ◌∙◌, subst, arith}
use Rattle.std.proofs.lemmas.Bool.{cases_lt}
use Rattle.std.proofs.lemmas.List.{length-map}
use Rattle.std.proofs.lemmas.Option.{none-some, slice_get_within}
use Rattle.std.specs.List.{range_with_len}
use Rattle.cbt_base.specs.Ids.{cleaner_number}
use Rattle.cbt_book.specs.Cleaners.{CleanerFollows, CleanerPlan, PassesGo, SweepFollows, course_of}
use Rattle.cbt_book.specs.OwnLists.{Descends}
use Rattle.cbt_book.specs.declared.book.Book.{Book}
use Rattle.cbt_book.specs.declared.cleaners.CleanerLog.{CleanerLog}
use Rattle.cbt_book.specs.declared.clients.ClientLog.{ClientLog}
use Rattle.cbt_core.specs.Clients.{FollowsPlan}
use Rattle.cbt_core.specs.Runs.{cleaner_plan}
use Rattle.cbt_core.specs.WriteSets.{numbered}
use Rattle.cbt_expr.specs.declared.plans.ClientPlan.{ClientPlan}
use Rattle.cbt_lost.specs.Cleaning as lost
use Rattle.cbt_lost.specs.Cleaning.{cleaner_log_of}
use Rattle.cbt_lost.specs.Rounds.{plan_of}
use Rattle.cbt_lost.specs.declared.cleaners.Cleaner.{Cleaner}
use Rattle.cbt_lost.specs.declared.rounds.Terms.{Terms}
use Rattle.cbt_model.specs.Stops.{stop_of}
use Rattle.cbt_model.specs.declared.events.Made.{Made}
use Rattle.cbt_model.proofs.Longer.{get-longer}
use Rattle.cbt_runs.specs.Driven.{HasRun, HaveRun}
use Rattle.cbt_runs.specs.Promises.{AreAll, PromiseLogs}
use Rattle.cbt_script.specs.declared.script.Script.{Script}
use Rattle.cbtx.specs.Cases.{case_of}
use Rattle.cbtx.specs.Crew.{CleansAs, IsCrew, IsSweep, TransactsAs, cleaner_terms, sweep_terms}
use Rattle.cbtx.specs.Told.{cleaner_logs, client_logs}
use Rattle.cbtx.specs.contracts.workers.WorkerActor.TheImpl.{ghosts}
use Rattle.cbtx.specs.declared.workers.Worker.{Worker}
use Rattle.cbtx.specs.declared.workers.Worker.TheVariants.{Transacts, Cleans}
use Rattle.cbtx.proofs.Actors.{CleanerNow, ClientNow, cleaner-now, client-now, transacts}
use Rattle.cbtx.proofs.Places.{get-behind, item-at, mapped-at, same-item}
use Rattle.cbtx.proofs.Promising.{WhoseAt, is_client, is_cleaner, whose-at}
use Rattle.cbt_txn.specs.Clients as txn
use Rattle.cbt_txn.specs.Clients.{client_log_of}
use Rattle.cbt_txn.specs.declared.clients.Client.{Client}

-- ---- clients first, and cleaners behind them

pub record AreApart (n : ℕ) (ws : List Worker) : Type 0 where
  pub clients : (k : ℕ) (w : Worker) → k < n → slice_get ws k ≡ Some w → transacts w ≡ true
  pub cleaners : (k : ℕ) (w : Worker) → n ≤ k → slice_get ws k ≡ Some w → transacts w ≡ false

rest-apart : (n : ℕ) (w : Worker) (ws : List Worker) → AreApart (suc n) (w ∷ ws) → AreApart n ws
rest-apart n w ws apart = record {
  clients = λ k x low at. apart.clients (suc k) x (omega arith) at;
  cleaners = λ k x high at. apart.cleaners (suc k) x (omega arith) at;
}

rest-cleaners : (w : Worker) (ws : List Worker) → AreApart 0 (w ∷ ws) → AreApart 0 ws
rest-cleaners w ws apart = record {
  clients = λ k x low at. absurd (omega arith);
  cleaners = λ k x high at. apart.cleaners (suc k) x (omega arith) at;
}

pub client_logs-at : (n : ℕ) (ws : List Worker) → AreApart n ws → (k : ℕ) (c : Client) → k < n → slice_get ws k ≡ Some (Transacts c)
    → slice_get (client_logs ws) k ≡ Some (client_log_of c)
client_logs-at zero ws apart k c low at = absurd (omega arith)
client_logs-at (suc n) [] apart k c low at = absurd (let within = slice_get_within [] k (Transacts c) at in omega arith)
client_logs-at (suc n) (Cleans d ∷ ws) apart k c low at =
    absurd (let clash : false ≡ true = apart.clients 0 (Cleans d) (omega arith) refl in cc)
client_logs-at (suc n) (Transacts d ∷ ws) apart zero c low at =
    let same : Transacts d ≡ Transacts c = same-item (Transacts d) (Transacts c) at in
    let is : d ≡ c = cc in
    ap (λ x. Some (client_log_of x)) is
client_logs-at (suc n) (Transacts d ∷ ws) apart (suc k) c low at =
    client_logs-at n ws (rest-apart n (Transacts d) ws apart) k c (omega arith) at

pub cleaner_logs-at : (n : ℕ) (ws : List Worker) → AreApart n ws → (i j : ℕ) (c : Cleaner) → i ≡ n + j → slice_get ws i ≡ Some (Cleans c)
    → slice_get (cleaner_logs ws) j ≡ Some (cleaner_log_of c)
cleaner_logs-at n [] apart i j c is at = absurd (let within = slice_get_within [] i (Cleans c) at in omega arith)
cleaner_logs-at zero (Transacts d ∷ ws) apart i j c is at =
    absurd (let clash : true ≡ false = apart.cleaners 0 (Transacts d) (omega arith) refl in cc)
cleaner_logs-at zero (Cleans d ∷ ws) apart zero zero c is at =
    let same : Cleans d ≡ Cleans c = same-item (Cleans d) (Cleans c) at in
    let known : d ≡ c = cc in
    ap (λ x. Some (cleaner_log_of x)) known
cleaner_logs-at zero (Cleans d ∷ ws) apart zero (suc j) c is at = absurd (omega arith)
cleaner_logs-at zero (Cleans d ∷ ws) apart (suc i) zero c is at = absurd (omega arith)
cleaner_logs-at zero (Cleans d ∷ ws) apart (suc i) (suc j) c is at =
    cleaner_logs-at zero ws (rest-cleaners (Cleans d) ws apart) i j c (omega arith) at
cleaner_logs-at (suc n) (Cleans d ∷ ws) apart i j c is at =
    absurd (let clash : false ≡ true = apart.clients 0 (Cleans d) (omega arith) refl in cc)
cleaner_logs-at (suc n) (Transacts d ∷ ws) apart zero j c is at = absurd (omega arith)
cleaner_logs-at (suc n) (Transacts d ∷ ws) apart (suc i) j c is at =
    cleaner_logs-at n ws (rest-apart n (Transacts d) ws apart) i j c (omega arith) at

pub logs-count : (n : ℕ) (ws : List Worker) → AreApart n ws → n ≤ length ws
    → (length (client_logs ws) ≡ n) × (n + length (cleaner_logs ws) ≡ length ws)
logs-count zero [] apart few = (refl, omega arith)
logs-count zero (Transacts d ∷ ws) apart few =
    absurd (let clash : true ≡ false = apart.cleaners 0 (Transacts d) (omega arith) refl in cc)
logs-count zero (Cleans d ∷ ws) apart few =
    let rest = logs-count zero ws (rest-cleaners (Cleans d) ws apart) (omega arith) in
    (rest.0, let more = rest.1 in omega arith)
logs-count (suc n) [] apart few = absurd (omega arith)
logs-count (suc n) (Cleans d ∷ ws) apart few =
    absurd (let clash : false ≡ true = apart.clients 0 (Cleans d) (omega arith) refl in cc)
logs-count (suc n) (Transacts d ∷ ws) apart few =
    let rest = logs-count n ws (rest-apart n (Transacts d) ws apart) (omega arith) in
    (ap suc rest.0, let more = rest.1 in omega arith)

-- ---- the actors of a script at the end of their run

kind-client : (number atrs : ℕ) (plan : ClientPlan) (begun now : Worker) → TransactsAs number atrs plan begun → ghosts.same_origin begun now
    → transacts now ≡ true
kind-client number atrs plan (Cleans b) now new same = absurd new
kind-client number atrs plan (Transacts b) (Cleans c) new same = absurd same
kind-client number atrs plan (Transacts b) (Transacts c) new same = refl

kind-cleaner : (terms : Terms) (rounds : ℕ) (begun now : Worker) → CleansAs terms rounds begun → ghosts.same_origin begun now
    → transacts now ≡ false
kind-cleaner terms rounds (Transacts b) now new same = absurd new
kind-cleaner terms rounds (Cleans b) (Transacts c) new same = absurd same
kind-cleaner terms rounds (Cleans b) (Cleans c) new same = refl

-- the laws on what clients and cleaners tell
abbrev pub ClientsTell : Type 0
ClientsTell = (c : Client) (l : List Made) → txn.StandsFor c l → Descends l → FollowsPlan c.origin.actor c.origin.atrs c.origin.plan l (client_log_of c)

pub record CleanersTell : Type 0 where
  pub cleaner : (c : Cleaner) (l : List Made) (stop : Option ℕ) → lost.StandsFor c l → Descends l → c.terms.sweep ≡ false
      → CleanerFollows (plan_of c.terms (length c.logs) stop) l (cleaner_log_of c)
  pub sweep : (c : Cleaner) (l : List Made) (stop : Option ℕ) → lost.StandsFor c l → Descends l → c.terms.sweep ≡ true
      → SweepFollows (plan_of c.terms (length c.logs) stop) l (cleaner_log_of c)

-- a sweep follows its plan, whatever this says of lapses, rounds and stops
sweep-again : (p q : CleanerPlan) (l : List Made) (log : CleanerLog) → p.id ≡ q.id → p.atrs ≡ q.atrs → SweepFollows p l log → SweepFollows q l log
sweep-again p q l log ids records it = record {
  id = it.id ∙ ids;
  kept = it.kept;
  round = it.round;
  one = it.one;
  spanned = it.spanned;
  share = it.share;
  passes = subst (λ atrs. PassesGo l (course_of log.stopped []) 0 (range_with_len 0 atrs) it.round) records it.passes;
}

module _ (script : Script) (book : Book) (workers worked sweep swept : List Worker) (crew : IsCrew script workers) (is_sweep : IsSweep script sweep)
    (have_worked : HaveRun ghosts 1 book.kept workers worked) (have_swept : HaveRun ghosts (suc (length workers)) book.kept sweep swept)
    (clients_are : book.clients ≡ client_logs (worked ++ swept)) (cleaners_are : book.cleaners ≡ cleaner_logs (worked ++ swept)) where
  begun-at : (k : ℕ) (now : Worker) → slice_get worked k ≡ Some now → (b : Worker) × (slice_get workers k ≡ Some b)
  begun-at k now at = item-at workers k (let low = slice_get_within worked k now at in let same = have_worked.same_length in omega arith)

  swept-at : (k : ℕ) (now : Worker) → slice_get swept k ≡ Some now → (b : Worker) × (slice_get sweep k ≡ Some b)
  swept-at k now at = item-at sweep k (let low = slice_get_within swept k now at in let same = have_swept.same_length in omega arith)

  worked-count : length worked ≡ length script.clients + length script.cleaners
  worked-count = have_worked.same_length ∙ crew.all

  -- the kind of a worker at the end
  worker-kind : (k : ℕ) (now : Worker) → slice_get worked k ≡ Some now → WhoseAt script k
      → ((k < length script.clients) × (transacts now ≡ true)) ⊎ ((length script.clients ≤ k) × (transacts now ≡ false))
  worker-kind k now at (is_client client client_at) =
      let b = begun-at k now at in
      inl (
        slice_get_within script.clients k client client_at,
        kind-client (suc k) script.atrs client.1 b.0 now (crew.clients k client b.0 client_at b.1) (have_worked.each k b.0 now b.1 at).origin,
      )
  worker-kind k now at (is_cleaner j cleaner place cleaner_at) =
      let b = begun-at k now at in
      inr (
        omega arith,
        kind-cleaner (cleaner_terms script (suc j)) cleaner.1 b.0 now
            (crew.cleaners j cleaner b.0 cleaner_at (ap (λ n. slice_get workers n) (sym place) ∙ b.1)) (have_worked.each k b.0 now b.1 at).origin,
      )

  swept-kind : (k : ℕ) (now : Worker) → slice_get swept k ≡ Some now → transacts now ≡ false
  swept-kind k now at =
      let b = swept-at k now at in
      kind-cleaner (sweep_terms script) 1 b.0 now (is_sweep.each k b.0 b.1) (have_swept.each k b.0 now b.1 at).origin

  all-apart : AreApart (length script.clients) (worked ++ swept)
  all-apart = record {
    clients = λ k w low at.
        (let count = worked-count in
        let there = sym (get-longer worked swept k (omega arith)) ∙ at in
        ⊎_elim (λ (is : (k < length script.clients) × (transacts w ≡ true)). is.1)
        (λ (is : (length script.clients ≤ k) × (transacts w ≡ false)). absurd (let high = is.0 in omega arith))
        (worker-kind k w there (whose-at script k (omega arith))));
    cleaners = λ k w high at.
        ⊎_elim (λ (low : k < length worked).
        (let there = sym (get-longer worked swept k low) ∙ at in
        ⊎_elim (λ (is : (k < length script.clients) × (transacts w ≡ true)). absurd (let below = is.0 in omega arith))
        (λ (is : (length script.clients ≤ k) × (transacts w ≡ false)). is.1)
        (worker-kind k w there (whose-at script k (let count = worked-count in omega arith)))))
        (λ (behind : length worked ≤ k). swept-kind (k - length worked) w (sym (get-behind worked swept k (k - length worked) (omega arith)) ∙ at))
        (cases_lt k (length worked));
  }

  all-count : length script.clients ≤ length (worked ++ swept)
  all-count = let both = length-append worked swept in let count = worked-count in omega arith

  pub are-all : AreAll (case_of script) book workers sweep
  are-all = record {
    all_workers = (let all = crew.all in let plans = plans-count in let rounds = rounds-count in omega arith);
    all_sweeps = is_sweep.all;
    clients = ap (λ l. length l) clients_are ∙ (logs-count (length script.clients) (worked ++ swept) all-apart all-count).0 ∙ sym plans-count;
    cleaners = ap (λ l. length l) cleaners_are
        ∙ (let count = (logs-count (length script.clients) (worked ++ swept) all-apart all-count).1 in let both = length-append worked swept in
        let workers = worked-count in let sweep = have_swept.same_length ∙ is_sweep.all in let rounds = rounds-count in omega arith);
  }
    where
      plans-count : length (case_of script).plans ≡ length script.clients
      plans-count = length-map script.clients (λ (c : List ℕ × ClientPlan). c.1)

      rounds-count : length (case_of script).rounds ≡ length script.cleaners
      rounds-count = length-map script.cleaners (λ (c : List ℕ × ℕ). c.1)

  -- ---- the log of each

  pub client-log : (k : ℕ) (client : List ℕ × ClientPlan) (log : ClientLog) (now : Worker) (l : List Made) → (it : ClientNow (suc k) script.atrs client.1 now l)
      → slice_get script.clients k ≡ Some client → slice_get worked k ≡ Some now → slice_get book.clients k ≡ Some log → client_log_of it.c ≡ log
  client-log k client log now l it at now_at log_at =
      same-item (client_log_of it.c) log
      (sym (client_logs-at (length script.clients) (worked ++ swept) all-apart k it.c (slice_get_within script.clients k client at)
      (get-longer worked swept k (slice_get_within worked k now now_at) ∙ now_at ∙ ap Some it.is))
      ∙ ap (λ ls. slice_get ls k) (sym clients_are) ∙ log_at)

  -- of a cleaner, at the place i of all actors and j of their logs
  log-at : (terms : Terms) (rounds i j : ℕ) (log : CleanerLog) (now : Worker) (l : List Made) → (it : CleanerNow terms rounds now l)
      → i ≡ length script.clients + j → slice_get (worked ++ swept) i ≡ Some now → slice_get book.cleaners j ≡ Some log → cleaner_log_of it.c ≡ log
  log-at terms rounds i j log now l it place at log_at =
      same-item (cleaner_log_of it.c) log
      (sym (cleaner_logs-at (length script.clients) (worked ++ swept) all-apart i j it.c place (at ∙ ap Some it.is))
      ∙ ap (λ ls. slice_get ls j) (sym cleaners_are) ∙ log_at)

  pub cleaner-log : (terms : Terms) (rounds j : ℕ) (log : CleanerLog) (now : Worker) (l : List Made) → (it : CleanerNow terms rounds now l)
      → slice_get worked (length script.clients + j) ≡ Some now → slice_get book.cleaners j ≡ Some log → cleaner_log_of it.c ≡ log
  cleaner-log terms rounds j log now l it now_at log_at =
      log-at terms rounds (length script.clients + j) j log now l it refl
      (get-longer worked swept (length script.clients + j) (slice_get_within worked (length script.clients + j) now now_at) ∙ now_at) log_at

  pub sweep-log : (terms : Terms) (rounds : ℕ) (log : CleanerLog) (now : Worker) (l : List Made) → (it : CleanerNow terms rounds now l)
      → slice_get swept 0 ≡ Some now → slice_get book.cleaners (length script.cleaners) ≡ Some log → cleaner_log_of it.c ≡ log
  sweep-log terms rounds log now l it now_at log_at =
      log-at terms rounds (length worked) (length script.cleaners) log now l it worked-count
      (get-behind worked swept (length worked) 0 (omega arith) ∙ now_at) log_at

  module _ (clients_tell : ClientsTell) (cleaners_tell : CleanersTell) where
    client-follows : (k : ℕ) (client : List ℕ × ClientPlan) (log : ClientLog) (begun now : Worker) (l : List Made)
        → slice_get script.clients k ≡ Some client → slice_get book.clients k ≡ Some log
        → slice_get workers k ≡ Some begun → slice_get worked k ≡ Some now → HasRun ghosts begun now l
        → FollowsPlan (suc k) script.atrs client.1 l log
    client-follows k client log begun now l at log_at begun_at now_at run =
        subst (λ g. FollowsPlan (suc k) script.atrs client.1 l g) log_is
        (subst (λ a. FollowsPlan a script.atrs client.1 l (client_log_of it.c)) it.actor
        (subst (λ a. FollowsPlan it.c.origin.actor a client.1 l (client_log_of it.c)) it.atrs_are
        (subst (λ p. FollowsPlan it.c.origin.actor it.c.origin.atrs p l (client_log_of it.c)) it.plan_is
        (clients_tell it.c l it.stands run.descends))))
      where
        it : ClientNow (suc k) script.atrs client.1 now l
        it = client-now (suc k) script.atrs client.1 begun now l (crew.clients k client begun at begun_at) run.origin run.stands

        log_is : client_log_of it.c ≡ log
        log_is = client-log k client log now l it at now_at log_at

    cleaner-follows : (j : ℕ) (cleaner : List ℕ × ℕ) (log : CleanerLog) (begun now : Worker) (l : List Made)
        → slice_get script.cleaners j ≡ Some cleaner → slice_get book.cleaners j ≡ Some log
        → slice_get workers (length script.clients + j) ≡ Some begun → slice_get worked (length script.clients + j) ≡ Some now → HasRun ghosts begun now l
        → (stop : Option ℕ) → CleanerFollows (plan_of (cleaner_terms script (suc j)) cleaner.1 stop) l log
    cleaner-follows j cleaner log begun now l at log_at begun_at now_at run stop =
        subst (λ g. CleanerFollows (plan_of (cleaner_terms script (suc j)) cleaner.1 stop) l g) log_is
        (subst (λ t. CleanerFollows (plan_of t cleaner.1 stop) l (cleaner_log_of it.c)) it.terms_are
        (subst (λ r. CleanerFollows (plan_of it.c.terms r stop) l (cleaner_log_of it.c)) it.rounds_are
        (cleaners_tell.cleaner it.c l stop it.stands run.descends (ap (λ (t : Terms). t.sweep) it.terms_are))))
      where
        it : CleanerNow (cleaner_terms script (suc j)) cleaner.1 now l
        it = cleaner-now (cleaner_terms script (suc j)) cleaner.1 begun now l (crew.cleaners j cleaner begun at begun_at) run.origin run.stands

        log_is : cleaner_log_of it.c ≡ log
        log_is = cleaner-log (cleaner_terms script (suc j)) cleaner.1 j log now l it now_at log_at

    sweep-follows : (log : CleanerLog) (begun now : Worker) (l : List Made) → slice_get book.cleaners (length script.cleaners) ≡ Some log
        → slice_get sweep 0 ≡ Some begun → slice_get swept 0 ≡ Some now → HasRun ghosts begun now l
        → SweepFollows (plan_of (sweep_terms script) 1 None) l log
    sweep-follows log begun now l log_at begun_at now_at run =
        subst (λ g. SweepFollows (plan_of (sweep_terms script) 1 None) l g) log_is
        (subst (λ t. SweepFollows (plan_of t 1 None) l (cleaner_log_of it.c)) it.terms_are
        (subst (λ r. SweepFollows (plan_of it.c.terms r None) l (cleaner_log_of it.c)) it.rounds_are
        (cleaners_tell.sweep it.c l None it.stands run.descends (ap (λ (t : Terms). t.sweep) it.terms_are))))
      where
        it : CleanerNow (sweep_terms script) 1 now l
        it = cleaner-now (sweep_terms script) 1 begun now l (is_sweep.each 0 begun begun_at) run.origin run.stands

        log_is : cleaner_log_of it.c ≡ log
        log_is = sweep-log (sweep_terms script) 1 log now l it now_at log_at

    plans-count : length (case_of script).plans ≡ length script.clients
    plans-count = length-map script.clients (λ (c : List ℕ × ClientPlan). c.1)

    rounds-count : length (case_of script).rounds ≡ length script.cleaners
    rounds-count = length-map script.cleaners (λ (c : List ℕ × ℕ). c.1)

    of-client : (n : ℕ) (plan : ClientPlan) (log : ClientLog) (begun now : Worker) (l : List Made)
        → numbered (case_of script).plans n ≡ Some plan → numbered book.clients n ≡ Some log
        → numbered workers n ≡ Some begun → numbered worked n ≡ Some now
        → HasRun ghosts begun now l → FollowsPlan n script.atrs plan l log
    of-client zero plan log begun now l is log_is begun_is now_is run = absurd (none-some plan is)
    of-client (suc k) plan log begun now l is log_is begun_is now_is run =
        let client = mapped-at (λ (c : List ℕ × ClientPlan). c.1) script.clients k plan is in
        subst (λ p. FollowsPlan (suc k) script.atrs p l log) client.2
        (client-follows k client.0 log begun now l client.1 log_is begun_is now_is run)

    of-cleaner : (n rounds : ℕ) (log : CleanerLog) (begun now : Worker) (l : List Made)
        → numbered (case_of script).rounds n ≡ Some rounds → numbered book.cleaners n ≡ Some log
        → numbered workers (length (case_of script).plans + n) ≡ Some begun → numbered worked (length (case_of script).plans + n) ≡ Some now
        → HasRun ghosts begun now l → CleanerFollows (cleaner_plan (case_of script) n rounds) l log
    of-cleaner zero rounds log begun now l is log_is begun_is now_is run = absurd (none-some rounds is)
    of-cleaner (suc j) rounds log begun now l is log_is begun_is now_is run =
        let cleaner = mapped-at (λ (c : List ℕ × ℕ). c.1) script.cleaners j rounds is in
        let place : length (case_of script).plans + suc j ≡ suc (length script.clients + j) = let count = plans-count in omega arith in
        subst (λ r. CleanerFollows (cleaner_plan (case_of script) (suc j) r) l log) cleaner.2
        (cleaner-follows j cleaner.0 log begun now l cleaner.1 log_is (ap (λ n. numbered workers n) (sym place) ∙ begun_is)
        (ap (λ n. numbered worked n) (sym place) ∙ now_is) run (stop_of script.stops (length (case_of script).plans + suc j)))

    pub promise-logs : PromiseLogs ghosts (case_of script) book workers worked sweep swept
    promise-logs = record {
      of_client = of-client;
      of_cleaner = of-cleaner;
      of_sweep = λ log begun now l log_is begun_is now_is run.
          sweep-again (plan_of (sweep_terms script) 1 None) (cleaner_plan (case_of script) (suc (length (case_of script).rounds)) 1) l log
          (ap (λ n. cleaner_number (suc n)) (sym rounds-count)) refl
          (sweep-follows log begun now l (ap (λ n. slice_get book.cleaners n) (sym rounds-count) ∙ log_is) begun_is now_is run);
    }

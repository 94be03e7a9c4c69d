-- A client that goes on has a call to make in the last of its transactions.
use Rattle.std.proofs.Common.{◌≡◌, ℕ, suc, ◌+◌, Bool, true, false, if◌then◌else◌, List, [], ◌∷◌, ◌++◌, length, take, drop, slice_get, Option, Some, None, refl, sym, ap, ◌∙◌, subst, arith}
use Rattle.std.proofs.lemmas.List.{append_assoc}
use Rattle.cbt_expr.specs.declared.plans.TxnPlan.{TxnPlan}
use Rattle.cbt_model.specs.declared.events.Made.{Made}
use Rattle.cbt_model.specs.declared.steps.Step.{Step}
use Rattle.cbt_book.specs.Numbers.{Identity}
use Rattle.cbt_book.specs.OwnLists.{Descends, during}
use Rattle.cbt_book.specs.Spans.{past_of}
use Rattle.cbt_book.specs.declared.clients.TxnLog.{TxnLog}
use Rattle.cbt_core.specs.Clients.{txns_end}
use Rattle.cbt_core.specs.Staying.{StaysAsShown}
use Rattle.cbt_core.specs.Stops.{HasCall, LastHasCall, TxnHasCall, WasStopped, began}
use Rattle.cbt_core.specs.Stops as stops
use Rattle.cbt_core.specs.Transactions.{TxnTerms, attempt_terms, attempts_end, start_of}
use Rattle.cbt_logs.proofs.Snoc.{length_snoc}
use Rattle.cbt_logs.proofs.Spans.{during_rest}
use Rattle.cbt_txn.specs.Clients.{GoesWith, MayGoOnWith, Runs, Stands, StandsFor, client_log_of, step_in, step_now, terms_of, told_in}
use Rattle.cbt_txn.specs.Closings.{TryMayGoOn, log_of}
use Rattle.cbt_txn.specs.Transactions.{Tries, TxnMayGoOn, txn_log_of, with_last}
use Rattle.cbt_txn.specs.Tries.{outcome}
use Rattle.cbt_txn.specs.declared.clients.Client.{Client}
use Rattle.cbt_txn.specs.declared.origins.Origin.{Origin}
use Rattle.cbt_txn.specs.declared.transactions.Transaction.{Transaction}
use Rattle.cbt_txn.proofs.Standing.{has_next, is_next, log_stopped, low_test, take_next, terms_are, told_next, within_at}
use Rattle.cbt_txn.proofs.TryCalls.{try_has_call}
use Rattle.cbt_txn.proofs.TxnTries.{begins_so, falls_in_parts, goes_tells, told_last, trying_follows, try_is}

-- ---- a transaction

module _ (x : TxnTerms) (txn : Transaction) (before mine : List Made) (who : Identity) (falls : Descends (mine ++ before)) (it : Tries x txn before mine)
    (going : outcome txn.trying.it ≡ None) (unended : txn.end ≡ None) (stays : StaysAsShown (mine ++ before)) (may : TryMayGoOn who txn.trying.it (mine ++ before)) where
  abbrev l : List Made
  l = mine ++ before

  abbrev log : TxnLog
  log = txn_log_of txn

  logs_are : log.attempts ≡ it.tries ++ log_of txn.trying.it ∷ []
  logs_are = ap (λ k. with_last k (log_of txn.trying.it)) it.attempts_are ∙ told_last it.tries it.untold (log_of txn.trying.it)

  began_is : began l (past_of before) log ≡ start_of mine
  began_is =
      ap start_of (ap (λ k. during (record { from = past_of before; to = k }) l) (goes_tells x txn before mine falls it going unended).reach ∙ during_rest mine before falls)

  parts_are : l ≡ it.this ++ (it.tried ++ before)
  parts_are = ap (λ k. k ++ before) it.mine_is ∙ append_assoc it.this it.tried before

  last_call : HasCall (attempt_terms x (start_of mine) (suc (length it.tries))) (it.this ++ (it.tried ++ before)) (past_of (it.tried ++ before)) (log_of txn.trying.it)
  last_call =
      let t = attempt_terms x (start_of mine) (suc (length it.tries)) in
      let follows = trying_follows x txn before mine falls it in
      try_has_call t txn.trying.it (it.tried ++ before) it.this who (falls_in_parts x txn before mine falls it) (try_is t txn.trying.it (it.tried ++ before) it.this follows)
      follows (subst (λ k. StaysAsShown k) parts_are stays) (subst (λ k. TryMayGoOn who txn.trying.it k) parts_are may) it.unsent going

  pub txn_has_call : TxnHasCall x l (past_of before) log
  txn_has_call =
      stops.in_try it.tries (log_of txn.trying.it) logs_are
      (subst (λ k. HasCall (attempt_terms x k (length log.attempts)) l (attempts_end (past_of before) it.tries) (log_of txn.trying.it)) (sym began_is)
      (subst (λ k. HasCall (attempt_terms x (start_of mine) k) l (attempts_end (past_of before) it.tries) (log_of txn.trying.it))
      (sym (ap length logs_are ∙ length_snoc it.tries (log_of txn.trying.it)))
      (subst (λ k. HasCall (attempt_terms x (start_of mine) (suc (length it.tries))) l k (log_of txn.trying.it)) (sym (it.add_up (start_of mine) (begins_so mine)).reach)
      (subst (λ k. HasCall (attempt_terms x (start_of mine) (suc (length it.tries))) k (past_of (it.tried ++ before)) (log_of txn.trying.it)) (sym parts_are) last_call))))

-- ---- the last of a client's transactions

module _ (client atrs : ℕ) (l : List Made) (this : TxnPlan) (rest : List TxnPlan) (log : TxnLog) where
  abbrev terms_at : ℕ → TxnTerms
  terms_at n = record { client = client; number = n; plan = this; atrs = atrs }

  counted_on : (n k : ℕ) → n + suc k ≡ suc n + k
  counted_on n k = omega arith

  pub last_has_call : (at n : ℕ) (plans : List TxnPlan) (done : List TxnLog) → drop (length done) plans ≡ this ∷ rest
      → TxnHasCall (terms_at (n + length done)) l (txns_end at done) log → LastHasCall client atrs l at n plans (done ++ log ∷ [])
  last_has_call at n [] [] left has = cc
  last_has_call at n (plan ∷ plans) [] left has =
      subst (λ k. TxnHasCall (record { client = client; number = n; plan = k; atrs = atrs }) l at log) (sym (first left))
      (subst (λ k. TxnHasCall (terms_at k) l at log) (none_more n) has)
    where
      none_more : (n : ℕ) → n + 0 ≡ n
      none_more n = omega arith

      first : {p q : TxnPlan} {ps qs : List TxnPlan} → p ∷ ps ≡ q ∷ qs → p ≡ q
      first both = cc
  last_has_call at n [] (d ∷ done) left has = cc
  last_has_call at n (plan ∷ plans) (d ∷ []) left has =
      last_has_call (attempts_end at d.attempts) (suc n) plans [] left
      (subst (λ k. TxnHasCall (terms_at k) l (attempts_end at d.attempts) log) (counted_on n 0) has)
  last_has_call at n (plan ∷ plans) (d ∷ e ∷ done) left has =
      last_has_call (attempts_end at d.attempts) (suc n) plans (e ∷ done) left
      (subst (λ k. TxnHasCall (terms_at k) l (txns_end (attempts_end at d.attempts) (e ∷ done)) log) (counted_on n (length (e ∷ done))) has)

-- ---- a client

module _ (o : Origin) (txns : List TxnLog) (at : ℕ) (l : List Made) (txn : Transaction) (falls : Descends l) (stays : StaysAsShown l) (it : Runs o txns at l txn)
    (may : TxnMayGoOn (record { number = o.actor; cleaner = 0 }) txn l) where
  running_call : LastHasCall o.actor o.atrs l 0 1 o.plan.txns (take (at + 1) (told_in txns at (Some txn)))
  running_call =
      let who : Identity = record { number = o.actor; cleaner = 0 } in
      let this = it.way.this in
      let log = txn_log_of txn in
      let has = has_next o txns at it.before it.parts (within_at o.plan.txns at this it.way.at_plan) in
      let next = is_next o txns at it.before it.parts this it.way.at_plan in
      let call =
      txn_has_call (terms_of o at this) txn it.before it.mine who (subst (λ k. Descends k) it.l_is falls) it.tries it.going it.way.going
      (subst (λ k. StaysAsShown k) it.l_is stays) (subst (λ k. TryMayGoOn who txn.trying.it k) it.l_is may.goes_on) in
      subst (λ k. LastHasCall o.actor o.atrs l 0 1 o.plan.txns k)
      (sym (ap (λ k. take (at + 1) k) (told_next o txns at it.before it.parts has log) ∙ take_next o txns at it.before it.parts log has.rest))
      (last_has_call o.actor o.atrs l this next.rest log 0 1 o.plan.txns it.parts.done next.left
      (subst (λ k. TxnHasCall (record { client = o.actor; number = k; plan = this; atrs = o.atrs }) l (txns_end 0 it.parts.done) log) (one_and (length it.parts.done))
      (subst (λ k. TxnHasCall (record { client = o.actor; number = suc (length it.parts.done); plan = this; atrs = o.atrs }) l k log) (sym it.parts.ran.reach)
      (subst (λ x. TxnHasCall x l (past_of it.before) log) (terms_are o txns at it.before it.parts this)
      (subst (λ k. TxnHasCall (terms_of o at this) k (past_of it.before) log) (sym it.l_is) call)))))
    where
      one_and : (n : ℕ) → suc n ≡ 1 + n
      one_and n = omega arith

module _ (c : Client) (l : List Made) (s : Step) (stands : StandsFor c l) (falls : Descends l) (asked : step_now c ≡ Some s) where
  none_some : {X : Type 0} {x : X} → None ≡ Some x → ⊥
  none_some both = cc

  unstopped : c.stopped ≡ false
  unstopped = by c.stopped asked
    where
      by : (b : Bool) → (if b then None else step_in (slice_get c.origin.plan.txns c.at) c.txn) ≡ Some s → b ≡ false
      by true is = absurd (none_some is)
      by false is = refl

  pub client_has_call : StaysAsShown l → LastHasCall c.origin.actor c.origin.atrs l 0 1 c.origin.plan.txns (client_log_of c).txns
  client_has_call stays =
      by c.txn (subst (λ b. Stands b c l) unstopped (stands.follows falls)) (stands.goes_on (record { number = c.origin.actor; cleaner = 0 }) refl unstopped)
      (sym (ap (λ b. if b then None else step_in (slice_get c.origin.plan.txns c.at) c.txn) unstopped) ∙ asked)
    where
      by : (txn : Option Transaction) → GoesWith c.origin c.txns c.at l txn → MayGoOnWith (record { number = c.origin.actor; cleaner = 0 }) c.at txn l
          → step_in (slice_get c.origin.plan.txns c.at) txn ≡ Some s
          → LastHasCall c.origin.actor c.origin.atrs l 0 1 c.origin.plan.txns (take (c.at + 1) (told_in c.txns c.at txn))
      by None goes may is = absurd (no_txn (slice_get c.origin.plan.txns c.at) is)
        where
          no_txn : (plan : Option TxnPlan) → step_in plan None ≡ Some s → ⊥
          no_txn None is = none_some is
          no_txn (Some plan) is = none_some is
      by (Some txn) goes may is = running_call c.origin c.txns c.at l txn falls stays goes may.1

  -- stopped as it is, it says so
  pub client_was_stopped : WasStopped (client_log_of c).txns
  client_was_stopped = (log_stopped c l stands falls).1 (low_test (length c.origin.plan.txns) c.at (within_at c.origin.plan.txns c.at plan.0 plan.1))
    where
      there : (plan : Option TxnPlan) (txn : Option Transaction) → step_in plan txn ≡ Some s → (p : TxnPlan) × (plan ≡ Some p)
      there None txn is = absurd (none_some is)
      there (Some p) txn is = (p, refl)

      plan : (p : TxnPlan) × (slice_get c.origin.plan.txns c.at ≡ Some p)
      plan = there (slice_get c.origin.plan.txns c.at) c.txn (sym (ap (λ b. if b then None else step_in (slice_get c.origin.plan.txns c.at) c.txn) unstopped) ∙ asked)

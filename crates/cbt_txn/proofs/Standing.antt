-- What a client's standing comes to: its log follows the plan, and says that it was stopped just where some transaction has not ended.
use Rattle.std.proofs.Common.{◌≡◌, ℕ, zero, suc, ◌+◌, ◌<◌, ◌≤◌, ◌↔◌, Bool, nat_le, true, false, if◌then◌else◌, List, [], ◌∷◌, ◌++◌, length, take, drop, slice_get, slice_set, Option, Some, None, refl, sym, ap, ◌∙◌, subst, arith, length-append}
use Rattle.std.proofs.lemmas.Bool.Decides.{nat_tests}
use Rattle.std.proofs.lemmas.List.{append-nil}
use Rattle.std.proofs.lemmas.Option.{none-some}
use Rattle.cbt_expr.specs.declared.plans.TxnPlan.{TxnPlan}
use Rattle.cbt_model.specs.declared.events.Made.{Made}
use Rattle.cbt_book.specs.OwnLists.{Descends}
use Rattle.cbt_book.specs.Spans.{past_of}
use Rattle.cbt_book.specs.declared.clients.TxnEnd.TheVariants as txn_end
use Rattle.cbt_book.specs.declared.clients.TxnLog.{TxnLog}
use Rattle.cbt_core.specs.Clients.{FollowsPlan}
use Rattle.cbt_core.specs.Stops.{WasStopped}
use Rattle.cbt_core.specs.Transactions.{TxnFollows, TxnTerms, attempt_terms, attempts_end, start_of}
use Rattle.cbt_logs.specs.Running.{AllRun, IsNextTxn, terms_next}
use Rattle.cbt_logs.proofs.Closed.{client_done, client_stopped, txn_unbegun}
use Rattle.cbt_txn.specs.Clients.{AreUnbegun, GoesWith, Parts, RestsWith, Stands, StandsFor, client_log_of, has_ended, step_in, step_now, terms_of, told_in, unbegun}
use Rattle.cbt_txn.specs.Transactions.{told_end, txn_log_of}
use Rattle.cbt_txn.specs.declared.clients.Client.{Client}
use Rattle.cbt_txn.specs.declared.origins.Origin.{Origin}
use Rattle.cbt_txn.specs.declared.transactions.Transaction.{Transaction}
use Rattle.cbt_txn.proofs.Asking.{try_asks}
use Rattle.cbt_txn.proofs.TxnTries.{goes_tells, trying_follows}

-- ---- lists

some_same : {X : Type 0} {x y : X} → Some x ≡ Some y → x ≡ y
some_same both = cc

-- what is left of a list from the place of an item on
pub left_at : {X : Type 0} (xs : List X) (n : ℕ) (x : X) → slice_get xs n ≡ Some x → drop n xs ≡ x ∷ drop (suc n) xs
left_at [] n x is = absurd (none-some x is)
left_at (y ∷ xs) zero x is = ap (λ k. k ∷ xs) (some_same is)
left_at (y ∷ xs) (suc n) x is = left_at xs n x is

-- an item stands at each place of a list, and none behind it
pub item_at : {X : Type 0} (xs : List X) (n : ℕ) → n < length xs → (x : X) × (slice_get xs n ≡ Some x)
item_at [] n low = absurd (omega arith)
item_at (x ∷ xs) zero low = (x, refl)
item_at (x ∷ xs) (suc n) low = item_at xs n (omega arith)

pub within_at : {X : Type 0} (xs : List X) (n : ℕ) (x : X) → slice_get xs n ≡ Some x → n < length xs
within_at [] n x is = absurd (none-some x is)
within_at (y ∷ xs) zero x is = omega arith
within_at (y ∷ xs) (suc n) x is = let rest = within_at xs n x is in omega arith

-- a list up to the item behind its front
up_to : {X : Type 0} (xs : List X) (x : X) (ys : List X) → take (suc (length xs)) (xs ++ x ∷ ys) ≡ xs ++ x ∷ []
up_to [] x ys = refl
up_to (y ∷ xs) x ys = ap (λ k. y ∷ k) (up_to xs x ys)

up_to_all : {X : Type 0} (xs : List X) → take (suc (length xs)) xs ≡ xs
up_to_all [] = refl
up_to_all (x ∷ xs) = ap (λ k. x ∷ k) (up_to_all xs)

pub set_behind : {X : Type 0} (xs : List X) (x y : X) (ys : List X) → slice_set (xs ++ x ∷ ys) (length xs) y ≡ xs ++ y ∷ ys
set_behind [] x y ys = refl
set_behind (z ∷ xs) x y ys = ap (λ k. z ∷ k) (set_behind xs x y ys)

pub one_more : (n : ℕ) → n + 1 ≡ suc n
one_more n = omega arith

-- what is set behind the end of a list changes nothing
pub set_past : {X : Type 0} (xs : List X) (n : ℕ) (x : X) → length xs ≤ n → slice_set xs n x ≡ xs
set_past [] n x past = refl
set_past (y ∷ xs) zero x past = absurd (omega arith)
set_past (y ∷ xs) (suc n) x past = ap (λ k. y ∷ k) (set_past xs n x (omega arith))

pub take_past : {X : Type 0} (xs : List X) (n : ℕ) → length xs ≤ n → take (n + 1) xs ≡ xs
take_past xs n past = ap (λ k. take k xs) (one_more n) ∙ by xs n past
  where
    by : {X : Type 0} (xs : List X) (n : ℕ) → length xs ≤ n → take (suc n) xs ≡ xs
    by [] n past = refl
    by (x ∷ xs) zero past = absurd (omega arith)
    by (x ∷ xs) (suc n) past = ap (λ k. x ∷ k) (by xs n (omega arith))

-- ---- the transactions that have ended

module _ (o : Origin) (txns : List TxnLog) (at : ℕ) (before : List Made) (it : Parts o txns at before) where
  counts : length it.done + length it.behind ≡ length o.plan.txns
  counts = sym (length-append it.done it.behind) ∙ sym (ap length it.txns_are) ∙ it.all

  -- the transaction at this place of the plan is the next
  pub is_next : (this : TxnPlan) → slice_get o.plan.txns at ≡ Some this → IsNextTxn o.plan it.done this
  is_next this is = record {
    rest = drop (suc (length it.done)) o.plan.txns;
    left = left_at o.plan.txns (length it.done) this (ap (λ n. slice_get o.plan.txns n) (sym it.at_is) ∙ is);
  }

  pub terms_are : (this : TxnPlan) → terms_of o at this ≡ terms_next o.actor o.atrs this it.done
  terms_are this = let make : ℕ → TxnTerms = λ n. record { client = o.actor; number = suc n; plan = this; atrs = o.atrs } in ap make it.at_is

  none_behind : it.behind ≡ [] → length o.plan.txns ≤ at
  none_behind none =
      let counted = counts in
      let at_is = it.at_is in
      let empty : length it.behind ≡ 0 = ap length none in
      omega arith

  some_behind : (next : TxnLog) (rest : List TxnLog) → it.behind ≡ next ∷ rest → at < length o.plan.txns
  some_behind next rest is =
      let counted = counts in
      let at_is = it.at_is in
      let more : length it.behind ≡ suc (length rest) = ap length is in
      omega arith

  pub all_done : length o.plan.txns ≤ at → it.behind ≡ []
  all_done past = by it.behind refl
    where
      by : (behind : List TxnLog) → it.behind ≡ behind → it.behind ≡ []
      by [] is = is
      by (next ∷ rest) is = absurd (let low = some_behind next rest is in omega arith)

  -- its log stands behind theirs
  pub record HasNext : Type 0 where
    pub next : TxnLog
    pub rest : List TxnLog
    pub behind_is : it.behind ≡ next ∷ rest

  pub has_next : at < length o.plan.txns → HasNext
  has_next low = by it.behind refl
    where
      by : (behind : List TxnLog) → it.behind ≡ behind → HasNext
      by [] is = absurd (let past = none_behind is in omega arith)
      by (next ∷ rest) is = record { next = next; rest = rest; behind_is = is }

  pub told_next : (has : HasNext) (log : TxnLog) → slice_set txns at log ≡ it.done ++ log ∷ has.rest
  told_next has log =
      ap (λ k. slice_set k at log) (it.txns_are ∙ ap (λ k. it.done ++ k) has.behind_is) ∙ ap (λ n. slice_set (it.done ++ has.next ∷ has.rest) n log) it.at_is
      ∙ set_behind it.done has.next log has.rest

  pub take_next : (log : TxnLog) (rest : List TxnLog) → take (at + 1) (it.done ++ log ∷ rest) ≡ it.done ++ log ∷ []
  take_next log rest = ap (λ n. take n (it.done ++ log ∷ rest)) (one_more at ∙ ap suc it.at_is) ∙ up_to it.done log rest

  take_done : it.behind ≡ [] → take (at + 1) txns ≡ it.done
  take_done none =
      ap (λ k. take (at + 1) k) (it.txns_are ∙ ap (λ k. it.done ++ k) none ∙ append-nil it.done) ∙ ap (λ n. take n it.done) (one_more at ∙ ap suc it.at_is) ∙ up_to_all it.done

-- so many transactions were not begun
pub unbegun_more : (logs : List TxnLog) → AreUnbegun logs → AreUnbegun (logs ++ unbegun ∷ [])
unbegun_more [] are = (refl, tt)
unbegun_more (log ∷ logs) are = (are.0, unbegun_more logs are.1)

pub none_ended : (o : Origin) (txns : List TxnLog) → AreUnbegun txns → length txns ≡ length o.plan.txns → Parts o txns 0 []
none_ended o txns are all = record {
  done = [];
  behind = txns;
  txns_are = refl;
  at_is = refl;
  unbegun_are = are;
  all = all;
  ran = record { follow = tt; run = tt; reach = refl };
}

-- ---- whether it says that it was stopped

last_stopped : (done : List TxnLog) (log : TxnLog) → log.end ≡ txn_end.Stopped → WasStopped (done ++ log ∷ [])
last_stopped [] log stopped = stopped
last_stopped (x ∷ []) log stopped = stopped
last_stopped (x ∷ y ∷ done) log stopped = last_stopped (y ∷ done) log stopped

none_stopped : (done : List TxnLog) → AllRun done → ¬ WasStopped done
none_stopped [] run was = was
none_stopped (x ∷ []) run was = run.0 was
none_stopped (x ∷ y ∷ done) run was = none_stopped (y ∷ done) run.1 was

pub low_test : (n at : ℕ) → at < n → nat_le n at ≡ false
low_test n at low = grind (arith, nat_tests)

high_test : (n at : ℕ) → n ≤ at → nat_le n at ≡ false → ⊥
high_test n at high is = grind (arith, nat_tests)

-- ---- the log of a client

-- these logs follow the plan, and the last says that it was stopped just where some transaction has not ended
pub record IsTold (o : Origin) (at : ℕ) (l : List Made) (logs : List TxnLog) : Type 0 where
  pub follows : FollowsPlan o.actor o.atrs o.plan l (record { txns = logs; calls = length l })
  pub stopped : WasStopped logs ↔ (nat_le (length o.plan.txns) at ≡ false)

-- all transactions have ended
ended_told : (o : Origin) (txns : List TxnLog) (at : ℕ) (l : List Made) → Descends l → (it : Parts o txns at l) → it.behind ≡ [] → IsTold o at l it.done
ended_told o txns at l falls it none = record {
  follows = client_done o.actor o.atrs o.plan l it.done falls it.ran
      (let counted = counts o txns at l it in let empty : length it.behind ≡ 0 = ap length none in omega arith);
  stopped = (
    λ was. absurd (none_stopped it.done it.ran.run was),
    λ unended. absurd (high_test (length o.plan.txns) at (none_behind o txns at l it none) unended),
  );
}

-- the next one was stopped
stopped_told : (o : Origin) (txns : List TxnLog) (at : ℕ) (before mine : List Made) → Descends (mine ++ before) → (it : Parts o txns at before) (this : TxnPlan)
    → slice_get o.plan.txns at ≡ Some this → (log : TxnLog) → TxnFollows (terms_of o at this) (mine ++ before) (past_of before) log
    → attempts_end (past_of before) log.attempts ≡ past_of (mine ++ before) → log.end ≡ txn_end.Stopped → IsTold o at (mine ++ before) (it.done ++ log ∷ [])
stopped_told o txns at before mine falls it this at_plan log follows reach stopped = record {
  follows = client_stopped o.actor o.atrs o.plan before mine it.done this log falls it.ran (is_next o txns at before it this at_plan)
      (subst (λ x. TxnFollows x (mine ++ before) (past_of before) log) (terms_are o txns at before it this) follows) reach stopped;
  stopped = (
    λ was. low_test (length o.plan.txns) at (within_at o.plan.txns at this at_plan),
    λ unended. last_stopped it.done log stopped,
  );
}

-- a client that was stopped
rests_told : (o : Origin) (txns : List TxnLog) (at : ℕ) (l : List Made) (txn : Option Transaction) → Descends l → RestsWith o txns at l txn
    → IsTold o at l (take (at + 1) (told_in txns at txn))
rests_told o txns at l None falls it = by it.behind refl
  where
    by : (behind : List TxnLog) → it.behind ≡ behind → IsTold o at l (take (at + 1) txns)
    by [] is = subst (IsTold o at l) (sym (take_done o txns at l it is)) (ended_told o txns at l falls it is)
    by (next ∷ rest) is =
        let this = item_at o.plan.txns at (some_behind o txns at l it next rest is) in
        let first : next ≡ unbegun = (subst AreUnbegun is it.unbegun_are).0 in
        subst (IsTold o at l)
        (sym (ap (λ k. take (at + 1) k) (it.txns_are ∙ ap (λ k. it.done ++ k) (is ∙ ap (λ k. k ∷ rest) first)) ∙ take_next o txns at l it unbegun rest))
        (stopped_told o txns at l [] falls it this.0 this.1 unbegun (txn_unbegun (terms_of o at this.0) l) refl refl)
rests_told o txns at l (Some txn) falls it =
    let log = txn_log_of txn in
    let has = has_next o txns at it.before it.parts (within_at o.plan.txns at it.way.this it.way.at_plan) in
    subst (IsTold o at l) (sym (ap (λ k. take (at + 1) k) (told_next o txns at it.before it.parts has log) ∙ take_next o txns at it.before it.parts log has.rest))
    (subst (λ k. IsTold o at k (it.parts.done ++ log ∷ [])) (sym it.l_is)
    (stopped_told o txns at it.before it.mine (subst Descends it.l_is falls) it.parts it.way.this it.way.at_plan log it.tells.follows it.tells.reach
    (ap told_end it.way.going)))

-- a client that goes on may be stopped at any moment
pub goes_rests : (o : Origin) (txns : List TxnLog) (at : ℕ) (l : List Made) (txn : Option Transaction) → Descends l → GoesWith o txns at l txn → RestsWith o txns at l txn
goes_rests o txns at l None falls it = it.0
goes_rests o txns at l (Some txn) falls it = record {
  before = it.before;
  mine = it.mine;
  l_is = it.l_is;
  parts = it.parts;
  way = it.way;
  tells = goes_tells (terms_of o at it.way.this) txn it.before it.mine (subst Descends it.l_is falls) it.tries it.going it.way.going;
}

stands_told : (stopped : Bool) (c : Client) (l : List Made) → Descends l → Stands stopped c l → IsTold c.origin c.at l (take (c.at + 1) (told_in c.txns c.at c.txn))
stands_told false c l falls goes = rests_told c.origin c.txns c.at l c.txn falls (goes_rests c.origin c.txns c.at l c.txn falls goes)
stands_told true c l falls rests = rests_told c.origin c.txns c.at l c.txn falls rests

module _ (c : Client) (l : List Made) (stands : StandsFor c l) (falls : Descends l) where
  told : IsTold c.origin c.at l (client_log_of c).txns
  told = stands_told c.stopped c l falls (stands.follows falls)

  pub log_follows : FollowsPlan c.origin.actor c.origin.atrs c.origin.plan l (client_log_of c)
  log_follows = subst (λ n. FollowsPlan c.origin.actor c.origin.atrs c.origin.plan l (record { txns = (client_log_of c).txns; calls = n })) (sym stands.counted) told.follows

  pub log_stopped : WasStopped (client_log_of c).txns ↔ (has_ended c ≡ false)
  log_stopped = told.stopped

  -- one that was not stopped asks for a call, where not all transactions have ended
  pub asks_unstopped : has_ended c ≡ false → step_now c ≡ None → c.stopped ≡ true
  asks_unstopped unended silent = by c.stopped refl
    where
      goes_asks : (txn : Option Transaction) → GoesWith c.origin c.txns c.at l txn → step_in (slice_get c.origin.plan.txns c.at) txn ≡ None → ⊥
      goes_asks None it none = high_test (length c.origin.plan.txns) c.at (none_behind c.origin c.txns c.at l it.0 it.1) unended
      goes_asks (Some txn) it none =
          let x = terms_of c.origin c.at it.way.this in
          let falls_in : Descends (it.mine ++ it.before) = subst Descends it.l_is falls in
          try_asks (attempt_terms x (start_of it.mine) (suc (length it.tries.tries))) txn.trying.it (it.tries.tried ++ it.before) it.tries.this
          (trying_follows x txn it.before it.mine falls_in it.tries) it.going (sym (ap (λ p. step_in p (Some txn)) it.way.at_plan) ∙ none)

      by : (b : Bool) → c.stopped ≡ b → b ≡ true
      by true is = refl
      by false is =
          absurd (goes_asks c.txn (subst (λ b. Stands b c l) is (stands.follows falls))
          (sym (ap (λ b. if b then None else step_in (slice_get c.origin.plan.txns c.at) c.txn) is) ∙ silent))

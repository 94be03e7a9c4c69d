-- How a client goes on: the transaction under way takes answers in, and the next ones begin.
use Rattle.std.proofs.Common.{◌≡◌, ◌≢◌, ℕ, suc, ◌+◌, Bool, true, false, is_some, if◌then◌else◌, List, [], ◌∷◌, ◌++◌, length, slice_get, slice_set, Option, Some, None, refl, sym, ap, ◌∙◌, subst, length-set}
use Rattle.cbt_expr.specs.declared.plans.TxnPlan.{TxnPlan}
use Rattle.cbt_model.specs.declared.events.Made.{Made}
use Rattle.cbt_model.specs.declared.steps.Step.{Step}
use Rattle.cbt_book.specs.Licence.{MayTake}
use Rattle.cbt_book.specs.Numbers.{Identity}
use Rattle.cbt_book.specs.OwnLists.{Descends}
use Rattle.cbt_book.specs.Spans.{past_of}
use Rattle.cbt_book.specs.declared.clients.TxnEnd.{TxnEnd}
use Rattle.cbt_book.specs.declared.clients.TxnEnd.TheVariants as txn_end
use Rattle.cbt_book.specs.declared.clients.TxnLog.{TxnLog}
use Rattle.cbt_core.specs.Transactions.{TxnFollows, TxnTerms}
use Rattle.cbt_logs.proofs.Closed.{ran_more}
use Rattle.cbt_logs.proofs.Snoc.{length_snoc}
use Rattle.cbt_txn.specs.Clients.{AreUnbegun, Goes, GoesWith, IsCut, IsUnderWay, MayGoOn, MayGoOnWith, Parts, Runs, step_in, step_now, terms_of}
use Rattle.cbt_txn.specs.Transactions.{AreEarlier, IsMadeUnder, Tells, Tries, TxnMayGoOn, TxnStands, told_end, txn_log_of}
use Rattle.cbt_txn.specs.Transactions as transactions
use Rattle.cbt_txn.specs.Tries.{outcome, step_now as asked_by}
use Rattle.cbt_txn.specs.declared.clients.Client.{Client}
use Rattle.cbt_txn.specs.declared.keeping.Terms.{Terms}
use Rattle.cbt_txn.specs.declared.origins.Origin.{Origin}
use Rattle.cbt_txn.specs.declared.transactions.Transaction.{Transaction}
use Rattle.cbt_txn.proofs.Numbers.{earlier_txn}
use Rattle.cbt_txn.proofs.Standing.{has_next, is_next, one_more, terms_are, told_next, within_at}
use Rattle.cbt_txn.proofs.TryLicensing.{try_licensed}

some_same : {X : Type 0} {x y : X} → Some x ≡ Some y → x ≡ y
some_same both = cc

-- what is not there, and what is
pub is_none : {X : Type 0} (o : Option X) → is_some o ≡ false → o ≡ None
is_none None is = refl
is_none (Some x) is = cc

pub is_there : {X : Type 0} (o : Option X) → is_some o ≡ true → (x : X) × (o ≡ Some x)
is_there None is = cc
is_there (Some x) is = (x, refl)

-- only the transactions of a client have gone on, step after step
pub rest_on : (a b c : Client) → b ≡ record a { txns = b.txns; at = b.at; txn = b.txn } → c ≡ record b { txns = c.txns; at = c.at; txn = c.txn }
    → c ≡ record a { txns = c.txns; at = c.at; txn = c.txn }
rest_on a b c one two =
    let so : Client → Client = λ k. record k { txns = c.txns; at = c.at; txn = c.txn } in
    two ∙ ap so one

-- ---- a transaction that has begun, or has taken an answer in

-- it goes on
goes_so : (x : TxnTerms) (txn : Transaction) (before mine : List Made) (end : Option TxnEnd) → transactions.Stands x txn before mine end → end ≡ None
    → (outcome txn.trying.it ≡ None) × Tries x txn before mine
goes_so x txn before mine _ (transactions.goes going tries) is = (going, tries)
goes_so x txn before mine _ (transactions.over end unstopped tells) is = cc

-- or has ended
over_so : (x : TxnTerms) (txn : Transaction) (before mine : List Made) (end : Option TxnEnd) → transactions.Stands x txn before mine end → (last : TxnEnd)
    → end ≡ Some last → (last ≢ txn_end.Stopped) × Tells x txn before mine
over_so x txn before mine _ (transactions.goes going tries) last is = cc
over_so x txn before mine _ (transactions.over end unstopped tells) last is = (λ stopped. unstopped (some_same is ∙ stopped), tells)

-- ---- its place in the plan

-- what was made under the terms of this place is the transaction at it
abbrev pub way_of : (o : Origin) (at : ℕ) (this : TxnPlan) (txn : Transaction) → slice_get o.plan.txns at ≡ Some this → txn.terms.client ≡ o.actor
    → txn.terms.number ≡ suc at → txn.terms.atrs ≡ o.atrs → txn.end ≡ None → IsUnderWay o at txn
way_of o at this txn at_plan client number atrs going =
    record { this = this; at_plan = at_plan; client = client; number = number; atrs = atrs; going = going }

module _ (o : Origin) (txns : List TxnLog) (at : ℕ) where
  -- a transaction that has begun goes on
  pub begun_runs : (l : List Made) (txn : Transaction) → Parts o txns at l → (way : IsUnderWay o at txn) → TxnStands (terms_of o at way.this) txn l []
      → Runs o txns at l txn
  begun_runs l txn parts way stands =
      let so = goes_so (terms_of o at way.this) txn l [] txn.end stands way.going in
      record { before = l; mine = []; l_is = refl; parts = parts; way = way; going = so.0; tries = so.1 }

  -- one that has ended is one more of those before
  pub told_parts : (before mine : List Made) (txn : Transaction) (this : TxnPlan) → Descends (mine ++ before) → Parts o txns at before
      → slice_get o.plan.txns at ≡ Some this → TxnStands (terms_of o at this) txn before mine → (end : TxnEnd) → txn.end ≡ Some end
      → Parts o (slice_set txns at (txn_log_of txn)) (at + 1) (mine ++ before)
  told_parts before mine txn this falls it at_plan stands end ended =
      let log = txn_log_of txn in
      let so = over_so (terms_of o at this) txn before mine txn.end stands end ended in
      let has = has_next o txns at before it (within_at o.plan.txns at this at_plan) in
      record {
        done = it.done ++ log ∷ [];
        behind = has.rest;
        txns_are = told_next o txns at before it has log ∙ sym (snoc_append it.done log has.rest);
        at_is = one_more at ∙ ap suc it.at_is ∙ sym (length_snoc it.done log);
        unbegun_are = (subst AreUnbegun has.behind_is it.unbegun_are).1;
        all = length-set txns at log ∙ it.all;
        ran = ran_more o.actor o.atrs o.plan before mine it.done this log falls it.ran (is_next o txns at before it this at_plan)
            (subst (λ x. TxnFollows x (mine ++ before) (past_of before) log) (terms_are o txns at before it this) so.1.follows) so.1.reach
            (λ stopped. so.0 (sym (ap told_end ended) ∙ stopped));
      }
    where
      snoc_append : (xs : List TxnLog) (x : TxnLog) (ys : List TxnLog) → (xs ++ x ∷ []) ++ ys ≡ xs ++ x ∷ ys
      snoc_append [] x ys = refl
      snoc_append (y ∷ xs) x ys = ap (λ k. y ∷ k) (snoc_append xs x ys)

  -- ---- the transaction under way has taken an answer in

  module _ (l : List Made) (old new : Transaction) (m : Made) (it : Runs o txns at l old) (same : new.terms ≡ old.terms) where
    abbrev x : TxnTerms
    x = terms_of o at it.way.this

    abbrev calls : List Made
    calls = m ∷ it.mine

    calls_are : m ∷ l ≡ calls ++ it.before
    calls_are = ap (λ k. m ∷ k) it.l_is

    pub made_so : IsMadeUnder x old.terms
    made_so = record { client = sym it.way.client; number = sym it.way.number; atrs = sym it.way.atrs }

    pub falls_so : Descends (m ∷ l) → Descends (calls ++ it.before)
    falls_so falls = subst Descends calls_are falls

    abbrev way_on : new.end ≡ None → IsUnderWay o at new
    way_on going = record {
      this = it.way.this;
      at_plan = it.way.at_plan;
      client = ap (λ (k : Terms). k.client) same ∙ it.way.client;
      number = ap (λ (k : Terms). k.number) same ∙ it.way.number;
      atrs = ap (λ (k : Terms). k.atrs) same ∙ it.way.atrs;
      going = going;
    }

    pub runs_on : TxnStands x new it.before calls → new.end ≡ None → Runs o txns at (m ∷ l) new
    runs_on stands going =
        let so = goes_so x new it.before calls new.end stands going in
        record { before = it.before; mine = calls; l_is = calls_are; parts = it.parts; way = way_on going; going = so.0; tries = so.1 }

    pub ended_parts : Descends (m ∷ l) → TxnStands x new it.before calls → (end : TxnEnd) → new.end ≡ Some end
        → Parts o (slice_set txns at (txn_log_of new)) (at + 1) (m ∷ l)
    ended_parts falls stands end ended =
        subst (Parts o (slice_set txns at (txn_log_of new)) (at + 1)) (sym calls_are)
        (told_parts it.before calls new it.way.this (falls_so falls) it.parts it.way.at_plan stands end ended)

    pub cut_off : Tells x new it.before calls → new.end ≡ old.end → IsCut o txns at (m ∷ l) new
    cut_off tells unended = record { before = it.before; mine = calls; l_is = calls_are; parts = it.parts; way = way_on (unended ∙ it.way.going); tells = tells }

-- ---- licences

-- what came before a transaction of a client comes before its next one, with what that one did
pub earlier_next : (who : Identity) (actor at : ℕ) (txn : Transaction) (l : List Made) → who.number ≡ actor → txn.terms.number ≡ suc at → TxnMayGoOn who txn l
    → AreEarlier actor (suc (at + 1)) 1 l
earlier_next who actor at txn l is number may =
    subst (λ n. AreEarlier actor n 1 l) (ap suc (sym (one_more at)))
    (earlier_txn actor (suc at) (suc (length txn.attempts)) 1 l
    (subst (λ n. AreEarlier actor n (suc (length txn.attempts)) l) number
    (subst (λ c. AreEarlier c txn.terms.number (suc (length txn.attempts)) l) (sym may.client ∙ is) may.earlier)))

-- a transaction that took an answer in has ended, and the next one is to begin
pub next_begins : (who : Identity) (c told : Client) (l : List Made) (new : Transaction) → told ≡ record c { txns = slice_set c.txns c.at (txn_log_of new); at = c.at + 1 }
    → who.number ≡ c.origin.actor → new.terms.number ≡ suc c.at → TxnMayGoOn who new l → AreEarlier told.origin.actor (suc told.at) 1 l
next_begins who c told l new is who_is number may =
    subst (λ (k : Client). AreEarlier k.origin.actor (suc k.at) 1 l) (sym is) (earlier_next who c.origin.actor c.at new l who_is number may)

pub earlier_skip : (actor at : ℕ) (l : List Made) → AreEarlier actor (suc at) 1 l → AreEarlier actor (suc (at + 1)) 1 l
earlier_skip actor at l earlier = subst (λ n. AreEarlier actor n 1 l) (ap suc (sym (one_more at))) (earlier_txn actor (suc at) 1 1 l earlier)

-- the call that a client asks for is licensed
pub asked_licensed : (who : Identity) (plan : Option TxnPlan) (at : ℕ) (txn : Option Transaction) (l : List Made) (s : Step) → MayGoOnWith who at txn l
    → step_in plan txn ≡ Some s → MayTake who l s
asked_licensed who (Some plan) at (Some txn) l s may asked = try_licensed who txn.trying.it l txn.trying.it.closing s may.1.goes_on asked
asked_licensed who None at (Some txn) l s may asked = cc
asked_licensed who None at None l s may asked = cc
asked_licensed who (Some plan) at None l s may asked = cc

-- ---- which call a client asks for

-- none where no transaction of the plan is under way
pub unasked : (c : Client) → step_in (slice_get c.origin.plan.txns c.at) c.txn ≡ None → is_some (step_now c) ≡ true → ⊥
unasked c none asked = by c.stopped asked
  where
    by : (b : Bool) → is_some (if b then None else step_in (slice_get c.origin.plan.txns c.at) c.txn) ≡ true → ⊥
    by true is = cc
    by false is = absurd (by_none (step_in (slice_get c.origin.plan.txns c.at) c.txn) none is)
      where
        by_none : (o : Option Step) → o ≡ None → is_some o ≡ true → ⊥
        by_none None gone there = cc
        by_none (Some s) gone there = cc

pub no_plan : (txn : Option Transaction) → step_in None txn ≡ None
no_plan None = refl
no_plan (Some txn) = refl

pub no_txn : (plan : Option TxnPlan) → step_in plan None ≡ None
no_txn None = refl
no_txn (Some plan) = refl

-- else that of this transaction
module _ (c : Client) (plan : TxnPlan) (txn : Transaction) (plan_is : slice_get c.origin.plan.txns c.at ≡ Some plan) (txn_is : c.txn ≡ Some txn) where
  pub step_is : is_some (step_now c) ≡ true → step_now c ≡ asked_by txn.trying.it
  step_is asked = by c.stopped asked
    where
      by : (b : Bool) → is_some (if b then None else step_in (slice_get c.origin.plan.txns c.at) c.txn) ≡ true
          → (if b then None else step_in (slice_get c.origin.plan.txns c.at) c.txn) ≡ asked_by txn.trying.it
      by true is = cc
      by false is = ap (λ t. step_in (slice_get c.origin.plan.txns c.at) t) txn_is ∙ ap (λ p. step_in p (Some txn)) plan_is

  pub asked_so : (s : Step) → step_now c ≡ Some s → asked_by txn.trying.it ≡ Some s
  asked_so s asked = sym (step_is (ap is_some asked)) ∙ asked

  pub runs_so : (l : List Made) → Goes c l → Runs c.origin c.txns c.at l txn
  runs_so l goes = subst (λ t. GoesWith c.origin c.txns c.at l t) txn_is goes

  pub may_so : (who : Identity) (l : List Made) → MayGoOn who c l → MayGoOnWith who c.at (Some txn) l
  may_so who l may = subst (λ t. MayGoOnWith who c.at t l) txn_is may

  pub plan_so : (l : List Made) (it : Runs c.origin c.txns c.at l txn) → it.way.this ≡ plan
  plan_so l it = some_same (sym it.way.at_plan ∙ plan_is)

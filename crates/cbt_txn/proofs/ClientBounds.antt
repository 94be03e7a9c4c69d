-- Each answer leaves a client fewer calls.
use Rattle.std.proofs.Common.{◌≡◌, ℕ, zero, suc, ◌+◌, ◌≤◌, ◌<◌, Bool, true, false, if◌then◌else◌, is_some, List, [], ◌∷◌, drop, slice_get, Option, Some, None, refl, sym, ap, ◌∙◌, subst, arith}
use Rattle.std.proofs.lemmas.Option.{none-some}
use Rattle.cbt_expr.specs.declared.plans.TxnPlan.{TxnPlan}
use Rattle.cbt_model.specs.declared.steps.Step.{Step}
use Rattle.cbt_txn.specs.Bounds.{try_left}
use Rattle.cbt_txn.specs.Clients.{asked_left, calls_left, left_in, most_of, running_left, step_in, step_now}
use Rattle.cbt_txn.specs.Tries.{step_now as asked_by}
use Rattle.cbt_txn.specs.TxnBounds.{txn_left, txn_most}
use Rattle.cbt_txn.specs.declared.clients.Client.{Client}
use Rattle.cbt_txn.specs.declared.transactions.Transaction.{Transaction}
use Rattle.cbt_txn.proofs.BoundsClosing.{none_left}
use Rattle.cbt_txn.proofs.Standing.{left_at, one_more}

sum_less : (a b c d : ℕ) → a ≤ b → c ≡ b + d → a + d ≤ c
sum_less a b c d less is = omega arith

more_by : (a b : ℕ) → b ≤ a + b
more_by a b = omega arith

-- transactions that are passed over make no more calls
pub fewer_behind : (plans : List TxnPlan) (n : ℕ) → most_of (drop (suc n) plans) ≤ most_of (drop n plans)
fewer_behind [] zero = omega arith
fewer_behind [] (suc n) = omega arith
fewer_behind (plan ∷ plans) zero = more_by (txn_most plan) (most_of plans)
fewer_behind (plan ∷ plans) (suc n) = fewer_behind plans n

pub fewer_past : (plans : List TxnPlan) (n : ℕ) → most_of (drop (n + 1) plans) ≤ most_of (drop n plans)
fewer_past plans n = subst (λ k. most_of (drop k plans) ≤ most_of (drop n plans)) (sym (one_more n)) (fewer_behind plans n)

-- the transaction that has begun is one of those that were to begin
pub begun_few : (plans : List TxnPlan) (n : ℕ) (plan : TxnPlan) (txn : Transaction) → slice_get plans n ≡ Some plan → txn_left plan txn ≤ txn_most plan
    → left_in (slice_get plans n) (Some txn) + most_of (drop (n + 1) plans) ≤ most_of (drop n plans)
begun_few plans n plan txn is few =
    subst (λ p. left_in p (Some txn) + most_of (drop (n + 1) plans) ≤ most_of (drop n plans)) (sym is)
    (subst (λ k. txn_left plan txn + most_of (drop k plans) ≤ most_of (drop n plans)) (sym (one_more n))
    (sum_less (txn_left plan txn) (txn_most plan) (most_of (drop n plans)) (most_of (drop (suc n) plans)) few (ap most_of (left_at plans n plan is))))

-- without one under way only those behind make calls
pub none_running : (plan : Option TxnPlan) → left_in plan None ≡ 0
none_running None = refl
none_running (Some plan) = refl

less_and : (a b rest : ℕ) → a < b → a + rest < b + rest
less_and a b rest less = omega arith

over_and : (a b rest left : ℕ) → a < b → left ≤ rest → left < b + rest
over_and a b rest left less at_most = omega arith

-- an answer was taken in by the transaction under way
module _ (plan : TxnPlan) (at_plan : Option TxnPlan) (under_way : Option Transaction) (txn new : Transaction) (rest : ℕ) (plan_is : at_plan ≡ Some plan)
    (txn_is : under_way ≡ Some txn) (fewer : txn_left plan new < txn_left plan txn) where
  left_so : left_in at_plan under_way ≡ txn_left plan txn
  left_so = ap (λ t. left_in at_plan t) txn_is ∙ ap (λ p. left_in p (Some txn)) plan_is

  -- it goes on
  pub fewer_on : left_in at_plan (Some new) + rest < left_in at_plan under_way + rest
  fewer_on =
      subst (λ n. n + rest < left_in at_plan under_way + rest) (sym (ap (λ p. left_in p (Some new)) plan_is))
      (subst (λ n. txn_left plan new + rest < n + rest) (sym left_so) (less_and (txn_left plan new) (txn_left plan txn) rest fewer))

  -- or has ended
  pub fewer_over : (left : ℕ) → left ≤ rest → left < left_in at_plan under_way + rest
  fewer_over left at_most =
      subst (λ n. left < n + rest) (sym left_so) (over_and (txn_left plan new) (txn_left plan txn) rest left fewer at_most)

-- ---- a client that asks for a call has one left

none_of : (a b : ℕ) → a + b ≡ 0 → a ≡ 0
none_of a b none = omega arith

txn_silent : (plan : TxnPlan) (txn : Transaction) → txn_left plan txn ≡ 0 → asked_by txn.trying.it ≡ None
txn_silent plan txn none = none_left plan.ops txn.trying.it.operations txn.trying.it.closing (none_of (try_left plan.ops txn.trying.it) _ none)

silent : (plan : Option TxnPlan) (txn : Option Transaction) → left_in plan txn ≡ 0 → step_in plan txn ≡ None
silent None None none = refl
silent None (Some txn) none = refl
silent (Some plan) None none = refl
silent (Some plan) (Some txn) none = txn_silent plan txn none

client_silent : (c : Client) → running_left c ≡ 0 → step_now c ≡ None
client_silent c none = by c.stopped
  where
    by : (b : Bool) → (if b then None else step_in (slice_get c.origin.plan.txns c.at) c.txn) ≡ None
    by true = refl
    by false =
        silent (slice_get c.origin.plan.txns c.at) c.txn
        (none_of (left_in (slice_get c.origin.plan.txns c.at) c.txn) (most_of (drop (c.at + 1) c.origin.plan.txns)) none)

left_most : (asked : Option Step) (left : ℕ) → (left ≡ 0 → asked ≡ None) → asked_left asked left ≤ left
left_most None left silent_at = omega arith
left_most (Some s) zero silent_at = absurd (none-some s (sym (silent_at refl)))
left_most (Some s) (suc left) silent_at = omega arith

left_all : (asked : Option Step) (left : ℕ) → is_some asked ≡ true → left ≤ asked_left asked left
left_all None left there = cc
left_all (Some s) zero there = omega arith
left_all (Some s) (suc left) there = omega arith

pub most_left : (c : Client) → calls_left c ≤ running_left c
most_left c = left_most (step_now c) (running_left c) (client_silent c)

pub all_left : (c : Client) → is_some (step_now c) ≡ true → running_left c ≤ calls_left c
all_left c asked = left_all (step_now c) (running_left c) asked

pub some_left : (c : Client) → is_some (step_now c) ≡ true → 0 < calls_left c
some_left c asked = by (step_now c) asked
  where
    by : (o : Option Step) → is_some o ≡ true → 0 < asked_left o (running_left c)
    by None there = cc
    by (Some s) there = one (running_left c)
      where
        one : (left : ℕ) → 0 < asked_left (Some s) left
        one zero = omega arith
        one (suc left) = omega arith

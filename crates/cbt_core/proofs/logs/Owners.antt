-- Who begins an attempt is a client, whose log tells it: the attempt's log, and its calls by their parts.
use Rattle.std.proofs.Common.{◌≡◌, ℕ, zero, suc, ◌+◌, ◌-◌, ◌^◌, ◌<◌, ◌≤◌, ⊎_elim, List, [], ◌∷◌, ◌++◌, length, drop, slice_get, option_and_then, Option, Some, None, refl, sym, ap, ◌∙◌, subst, arith}
use Rattle.std.proofs.lemmas.Bool.{cases_lt}
use Rattle.std.proofs.lemmas.Option.{none-some, slice_get_within}
use Rattle.cbt_base.specs.Ids.{attempt_number}
use Rattle.cbt_expr.specs.declared.plans.ClientPlan.{ClientPlan}
use Rattle.cbt_expr.specs.declared.plans.Op.{Op}
use Rattle.cbt_expr.specs.declared.plans.TxnPlan.{TxnPlan}
use Rattle.cbt_model.specs.History.{made_at}
use Rattle.cbt_model.specs.declared.events.Event.{Event}
use Rattle.cbt_model.specs.declared.events.Made.{Made}
use Rattle.cbt_book.specs.Cleaners.{CallsKept}
use Rattle.cbt_book.specs.Numbers.{client_of, txn_of, try_of}
use Rattle.cbt_book.specs.OwnLists.{In}
use Rattle.cbt_book.specs.Shown.{adds}
use Rattle.cbt_book.specs.Closing.{MayClose}
use Rattle.cbt_book.specs.declared.book.Book.{Book}
use Rattle.cbt_book.specs.declared.cleaners.CleanerLog.{CleanerLog}
use Rattle.cbt_book.specs.declared.clients.AttemptLog.{AttemptLog}
use Rattle.cbt_book.specs.declared.clients.ClientLog.{ClientLog}
use Rattle.cbt_core.specs.Attempts.{AttemptFollows, CutFollows, course_of}
use Rattle.cbt_core.specs.Clients.{FollowsPlan}
use Rattle.cbt_core.specs.Walk.{AttemptTerms, Request, walked, nothing_yet, Sofar}
use Rattle.cbt_core.specs.OpCalls.{OpCalls}
use Rattle.cbt_core.specs.Operations.{ops_end}
use Rattle.cbt_core.specs.Runs.{IsLegalRun, LogsFollow, own_of, sweeps}
use Rattle.cbt_core.specs.Transactions.{attempt_terms}
use Rattle.cbt_core.specs.WriteSets.{numbered, plan_at, attempt_at, plan_of, log_of, own_writes_by, own_writes_of}
use Rattle.cbt_core.specs.declared.case.Case.{Case}
use Rattle.cbt_core.proofs.logs.Calls.{during_in, in_during, each_of, each_past, in_front, in_either, own_in}
use Rattle.cbt_core.proofs.logs.Find.{OpHome, find_op, Home, find, Decodes, decodes}

pub numbered_there : {X : Type 0} (xs : List X) (n : ℕ) → 0 < n → n ≤ length xs → (x : X) × (numbered xs n ≡ Some x)
numbered_there xs zero low high = absurd (omega arith)
numbered_there [] (suc n) low high = absurd (omega arith)
numbered_there (x ∷ xs) (suc zero) low high = (x, refl)
numbered_there (x ∷ xs) (suc (suc n)) low high = numbered_there xs (suc n) (omega arith) (omega arith)

pub numbered_within : {X : Type 0} (xs : List X) (n : ℕ) (x : X) → numbered xs n ≡ Some x → (0 < n) × (n ≤ length xs)
numbered_within xs zero x is = absurd (none-some x is)
numbered_within xs (suc n) x is = let low = slice_get_within xs n x is in (omega arith, omega arith)

-- the parts of an attempt's calls
pub data Part (t : AttemptTerms) (l : List Made) (at : ℕ) (log : AttemptLog) (follows : AttemptFollows t l at log) (m : Made) : Type 0 where
  in_ops : OpHome t l log.ops m → m.answer.place < ops_end at log.ops → Part t l at log follows m
  in_cut : (so : Sofar) (r : Request) (calls : List Made) (next : Op) (rest : List Op) → drop (length log.ops) t.plan.ops ≡ next ∷ rest → OpCalls t so r calls → In m calls → ops_end at log.ops ≤ m.answer.place
      → Part t l at log follows m
  in_closing : (past : List Made) → MayClose t.id past m.step → ((n : Made) → In n past → In n l) → In m follows.closing → ops_end at log.ops ≤ m.answer.place → Part t l at log follows m

pub part_of : (t : AttemptTerms) (l : List Made) (at : ℕ) (log : AttemptLog) (follows : AttemptFollows t l at log) (m : Made) → In m l → at ≤ m.answer.place → m.answer.place < log.span.to
    → Part t l at log follows m
part_of t l at log follows m there low high =
    ⊎_elim (λ (early : m.answer.place < ops_end at log.ops). in_ops (find_op t l at 1 nothing_yet t.plan.ops log.ops m follows.ops there low early) early)
    (λ (late : ops_end at log.ops ≤ m.answer.place).
    ⊎_elim (λ (closes : In m follows.closing).
    let it = each_past (λ x past. MayClose t.id past x.step) follows.closing m follows.closes closes in
    in_closing it.0 it.1 (λ n before. from_rest n (in_front n follows.closing follows.cut (it.2 n before))) closes late)
    (λ (cut : In m follows.cut). of_cut follows.cut follows.cut_follows cut late)
    (in_either m follows.closing follows.cut (subst (λ c. In m c) follows.rest (in_during (record { from = ops_end at log.ops; to = log.span.to }) m l there late high))))
    (cases_lt m.answer.place (ops_end at log.ops))
  where
    from_rest : (n : Made) → In n (follows.closing ++ follows.cut) → In n l
    from_rest n in_rest = (during_in (record { from = ops_end at log.ops; to = log.span.to }) n l (subst (λ c. In n c) (sym follows.rest) in_rest)).there

    of_cut : (cut : List Made) → CutFollows t (course_of t log follows.cut follows.closing) cut → In m cut → ops_end at log.ops ≤ m.answer.place → Part t l at log follows m
    of_cut [] none in_cut_list late = absurd in_cut_list
    of_cut (x ∷ older) it in_cut_list late = in_cut _ _ (x ∷ older) it.next it.rest it.left_is it.calls in_cut_list late

module _ (case : Case) (book : Book) (legal : IsLegalRun case book) (follow : LogsFollow case book) where
  -- a client with its plan and its log
  pub record ClientOf (c : ℕ) : Type 0 where
    pub plan : ClientPlan
    pub log : ClientLog
    pub plan_is : numbered case.plans c ≡ Some plan
    pub log_is : numbered book.clients c ≡ Some log
    pub follows : FollowsPlan c case.atrs plan (own_of book c) log

  adds_none : (c p a : ℕ) (e : Event) (log : CleanerLog) → slice_get book.kept.history p ≡ Some e → e.actor ≡ c → adds e.step ≡ Some a → CallsKept (own_of book c) log → ⊥
  adds_none c p a e log at by is kept =
      none-some a (sym (each_of (λ m. adds m.step ≡ None) (own_of book c) (made_at book.kept.opening book.kept.history p e) kept.adds_none
      (own_in book.kept.opening book.kept.history c (length book.kept.history) p e (slice_get_within book.kept.history p e at) at by)) ∙ is)

  sweep_there : (o : Option ℕ) → 0 < sweeps o → (ms : ℕ) × (o ≡ Some ms)
  sweep_there None low = absurd (omega arith)
  sweep_there (Some ms) low = (ms, refl)

  sweeps_few : (o : Option ℕ) → sweeps o ≤ 1
  sweeps_few None = omega arith
  sweeps_few (Some ms) = omega arith

  -- who adds an entry is a client
  pub adder : (p a : ℕ) (e : Event) → slice_get book.kept.history p ≡ Some e → adds e.step ≡ Some a → ClientOf e.actor
  adder p a e at is =
      ⊎_elim (λ (other : length case.plans < e.actor). absurd (cleaner other))
      (λ (client : e.actor ≤ length case.plans).
      let plan = numbered_there case.plans e.actor numbered_by.0 client in
      let log = numbered_there book.clients e.actor numbered_by.0 (let same = follow.clients.all in omega arith) in
      record { plan = plan.0; log = log.0; plan_is = plan.1; log_is = log.1; follows = follow.clients.each e.actor plan.0 log.0 plan.1 log.1 })
      (cases_lt (length case.plans) e.actor)
    where
      numbered_by : (0 < e.actor) × (e.actor ≤ case.actors)
      numbered_by = legal.history.numbered p e at

      back : (m n : ℕ) → m < n → m + (n - m) ≡ n
      back m n low = omega arith

      bound : {m n k : ℕ} → m ≤ n → n ≡ k → m ≤ k
      bound low same = omega arith

      small : (m n k s : ℕ) → m < n → n ≤ m + k + s → s ≤ 1 → k < n - m → (n - m ≡ suc k) × (0 < s)
      small m n k s low high few past = (omega arith, omega arith)

      sweep : (n : ℕ) → length case.plans + n ≡ e.actor → (n ≡ suc (length case.rounds)) → 0 < sweeps case.sweep → ⊥
      sweep n actor last there =
          let ms = sweep_there case.sweep there in
          let log = numbered_there book.cleaners (suc (length case.rounds)) (omega arith) (let same = follow.cleaners.all in omega arith) in
          adds_none e.actor p a e log.0 at refl is
          (subst (λ c. CallsKept (own_of book c) log.0) (ap (λ k. length case.plans + k) (sym last) ∙ actor) (follow.cleaners.sweep ms.0 log.0 ms.1 log.1).kept)

      cleaner : length case.plans < e.actor → ⊥
      cleaner other =
          let n = e.actor - length case.plans in
          let actor : length case.plans + n ≡ e.actor = back (length case.plans) e.actor other in
          ⊎_elim (λ (past : length case.rounds < n).
          let it = small (length case.plans) e.actor (length case.rounds) (sweeps case.sweep) other (bound numbered_by.1 legal.limits.actors) (sweeps_few case.sweep) past in
          sweep n actor it.0 it.1)
          (λ (few : n ≤ length case.rounds).
          let positive : 0 < n = above_zero (length case.plans) e.actor other in
          let rounds = numbered_there case.rounds n positive few in
          let log = numbered_there book.cleaners n positive (few_more n (length case.rounds) (sweeps case.sweep) (length book.cleaners) few follow.cleaners.all) in
          adds_none e.actor p a e log.0 at refl is (subst (λ c. CallsKept (own_of book c) log.0) actor (follow.cleaners.each n rounds.0 log.0 rounds.1 log.1).kept))
          (cases_lt (length case.rounds) n)
        where
          above_zero : (m n : ℕ) → m < n → 0 < n - m
          above_zero m n low = omega arith

          few_more : (n k s total : ℕ) → n ≤ k → total ≡ k + s → n ≤ total
          few_more n k s total low same = omega arith

  -- the log of an attempt, found by one of its calls
  pub record AttemptOf (a : ℕ) : Type 0 where
    pub client : ClientOf (client_of a)
    pub txn_plan : TxnPlan
    pub attempt : AttemptLog
    pub start : ℕ
    pub at : ℕ
    pub plan_is : plan_of case.plans a ≡ Some txn_plan
    pub log_is : log_of book.clients a ≡ Some attempt
    pub t : AttemptTerms
    pub t_plan : t.plan ≡ txn_plan
    pub id_is : t.id ≡ a
    pub follows : AttemptFollows t (own_of book (client_of a)) at attempt

  pub small_txn : (plan : ClientPlan) (c txn : ℕ) (x : TxnPlan) → numbered case.plans c ≡ Some plan → numbered plan.txns txn ≡ Some x → txn < 2 ^ 16
  small_txn plan c txn x plan_is is = let few = legal.limits.txns c plan plan_is in let low = (numbered_within plan.txns txn x is).1 in omega arith

  pub plan_found : (c txn : ℕ) (plan : ClientPlan) (x : TxnPlan) → numbered case.plans c ≡ Some plan → numbered plan.txns txn ≡ Some x → plan_at case.plans c txn ≡ Some x
  plan_found c txn plan x plan_is is = ap (λ o. option_and_then (λ (p : ClientPlan). numbered p.txns txn) o) plan_is ∙ is

  -- a client's call with the home that was found for it
  pub home_of : (c : ℕ) (client : ClientOf c) (m : Made) → In m (own_of book c) → Home c case.atrs client.plan (own_of book c) client.log m
  home_of c client m there = find c case.atrs client.plan (own_of book c) client.log m client.follows there

  pub home_number : (c : ℕ) (client : ClientOf c) (m : Made) (home : Home c case.atrs client.plan (own_of book c) client.log m) → Decodes (attempt_number c home.txn home.try_no) c home.txn home.try_no
  home_number c client m home =
      decodes c home.txn home.try_no (small_txn client.plan c home.txn home.txn_plan client.plan_is home.plan_is)
      (let few = home.txn_follows.few in let low = (numbered_within home.txn_log.attempts home.try_no home.attempt home.attempt_is).1 in
      let tries = legal.limits.tries c home.txn home.txn_plan (plan_found c home.txn client.plan home.txn_plan client.plan_is home.plan_is) in omega arith)

  -- the attempt of a home, by its identifier
  abbrev pub attempt_of_home : (c : ℕ) (client : ClientOf c) (m : Made) (home : Home c case.atrs client.plan (own_of book c) client.log m) → AttemptOf (attempt_number c home.txn home.try_no)
  attempt_of_home c client m home =
      let it = home_number c client m home in
      record {
        client = subst (λ x. ClientOf x) (sym it.client_is) client;
        txn_plan = home.txn_plan;
        attempt = home.attempt;
        start = home.start;
        at = home.at;
        plan_is =
            ap (λ x. plan_at case.plans x (txn_of (attempt_number c home.txn home.try_no))) it.client_is ∙ ap (λ x. plan_at case.plans c x) it.txn_is
            ∙ plan_found c home.txn client.plan home.txn_plan client.plan_is home.plan_is;
        log_is =
            ap (λ x. attempt_at book.clients x (txn_of (attempt_number c home.txn home.try_no)) (try_of (attempt_number c home.txn home.try_no))) it.client_is
            ∙ ap (λ x. attempt_at book.clients c x (try_of (attempt_number c home.txn home.try_no))) it.txn_is ∙ ap (λ x. attempt_at book.clients c home.txn x) it.try_is
            ∙ ap (λ o. option_and_then (λ t. numbered t.attempts home.try_no) (option_and_then (λ (x : ClientLog). numbered x.txns home.txn) o)) client.log_is
            ∙ ap (λ o. option_and_then (λ t. numbered t.attempts home.try_no) o) home.txn_is ∙ home.attempt_is;
        t = attempt_terms (record { client = c; number = home.txn; plan = home.txn_plan; atrs = case.atrs }) home.start home.try_no;
        t_plan = refl;
        id_is = refl;
        follows = subst (λ x. AttemptFollows (attempt_terms (record { client = c; number = home.txn; plan = home.txn_plan; atrs = case.atrs }) home.start home.try_no) (own_of book x) home.at home.attempt) (sym it.client_is) home.follows;
      }

  -- the own writes of an attempt are those of its log
  pub writes_are : (a : ℕ) (it : AttemptOf a) (d : List ℕ) → own_writes_of case.plans book.clients a d ≡ (walked it.t.plan.ops it.attempt.ops nothing_yet).own d
  writes_are a it d =
      ap (λ o. own_writes_by o (log_of book.clients a) d) it.plan_is ∙ ap (λ o. own_writes_by (Some it.txn_plan) o d) it.log_is
      ∙ ap (λ (p : TxnPlan). (walked p.ops it.attempt.ops nothing_yet).own d) (sym it.t_plan)

-- The clients keep the rules of clients, and their operations times tries are few.
use Rattle.std.proofs.Common.{◌≡◌, ◌≢◌, ℕ, zero, suc, ◌+◌, ◌-◌, ◌*◌, ◌<◌, ◌≤◌, List, [], ◌∷◌, ◌++◌, length, map, codes, get_or, refl, sym, ap, ◌∙◌, subst, arith, append_assoc}
use Rattle.std.specs.List.{All}
use Rattle.std.proofs.lemmas.List.{map-append}
use Rattle.std.proofs.lemmas.List.Elements.{All-nil, All-push, All-head, All-tail}
use Rattle.rand_pcg.specs.Lcg.{Lcg}
use Rattle.cbt_expr.specs.declared.plans.ClientPlan.{ClientPlan}
use Rattle.cbt_expr.specs.declared.plans.TxnPlan.{TxnPlan}
use Rattle.cbt_script.specs.Rules.{IsPlan, IsClient, AreDistinct, tried_in, tried_by}
use Rattle.cbt_script.proofs.RulesOfNames.{distinct-push}
use Rattle.cbt_gen.specs.Draws.{draw, many}
use Rattle.cbt_gen.specs.Names.{client_name}
use Rattle.cbt_gen.specs.Transfers.{transfer, transaction}
use Rattle.cbt_gen.specs.Generated.{client}
use Rattle.cbt_gen.proofs.Many.{many-none, values-more, values-all, length-values}
use Rattle.cbt_gen.proofs.NameRules.{client-named, clients-apart, client-other}
use Rattle.cbt_gen.proofs.TransferRules.{plan-kept}

pub draw-below : (m : ℕ) (stream : Lcg) → 0 < m → (draw m stream).0 < m
unfolding draw
draw-below m stream some = omega arith

abbrev Client : Type 0
Client = List ℕ × ClientPlan

-- ---- transactions

transaction-kept : (accounts k : ℕ) (stream : Lcg) → IsPlan (transaction accounts stream).0
transaction-kept accounts k stream =
    let last = (draw (accounts - 1) (draw accounts stream).1).1 in
    let low = draw-below 100 last (omega arith) in
    plan-kept (transfer accounts stream).0 (omega arith)

module _ (accounts transfers : ℕ) where
  -- ---- each client

  pub client-kept : transfers ≤ 200 → (k : ℕ) (stream : Lcg) → IsClient (client accounts transfers k stream).0
  client-kept few k stream = (
    client-named k,
    values-all (λ i. transaction accounts) stream IsPlan (transaction-kept accounts) transfers,
    (let count = length-values (λ i. transaction accounts) stream transfers in omega (arith, count)),
  )

  -- ---- operations times tries

  tried-all : (plans : List TxnPlan) → All (λ p. length p.ops * p.tries ≡ 40) plans → tried_in plans ≡ 40 * length plans
  tried-all [] all = refl
  tried-all (p ∷ plans) all =
      omega (arith, All-head (λ q. length q.ops * q.tries ≡ 40) p plans all, tried-all plans (All-tail (λ q. length q.ops * q.tries ≡ 40) p plans all))

  tried-client : (k : ℕ) (stream : Lcg) → tried_in (client accounts transfers k stream).0.1.txns ≡ 40 * transfers
  tried-client k stream =
      tried-all (many transfers (λ i. transaction accounts) stream).0 (values-all (λ i. transaction accounts) stream (λ p. length p.ops * p.tries ≡ 40) (λ i s. refl) transfers)
      ∙ ap (λ n. 40 * n) (length-values (λ i. transaction accounts) stream transfers)

  tried-clients : (clients : List Client) → All (λ c. tried_in c.1.txns ≡ 40 * transfers) clients → tried_by clients ≡ 40 * transfers * length clients
  tried-clients [] all = omega arith
  tried-clients (c ∷ clients) all =
      omega (arith, All-head (λ d. tried_in d.1.txns ≡ 40 * transfers) c clients all, tried-clients clients (All-tail (λ d. tried_in d.1.txns ≡ 40 * transfers) c clients all))

  -- ---- all clients

  module _ (start : Lcg) where
    abbrev pub drawn : ℕ → List Client
    drawn count = (many count (client accounts transfers) start).0

    pub clients-kept : transfers ≤ 200 → (count : ℕ) → All IsClient (drawn count)
    clients-kept few count = values-all (client accounts transfers) start IsClient (client-kept few) count

    pub length-clients : (count : ℕ) → length (drawn count) ≡ count
    length-clients count = length-values (client accounts transfers) start count

    pub tried-drawn : (count : ℕ) → tried_by (drawn count) ≡ 40 * transfers * count
    tried-drawn count =
        tried-clients (drawn count) (values-all (client accounts transfers) start (λ c. tried_in c.1.txns ≡ 40 * transfers) tried-client count)
        ∙ ap (λ n. 40 * transfers * n) (length-clients count)

    -- ---- their names

    abbrev pub names : ℕ → List (List ℕ)
    names count = map (λ c. c.0) (drawn count)

    names-none : names 0 ≡ []
    names-none = ap (λ d. map (λ (c : Client). c.0) d.0) (many-none (client accounts transfers) start)

    names-more : (count : ℕ) → names (suc count) ≡ names count ++ client_name (count + 1) ∷ []
    names-more count =
        let next = (client accounts transfers (count + 1) (many count (client accounts transfers) start).1).0 in
        ap (map (λ (c : Client). c.0)) (values-more (client accounts transfers) start count) ∙ map-append (λ (c : Client). c.0) (drawn count) (next ∷ [])

    names-other : (other : List ℕ) (count : ℕ) → ((k : ℕ) → k ≤ count → client_name k ≢ other) → All (λ x. x ≢ other) (names count)
    names-other other zero apart = subst (All (λ x. x ≢ other)) (sym names-none) (All-nil (λ x. x ≢ other))
    names-other other (suc count) apart =
        subst (All (λ x. x ≢ other)) (sym (names-more count))
        (All-push (λ x. x ≢ other) (names count) (client_name (count + 1)) (names-other other count (λ k below. apart k (omega arith))) (apart (count + 1) (omega arith)))

    names-distinct : (count : ℕ) → count < 100 → AreDistinct (names count)
    names-distinct zero small = subst AreDistinct (sym names-none) tt
    names-distinct (suc count) small =
        subst AreDistinct (sym (names-more count))
        (distinct-push (names count) (client_name (count + 1)) (names-distinct count (omega arith))
        (names-other (client_name (count + 1)) count (λ k below. clients-apart k (count + 1) (omega arith) (omega arith) (λ same. omega arith))))

    -- the cleaners' names stand apart from them
    pub actors-distinct : (count : ℕ) → count < 100 → AreDistinct (names count ++ codes "k1" ∷ codes "k2" ∷ [])
    actors-distinct count small =
        let first = names-other (codes "k1") count (λ k below. client-other k (codes "1")) in
        let second = All-push (λ x. x ≢ codes "k2") (names count) (codes "k1") (names-other (codes "k2") count (λ k below. client-other k (codes "2"))) k1_k2 in
        subst AreDistinct (append_assoc (names count) (codes "k1" ∷ []) (codes "k2" ∷ []))
        (distinct-push (names count ++ codes "k1" ∷ []) (codes "k2") (distinct-push (names count) (codes "k1") (names-distinct count small) first) second)
      where
        k1_k2 : codes "k1" ≢ codes "k2"
        k1_k2 same = let last : 49 ≡ 50 = ap (λ bs. get_or bs 1 0) same in omega (arith, last)

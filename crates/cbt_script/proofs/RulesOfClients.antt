-- The clients of a draft and their transactions keep their rules.
use Rattle.std.proofs.Common.{◌≡◌, ℕ, ◌+◌, ◌*◌, ◌<◌, ◌≤◌, Bool, true, false, ◌||◌, nat_lt, nat_le, is_some, List, [], ◌∷◌, ◌++◌, length, map, codes, Option, Some, None, Err, refl, sym, ap, ◌∙◌, subst, arith, add-one, length-append, append-nil}
use Rattle.std.specs.List.{All}
use Rattle.std.proofs.Math.Nat.{suc-mul}
use Rattle.std.proofs.lemmas.Bool.{ltb-true, ltb-false, leb-false, or_parts}
use Rattle.std.proofs.lemmas.List.{map-append}
use Rattle.std.proofs.lemmas.List.Elements.{All-nil, All-push}
use Rattle.cbt_expr.specs.declared.plans.ClientPlan.{ClientPlan}
use Rattle.cbt_expr.specs.declared.plans.Op.{Op}
use Rattle.cbt_expr.specs.declared.plans.TxnPlan.{TxnPlan}
use Rattle.cbt_lex.specs.Lines.{IsOneLine}
use Rattle.cbt_script.specs.declared.cause.Cause.TheVariants.{Word, Limit}
use Rattle.cbt_script.specs.declared.clients.Clients.{Clients}
use Rattle.cbt_script.specs.declared.clients.Terms.{Terms}
use Rattle.cbt_script.specs.declared.keywords.Operation.{Operation}
use Rattle.cbt_script.specs.Clients.{no_clients, is_inside, last_done, with_client, terms_field, begin_txn, terms_in, open_terms, bound_by, with_operation, add_operation, plan_of, end_txn}
use Rattle.cbt_script.specs.Fields.{option_field}
use Rattle.cbt_script.specs.Operations.{op_field}
use Rattle.cbt_script.specs.Rules.{IsWithin, IsActorName, IsOperation, AreOperations, IsPlan, IsClient, tried_in, tried_by}
use Rattle.cbt_script.specs.Settings.{max_time}
use Rattle.cbt_script.proofs.RulesOfFields.{Keeps, keeps-bind, keeps-cond, keeps-required, keeps-ended, option-kept}
use Rattle.cbt_script.proofs.RulesOfOperations.{bound_behind, bound-push, operations-push, op-kept}

abbrev Client : Type 0
Client = List ℕ × ClientPlan

-- the name of the last client
abbrev pub named : Option (List ℕ) → List (List ℕ)
named None = []
named (Some name) = name ∷ []

abbrev pub client_names : Clients → List (List ℕ)
client_names c = map (λ x. x.0) c.done ++ named c.last

-- a last client with a name; without one there are no transactions
abbrev pub IsLast : Option (List ℕ) → List TxnPlan → Type 0
IsLast None txns = txns ≡ []
IsLast (Some name) txns = IsActorName name

-- a transaction under way with these terms
pub record IsUnder (terms : Terms) (c : Clients) : Type 0 where
  pub expiry : IsWithin 1 max_time terms.expiry
  pub hold : IsWithin 1 terms.expiry terms.hold
  pub tries : IsWithin 1 16 terms.tries
  pub ops : AreOperations [] c.ops
  pub bound : bound_behind [] c.ops ≡ c.bound
  pub ops_few : length c.ops ≤ 256
  pub txns_few : length c.txns < 1024
  pub behind : is_some c.last ≡ true
  pub tried : c.tried ≡ tried_by c.done + tried_in c.txns + length c.ops * terms.tries

abbrev pub UnderWay : Option Terms → Clients → Type 0
UnderWay None c = c.tried ≡ tried_by c.done + tried_in c.txns
UnderWay (Some terms) c = IsUnder terms c

pub record AreClients (c : Clients) : Type 0 where
  pub done : All IsClient c.done
  pub last : IsLast c.last c.txns
  pub txns : All IsPlan c.txns
  pub txns_few : length c.txns ≤ 1024
  pub under_way : UnderWay c.under_way c
  pub few : length (client_names c) ≤ 64
  pub tried_few : c.tried ≤ 16384

pub no-clients : AreClients no_clients
no-clients = record { done = All-nil IsClient; last = refl; txns = All-nil IsPlan; txns_few = omega arith; under_way = refl; few = omega arith; tried_few = omega arith }

-- ---- the last client among the others

pub all-done : (last : Option (List ℕ)) (txns : List TxnPlan) (done : List Client) → All IsClient done → IsLast last txns → All IsPlan txns → length txns ≤ 1024 → All IsClient (last_done last txns done)
all-done None txns done all is plans few = all
all-done (Some name) txns done all is plans few = All-push IsClient done (name, record { txns = txns }) all (is, plans, few)

pub names-done : (last : Option (List ℕ)) (txns : List TxnPlan) (done : List Client) → map (λ (x : Client). x.0) (last_done last txns done) ≡ map (λ (x : Client). x.0) done ++ named last
names-done None txns done = sym (append-nil (map (λ (x : Client). x.0) done))
names-done (Some name) txns done = map-append (λ (x : Client). x.0) done ((name, record { txns = txns }) ∷ [])

tried-push : (done : List Client) (c : Client) → tried_by (done ++ c ∷ []) ≡ tried_by done + tried_in c.1.txns
tried-push [] c = omega arith
tried-push (x ∷ xs) c = let ih : tried_by (xs ++ c ∷ []) ≡ tried_by xs + tried_in c.1.txns = tried-push xs c in omega arith

tried_in-push : (plans : List TxnPlan) (p : TxnPlan) → tried_in (plans ++ p ∷ []) ≡ tried_in plans + length p.ops * p.tries
tried_in-push [] p = omega arith
tried_in-push (x ∷ xs) p = let ih : tried_in (xs ++ p ∷ []) ≡ tried_in xs + length p.ops * p.tries = tried_in-push xs p in omega arith

pub tried-done : (last : Option (List ℕ)) (txns : List TxnPlan) (done : List Client) → IsLast last txns → tried_by (last_done last txns done) ≡ tried_by done + tried_in txns
tried-done None txns done none = let e : tried_in txns ≡ 0 = ap tried_in none in omega arith
tried-done (Some name) txns done is = tried-push done (name, record { txns = txns })

-- ---- a further client

none-under : (o : Option Terms) → is_some o ≡ false → o ≡ None
none-under None e = refl
none-under (Some terms) e = absurd (cc)

pub outside : (c : Clients) → AreClients c → is_inside c ≡ false → UnderWay None c
outside c are out = subst (λ o. UnderWay o c) (none-under c.under_way out) are.under_way

under-none : (o : Option Terms) (c : Clients) → is_some o ≡ false → UnderWay None c → UnderWay o c
under-none None c e is = is
under-none (Some terms) c e is = absurd (cc)

pub client-push : (name : List ℕ) (c : Clients) → AreClients c → is_inside c ≡ false → IsActorName name → length (client_names c) < 64 → AreClients (with_client name c)
client-push name c are out named_so room =
    let t : c.tried ≡ tried_by c.done + tried_in c.txns = outside c are out in
    let d : tried_by (last_done c.last c.txns c.done) ≡ tried_by c.done + tried_in c.txns = tried-done c.last c.txns c.done are.last in
    let n : length (map (λ (x : Client). x.0) (last_done c.last c.txns c.done)) ≡ length (client_names c) = ap length (names-done c.last c.txns c.done) in
    record {
      done = all-done c.last c.txns c.done are.done are.last are.txns are.txns_few;
      last = named_so;
      txns = All-nil IsPlan;
      txns_few = omega arith;
      under_way = under-none c.under_way (with_client name c) out (omega arith);
      few = omega (arith, length-append (map (λ (x : Client). x.0) (last_done c.last c.txns c.done)) (name ∷ []));
      tried_few = are.tried_few;
    }

-- ---- transactions

pub record AreTerms (terms : Terms) : Type 0 where
  pub expiry : IsWithin 1 max_time terms.expiry
  pub hold : IsWithin 1 terms.expiry terms.hold
  pub tries : IsWithin 1 16 terms.tries

terms-kept : (expiry tries : ℕ) (rest : List ℕ) → IsWithin 1 max_time expiry → IsWithin 1 16 tries → Keeps AreTerms (terms_field expiry tries rest)
unfolding terms_field
terms-kept expiry tries rest first last =
    keeps-bind (λ n. IsWithin 1 max_time n.0) AreTerms (option_field (codes "expiry") max_time expiry rest) _ (option-kept (codes "expiry") max_time expiry rest first)
    (λ e is. keeps-bind (λ n. IsWithin 1 e.0 n.0) AreTerms (option_field (codes "hold") e.0 e.0 e.1) _ (option-kept (codes "hold") e.0 e.0 e.1 (is.0, omega arith))
    (λ h held. keeps-bind (λ n. IsWithin 1 16 n.0) AreTerms (option_field (codes "tries") 16 tries h.1) _ (option-kept (codes "tries") 16 tries h.1 last)
    (λ t tried. keeps-ended AreTerms t.1 _ (record { expiry = is; hold = held; tries = tried }))))

pub begin-kept : (expiry tries : ℕ) (c : Clients) (rest : List ℕ) → IsWithin 1 max_time expiry → IsWithin 1 16 tries → AreClients c → is_inside c ≡ false → Keeps AreClients (begin_txn expiry tries c rest)
unfolding begin_txn
begin-kept expiry tries c rest first last are out =
    keeps-required AreClients (is_some c.last) Word _
    (λ behind. keeps-bind AreTerms AreClients (terms_field expiry tries rest) _ (terms-kept expiry tries rest first last)
    (λ terms good. keeps-required AreClients (nat_lt (length c.txns) 1024) Limit _
    (λ room.
    let t : c.tried ≡ tried_by c.done + tried_in c.txns = outside c are out in
    record {
      done = are.done;
      last = are.last;
      txns = are.txns;
      txns_few = are.txns_few;
      under_way = record {
        expiry = good.expiry;
        hold = good.hold;
        tries = good.tries;
        ops = tt;
        bound = refl;
        ops_few = omega arith;
        txns_few = ltb-true (length c.txns) 1024 room;
        behind = behind;
        tried = omega arith;
      };
      few = are.few;
      tried_few = are.tried_few;
    })))

-- a transaction under way, which is this one
abbrev IsThis : Option Terms → Clients → Terms → Type 0
IsThis o c terms = IsUnder terms c × (o ≡ Some terms)

this-under : (o : Option Terms) (c : Clients) → UnderWay o c → Keeps (IsThis o c) (terms_in o)
this-under None c is = tt
this-under (Some terms) c is = (is, refl)

one-more : (a b c n tries : ℕ) → a ≡ b + c + n * tries → a + tries ≡ b + c + (n + 1) * tries
one-more a b c n tries is = let e : (n + 1) * tries ≡ n * tries + tries = ap (λ m. m * tries) (add-one n) ∙ suc-mul n tries in omega arith

operation-pushed : (terms : Terms) (o : Op) (c : Clients) → AreClients c → IsThis c.under_way c terms → IsOperation c.bound o → Keeps AreClients (with_operation terms.tries o c)
operation-pushed terms o c are this is =
    keeps-cond AreClients (nat_le 256 (length c.ops) || nat_lt 16384 (c.tried + terms.tries)) (Err Limit) _ (λ full. tt)
    (λ room.
    let two = or_parts (nat_le 256 (length c.ops)) (nat_lt 16384 (c.tried + terms.tries)) room in
    let some : length c.ops < 256 = leb-false 256 (length c.ops) two.0 in
    let under = this.0 in
    let longer : length (c.ops ++ o ∷ []) ≡ length c.ops + 1 = omega (arith, length-append c.ops (o ∷ [])) in
    let next = record c { ops = c.ops ++ o ∷ []; bound = bound_by o c.bound; tried = c.tried + terms.tries } in
    record {
      done = are.done;
      last = are.last;
      txns = are.txns;
      txns_few = are.txns_few;
      under_way = subst (λ u. UnderWay u next) (sym this.1) (record {
        expiry = under.expiry;
        hold = under.hold;
        tries = under.tries;
        ops = operations-push [] c.ops o under.ops (subst (λ b. IsOperation b o) (sym under.bound) is);
        bound = bound-push [] c.ops o ∙ ap (bound_by o) under.bound;
        ops_few = omega arith;
        txns_few = under.txns_few;
        behind = under.behind;
        tried = one-more c.tried (tried_by c.done) (tried_in c.txns) (length c.ops) terms.tries under.tried ∙ ap (λ n. tried_by c.done + tried_in c.txns + n * terms.tries) (sym longer);
      });
      few = are.few;
      tried_few = ltb-false 16384 (c.tried + terms.tries) two.1;
    })

pub operation-kept : (which : Operation) (c : Clients) (rest : List ℕ) → AreClients c → IsOneLine rest → Keeps AreClients (add_operation which c rest)
unfolding add_operation
operation-kept which c rest are one =
    keeps-bind (IsThis c.under_way c) AreClients (open_terms c) _ (this-under c.under_way c are.under_way)
    (λ terms this. keeps-bind (IsOperation c.bound) AreClients (op_field which c.bound rest) _ (op-kept c.bound which rest one)
    (λ o is. operation-pushed terms o c are this is))

last-still : (last : Option (List ℕ)) (txns more : List TxnPlan) → is_some last ≡ true → IsLast last txns → IsLast last more
last-still None txns more there is = absurd (cc)
last-still (Some name) txns more there is = is

pub end-kept : (keep : Bool) (c : Clients) (rest : List ℕ) → AreClients c → Keeps AreClients (end_txn keep c rest)
unfolding end_txn
end-kept keep c rest are =
    keeps-bind (IsThis c.under_way c) AreClients (open_terms c) _ (this-under c.under_way c are.under_way)
    (λ terms this. keeps-ended AreClients rest _
    (let under = this.0 in
    let plan = plan_of terms c.ops keep in
    let t : c.tried ≡ tried_by c.done + tried_in c.txns + length c.ops * terms.tries = under.tried in
    let p : tried_in (c.txns ++ plan ∷ []) ≡ tried_in c.txns + length c.ops * terms.tries = tried_in-push c.txns plan in
    let few : length c.txns < 1024 = under.txns_few in
    record {
      done = are.done;
      last = last-still c.last c.txns (c.txns ++ plan ∷ []) under.behind are.last;
      txns = All-push IsPlan c.txns plan are.txns (record { expiry = under.expiry; hold = under.hold; tries = under.tries; ops = under.ops; ops_few = under.ops_few });
      txns_few = omega (arith, length-append c.txns (plan ∷ []));
      under_way = omega arith;
      few = are.few;
      tried_few = are.tried_few;
    }))

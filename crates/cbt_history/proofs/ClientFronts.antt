-- The lines of clients, cut off: those of fewer clients, the last of which may have a transaction under way.
use Rattle.std.proofs.Common.{◌≡◌, ℕ, ◌*◌, ◌≤◌, Bool, true, false, List, [], ◌∷◌, ◌++◌, length, map, codes, refl, sym, ap, ◌∙◌, subst, arith, append_assoc}
use Rattle.std.specs.List.{All}
use Rattle.std.proofs.Math.Nat.{mul-le-mul_right}
use Rattle.std.proofs.lemmas.List.{append-nil}
use Rattle.std.proofs.lemmas.List.Elements.{All-nil, All-cons, All-head, All-tail}
use Rattle.cbt_expr.specs.declared.plans.ClientPlan.{ClientPlan}
use Rattle.cbt_expr.specs.declared.plans.Op.{Op}
use Rattle.cbt_expr.specs.declared.plans.TxnPlan.{TxnPlan}
use Rattle.cbt_script.specs.Clients.{bound_by}
use Rattle.cbt_script.specs.Operations.{Bound}
use Rattle.cbt_script.specs.Printed.{op_line, op_lines, begin_line, end_line, plan_lines, txn_lines, client_lines}
use Rattle.cbt_script.specs.Rules.{AreOperations, IsPlan, IsClient, tried_in, tried_by}
use Rattle.cbt_history.proofs.Fronts.{Lines, Fronts, weaker, both}

-- ---- operations

record OpsCut (bound : Bound) (most : ℕ) (front : Lines) : Type 0 where
  pub ops : List Op
  pub are : AreOperations bound ops
  pub few : length ops ≤ most
  pub lines : op_lines ops ≡ front

ops_cut : (bound : Bound) (ops : List Op) → AreOperations bound ops → Fronts (OpsCut bound (length ops)) (op_lines ops)
ops_cut bound [] are = tt
ops_cut bound (o ∷ ops) are = (
  record { ops = []; are = tt; few = omega arith; lines = refl },
  weaker (OpsCut (bound_by o bound) (length ops)) (λ l. OpsCut bound (length (o ∷ ops)) (op_line o ∷ l)) (op_lines ops)
      (λ l c. let few : length c.ops ≤ length ops = c.few in record { ops = o ∷ c.ops; are = (are.0, c.are); few = omega arith; lines = ap (λ ls. op_line o ∷ ls) c.lines })
      (ops_cut (bound_by o bound) ops are.1),
)

-- ---- transactions

-- what ends a transaction that is under way
abbrev pub ending : Bool → Lines
ending true = codes "commit" ∷ []
ending false = []

record TxnsCut (plans : List TxnPlan) (front : Lines) : Type 0 where
  pub txns : List TxnPlan
  pub inside : Bool
  pub are : All IsPlan txns
  pub few : length txns ≤ length plans
  pub tried : tried_in txns ≤ tried_in plans
  pub lines : txn_lines txns ≡ front ++ ending inside

module _ (plan : TxnPlan) (plans : List TxnPlan) (is : IsPlan plan) where
  abbrev so_far : List Op → TxnPlan
  so_far ops = record plan { ops = ops; keep = true }

  abbrev Cut : Lines → Type 0
  Cut = TxnsCut (plan ∷ plans)

  -- some operations of the transaction
  cut_inside : (l : Lines) → OpsCut [] (length plan.ops) l → Cut (begin_line plan ∷ l)
  cut_inside l c =
      let few : length c.ops ≤ length plan.ops = c.few in
      let most : length plan.ops ≤ 256 = is.ops_few in
      let less : length c.ops * plan.tries ≤ length plan.ops * plan.tries = mul-le-mul_right plan.tries few in
      record {
        txns = so_far c.ops ∷ [];
        inside = true;
        are = All-cons IsPlan (so_far c.ops) [] (record { expiry = is.expiry; hold = is.hold; tries = is.tries; ops = c.are; ops_few = omega arith }) (All-nil IsPlan);
        few = omega arith;
        tried = omega (arith, less);
        lines = append-nil (plan_lines (so_far c.ops)) ∙ ap (λ ls. begin_line plan ∷ (ls ++ codes "commit" ∷ [])) c.lines;
      }

  -- all operations of it
  all_ops : OpsCut [] (length plan.ops) (op_lines plan.ops)
  all_ops = record { ops = plan.ops; are = is.ops; few = omega arith; lines = refl }

  no_txn : Cut []
  no_txn = record { txns = []; inside = false; are = All-nil IsPlan; few = omega arith; tried = omega arith; lines = refl }

  plan_cut : Fronts Cut (plan_lines plan)
  plan_cut = (
    no_txn,
    both (λ l. Cut (begin_line plan ∷ l)) (op_lines plan.ops) (end_line plan.keep ∷ [])
        (weaker (OpsCut [] (length plan.ops)) (λ l. Cut (begin_line plan ∷ l)) (op_lines plan.ops) cut_inside (ops_cut [] plan.ops is.ops))
        (subst_nil (op_lines plan.ops) (λ l. Cut (begin_line plan ∷ l)) (cut_inside (op_lines plan.ops) all_ops), tt),
  )
    where
      subst_nil : (xs : Lines) (P : Lines → Type 0) → P xs → P (xs ++ [])
      subst_nil xs P p = subst P (sym (append-nil xs)) p

  -- some further transactions
  cut_behind : (l : Lines) → TxnsCut plans l → Cut (plan_lines plan ++ l)
  cut_behind l c =
      let few : length c.txns ≤ length plans = c.few in
      let tried : tried_in c.txns ≤ tried_in plans = c.tried in
      record {
        txns = plan ∷ c.txns;
        inside = c.inside;
        are = All-cons IsPlan plan c.txns is c.are;
        few = omega arith;
        tried = omega arith;
        lines = ap (λ ls. plan_lines plan ++ ls) c.lines ∙ sym (append_assoc (plan_lines plan) l (ending c.inside));
      }

txns_cut : (plans : List TxnPlan) → All IsPlan plans → Fronts (TxnsCut plans) (txn_lines plans)
txns_cut [] all = tt
txns_cut (plan ∷ plans) all =
    let is = All-head IsPlan plan plans all in
    both (TxnsCut (plan ∷ plans)) (plan_lines plan) (txn_lines plans) (plan_cut plan plans is)
    (weaker (TxnsCut plans) (λ l. TxnsCut (plan ∷ plans) (plan_lines plan ++ l)) (txn_lines plans) (cut_behind plan plans is) (txns_cut plans (All-tail IsPlan plan plans all)))

-- ---- clients

abbrev pub Client : Type 0
Client = List ℕ × ClientPlan

abbrev pub client_names : List Client → Lines
client_names clients = map (λ c. c.0) clients

pub record ClientsCut (all : List Client) (front : Lines) : Type 0 where
  pub clients : List Client
  pub inside : Bool
  pub are : All IsClient clients
  pub few : length clients ≤ length all
  pub tried : tried_by clients ≤ tried_by all
  pub others : Lines
  pub names : client_names all ≡ client_names clients ++ others
  pub lines : client_lines clients ≡ front ++ ending inside

pub no_clients : (all : List Client) → ClientsCut all []
no_clients all = record { clients = []; inside = false; are = All-nil IsClient; few = omega arith; tried = omega arith; others = client_names all; names = refl; lines = refl }

module _ (client : Client) (all : List Client) (is : IsClient client) where
  abbrev head : List ℕ
  head = codes "client " ++ client.0

  abbrev CutHere : Lines → Type 0
  CutHere l = ClientsCut (client ∷ all) (head ∷ l)

  -- some of its transactions
  cut_txns : (l : Lines) → TxnsCut client.1.txns l → CutHere l
  cut_txns l c =
      let here : Client = (client.0, record { txns = c.txns }) in
      let few : length c.txns ≤ length client.1.txns = c.few in
      let most : length client.1.txns ≤ 1024 = is.2 in
      let tried : tried_in c.txns ≤ tried_in client.1.txns = c.tried in
      record {
        clients = here ∷ [];
        inside = c.inside;
        are = All-cons IsClient here [] (is.0, c.are, omega arith) (All-nil IsClient);
        few = omega arith;
        tried = omega arith;
        others = client_names all;
        names = refl;
        lines = ap (λ ls. head ∷ ls) (append-nil (txn_lines c.txns) ∙ c.lines);
      }

  -- some further clients
  cut_more : (l : Lines) → ClientsCut all l → CutHere (txn_lines client.1.txns ++ l)
  cut_more l c =
      let few : length c.clients ≤ length all = c.few in
      let tried : tried_by c.clients ≤ tried_by all = c.tried in
      record {
        clients = client ∷ c.clients;
        inside = c.inside;
        are = All-cons IsClient client c.clients is c.are;
        few = omega arith;
        tried = omega arith;
        others = c.others;
        names = ap (λ ls. client.0 ∷ ls) c.names;
        lines = ap (λ ls. head ∷ (txn_lines client.1.txns ++ ls)) c.lines ∙ ap (λ ls. head ∷ ls) (sym (append_assoc (txn_lines client.1.txns) l (ending c.inside)));
      }

pub clients_cut : (all : List Client) → All IsClient all → Fronts (ClientsCut all) (client_lines all)
clients_cut [] are = tt
clients_cut (client ∷ all) are =
    let is = All-head IsClient client all are in (
      no_clients (client ∷ all),
      both (CutHere client all is) (txn_lines client.1.txns) (client_lines all)
          (weaker (TxnsCut client.1.txns) (CutHere client all is) (txn_lines client.1.txns) (cut_txns client all is) (txns_cut client.1.txns is.1))
          (weaker (ClientsCut all) (λ l. CutHere client all is (txn_lines client.1.txns ++ l)) (client_lines all) (cut_more client all is) (clients_cut all (All-tail IsClient client all are))),
    )

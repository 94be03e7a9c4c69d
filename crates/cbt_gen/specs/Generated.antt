-- The script that a number gives.
use Rattle.std.specs.Prelude.{ℕ, ◌+◌, List, [], ◌∷◌, Some, codes}
use Rattle.cbt_expr.specs.declared.plans.ClientPlan.{ClientPlan}
use Rattle.cbt_model.specs.declared.events.Item.{Item}
use Rattle.cbt_model.specs.declared.events.Item.TheVariants.{Calls}
use Rattle.cbt_script.specs.declared.script.Script.{Script}
use Rattle.cbt_gen.specs.Accounts.{accounts_to}
use Rattle.cbt_gen.specs.Draws.{Drawn, stream_of, draw, give, ◌>>=◌, many}
use Rattle.cbt_gen.specs.Names.{client_name}
use Rattle.cbt_gen.specs.Transfers.{transaction}

-- the client with a number, and its transfers between so many accounts
abbrev pub client : ℕ → ℕ → ℕ → Drawn (List ℕ × ClientPlan)
client accounts transfers number = do
  txns ← many transfers (λ i. transaction accounts)
  give (client_name number, record { txns = txns })

-- a few calls of one of so many clients
abbrev pub calls : ℕ → Drawn Item
calls clients = do
  client ← draw clients
  k ← draw 6
  give (Calls (1 + client) (1 + k))

-- two cleaners of four rounds
abbrev pub cleaners : List (List ℕ × ℕ)
cleaners = (codes "k1", 4) ∷ (codes "k2", 4) ∷ []

-- so many clients with so many transfers each between so many accounts; the first client stops on the way
abbrev pub script : ℕ → ℕ → ℕ → Drawn Script
script clients accounts transfers = do
  plans ← many clients (client accounts transfers)
  p ← draw 50
  order ← many 64 (λ i. calls clients)
  give (record {
    atrs = 16;
    expiry = 2000;
    tries = 8;
    lapse = 60000;
    line = Some (1000, 1);
    docs = accounts_to accounts;
    clients = plans;
    cleaners = cleaners;
    stops = (1, 10 + p) ∷ [];
    faults = record { fates = [] };
    order = order;
    sweep = Some 5000;
  })

-- the script of a seed
abbrev pub generated : ℕ → ℕ → ℕ → ℕ → Script
generated seed clients accounts transfers = (script clients accounts transfers (stream_of seed)).0

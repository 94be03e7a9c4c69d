-- The rules that a script keeps which was read, so that its canonical text reads as it.
use Rattle.std.specs.Prelude.{◌≢◌, ℕ, ◌+◌, ◌*◌, ◌≤◌, IsTrue, List, [], ◌∷◌, ◌++◌, length, map, Option, Some, None, codes}
use Rattle.std.specs.List.{All}
use Rattle.std.specs.List.Sorted.{IsStrictlySortedBy}
use Rattle.std.specs.Map.{keys_of}
use Rattle.std.specs.Ordering.{nat_cmp}
use Rattle.cbt_base.specs.Ids.{IsDocId}
use Rattle.cbt_expr.specs.declared.plans.ClientPlan.{ClientPlan}
use Rattle.cbt_expr.specs.declared.plans.Op.{Op}
use Rattle.cbt_expr.specs.declared.plans.Op.TheVariants as op
use Rattle.cbt_expr.specs.declared.plans.TxnPlan.{TxnPlan}
use Rattle.cbt_json.specs.declared.tree.Tree.{Tree, out-Tree}
use Rattle.cbt_json.specs.Rules.{IsJson}
use Rattle.cbt_lex.specs.Lines.{IsOneLine}
use Rattle.cbt_lex.specs.Names.{is_name}
use Rattle.cbt_model.specs.Faults.{call_cmp}
use Rattle.cbt_model.specs.declared.events.Fate.{Fate}
use Rattle.cbt_model.specs.declared.events.Fate.TheVariants.{Plain}
use Rattle.cbt_model.specs.declared.events.Item.{Item}
use Rattle.cbt_model.specs.declared.events.Item.TheVariants as item
use Rattle.cbt_script.specs.declared.script.Script.{Script}
use Rattle.cbt_script.specs.Clients.{bound_by}
use Rattle.cbt_script.specs.Documents.{are_attributes}
use Rattle.cbt_script.specs.Fields.{fits_body}
use Rattle.cbt_script.specs.Operations.{Bound}
use Rattle.cbt_script.specs.Settings.{max_time, max_ms}
use Rattle.cbt_syntax.specs.Bound.{is_bound_in}
use Rattle.cbt_syntax.specs.Rules.{IsExpr, IsCond}
use Rattle.cbt_syntax.specs.Texts.{expr_text, cond_text}

-- ---- numbers and names

abbrev pub IsWithin : ℕ → ℕ → ℕ → Type 0
IsWithin least most n = (least ≤ n) × (n ≤ most)

-- a name that an actor may have
abbrev pub IsActorName : List ℕ → Type 0
IsActorName name = IsTrue (is_name name) × (name ≢ codes "sweep")

-- each stands apart from those behind it
abbrev pub AreDistinct : List (List ℕ) → Type 0
AreDistinct [] = Unit {0}
AreDistinct (x ∷ xs) = All (λ y. x ≢ y) xs × AreDistinct xs

-- ---- documents

-- a body or an attribute object
abbrev pub IsBody : Tree → Type 0
IsBody tree = IsJson tree × IsTrue (fits_body tree)

abbrev pub IsDocument : List ℕ × Tree × Tree → Type 0
IsDocument doc = IsDocId doc.0 × IsBody doc.1 × IsBody doc.2 × IsTrue (are_attributes (out-Tree doc.2))

-- ---- transactions

-- an operation behind gets that have bound these names
abbrev pub IsOperation : Bound → Op → Type 0
IsOperation bound (op.Get id name) = IsDocId id × IsTrue (is_name name)
IsOperation bound (op.Insert id value) = IsDocId id × IsExpr (is_bound_in bound) value × IsOneLine (expr_text value)
IsOperation bound (op.Replace id value) = IsDocId id × IsExpr (is_bound_in bound) value × IsOneLine (expr_text value)
IsOperation bound (op.Remove id) = IsDocId id
IsOperation bound (op.Need cond) = IsCond (is_bound_in bound) cond × IsOneLine (cond_text cond)

abbrev pub AreOperations : Bound → List Op → Type 0
AreOperations bound [] = Unit {0}
AreOperations bound (o ∷ ops) = IsOperation bound o × AreOperations (bound_by o bound) ops

pub record IsPlan (plan : TxnPlan) : Type 0 where
  pub expiry : IsWithin 1 max_time plan.expiry
  pub hold : IsWithin 1 plan.expiry plan.hold
  pub tries : IsWithin 1 16 plan.tries
  pub ops : AreOperations [] plan.ops
  pub ops_few : length plan.ops ≤ 256

-- operations times tries, summed over transactions
abbrev pub tried_in : List TxnPlan → ℕ
tried_in [] = 0
tried_in (plan ∷ plans) = length plan.ops * plan.tries + tried_in plans

abbrev pub tried_by : List (List ℕ × ClientPlan) → ℕ
tried_by [] = 0
tried_by (client ∷ clients) = tried_in client.1.txns + tried_by clients

abbrev pub IsClient : List ℕ × ClientPlan → Type 0
IsClient client = IsActorName client.0 × All IsPlan client.1.txns × (length client.1.txns ≤ 1024)

-- ---- how the run goes

abbrev pub IsCleaner : List ℕ × ℕ → Type 0
IsCleaner cleaner = IsActorName cleaner.0 × IsWithin 1 65536 cleaner.1

-- rounds, summed over cleaners
abbrev pub rounds_of : List (List ℕ × ℕ) → ℕ
rounds_of [] = 0
rounds_of (cleaner ∷ cleaners) = cleaner.1 + rounds_of cleaners

-- the names of the clients and then of the cleaners
abbrev pub actor_names : Script → List (List ℕ)
actor_names s = map (λ c. c.0) s.clients ++ map (λ c. c.0) s.cleaners

-- a number that an actor has
abbrev pub IsActor : Script → ℕ → Type 0
IsActor s n = IsWithin 1 (length (actor_names s)) n

abbrev pub IsStop : Script → ℕ × ℕ → Type 0
IsStop s stop = IsActor s stop.0 × (stop.1 ≤ 1000000)

abbrev pub IsFault : Script → (ℕ × ℕ) × Fate → Type 0
IsFault s fault = IsActor s fault.0.0 × IsWithin 1 1000000 fault.0.1 × (fault.1 ≢ Plain)

abbrev pub IsItem : Script → Item → Type 0
IsItem s (item.Calls actor k) = IsActor s actor × IsWithin 1 1000000 k
IsItem s (item.All actor) = IsActor s actor
IsItem s (item.Ahead ms) = ms ≤ max_ms

abbrev pub IsLine : Option (ℕ × ℕ) → Type 0
IsLine None = Unit {0}
IsLine (Some line) = (line.0 ≤ max_ms) × (line.1 ≤ 1000000)

abbrev pub IsSweep : Option ℕ → Type 0
IsSweep None = Unit {0}
IsSweep (Some ms) = ms ≤ max_ms

-- ---- the whole

pub record IsScript (s : Script) : Type 0 where
  pub atrs : IsWithin 1 1024 s.atrs
  pub expiry : IsWithin 1 max_time s.expiry
  pub tries : IsWithin 1 16 s.tries
  pub lapse : IsWithin 1 max_time s.lapse
  pub line : IsLine s.line
  pub docs : All IsDocument s.docs
  pub docs_few : length s.docs ≤ 65536
  pub docs_distinct : AreDistinct (map (λ d. d.0) s.docs)
  pub clients : All IsClient s.clients
  pub clients_few : length s.clients ≤ 64
  pub tried : tried_by s.clients ≤ 16384
  pub cleaners : All IsCleaner s.cleaners
  pub cleaners_few : length s.cleaners ≤ 16
  pub passes : rounds_of s.cleaners * s.atrs ≤ 65536
  pub actors : AreDistinct (actor_names s)
  pub stops : All (IsStop s) s.stops
  pub stops_rise : IsStrictlySortedBy nat_cmp (keys_of s.stops)
  pub faults : All (IsFault s) s.faults.fates
  pub faults_rise : IsStrictlySortedBy call_cmp (keys_of s.faults.fates)
  pub order : All (IsItem s) s.order
  pub sweep : IsSweep s.sweep

-- The canonical text of a script.
use Rattle.std.specs.Prelude.{ℕ, ◌-◌, Bool, true, false, if◌then◌else◌, List, [], ◌∷◌, ◌++◌, length, slice_get, Option, Some, None, codes, decimal}
use Rattle.cbt_expr.specs.declared.plans.ClientPlan.{ClientPlan}
use Rattle.cbt_expr.specs.declared.plans.Op.{Op}
use Rattle.cbt_expr.specs.declared.plans.Op.TheVariants as op
use Rattle.cbt_expr.specs.declared.plans.TxnPlan.{TxnPlan}
use Rattle.cbt_json.specs.declared.tree.Tree.{Tree, out-Tree}
use Rattle.cbt_json.specs.declared.tree.Tree.TheOpen.{Tree-F}
use Rattle.cbt_json.specs.Trees.{text_of}
use Rattle.cbt_lex.specs.Lines.{lined}
use Rattle.cbt_model.specs.declared.events.Fate.{Fate}
use Rattle.cbt_model.specs.declared.events.Fate.TheVariants.{Plain, Lost, Late}
use Rattle.cbt_model.specs.declared.events.Item.{Item}
use Rattle.cbt_model.specs.declared.events.Item.TheVariants as item
use Rattle.cbt_script.specs.declared.script.Script.{Script}
use Rattle.cbt_syntax.specs.Texts.{expr_text, cond_text}

-- a word, with the space behind it, and a number
abbrev pub labelled : List ℕ → ℕ → List ℕ
labelled word n = word ++ decimal n

-- ---- settings

abbrev pub clock_lines : Option (ℕ × ℕ) → List (List ℕ)
clock_lines None = []
clock_lines (Some line) = (codes "clock " ++ decimal line.0 ++ codes " " ++ decimal line.1) ∷ []

-- the settings, all but the clock line always there
abbrev pub settings_lines : Script → List (List ℕ)
settings_lines s = labelled (codes "atrs ") s.atrs ∷ labelled (codes "expiry ") s.expiry ∷ labelled (codes "tries ") s.tries ∷ labelled (codes "lapse ") s.lapse
    ∷ clock_lines s.line

-- ---- documents

abbrev pub has_no_members : Tree-F Tree → Bool
has_no_members (Tree-F.Object []) = true
has_no_members _ = false

abbrev pub is_empty_object : Tree → Bool
is_empty_object tree = has_no_members (out-Tree tree)

-- a word, an identifier and a JSON
abbrev pub doc_line : List ℕ → List ℕ → Tree → List ℕ
doc_line word id tree = word ++ id ++ codes " " ++ text_of tree

-- the attributes of a document, where there are some
abbrev pub attrs_lines : List ℕ → Tree → List (List ℕ)
attrs_lines id attrs = if is_empty_object attrs then [] else doc_line (codes "attrs ") id attrs ∷ []

abbrev pub doc_lines : List (List ℕ × Tree × Tree) → List (List ℕ)
doc_lines [] = []
doc_lines (doc ∷ docs) = doc_line (codes "doc ") doc.0 doc.1 ∷ (attrs_lines doc.0 doc.2 ++ doc_lines docs)

-- ---- clients

abbrev pub op_line : Op → List ℕ
op_line (op.Get id name) = codes "get " ++ id ++ codes " as " ++ name
op_line (op.Insert id value) = codes "insert " ++ id ++ codes " " ++ expr_text value
op_line (op.Replace id value) = codes "replace " ++ id ++ codes " " ++ expr_text value
op_line (op.Remove id) = codes "remove " ++ id
op_line (op.Need cond) = codes "need " ++ cond_text cond

abbrev pub op_lines : List Op → List (List ℕ)
op_lines [] = []
op_lines (o ∷ ops) = op_line o ∷ op_lines ops

abbrev pub begin_line : TxnPlan → List ℕ
begin_line plan = labelled (codes "begin expiry ") plan.expiry ++ labelled (codes " hold ") plan.hold ++ labelled (codes " tries ") plan.tries

abbrev pub end_line : Bool → List ℕ
end_line true = codes "commit"
end_line false = codes "rollback"

abbrev pub plan_lines : TxnPlan → List (List ℕ)
plan_lines plan = begin_line plan ∷ (op_lines plan.ops ++ end_line plan.keep ∷ [])

abbrev pub txn_lines : List TxnPlan → List (List ℕ)
txn_lines [] = []
txn_lines (plan ∷ plans) = plan_lines plan ++ txn_lines plans

abbrev pub client_lines : List (List ℕ × ClientPlan) → List (List ℕ)
client_lines [] = []
client_lines (client ∷ clients) = (codes "client " ++ client.0) ∷ (txn_lines client.1.txns ++ client_lines clients)

-- ---- how the run goes

abbrev pub cleaner_lines : List (List ℕ × ℕ) → List (List ℕ)
cleaner_lines [] = []
cleaner_lines (cleaner ∷ cleaners) = (codes "cleaner " ++ cleaner.0 ++ codes " " ++ decimal cleaner.1) ∷ cleaner_lines cleaners

abbrev pub named : Option (List ℕ × ClientPlan) → Option (List ℕ × ℕ) → List ℕ
named (Some client) cleaner = client.0
named None (Some cleaner) = cleaner.0
named None None = []

-- the name of the actor with this number, from 1: the clients, and then the cleaners
abbrev pub name_of : Script → ℕ → List ℕ
name_of s n = named (slice_get s.clients (n - 1)) (slice_get s.cleaners (n - 1 - length s.clients))

-- a word, with the space behind it, an actor and a call
abbrev pub fault_line : List ℕ → Script → ℕ → ℕ → List ℕ
fault_line word s actor call = word ++ name_of s actor ++ codes " " ++ decimal call

abbrev pub stop_lines : Script → List (ℕ × ℕ) → List (List ℕ)
stop_lines s [] = []
stop_lines s (stop ∷ stops) = fault_line (codes "stop ") s stop.0 stop.1 ∷ stop_lines s stops

-- whether a fate is Lost or Late, as another is
abbrev pub is_fate : Fate → Fate → Bool
is_fate Plain Plain = true
is_fate Lost Lost = true
is_fate Late Late = true
is_fate _ _ = false

abbrev pub fate_word : Fate → List ℕ
fate_word Late = codes "late "
fate_word _ = codes "lost "

-- the faults with this fate, by actor and call
abbrev pub fault_lines : Fate → Script → List ((ℕ × ℕ) × Fate) → List (List ℕ)
fault_lines wanted s [] = []
fault_lines wanted s (fault ∷ faults) =
    if is_fate fault.1 wanted then fault_line (fate_word wanted) s fault.0.0 fault.0.1 ∷ fault_lines wanted s faults else fault_lines wanted s faults

abbrev pub item_text : Script → Item → List ℕ
item_text s (item.Calls actor k) = name_of s actor ++ codes "*" ++ decimal k
item_text s (item.All actor) = name_of s actor ++ codes "*"
item_text s (item.Ahead ms) = codes "+" ++ decimal ms

-- each item behind a space
abbrev pub items_text : Script → List Item → List ℕ
items_text s [] = []
items_text s (i ∷ items) = codes " " ++ item_text s i ++ items_text s items

-- the order, where it has items
abbrev pub order_lines : Script → List Item → List (List ℕ)
order_lines s [] = []
order_lines s (i ∷ items) = (codes "order" ++ items_text s (i ∷ items)) ∷ []

abbrev pub sweep_lines : Option ℕ → List (List ℕ)
sweep_lines None = []
sweep_lines (Some ms) = labelled (codes "sweep ") ms ∷ []

-- ---- the whole

abbrev pub script_lines : Script → List (List ℕ)
script_lines s = settings_lines s ++ doc_lines s.docs ++ client_lines s.clients ++ cleaner_lines s.cleaners
    ++ stop_lines s s.stops ++ fault_lines Lost s s.faults.fates ++ fault_lines Late s s.faults.fates ++ order_lines s s.order ++ sweep_lines s.sweep

-- the canonical text of a script
unfoldable pub script_text : Script → List ℕ
script_text s = lined (script_lines s)

-- Each line of a script's canonical text is read as it is written.
use Rattle.std.proofs.Common.{◌≡◌, ℕ, ◌^◌, ◌<◌, ◌≤◌, Bool, true, false, cond, ltb, List, [], ◌∷◌, ◌++◌, Option, Some, None, decimal, codes, ◌≢◌, refl, arith, append-nil}
use Rattle.std.specs.List.{All, AllByRecursion, list_all}
use Rattle.std.proofs.lemmas.Bool.{ltb-true}
use Rattle.std.proofs.lemmas.List.Elements.{recursion_from_All, All-head, All-tail}
use Rattle.cbt_base.specs.Ids.{IsDocId}
use Rattle.cbt_expr.specs.declared.plans.Op.{Op}
use Rattle.cbt_expr.specs.declared.plans.Op.TheVariants as op
use Rattle.cbt_expr.specs.declared.plans.TxnPlan.{TxnPlan}
use Rattle.cbt_json.specs.declared.tree.Tree.{Tree}
use Rattle.cbt_json.specs.Rules.{IsJson}
use Rattle.cbt_json.specs.Trees.{text_of}
use Rattle.cbt_lex.proofs.ByRecursion.{all_weaker, all_behind, all_pass}
use Rattle.cbt_lex.proofs.DecimalsBack.{decimal_word}
use Rattle.cbt_lex.proofs.LinesBack.{Closes, closes_behind, closes_same, NoFeed, IsPrinted}
use Rattle.cbt_lex.proofs.NamesBack.{name_word}
use Rattle.cbt_lex.proofs.WordsBack.{IsWord, closes_word, one_line_word}
use Rattle.cbt_model.specs.declared.events.Fate.{Fate}
use Rattle.cbt_model.specs.declared.events.Fate.TheVariants.{Plain, Lost, Late}
use Rattle.cbt_model.specs.declared.events.Item.{Item}
use Rattle.cbt_script.specs.declared.script.Script.{Script}
use Rattle.cbt_script.specs.Clients.{bound_by}
use Rattle.cbt_script.specs.Operations.{Bound}
use Rattle.cbt_script.specs.Printed.{clock_lines, settings_lines, is_empty_object, doc_line, attrs_lines, doc_lines, op_line, op_lines, begin_line, end_line, plan_lines, txn_lines, client_lines, cleaner_lines, name_of, fault_line, stop_lines, is_fate, fate_word, fault_lines, item_text, items_text, order_lines, sweep_lines, script_lines}
use Rattle.cbt_script.specs.Rules.{IsActorName, IsDocument, IsOperation, AreOperations, IsPlan, IsClient, IsCleaner, IsActor, IsStop, IsFault, IsItem, IsLine, IsSweep, IsScript}
use Rattle.cbt_script.specs.Settings.{max_time, max_ms}
use Rattle.cbt_syntax.specs.Bound.{is_bound_in}
use Rattle.cbt_syntax.specs.Texts.{expr_text, cond_text}
use Rattle.cbt_script.proofs.ExprsBack.{expr_edged, cond_edged}
use Rattle.cbt_script.proofs.OperationsBack.{Client}
use Rattle.cbt_script.proofs.OrderBack.{item_word}
use Rattle.cbt_script.proofs.RunBack.{names_fine, numbers_fine, the_actors}
use Rattle.cbt_script.proofs.TextsBack.{json_edged, json_one_line}
use Rattle.cbt_script.proofs.IdsBack.{id_word}

-- ---- texts with no line feed

joined_line : (a b : List ℕ) → NoFeed a → NoFeed b → NoFeed (a ++ b)
joined_line a b one two = all_behind (λ (x : ℕ). x ≡ 10 → ⊥) a b one two

literal_line : (text : List ℕ) → list_all (ltb 10) text ≡ true → NoFeed text
literal_line text is = all_weaker (λ b above same. (let up : 10 < b = ltb-true 10 b above in omega arith)) text (all_pass (ltb 10) text is)

decimal_line : (n : ℕ) → n < 2 ^ 64 → NoFeed (decimal n)
decimal_line n below = one_line_word (decimal n) (decimal_word n below)

decimal_closes : (n : ℕ) → n < 2 ^ 64 → Closes (decimal n)
decimal_closes n below = closes_word (decimal n) (decimal_word n below)

-- ---- lines

-- a literal that does not begin with a space, and a text behind it
line_of : (b : ℕ) (bs rest : List ℕ) → ltb 32 b ≡ true → list_all (ltb 10) (b ∷ bs) ≡ true → Closes rest → NoFeed rest → IsPrinted (b ∷ bs ++ rest)
line_of b bs rest above literal closes one = (
  (λ same. (let up : 32 < b = ltb-true 32 b above in omega arith)),
  closes_behind (b ∷ bs) rest closes,
  joined_line (b ∷ bs) rest (literal_line (b ∷ bs) literal) one,
)

abbrev Printed : List (List ℕ) → Type 0
Printed lines = AllByRecursion IsPrinted lines

-- two texts and what parts them
three : (a mid c : List ℕ) → NoFeed a → list_all (ltb 10) mid ≡ true → NoFeed c → NoFeed (a ++ mid ++ c)
three a mid c one literal two = joined_line (a ++ mid) c (joined_line a mid one (literal_line mid literal)) two

-- ---- settings

clock_printed : (line : Option (ℕ × ℕ)) → IsLine line → Printed (clock_lines line)
clock_printed None is = tt
clock_printed (Some line) is =
    let high : line.0 ≤ max_ms = is.0 in
    let small : line.1 ≤ 1000000 = is.1 in
    let first : line.0 < 2 ^ 64 = omega arith in
    let second : line.1 < 2 ^ 64 = omega arith in (
      line_of 99 (codes "lock ") (decimal line.0 ++ codes " " ++ decimal line.1) refl refl (closes_behind (decimal line.0 ++ codes " ") (decimal line.1) (decimal_closes line.1 second))
          (three (decimal line.0) (codes " ") (decimal line.1) (decimal_line line.0 first) refl (decimal_line line.1 second)),
      tt,
    )

settings_printed : (s : Script) → IsScript s → Printed (settings_lines s)
settings_printed s is =
    let a : s.atrs ≤ 1024 = is.atrs.1 in
    let e : s.expiry ≤ max_time = is.expiry.1 in
    let t : s.tries ≤ 16 = is.tries.1 in
    let l : s.lapse ≤ max_time = is.lapse.1 in
    let ab : s.atrs < 2 ^ 64 = omega arith in
    let eb : s.expiry < 2 ^ 64 = omega arith in
    let tb : s.tries < 2 ^ 64 = omega arith in
    let lb : s.lapse < 2 ^ 64 = omega arith in (
      line_of 97 (codes "trs ") (decimal s.atrs) refl refl (decimal_closes s.atrs ab) (decimal_line s.atrs ab),
      (
        line_of 101 (codes "xpiry ") (decimal s.expiry) refl refl (decimal_closes s.expiry eb) (decimal_line s.expiry eb),
        (
          line_of 116 (codes "ries ") (decimal s.tries) refl refl (decimal_closes s.tries tb) (decimal_line s.tries tb),
          (line_of 108 (codes "apse ") (decimal s.lapse) refl refl (decimal_closes s.lapse lb) (decimal_line s.lapse lb), clock_printed s.line is.line),
        ),
      ),
    )

-- ---- documents

-- an identifier and a text behind it
id_and : (id text : List ℕ) → IsDocId id → NoFeed text → NoFeed (id ++ codes " " ++ text)
id_and id text fit one = three id (codes " ") text (one_line_word id (id_word id fit)) refl one

attrs_printed_if : (e : Bool) (id : List ℕ) (t : Tree) → IsDocId id → IsJson t → Printed (cond e [] (doc_line (codes "attrs ") id t ∷ []))
attrs_printed_if true id t fit is = tt
attrs_printed_if false id t fit is =
    (line_of 97 (codes "ttrs ") (id ++ codes " " ++ text_of t) refl refl (closes_behind (id ++ codes " ") (text_of t) (json_edged t is).closes) (id_and id (text_of t) fit (json_one_line t is)), tt)

docs_printed : (docs : List (List ℕ × Tree × Tree)) → All IsDocument docs → Printed (doc_lines docs)
docs_printed [] all = tt
docs_printed (doc ∷ docs) all =
    let is = All-head IsDocument doc docs all in (
      line_of 100 (codes "oc ") (doc.0 ++ codes " " ++ text_of doc.1) refl refl (closes_behind (doc.0 ++ codes " ") (text_of doc.1) (json_edged doc.1 is.1.0).closes)
          (id_and doc.0 (text_of doc.1) is.0 (json_one_line doc.1 is.1.0)),
      all_behind IsPrinted (attrs_lines doc.0 doc.2) (doc_lines docs) (attrs_printed_if (is_empty_object doc.2) doc.0 doc.2 is.0 is.2.0) (docs_printed docs (All-tail IsDocument doc docs all)),
    )

-- ---- clients

op_printed : (bound : Bound) (o : Op) → IsOperation bound o → IsPrinted (op_line o)
op_printed bound (op.Get id name) is =
    let word = name_word name is.1 in
    line_of 103 (codes "et ") (id ++ codes " as " ++ name) refl refl (closes_behind (id ++ codes " as ") name (closes_word name word))
    (three id (codes " as ") name (one_line_word id (id_word id is.0)) refl (one_line_word name word))
op_printed bound (op.Insert id value) is =
    line_of 105 (codes "nsert ") (id ++ codes " " ++ expr_text value) refl refl (closes_behind (id ++ codes " ") (expr_text value) (expr_edged (is_bound_in bound) value is.1).closes)
    (id_and id (expr_text value) is.0 (recursion_from_All (λ b. b ≢ 10) (expr_text value) is.2))
op_printed bound (op.Replace id value) is =
    line_of 114 (codes "eplace ") (id ++ codes " " ++ expr_text value) refl refl (closes_behind (id ++ codes " ") (expr_text value) (expr_edged (is_bound_in bound) value is.1).closes)
    (id_and id (expr_text value) is.0 (recursion_from_All (λ b. b ≢ 10) (expr_text value) is.2))
op_printed bound (op.Remove id) is = let word = id_word id is in line_of 114 (codes "emove ") id refl refl (closes_word id word) (one_line_word id word)
op_printed bound (op.Need c) is = line_of 110 (codes "eed ") (cond_text c) refl refl (cond_edged (is_bound_in bound) c is.0).closes (recursion_from_All (λ b. b ≢ 10) (cond_text c) is.1)

ops_printed : (bound : Bound) (ops : List Op) → AreOperations bound ops → Printed (op_lines ops)
ops_printed bound [] are = tt
ops_printed bound (o ∷ ops) are = (op_printed bound o are.0, ops_printed (bound_by o bound) ops are.1)

begin_printed : (plan : TxnPlan) → IsPlan plan → IsPrinted (begin_line plan)
begin_printed plan is =
    let e1 : plan.expiry ≤ max_time = is.expiry.1 in
    let h1 : plan.hold ≤ plan.expiry = is.hold.1 in
    let t1 : plan.tries ≤ 16 = is.tries.1 in
    let eb : plan.expiry < 2 ^ 64 = omega arith in
    let hb : plan.hold < 2 ^ 64 = omega arith in
    let tb : plan.tries < 2 ^ 64 = omega arith in
    let e = decimal plan.expiry in
    let h = codes " hold " ++ decimal plan.hold in
    let t = codes " tries " ++ decimal plan.tries in
    line_of 98 (codes "egin expiry ") (e ++ h ++ t) refl refl (closes_behind (e ++ h) t (closes_behind (codes " tries ") (decimal plan.tries) (decimal_closes plan.tries tb)))
    (joined_line (e ++ h) t (joined_line e h (decimal_line plan.expiry eb) (joined_line (codes " hold ") (decimal plan.hold) (literal_line (codes " hold ") refl) (decimal_line plan.hold hb)))
    (joined_line (codes " tries ") (decimal plan.tries) (literal_line (codes " tries ") refl) (decimal_line plan.tries tb)))

end_printed : (keep : Bool) → IsPrinted (end_line keep)
end_printed true = line_of 99 (codes "ommi") (codes "t") refl refl (closes_word (codes "t") (record { some = omega arith; solid = (omega arith, tt) })) (literal_line (codes "t") refl)
end_printed false = line_of 114 (codes "ollbac") (codes "k") refl refl (closes_word (codes "k") (record { some = omega arith; solid = (omega arith, tt) })) (literal_line (codes "k") refl)

txns_printed : (plans : List TxnPlan) → All IsPlan plans → Printed (txn_lines plans)
txns_printed [] all = tt
txns_printed (plan ∷ plans) all =
    let is = All-head IsPlan plan plans all in
    all_behind IsPrinted (plan_lines plan) (txn_lines plans) (begin_printed plan is, all_behind IsPrinted (op_lines plan.ops) (end_line plan.keep ∷ []) (ops_printed [] plan.ops is.ops) (end_printed plan.keep, tt))
    (txns_printed plans (All-tail IsPlan plan plans all))

clients_printed : (clients : List Client) → All IsClient clients → Printed (client_lines clients)
clients_printed [] all = tt
clients_printed (client ∷ clients) all =
    let is = All-head IsClient client clients all in
    let word = name_word client.0 is.0.0 in (
      line_of 99 (codes "lient ") client.0 refl refl (closes_word client.0 word) (one_line_word client.0 word),
      all_behind IsPrinted (txn_lines client.1.txns) (client_lines clients) (txns_printed client.1.txns is.1) (clients_printed clients (All-tail IsClient client clients all)),
    )

-- ---- how the run goes

-- a name and a number behind it
name_and : (name : List ℕ) (n : ℕ) → IsActorName name → n < 2 ^ 64 → NoFeed (name ++ codes " " ++ decimal n)
name_and name n named below = three name (codes " ") (decimal n) (one_line_word name (name_word name named.0)) refl (decimal_line n below)

cleaners_printed : (cleaners : List (List ℕ × ℕ)) → All IsCleaner cleaners → Printed (cleaner_lines cleaners)
cleaners_printed [] all = tt
cleaners_printed (cleaner ∷ cleaners) all =
    let is = All-head IsCleaner cleaner cleaners all in
    let high : cleaner.1 ≤ 65536 = is.1.1 in
    let below : cleaner.1 < 2 ^ 64 = omega arith in (
      line_of 99 (codes "leaner ") (cleaner.0 ++ codes " " ++ decimal cleaner.1) refl refl (closes_behind (cleaner.0 ++ codes " ") (decimal cleaner.1) (decimal_closes cleaner.1 below)) (name_and cleaner.0 cleaner.1 is.0 below),
      cleaners_printed cleaners (All-tail IsCleaner cleaner cleaners all),
    )

module _ (s : Script) (fine : IsScript s) where
  -- a line of a stop or of a failing call
  fault_printed : (b : ℕ) (bs : List ℕ) (actor call : ℕ) → ltb 32 b ≡ true → list_all (ltb 10) (b ∷ bs) ≡ true → IsActor s actor → call ≤ 1000000 → IsPrinted (b ∷ bs ++ (name_of s actor ++ codes " " ++ decimal call))
  fault_printed b bs actor call above literal is high =
      let below : call < 2 ^ 64 = omega arith in
      line_of b bs (name_of s actor ++ codes " " ++ decimal call) above literal (closes_behind (name_of s actor ++ codes " ") (decimal call) (decimal_closes call below))
      (name_and (name_of s actor) call (names_fine s fine actor is) below)

  stops_printed : (stops : List (ℕ × ℕ)) → All (IsStop s) stops → Printed (stop_lines s stops)
  stops_printed [] all = tt
  stops_printed (stop ∷ stops) all =
      let is = All-head (IsStop s) stop stops all in
      (fault_printed 115 (codes "top ") stop.0 stop.1 refl refl is.0 is.1, stops_printed stops (All-tail (IsStop s) stop stops all))

  fate_if : (t : Bool) (wanted which : Fate) (key : ℕ × ℕ) (rest : List (List ℕ)) → IsFault s (key, which) → Printed rest → Printed (cond t (fault_line (fate_word wanted) s key.0 key.1 ∷ rest) rest)
  fate_if false wanted which key rest is more = more
  fate_if true Late which key rest is more = (fault_printed 108 (codes "ate ") key.0 key.1 refl refl is.0 is.1.1, more)
  fate_if true Lost which key rest is more = (fault_printed 108 (codes "ost ") key.0 key.1 refl refl is.0 is.1.1, more)
  fate_if true Plain which key rest is more = (fault_printed 108 (codes "ost ") key.0 key.1 refl refl is.0 is.1.1, more)

  fates_printed : (wanted : Fate) (fates : List ((ℕ × ℕ) × Fate)) → All (IsFault s) fates → Printed (fault_lines wanted s fates)
  fates_printed wanted [] all = tt
  fates_printed wanted (fault ∷ fates) all =
      fate_if (is_fate fault.1 wanted) wanted fault.1 fault.0 (fault_lines wanted s fates) (All-head (IsFault s) fault fates all) (fates_printed wanted fates (All-tail (IsFault s) fault fates all))

  the_word : (i : Item) → IsItem s i → IsWord (item_text s i)
  the_word i is = item_word s (the_actors s fine) (names_fine s fine) (numbers_fine s fine) i is

  items_line : (items : List Item) → All (IsItem s) items → NoFeed (items_text s items)
  items_line [] all = tt
  items_line (i ∷ items) all =
      ((λ same. omega arith), joined_line (item_text s i) (items_text s items) (one_line_word (item_text s i) (the_word i (All-head (IsItem s) i items all))) (items_line items (All-tail (IsItem s) i items all)))

  items_close : (i : Item) (items : List Item) → All (IsItem s) (i ∷ items) → Closes (items_text s (i ∷ items))
  items_close i [] all =
      closes_behind (32 ∷ []) (item_text s i ++ []) (closes_same (item_text s i ++ []) (item_text s i) (append-nil (item_text s i)) (closes_word (item_text s i) (the_word i (All-head (IsItem s) i [] all))))
  items_close i (j ∷ items) all =
      closes_behind (32 ∷ item_text s i) (items_text s (j ∷ items)) (items_close j items (All-tail (IsItem s) i (j ∷ items) all))

  order_printed : (order : List Item) → All (IsItem s) order → Printed (order_lines s order)
  order_printed [] all = tt
  order_printed (i ∷ order) all = (line_of 111 (codes "rder") (items_text s (i ∷ order)) refl refl (items_close i order all) (items_line (i ∷ order) all), tt)

  sweep_printed : (sweep : Option ℕ) → IsSweep sweep → Printed (sweep_lines sweep)
  sweep_printed None is = tt
  sweep_printed (Some ms) is =
      let high : ms ≤ max_ms = is in
      let below : ms < 2 ^ 64 = omega arith in
      (line_of 115 (codes "weep ") (decimal ms) refl refl (decimal_closes ms below) (decimal_line ms below), tt)

  pub lines_printed : AllByRecursion IsPrinted (script_lines s)
  lines_printed =
      let a = settings_lines s in
      let b = doc_lines s.docs in
      let c = client_lines s.clients in
      let d = cleaner_lines s.cleaners in
      let e = stop_lines s s.stops in
      let f = fault_lines Lost s s.faults.fates in
      let g = fault_lines Late s s.faults.fates in
      let h = order_lines s s.order in
      all_behind IsPrinted (a ++ b ++ c ++ d ++ e ++ f ++ g ++ h) (sweep_lines s.sweep)
      (all_behind IsPrinted (a ++ b ++ c ++ d ++ e ++ f ++ g) h
      (all_behind IsPrinted (a ++ b ++ c ++ d ++ e ++ f) g
      (all_behind IsPrinted (a ++ b ++ c ++ d ++ e) f
      (all_behind IsPrinted (a ++ b ++ c ++ d) e
      (all_behind IsPrinted (a ++ b ++ c) d
      (all_behind IsPrinted (a ++ b) c
      (all_behind IsPrinted a b (settings_printed s fine) (docs_printed s.docs fine.docs)) (clients_printed s.clients fine.clients)) (cleaners_printed s.cleaners fine.cleaners))
      (stops_printed s.stops fine.stops)) (fates_printed Lost s.faults.fates fine.faults)) (fates_printed Late s.faults.fates fine.faults)) (order_printed s.order fine.order))
      (sweep_printed s.sweep fine.sweep)

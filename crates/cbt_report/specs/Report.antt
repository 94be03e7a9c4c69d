-- The report on a run, as a function of its script and its book.
use Rattle.std.specs.Prelude.{ℕ, ◌+◌, Bool, false, List, [], ◌∷◌, ◌++◌, length, Option, Some, None, codes, decimal, count_by, is_some, is_none}
use Rattle.cbt_book.specs.declared.book.Book.{Book}
use Rattle.cbt_book.specs.declared.clients.ClientLog.{ClientLog}
use Rattle.cbt_book.specs.declared.clients.TxnEnd.{TxnEnd}
use Rattle.cbt_book.specs.declared.clients.TxnLog.{TxnLog}
use Rattle.cbt_expr.specs.declared.plans.ClientPlan.{ClientPlan}
use Rattle.cbt_json.specs.declared.tree.Tree.{Tree}
use Rattle.cbt_json.specs.Trees.{text_of}
use Rattle.cbt_model.specs.History.{after, commits_below}
use Rattle.cbt_model.specs.Keys.{entry_at}
use Rattle.cbt_model.specs.View.{view}
use Rattle.cbt_model.specs.declared.documents.DocState.{DocState}
use Rattle.cbt_model.specs.declared.documents.Stage.{Stage}
use Rattle.cbt_model.specs.declared.states.State.{State}
use Rattle.cbt_report.specs.Cleaners.{cleaner_lines}
use Rattle.cbt_report.specs.Lines.{number_line}
use Rattle.cbt_report.specs.Outcomes.{outcome_text}
use Rattle.cbt_script.specs.declared.script.Script.{Script}

-- the i-th transaction of a client with its outcome
abbrev pub txn_line : List ℕ → ℕ → TxnEnd → List ℕ
txn_line name i end = codes "txn " ++ name ++ codes " " ++ decimal i ++ codes " " ++ outcome_text end ++ codes "\n"

-- a client's transactions from the i-th on, each with its outcome
abbrev pub txn_lines : List ℕ → ℕ → List TxnLog → List ℕ
txn_lines name i [] = []
txn_lines name i (t ∷ ts) = txn_line name i t.end ++ txn_lines name (i + 1) ts

-- the transactions of the clients, which stand by name in the same order as their logs
abbrev pub client_lines : List (List ℕ × ClientPlan) → List ClientLog → List ℕ
client_lines (c ∷ cs) (l ∷ ls) = txn_lines c.0 1 l.txns ++ client_lines cs ls
client_lines _ _ = []

-- a document with what it resolves to, where there is something
abbrev pub doc_line : List ℕ → Option Tree → List ℕ
doc_line id None = []
doc_line id (Some body) = codes "doc " ++ id ++ codes " " ++ text_of body ++ codes "\n"

abbrev pub doc_lines : State → List (List ℕ × DocState) → List ℕ
doc_lines s [] = []
doc_lines s (d ∷ ds) = doc_line d.0 (view s d.0) ++ doc_lines s ds

-- a document is staged by an attempt whose entry is there
abbrev pub is_held : State → Option Stage → Bool
is_held s None = false
is_held s (Some stage) = is_some (entry_at s (stage.atr, stage.attempt))

-- a document is staged by an attempt without an entry
abbrev pub is_dead : State → Option Stage → Bool
is_dead s None = false
is_dead s (Some stage) = is_none (entry_at s (stage.atr, stage.attempt))

-- how many documents are staged so
abbrev pub staged_count : State → List (List ℕ × DocState) → ℕ
staged_count s docs = count_by (λ d. is_held s d.1.stage) docs

abbrev pub dead_count : State → List (List ℕ × DocState) → ℕ
dead_count s docs = count_by (λ d. is_dead s d.1.stage) docs

-- the lines on what is not settled at the end
abbrev pub count_lines : State → List ℕ
count_lines s =
    number_line (codes "staged") (staged_count s s.docs)
    ++ number_line (codes "dead") (dead_count s s.docs)
    ++ number_line (codes "entries") (length s.entries)

-- the lines on the state at the end
abbrev pub state_lines : State → List ℕ
state_lines s = doc_lines s s.docs ++ count_lines s

-- the report of a run
abbrev pub report_text : Script → Book → List ℕ
report_text script book =
    number_line (codes "history") (length book.kept.history)
    ++ number_line (codes "committed") (length (commits_below book.kept.opening book.kept.history (length book.kept.history)))
    ++ client_lines script.clients book.clients
    ++ cleaner_lines script.cleaners book.cleaners
    ++ state_lines (after book.kept.opening book.kept.history (length book.kept.history))

-- The summary of a run: the counts of its report, and the sum of what the documents hold.
use Rattle.std.specs.Prelude.{ℕ, suc, ◌-◌, nat_le, ℤ, pos, negsuc, if◌then◌else◌, List, [], ◌∷◌, ◌++◌, length, Option, Some, None, sum_by, codes, decimal, bytes_eq}
use Rattle.cbt_base.specs.Clock.{held}
use Rattle.cbt_book.specs.declared.book.Book.{Book}
use Rattle.cbt_json.specs.declared.tree.Tree.{Tree, out-Tree}
use Rattle.cbt_json.specs.declared.tree.Tree.TheOpen.{Tree-F}
use Rattle.cbt_model.specs.History.{after, commits_below}
use Rattle.cbt_model.specs.View.{view}
use Rattle.cbt_model.specs.declared.documents.DocState.{DocState}
use Rattle.cbt_model.specs.declared.states.State.{State}
use Rattle.cbt_report.specs.Lines.{number_line}
use Rattle.cbt_report.specs.Report.{count_lines}

-- a whole number; any other value counts for nothing
abbrev pub whole_in : Tree-F Tree → ℤ
whole_in (Tree-F.Whole z) = z
whole_in _ = pos 0

-- the member `n` of an object
abbrev pub member_n : List (List ℕ × Tree) → ℤ
member_n [] = pos 0
member_n (m ∷ ms) = if bytes_eq m.0 (codes "n") then whole_in (out-Tree m.1) else member_n ms

-- the amount that a body holds
abbrev pub amount_in : Tree-F Tree → ℤ
amount_in (Tree-F.Object members) = member_n members
amount_in _ = pos 0

abbrev pub amount_of : Option Tree → ℤ
amount_of None = pos 0
amount_of (Some body) = amount_in (out-Tree body)

-- how far an amount lies above zero, and how far below
abbrev pub gain : ℤ → ℕ
gain (pos n) = n
gain (negsuc n) = 0

abbrev pub debt : ℤ → ℕ
debt (pos n) = 0
debt (negsuc n) = suc n

-- the sums of these over what documents resolve to, each held at the largest number of 64 bits
abbrev pub gains : State → List (List ℕ × DocState) → ℕ
gains s docs = held (sum_by (λ d. gain (amount_of (view s d.0))) docs)

abbrev pub debts : State → List (List ℕ × DocState) → ℕ
debts s docs = held (sum_by (λ d. debt (amount_of (view s d.0))) docs)

-- what gains are without debts, with its sign
abbrev pub balance : ℕ → ℕ → List ℕ
balance above below = if nat_le below above then decimal (above - below) else codes "-" ++ decimal (below - above)

abbrev pub total_line : ℕ → ℕ → List ℕ
total_line above below = codes "total " ++ balance above below ++ codes "\n"

-- the lines on the state at the end, and on the sum of what its documents hold
abbrev pub summed_lines : State → List ℕ
summed_lines s = count_lines s ++ total_line (gains s s.docs) (debts s s.docs)

-- the summary of a run
abbrev pub summary_text : Book → List ℕ
summary_text book =
    number_line (codes "history") (length book.kept.history)
    ++ number_line (codes "committed") (length (commits_below book.kept.opening book.kept.history (length book.kept.history)))
    ++ summed_lines (after book.kept.opening book.kept.history (length book.kept.history))

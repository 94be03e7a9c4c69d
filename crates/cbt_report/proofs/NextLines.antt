-- Lists of lines, one line at a time.
use Rattle.std.proofs.Common.{◌≡◌, ℕ, zero, suc, ◌+◌, ◌<◌, ◌≤◌, min, List, [], ◌∷◌, ◌++◌, append_assoc, length, get_or, drop, codes, refl, sym, ap, ◌∙◌, arith}
use Rattle.std.proofs.lemmas.List.{append-nil, drop_all}
use Rattle.cbt_book.specs.declared.cleaners.CleanerLog.{CleanerLog}
use Rattle.cbt_book.specs.declared.clients.ClientLog.{ClientLog}
use Rattle.cbt_book.specs.declared.clients.TxnLog.{TxnLog}
use Rattle.cbt_expr.specs.declared.plans.ClientPlan.{ClientPlan}
use Rattle.cbt_report.specs.Cleaners.{cleaner_line, cleaner_lines, name_at}
use Rattle.cbt_report.specs.Report.{txn_line, txn_lines, client_lines}

-- the next of a client's transactions
pub txn_lines-next : (name : List ℕ) (i k : ℕ) (ts : List TxnLog) (t : TxnLog) → k < length ts → t ≡ get_or ts k t
    → txn_lines name i (drop k ts) ≡ txn_line name i t.end ++ txn_lines name (i + 1) (drop (suc k) ts)
txn_lines-next name i k [] t low is = absurd (omega arith)
txn_lines-next name i zero (x ∷ ts) t low is = ap (λ y. txn_line name i y.end ++ txn_lines name (i + 1) ts) (sym is)
txn_lines-next name i (suc k) (x ∷ ts) t low is = txn_lines-next name i k ts t (omega arith) is

-- the next client
pub client_lines-next : (k : ℕ) (cs : List (List ℕ × ClientPlan)) (ls : List ClientLog) (c : List ℕ × ClientPlan) (l : ClientLog) → k < length cs → k < length ls
    → c ≡ get_or cs k c → l ≡ get_or ls k l
    → client_lines (drop k cs) (drop k ls) ≡ txn_lines c.0 1 l.txns ++ client_lines (drop (suc k) cs) (drop (suc k) ls)
client_lines-next k [] ls c l low low2 is is2 = absurd (omega arith)
client_lines-next k (x ∷ cs) [] c l low low2 is is2 = absurd (omega arith)
client_lines-next zero (x ∷ cs) (y ∷ ls) c l low low2 is is2 =
    ap (λ z. txn_lines z.0 1 y.txns ++ client_lines cs ls) (sym is) ∙ ap (λ z. txn_lines c.0 1 z.txns ++ client_lines cs ls) (sym is2)
client_lines-next (suc k) (x ∷ cs) (y ∷ ls) c l low low2 is is2 = client_lines-next k cs ls c l (omega arith) (omega arith) is is2

none-left : (ls : List ClientLog) → client_lines [] ls ≡ []
none-left [] = refl
none-left (y ∷ ls) = refl

none-right : (cs : List (List ℕ × ClientPlan)) → client_lines cs [] ≡ []
none-right [] = refl
none-right (x ∷ cs) = refl

-- past the last client or the last log there is none
pub client_lines-end : (k : ℕ) (cs : List (List ℕ × ClientPlan)) (ls : List ClientLog) → min (length cs) (length ls) ≤ k → client_lines (drop k cs) (drop k ls) ≡ []
client_lines-end zero [] ls high = none-left ls
client_lines-end (suc k) [] ls high = none-left (drop (suc k) ls)
client_lines-end zero (x ∷ cs) [] high = refl
client_lines-end (suc k) (x ∷ cs) [] high = none-right (drop k cs)
client_lines-end zero (x ∷ cs) (y ∷ ls) high = absurd (omega arith)
client_lines-end (suc k) (x ∷ cs) (y ∷ ls) high = client_lines-end k cs ls (omega arith)

-- the next cleaner
pub cleaner_lines-next : (k : ℕ) (cs : List (List ℕ × ℕ)) (ls : List CleanerLog) (l : CleanerLog) → k < length ls → l ≡ get_or ls k l
    → cleaner_lines (drop k cs) (drop k ls) ≡ cleaner_line (name_at cs k) l ++ cleaner_lines (drop (suc k) cs) (drop (suc k) ls)
cleaner_lines-next k cs [] l low is = absurd (omega arith)
cleaner_lines-next zero [] (y ∷ ls) l low is = ap (λ z. cleaner_line (codes "sweep") z ++ cleaner_lines [] ls) (sym is)
cleaner_lines-next zero (x ∷ cs) (y ∷ ls) l low is = ap (λ z. cleaner_line x.0 z ++ cleaner_lines cs ls) (sym is)
cleaner_lines-next (suc k) [] (y ∷ ls) l low is =
    ap (λ cs. cleaner_lines cs (drop k ls)) (none-left-of k) ∙ cleaner_lines-next k [] ls l (omega arith) is
  where
    none-left-of : (k : ℕ) → ◌≡◌ {A = List (List ℕ × ℕ)} [] (drop k [])
    none-left-of zero = refl
    none-left-of (suc k) = refl
cleaner_lines-next (suc k) (x ∷ cs) (y ∷ ls) l low is = cleaner_lines-next k cs ls l (omega arith) is

-- the name of a cleaner of the script, and of the sweep
pub name_at-there : (cs : List (List ℕ × ℕ)) (k : ℕ) (c : List ℕ × ℕ) → k < length cs → c ≡ get_or cs k c → c.0 ≡ name_at cs k
name_at-there [] k c low is = absurd (omega arith)
name_at-there (x ∷ cs) zero c low is = ap (λ y. y.0) is
name_at-there (x ∷ cs) (suc k) c low is = name_at-there cs k c (omega arith) is

pub name_at-behind : (cs : List (List ℕ × ℕ)) (k : ℕ) → length cs ≤ k → codes "sweep" ≡ name_at cs k
name_at-behind [] k high = refl
name_at-behind (x ∷ cs) zero high = absurd (omega arith)
name_at-behind (x ∷ cs) (suc k) high = name_at-behind cs k (omega arith)

-- past the last log there is none
pub cleaner_lines-end : (k : ℕ) (cs : List (List ℕ × ℕ)) (ls : List CleanerLog) → length ls ≤ k → cleaner_lines (drop k cs) (drop k ls) ≡ []
cleaner_lines-end k cs ls high = ap (λ x. cleaner_lines (drop k cs) x) (drop_all k ls high) ∙ no-logs (drop k cs)
  where
    no-logs : (cs : List (List ℕ × ℕ)) → cleaner_lines cs [] ≡ []
    no-logs [] = refl
    no-logs (x ∷ cs) = refl

-- a line more
pub one-more : (out out' line lines rest all : List ℕ) → out ++ lines ≡ all → lines ≡ line ++ rest → out' ≡ out ++ line → out' ++ rest ≡ all
one-more out out' line lines rest all before next grown =
    ap (λ x. x ++ rest) grown ∙ append_assoc out line rest ∙ ap (λ x. out ++ x) (sym next) ∙ before

-- where nothing is left, what is written is the whole
pub whole : (out left all : List ℕ) → out ++ left ≡ all → left ≡ [] → out ≡ all
whole out left all parts none = sym (append-nil out) ∙ (ap (λ x. out ++ x) (sym none) ∙ parts)

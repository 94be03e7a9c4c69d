-- What holds of each run of lines that some lines begin with, short of all of them.
use Rattle.std.proofs.Common.{ℕ, zero, suc, ◌<◌, List, [], ◌∷◌, ◌++◌, length, take, arith}

abbrev pub Lines : Type 0
Lines = List (List ℕ)

abbrev pub Fronts : (Lines → Type 0) → Lines → Type 0
Fronts P [] = Unit {0}
Fronts P (line ∷ lines) = P [] × Fronts (λ l. P (line ∷ l)) lines

pub weaker : (P Q : Lines → Type 0) (lines : Lines) → ((l : Lines) → P l → Q l) → Fronts P lines → Fronts Q lines
weaker P Q [] so fronts = tt
weaker P Q (line ∷ lines) so fronts = (so [] fronts.0, weaker (λ l. P (line ∷ l)) (λ l. Q (line ∷ l)) lines (λ l. so (line ∷ l)) fronts.1)

-- the runs that end in the first lines, and those that end in the others
pub both : (P : Lines → Type 0) (first more : Lines) → Fronts P first → Fronts (λ l. P (first ++ l)) more → Fronts P (first ++ more)
both P [] more one two = two
both P (line ∷ first) more one two = (one.0, both (λ l. P (line ∷ l)) first more one.1 two)

pub front_at : (P : Lines → Type 0) (lines : Lines) (n : ℕ) → n < length lines → Fronts P lines → P (take n lines)
front_at P [] n low fronts = absurd (omega arith)
front_at P (line ∷ lines) zero low fronts = fronts.0
front_at P (line ∷ lines) (suc n) low fronts = front_at (λ l. P (line ∷ l)) lines n (omega arith) fronts.1

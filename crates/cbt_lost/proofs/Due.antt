-- The records of a share, by rising number.
use Rattle.std.proofs.Common.{◌≡◌, ℕ, suc, ◌+◌, ◌-◌, ◌<◌, ◌%◌, true, false, cond, List, [], ◌∷◌, filter, refl, ap, ◌∙◌, arith}
use Rattle.std.specs.List.{range_with_len}
use Rattle.std.proofs.lemmas.Bool.{eq-eqb}
use Rattle.cbt_book.specs.Shares.{has_record}
use Rattle.cbt_book.specs.declared.cleaners.Share.{Share}
use Rattle.cbt_lost.specs.Tours.{due}

-- the first of them
due_first : (share : Share) (from atrs : ℕ) → from < atrs → due share from atrs ≡ cond (has_record share from) (from ∷ due share (from + 1) atrs) (due share (from + 1) atrs)
due_first share from atrs under =
    let more : atrs - from ≡ suc (atrs - (from + 1)) = omega arith in ap (λ k. filter (has_record share) (range_with_len from k)) more

pub due_here : (share : Share) (from atrs : ℕ) → from < atrs → has_record share from ≡ true → due share from atrs ≡ from ∷ due share (from + 1) atrs
due_here share from atrs under has = due_first share from atrs under ∙ ap (λ b. cond b (from ∷ due share (from + 1) atrs) (due share (from + 1) atrs)) has

pub due_later : (share : Share) (from atrs : ℕ) → from < atrs → has_record share from ≡ false → due share from atrs ≡ due share (from + 1) atrs
due_later share from atrs under has = due_first share from atrs under ∙ ap (λ b. cond b (from ∷ due share (from + 1) atrs) (due share (from + 1) atrs)) has

pub due_all : (share : Share) (atrs : ℕ) → due share 0 atrs ≡ filter (has_record share) (range_with_len 0 atrs)
due_all share atrs = let all : atrs - 0 ≡ atrs = omega arith in ap (λ k. filter (has_record share) (range_with_len 0 k)) all

-- the share of a sweep has all records
has_each : (n : ℕ) → has_record (record { index = 0; of = 1 }) n ≡ true
has_each n = let rest : n % 1 ≡ 0 = omega arith in eq-eqb (n % 1) 0 rest

has_all : (l : List ℕ) → filter (has_record (record { index = 0; of = 1 })) l ≡ l
has_all [] = refl
has_all (n ∷ l) =
    ap (λ b. cond b (n ∷ filter (has_record (record { index = 0; of = 1 })) l) (filter (has_record (record { index = 0; of = 1 })) l)) (has_each n) ∙ ap (λ k. n ∷ k) (has_all l)

pub due_whole : (atrs : ℕ) → due (record { index = 0; of = 1 }) 0 atrs ≡ range_with_len 0 atrs
due_whole atrs = due_all (record { index = 0; of = 1 }) atrs ∙ has_all (range_with_len 0 atrs)

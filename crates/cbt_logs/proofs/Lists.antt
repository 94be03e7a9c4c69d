-- Own lists put together: the newest calls, and the older ones behind them.
use Rattle.std.proofs.Common.{suc, ◌<◌, ◌≤◌, inl, inr, ⊎_elim, List, [], ◌∷◌, ◌++◌, refl, arith}
use Rattle.cbt_model.specs.declared.events.Made.{Made}
use Rattle.cbt_book.specs.OwnLists.{Once, Each, In, Descends}
use Rattle.cbt_book.specs.Spans.{past_of}
use Rattle.cbt_core.proofs.logs.Calls.{in_front, in_back}

-- the places of a part of an own list fall too
pub descends_back : (xs l : List Made) → Descends (xs ++ l) → Descends l
descends_back [] l falls = falls
descends_back (x ∷ xs) l falls = descends_back xs l falls.1

pub descends_front : (xs l : List Made) → Descends (xs ++ l) → Descends xs
descends_front [] l falls = tt
descends_front (x ∷ xs) l falls = ((λ n there. falls.0 n (in_front n xs l there)), descends_front xs l falls.1)

-- what is so of each call of both parts
pub each_join : (P : Made → Type 0) (xs l : List Made) → Each (λ m _. P m) xs → Each (λ m _. P m) l → Each (λ m _. P m) (xs ++ l)
each_join P [] l front back = back
each_join P (x ∷ xs) l front back = (front.0, each_join P xs l front.1 back)

pub each_front : (P : Made → Type 0) (xs l : List Made) → Each (λ m _. P m) (xs ++ l) → Each (λ m _. P m) xs
each_front P [] l all = tt
each_front P (x ∷ xs) l all = (all.0, each_front P xs l all.1)

pub each_back : (P : Made → Type 0) (xs l : List Made) → Each (λ m _. P m) (xs ++ l) → Each (λ m _. P m) l
each_back P [] l all = all
each_back P (x ∷ xs) l all = each_back P xs l all.1

-- what follows from what is so of each call
pub each_more : (P Q : Made → Type 0) (l : List Made) → ((m : Made) → P m → Q m) → Each (λ m _. P m) l → Each (λ m _. Q m) l
each_more P Q [] more all = tt
each_more P Q (m ∷ l) more all = (more m all.0, each_more P Q l more all.1)

-- what is so of all calls that stand in a list
pub each_in : (P : Made → Type 0) (l : List Made) → ((m : Made) → In m l → P m) → Each (λ m _. P m) l
each_in P [] all = tt
each_in P (m ∷ l) all = (all m (inl refl), each_in P l (λ n there. all n (inr there)))

-- what was so once is so still
pub once_back : (P : Made → List Made → Type 0) (xs l : List Made) → Once P l → Once P (xs ++ l)
once_back P [] l once = once
once_back P (x ∷ xs) l once = inr (once_back P xs l once)

pub once_more : (P Q : Made → List Made → Type 0) (l : List Made) → ((m : Made) (past : List Made) → P m past → Q m past) → Once P l → Once Q l
once_more P Q [] more once = absurd once
once_more P Q (m ∷ l) more once = ⊎_elim (λ (here : P m l). inl (more m l here)) (λ (past : Once P l). inr (once_more P Q l more past)) once

-- newer calls stand past the older ones
past_newest : (x : Made) (l : List Made) → ((n : Made) → In n l → n.answer.place < x.answer.place) → past_of l ≤ x.answer.place
past_newest x [] low = omega arith
past_newest x (n ∷ past) low = let it = low n (inl refl) in omega arith

pub above : (xs l : List Made) → Descends (xs ++ l) → Each (λ m _. past_of l ≤ m.answer.place) xs
above [] l falls = tt
above (x ∷ xs) l falls = (past_newest x l (λ n there. falls.0 n (in_back n xs l there)), above xs l falls.1)

-- and all of them before the next place
pub below : (l : List Made) → Descends l → Each (λ m _. m.answer.place < past_of l) l
below [] falls = tt
below (m ∷ past) falls = (omega arith, each_in (λ n. n.answer.place < suc m.answer.place) past (λ n there. let it = falls.0 n there in omega arith))

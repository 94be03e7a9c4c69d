-- Own lists put together: the newest calls, and the older ones behind them.
use Rattle.std.proofs.Common.{◌≡◌, Bool, true, false, cond, filter, suc, ◌<◌, ◌≤◌, inl, inr, ⊎_elim, List, [], ◌∷◌, ◌++◌, refl, sym, subst, arith}
use Rattle.cbt_model.specs.declared.events.Made.{Made}
use Rattle.cbt_book.specs.OwnLists.{Each, In, Descends}
use Rattle.cbt_book.specs.Spans.{past_of}

pub in_front : (m : Made) (xs ys : List Made) → In m xs → In m (xs ++ ys)
in_front m [] ys there = absurd there
in_front m (x ∷ xs) ys there = ⊎_elim (λ (same : m ≡ x). inl same) (λ (past : In m xs). inr (in_front m xs ys past)) there

pub in_back : (m : Made) (xs ys : List Made) → In m ys → In m (xs ++ ys)
in_back m [] ys there = there
in_back m (x ∷ xs) ys there = inr (in_back m xs ys there)

pub each_of : (P : Made → Type 0) (l : List Made) (m : Made) → Each (λ x _. P x) l → In m l → P m
each_of P [] m all there = absurd there
each_of P (x ∷ l) m all there = ⊎_elim (λ (same : m ≡ x). subst P (sym same) all.0) (λ (past : In m l). each_of P l m all.1 past) there

-- what passes a filter meets its test
pub in_filter : (p : Made → Bool) (m : Made) (l : List Made) → In m (filter p l) → p m ≡ true
in_filter p m [] there = absurd there
in_filter p m (x ∷ l) there = by (λ later. in_filter p m l later) (p x) refl there
  where
    by : (In m (filter p l) → p m ≡ true) → (b : Bool) → p x ≡ b → In m (cond b (x ∷ filter p l) (filter p l)) → p m ≡ true
    by rest true is at = ⊎_elim (λ (same : m ≡ x). subst (λ y. p y ≡ true) (sym same) is) (λ (later : In m (filter p l)). rest later) at
    by rest false is at = rest at

-- the places of a part of an own list fall too
pub descends_back : (xs l : List Made) → Descends (xs ++ l) → Descends l
descends_back [] l falls = falls
descends_back (x ∷ xs) l falls = descends_back xs l falls.1

pub descends_front : (xs l : List Made) → Descends (xs ++ l) → Descends xs
descends_front [] l falls = tt
descends_front (x ∷ xs) l falls = ((λ n there. falls.0 n (in_front n xs l there)), descends_front xs l falls.1)

-- what is so of each call of both parts is so of those of each part
pub each_front : (P : Made → Type 0) (xs l : List Made) → Each (λ m _. P m) (xs ++ l) → Each (λ m _. P m) xs
each_front P [] l all = tt
each_front P (x ∷ xs) l all = (all.0, each_front P xs l all.1)

pub each_back : (P : Made → Type 0) (xs l : List Made) → Each (λ m _. P m) (xs ++ l) → Each (λ m _. P m) l
each_back P [] l all = all
each_back P (x ∷ xs) l all = each_back P xs l all.1

-- what follows from what is so of each call
pub each_more : (P Q : Made → Type 0) (l : List Made) → ((m : Made) → P m → Q m) → Each (λ m _. P m) l → Each (λ m _. Q m) l
each_more P Q [] more all = tt
each_more P Q (m ∷ l) more all = (more m all.0, each_more P Q l more all.1)

-- what is so of all calls that stand in a list
pub each_in : (P : Made → Type 0) (l : List Made) → ((m : Made) → In m l → P m) → Each (λ m _. P m) l
each_in P [] all = tt
each_in P (m ∷ l) all = (all m (inl refl), each_in P l (λ n there. all n (inr there)))

-- newer calls stand past the older ones
past_newest : (x : Made) (l : List Made) → ((n : Made) → In n l → n.answer.place < x.answer.place) → past_of l ≤ x.answer.place
past_newest x [] low = omega arith
past_newest x (n ∷ past) low = let it = low n (inl refl) in omega arith

pub above : (xs l : List Made) → Descends (xs ++ l) → Each (λ m _. past_of l ≤ m.answer.place) xs
above [] l falls = tt
above (x ∷ xs) l falls = (past_newest x l (λ n there. falls.0 n (in_back n xs l there)), above xs l falls.1)

-- and all of them before the next place
pub below : (l : List Made) → Descends l → Each (λ m _. m.answer.place < past_of l) l
below [] falls = tt
below (m ∷ past) falls = (omega arith, each_in (λ n. n.answer.place < suc m.answer.place) past (λ n there. let it = falls.0 n there in omega arith))

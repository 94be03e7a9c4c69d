-- Rounds of turns, as they are made.
use Rattle.std.proofs.Common.{◌≡◌, ◌≢◌, ℕ, zero, suc, ◌+◌, ◌-◌, ◌<◌, ◌≤◌, ⊎_elim, Bool, true, false, cond, nat_lt, List, [], ◌∷◌, ◌++◌, append_assoc, Some, refl, sym, ap, ◌∙◌, subst, arith, replicate, filter, add-one, add-suc, sum_by}
use Rattle.std.specs.List.{range_with_len}
use Rattle.std.proofs.lemmas.Bool.{cases_lt}
use Rattle.std.proofs.lemmas.List.{append-nil}
use Rattle.std.proofs.lemmas.List.Elements.{filter-append}
use Rattle.std.proofs.lemmas.List.Sums.{sum_by-cons}
use Rattle.cbt_sched.specs.Driving.{Agrees, Visits, IsAtRound, InRound}
use Rattle.cbt_sched.specs.Turns.{calls_of, left_after, round, rounds}
use Rattle.cbt_sched.proofs.Agreeing.{visit-agrees}
use Rattle.cbt_sched.proofs.Counting.{same_or_apart, counted-there, counted-elsewhere, lt-true, lt-false}

-- one number more
range-next : (a n : ℕ) → range_with_len a (suc n) ≡ range_with_len a n ++ (a + n) ∷ []
range-next a zero = ap (λ x. x ∷ []) (plus-none a)
  where
    plus-none : (m : ℕ) → m ≡ m + 0
    plus-none m = omega arith
range-next a (suc n) = ap (λ xs. a ∷ xs) (range-next (a + 1) n) ∙ ap (λ x. a ∷ (range_with_len (a + 1) n ++ x ∷ [])) (shift a n)
  where
    shift : (a n : ℕ) → a + 1 + n ≡ a + suc n
    shift a n = omega arith

-- nothing was called in turn yet
pub round-none : (first count : ℕ) (calls : List ℕ) (asking : ℕ → Bool) → ((a : ℕ) → asking a ≡ true → (first ≤ a) × (a < first + count))
    → InRound first count calls asking 0 0 calls asking
round-none first count calls asking known = record {
  agreed = λ n agreed. agreed;
  so_far = λ n agreed. sym (append-nil calls);
  before = λ a low. record { at_most = omega arith; exactly = λ asks. absurd (let at = known a asks in omega arith) };
  behind = λ a high. record { at_most = omega arith; exactly = λ asks. omega arith };
}

-- one turn more
module _ (first count : ℕ) (ordered : List ℕ) (at_first : ℕ → Bool) (r k : ℕ) (old new : List ℕ) (asking asking' : ℕ → Bool)
    (so_far : InRound first count ordered at_first r k old asking)
    (visit : Visits (first + k) (Some 1) old new (asking (first + k)) (asking' (first + k)))
    (others : (b : ℕ) → b ≢ first + k → asking' b ≡ asking b) where
  here : IsAtRound r ordered old asking (first + k)
  here = so_far.behind (first + k) (omega arith)

  there : calls_of new (first + k) ≡ calls_of old (first + k) + visit.calls
  there = counted-there (first + k) visit.calls old new visit.added

  one_at_most : visit.calls ≤ 1
  one_at_most = visit.within 1 refl

  asked : (b : Bool) → asking (first + k) ≡ b → 0 < visit.calls → asking (first + k) ≡ true
  asked true is some = is
  asked false is some = absurd (let none = (visit.ended is).0 in omega arith)

  -- the actor's turn is one of this round's where it called
  turn-is : (n : ℕ → ℕ) → Agrees new asking' n → (j : ℕ) → j ≡ visit.calls
      → replicate j (first + k) ≡ cond (nat_lt r (left_after n ordered (first + k))) ((first + k) ∷ []) []
  turn-is n agreed zero is = ap (λ b. cond b ((first + k) ∷ []) []) (sym (lt-false r (left_after n ordered (first + k)) none_left))
    where
      ended : asking' (first + k) ≡ false
      ended = ⊎_elim (λ (full : Some 1 ≡ Some visit.calls). absurd (let same : 1 ≡ visit.calls = cc in omega arith))
          (λ (none : asking' (first + k) ≡ false). none) visit.full

      none_left : left_after n ordered (first + k) ≤ r
      none_left = let exact = agreed.exact (first + k) ended in let most = here.at_most in let grown = there in omega arith
  turn-is n agreed (suc zero) is = ap (λ b. cond b ((first + k) ∷ []) []) (sym (lt-true r (left_after n ordered (first + k)) some_left))
    where
      some_left : r < left_after n ordered (first + k)
      some_left =
          let least = agreed.least (first + k) in let exactly = here.exactly (asked (asking (first + k)) refl (omega arith)) in
          let grown = there in omega arith
  turn-is n agreed (suc (suc j)) is = absurd (let most = one_at_most in omega arith)

  moved : (q a : ℕ) → a ≢ first + k → IsAtRound q ordered old asking a → IsAtRound q ordered new asking' a
  moved q a apart before = record {
    at_most = (let same = counted-elsewhere (first + k) visit.calls old new a apart visit.added in let most = before.at_most in omega arith);
    exactly = λ asks. counted-elsewhere (first + k) visit.calls old new a apart visit.added ∙ before.exactly (sym (others a apart) ∙ asks);
  }

  here-next : IsAtRound (suc r) ordered new asking' (first + k)
  here-next = record {
    at_most = (let most = here.at_most in let grown = there in let one = one_at_most in omega arith);
    exactly = λ asks. ⊎_elim
        (λ (full : Some 1 ≡ Some visit.calls). (let one : 1 ≡ visit.calls = cc in
        let exactly = here.exactly (asked (asking (first + k)) refl (omega arith)) in let grown = there in omega arith))
        (λ (none : asking' (first + k) ≡ false). absurd (let clash : true ≡ false = sym asks ∙ none in cc)) visit.full;
  }

  filter-next : (p : ℕ → Bool)
      → filter p (range_with_len first (k + 1)) ≡ filter p (range_with_len first k) ++ cond (p (first + k)) ((first + k) ∷ []) []
  filter-next p = ap (λ m. filter p (range_with_len first m)) (add-one k) ∙ ap (filter p) (range-next first k)
      ∙ filter-append p (range_with_len first k) ((first + k) ∷ [])

  pub round-next : InRound first count ordered at_first r (k + 1) new asking'
  round-next = record {
    agreed = λ n agreed. so_far.agreed n (visit-agrees (first + k) (Some 1) old new asking asking' visit others n agreed);
    so_far = λ n agreed. (
        let left = left_after n ordered in
        let whole = rounds left (range_with_len first count) r in
        let turns = filter (λ a. nat_lt r (left a)) (range_with_len first k) in
        let one = replicate visit.calls (first + k) in
        visit.added ∙ ap (λ xs. xs ++ one) (so_far.so_far n (visit-agrees (first + k) (Some 1) old new asking asking' visit others n agreed))
        ∙ append_assoc ordered (whole ++ turns) one
        ∙ ap (λ xs. ordered ++ xs) (append_assoc whole turns one
        ∙ ap (λ xs. whole ++ xs) (ap (λ xs. turns ++ xs) (turn-is n agreed visit.calls refl) ∙ sym (filter-next (λ a. nat_lt r (left a))))));
    before = λ a low. ⊎_elim (λ (same : a ≡ first + k). subst (λ x. IsAtRound (suc r) ordered new asking' x) (sym same) here-next)
        (λ (apart : a ≢ first + k). moved (suc r) a apart (so_far.before a (omega arith))) (same_or_apart a (first + k));
    behind = λ a high. moved r a (λ same. omega arith) (so_far.behind a (omega arith));
  }

-- all turns of a round are made
pub round-over : (first count : ℕ) (ordered : List ℕ) (at_first : ℕ → Bool) (r : ℕ) (calls : List ℕ) (asking : ℕ → Bool)
    → InRound first count ordered at_first r count calls asking → ((a : ℕ) → asking a ≡ true → (first ≤ a) × (a < first + count))
    → InRound first count ordered at_first (suc r) 0 calls asking
round-over first count ordered at_first r calls asking whole known = record {
  agreed = whole.agreed;
  so_far = λ n agreed. (
      let left = left_after n ordered in
      let actors = range_with_len first count in
      whole.so_far n agreed ∙ ap (λ xs. ordered ++ xs) (sym (append-nil (rounds left actors r ++ round left actors r))));
  before = λ a low. record {
    at_most = (let at = whole.before a (omega arith) in let most = at.at_most in omega arith);
    exactly = λ asks. absurd (let at = known a asks in omega arith);
  };
  behind = λ a high. record {
    at_most = at_most a;
    exactly = λ asks. (let at = known a asks in (whole.before a at.1).exactly asks);
  };
}
  where
    at_most : (a : ℕ) → calls_of calls a ≤ calls_of ordered a + suc r
    at_most a =
        ⊎_elim (λ (low : a < first + count). (whole.before a low).at_most)
        (λ (high : first + count ≤ a). (let at = whole.behind a high in let most = at.at_most in omega arith)) (cases_lt a (first + count))

-- later rounds add nothing where the numbers of calls are made
module _ (left : ℕ → ℕ) (actors : List ℕ) where
  rounds-more : (m j : ℕ) → ((q : ℕ) → m ≤ q → round left actors q ≡ []) → rounds left actors (m + j) ≡ rounds left actors m
  rounds-more m zero none = ap (rounds left actors) (plus-none m)
    where
      plus-none : (m : ℕ) → m + 0 ≡ m
      plus-none m = omega arith
  rounds-more m (suc j) none =
      ap (rounds left actors) (add-suc m j) ∙ ap (λ xs. rounds left actors (m + j) ++ xs) (none (m + j) (omega arith))
      ∙ append-nil (rounds left actors (m + j)) ∙ rounds-more m j none

  rounds-up : (m n : ℕ) → m ≤ n → ((q : ℕ) → m ≤ q → round left actors q ≡ []) → rounds left actors n ≡ rounds left actors m
  rounds-up m n low none = ap (rounds left actors) (up m n low) ∙ rounds-more m (n - m) none
    where
      up : (m n : ℕ) → m ≤ n → n ≡ m + (n - m)
      up m n low = omega arith

  rounds-same : (m n : ℕ) → ((q : ℕ) → m ≤ q → round left actors q ≡ []) → ((q : ℕ) → n ≤ q → round left actors q ≡ [])
      → rounds left actors m ≡ rounds left actors n
  rounds-same m n none none' =
      ⊎_elim (λ (low : m < n). sym (rounds-up m n (omega arith) none)) (λ (high : n ≤ m). rounds-up n m high none') (cases_lt m n)

-- a round in which no one has a call left
round-ended : (left : ℕ → ℕ) (first count r : ℕ) → ((a : ℕ) → first ≤ a → left a ≤ r) → round left (range_with_len first count) r ≡ []
round-ended left first zero r none = refl
round-ended left first (suc count) r none =
    ap (λ b. cond b (first ∷ round left (range_with_len (first + 1) count) r) (round left (range_with_len (first + 1) count) r))
    (lt-false r (left first) (none first (omega arith)))
    ∙ round-ended left (first + 1) count r (λ a high. none a (omega arith))

round-past_sum : (left : ℕ → ℕ) (actors : List ℕ) (r : ℕ) → sum_by left actors ≤ r → round left actors r ≡ []
round-past_sum left [] r low = refl
round-past_sum left (a ∷ actors) r low =
    ap (λ b. cond b (a ∷ round left actors r) (round left actors r)) (lt-false r (left a) (let sum = sum_by-cons left a actors in omega arith))
    ∙ round-past_sum left actors r (let sum = sum_by-cons left a actors in omega arith)

-- the end: no one asks any more
module _ (first count : ℕ) (ordered : List ℕ) (at_first : ℕ → Bool) (r : ℕ) (calls : List ℕ) (asking : ℕ → Bool)
    (whole : InRound first count ordered at_first r 0 calls asking) (ended : (a : ℕ) → asking a ≡ false) where
  pub agrees-itself : Agrees calls asking (calls_of calls)
  agrees-itself = record { least = λ a. omega arith; exact = λ a none. refl }

  none_left : (q : ℕ) → r ≤ q → (a : ℕ) → first ≤ a → left_after (calls_of calls) ordered a ≤ q
  none_left q low a high = let at = whole.behind a (omega arith) in let most = at.at_most in omega arith

  pub rounds-whole : let left = left_after (calls_of calls) ordered in let actors = range_with_len first count in
      calls ≡ ordered ++ rounds left actors (sum_by left actors)
  rounds-whole =
      let left = left_after (calls_of calls) ordered in
      let actors = range_with_len first count in
      whole.so_far (calls_of calls) agrees-itself
      ∙ ap (λ xs. ordered ++ xs) (append-nil (rounds left actors r) ∙ rounds-same left actors r (sum_by left actors)
      (λ q low. round-ended left first count q (none_left q low)) (λ q low. round-past_sum left actors q low))

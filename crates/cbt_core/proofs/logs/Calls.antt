-- The calls of an own list in a span.
use Rattle.std.proofs.Common.{◌≡◌, ℕ, ◌<◌, ◌≤◌, Bool, true, false, cond, nat_lt, nat_le, ◌&&◌, ◌⊎◌, inl, inr, ⊎_elim, List, [], ◌∷◌, ◌++◌, filter, slice_get, Some, refl, sym, ap, ◌∙◌, subst, arith}
use Rattle.std.proofs.lemmas.Bool.{cases_lt}
use Rattle.std.proofs.lemmas.Grind.{common_steps}
use Rattle.cbt_model.specs.History.{own, made_at}
use Rattle.cbt_model.specs.declared.events.Event.{Event}
use Rattle.cbt_model.specs.declared.events.Made.{Made}
use Rattle.cbt_model.specs.declared.states.State.{State}
use Rattle.cbt_book.specs.OwnLists.{Once, Each, In, is_within, during, Descends}
use Rattle.cbt_book.specs.Spans.{IsSpan}
use Rattle.cbt_book.specs.declared.operations.Span.{Span}
use Rattle.cbt_core.proofs.runs.Past.{at_once}

pub in_empty : {X : Type 0} (x : X) (l : List X) → l ≡ [] → In x l → ⊥
in_empty x l none there = subst (λ m. In x m) none there

pub in_filter : (p : Made → Bool) (m : Made) (l : List Made) → In m l → p m ≡ true → In m (filter p l)
in_filter p m [] there passes = absurd there
in_filter p m (x ∷ l) there passes = by_test (p x) refl (λ past. in_filter p m l past passes) there
  where
    by_test : (b : Bool) → p x ≡ b → (In m l → In m (filter p l)) → In m (x ∷ l) → In m (cond b (x ∷ filter p l) (filter p l))
    by_test true is ih here = ⊎_elim (λ (same : m ≡ x). inl same) (λ (past : In m l). inr (ih past)) here
    by_test false is ih here = ⊎_elim (λ (same : m ≡ x). absurd (apart (sym is ∙ ap p (sym same) ∙ passes))) (λ (past : In m l). ih past) here
      where
        apart : false ≡ true → ⊥
        apart e = cc

pub filter_in : (p : Made → Bool) (m : Made) (l : List Made) → In m (filter p l) → In m l × (p m ≡ true)
filter_in p m [] there = absurd there
filter_in p m (x ∷ l) there = by_test (p x) refl (λ past. filter_in p m l past) there
  where
    by_test : (b : Bool) → p x ≡ b → (In m (filter p l) → In m l × (p m ≡ true)) → In m (cond b (x ∷ filter p l) (filter p l)) → In m (x ∷ l) × (p m ≡ true)
    by_test true is ih here =
        ⊎_elim (λ (same : m ≡ x). (inl same, ap p same ∙ is)) (λ (past : In m (filter p l)). let it = ih past in (inr it.0, it.1)) here
    by_test false is ih here = let it = ih here in (inr it.0, it.1)

within : (from to place : ℕ) → from ≤ place → place < to → (nat_le from place && nat_lt place to) ≡ true
within from to place low high = grind (arith, common_steps)

within_low : (from to place : ℕ) → (nat_le from place && nat_lt place to) ≡ true → from ≤ place
within_low from to place is = grind (arith, common_steps)

within_high : (from to place : ℕ) → (nat_le from place && nat_lt place to) ≡ true → place < to
within_high from to place is = grind (arith, common_steps)

-- a call whose place lies in a span is one of the calls in it
pub in_during : (span : Span) (m : Made) (l : List Made) → In m l → span.from ≤ m.answer.place → m.answer.place < span.to → In m (during span l)
in_during span m l there low high = in_filter (λ x. is_within span x.answer.place) m l there (within span.from span.to m.answer.place low high)

pub record Within (span : Span) (m : Made) (l : List Made) : Type 0 where
  pub there : In m l
  pub low : span.from ≤ m.answer.place
  pub high : m.answer.place < span.to

pub during_in : (span : Span) (m : Made) (l : List Made) → In m (during span l) → Within span m l
during_in span m l there =
    let it = filter_in (λ x. is_within span x.answer.place) m l there in
    record { there = it.0; low = within_low span.from span.to m.answer.place it.1; high = within_high span.from span.to m.answer.place it.1 }

-- a part's span comes after what was before, with no call in between
pub after_gap : (l : List Made) (at : ℕ) (span : Span) (m : Made) → IsSpan l at span → In m l → at ≤ m.answer.place → span.from ≤ m.answer.place
after_gap l at span m spanned there low =
    ⊎_elim (λ (before : m.answer.place < span.from).
    absurd (in_empty m (during (record { from = at; to = span.from }) l) spanned.next (in_during (record { from = at; to = span.from }) m l there low before)))
    (λ (it : span.from ≤ m.answer.place). it) (cases_lt m.answer.place span.from)

-- what is so of each call is so of this one
pub each_of : (P : Made → Type 0) (l : List Made) (m : Made) → Each (λ x _. P x) l → In m l → P m
each_of P [] m all there = absurd there
each_of P (x ∷ l) m all there = ⊎_elim (λ (same : m ≡ x). subst P (sym same) all.0) (λ (past : In m l). each_of P l m all.1 past) there

pub each_past : (P : Made → List Made → Type 0) (l : List Made) (m : Made) → Each P l → In m l → (past : List Made) × P m past × ((n : Made) → In n past → In n l)
each_past P [] m all there = absurd there
each_past P (x ∷ l) m all there =
    ⊎_elim (λ (same : m ≡ x). (l, subst (λ y. P y l) (sym same) all.0, λ n before. inr before))
    (λ (past : In m l). let it = each_past P l m all.1 past in (it.0, it.1, λ n before. inr (it.2 n before))) there

-- a call of which it is so
pub some_call : (P : Made → Type 0) (l : List Made) → Once (λ x _. P x) l → (m : Made) × In m l × P m
some_call P [] once = absurd once
some_call P (x ∷ l) once = ⊎_elim (λ (here : P x). (x, inl refl, here)) (λ (past : Once (λ y _. P y) l). let it = some_call P l past in (it.0, inr it.1, it.2)) once

pub call_once : (P : Made → Type 0) (l : List Made) (m : Made) → In m l → P m → Once (λ x _. P x) l
call_once P [] m there is = absurd there
call_once P (x ∷ l) m there is = ⊎_elim (λ (same : m ≡ x). inl (subst P same is)) (λ (past : In m l). inr (call_once P l m past is)) there

-- the front and the rest of a list
pub in_front : (m : Made) (xs ys : List Made) → In m xs → In m (xs ++ ys)
in_front m [] ys there = absurd there
in_front m (x ∷ xs) ys there = ⊎_elim (λ (same : m ≡ x). inl same) (λ (past : In m xs). inr (in_front m xs ys past)) there

pub in_back : (m : Made) (xs ys : List Made) → In m ys → In m (xs ++ ys)
in_back m [] ys there = there
in_back m (x ∷ xs) ys there = inr (in_back m xs ys there)

pub in_either : (m : Made) (xs ys : List Made) → In m (xs ++ ys) → In m xs ⊎ In m ys
in_either m [] ys there = inr there
in_either m (x ∷ xs) ys there =
    ⊎_elim (λ (same : m ≡ x). inl (inl same)) (λ (past : In m (xs ++ ys)). ⊎_elim (λ (a : In m xs). inl (inr a)) (λ (b : In m ys). inr b) (in_either m xs ys past)) there

-- an event is in its actor's own list
once_in : (m : Made) (l : List Made) → Once (λ n _. m ≡ n) l → In m l
once_in m [] once = absurd once
once_in m (n ∷ past) once = ⊎_elim (λ (here : m ≡ n). inl here) (λ (before : Once (λ k _. m ≡ k) past). inr (once_in m past before)) once

pub own_in : (s0 : State) (h : List Event) (actor i j : ℕ) (e : Event) → j < i → slice_get h j ≡ Some e → e.actor ≡ actor → In (made_at s0 h j e) (own s0 h actor i)
own_in s0 h actor i j e low at by = once_in (made_at s0 h j e) (own s0 h actor i) (at_once s0 h (λ n _. made_at s0 h j e ≡ n) actor i j e low at by refl)

-- and so do those of a part of it
pub filter_descends : (p : Made → Bool) (l : List Made) → Descends l → Descends (filter p l)
filter_descends p [] falls = tt
filter_descends p (m ∷ past) falls = go (p m) (filter_descends p past falls.1)
  where
    go : (b : Bool) → Descends (filter p past) → Descends (cond b (m ∷ filter p past) (filter p past))
    go true rest = ((λ n there. falls.0 n (filter_in p n past there).0), rest)
    go false rest = rest

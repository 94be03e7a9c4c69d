-- A history with more events: what stood below its end stays as it was, and what one event more adds.
use Rattle.std.proofs.Common.{◌≡◌, ◌≢◌, ℕ, zero, suc, ◌+◌, ◌<◌, ◌≤◌, Bool, true, false, cond, nat_eq, ◌⊎◌, inl, inr, ⊎_elim, List, [], ◌∷◌, ◌++◌, length, Option, Some, None, refl, sym, ap, ◌∙◌, arith, slice_get, if◌then◌else◌}
use Rattle.std.proofs.lemmas.Grind.{common_steps}
use Rattle.std.specs.Option.{option_map}
use Rattle.cbt_base.specs.Clock.{ms_of}
use Rattle.cbt_model.specs.History.{outcome, happens, happens_maybe, after, reply_at, now_at, made_at, own_more, own}
use Rattle.cbt_model.specs.Legal.{AddsOne, one_of, calls_below}
use Rattle.cbt_model.specs.declared.events.Answer.{Answer}
use Rattle.cbt_model.specs.declared.events.Event.{Event}
use Rattle.cbt_model.specs.declared.events.Fate.{Fate}
use Rattle.cbt_model.specs.declared.events.Made.{Made}
use Rattle.cbt_model.specs.declared.states.State.{State}
use Rattle.cbt_model.specs.declared.steps.Step.{Step}

module _ {X : Type 0} where
  -- an item below the end
  pub get-longer : (xs ys : List X) (i : ℕ) → i < length xs → slice_get (xs ++ ys) i ≡ slice_get xs i
  get-longer [] ys i low = absurd (omega arith)
  get-longer (x ∷ xs) ys zero low = refl
  get-longer (x ∷ xs) ys (suc i) low = get-longer xs ys i (omega arith)

  -- the item at the end
  pub get-last : (xs : List X) (y : X) → slice_get (xs ++ y ∷ []) (length xs) ≡ Some y
  get-last [] y = refl
  get-last (x ∷ xs) y = get-last xs y

  pub length-next : (xs : List X) (y : X) → length (xs ++ y ∷ []) ≡ suc (length xs)
  length-next [] y = refl
  length-next (x ∷ xs) y = ap suc (length-next xs y)

  -- each item stood there before, or is the last one
  pub get-next_cases : (xs : List X) (y : X) (i : ℕ) (x : X) → slice_get (xs ++ y ∷ []) i ≡ Some x
      → ((i < length xs) × (slice_get xs i ≡ Some x)) ⊎ ((i ≡ length xs) × (x ≡ y))
  get-next_cases [] y zero x there = inr (refl, cc)
  get-next_cases [] y (suc i) x there = absurd (cc)
  get-next_cases (z ∷ xs) y zero x there = inl (omega arith, there)
  get-next_cases (z ∷ xs) y (suc i) x there =
      ⊎_elim (λ (l : (i < length xs) × (slice_get xs i ≡ Some x)). inl (omega arith, l.1))
      (λ (r : (i ≡ length xs) × (x ≡ y)). inr (ap suc r.0, r.1)) (get-next_cases xs y i x there)

module _ (s0 : State) (h more : List Event) where
  pub after-longer : (i : ℕ) → i ≤ length h → after s0 (h ++ more) i ≡ after s0 h i
  after-longer zero low = refl
  after-longer (suc i) low =
      ap (λ s. happens_maybe s (slice_get (h ++ more) i)) (after-longer i (omega arith))
      ∙ ap (λ e. happens_maybe (after s0 h i) e) (get-longer h more i (omega arith))

  -- the answer to an event, by the states before and after it
  abbrev made_between : ℕ → Event → State → State → Made
  made_between i e before next = record { step = e.step; answer = record { place = i; now = ms_of next.last; reply = (outcome before e).reply } }

  pub made_at-longer : (i : ℕ) (e : Event) → i < length h → made_at s0 (h ++ more) i e ≡ made_at s0 h i e
  made_at-longer i e low =
      ap (λ s. made_between i e s (after s0 (h ++ more) (suc i))) (after-longer i (omega arith))
      ∙ ap (λ s. made_between i e (after s0 h i) s) (after-longer (suc i) (omega arith))

  own_more-longer : (actor i : ℕ) (past : List Made) → i < length h → (o : Option Event) → own_more s0 (h ++ more) actor i o past ≡ own_more s0 h actor i o past
  own_more-longer actor i past low None = refl
  own_more-longer actor i past low (Some e) = ap (λ m. if nat_eq e.actor actor then m ∷ past else past) (made_at-longer i e low)

  pub own-longer : (actor i : ℕ) → i ≤ length h → own s0 (h ++ more) actor i ≡ own s0 h actor i
  own-longer actor zero low = refl
  own-longer actor (suc i) low =
      ap (λ past. own_more s0 (h ++ more) actor i (slice_get (h ++ more) i) past) (own-longer actor i (omega arith))
      ∙ ap (λ o. own_more s0 (h ++ more) actor i o (own s0 h actor i)) (get-longer h more i (omega arith))
      ∙ own_more-longer actor i (own s0 h actor i) (omega arith) (slice_get h i)

pub calls_below-longer : (h more : List Event) (actor i : ℕ) → i ≤ length h → calls_below (h ++ more) actor i ≡ calls_below h actor i
calls_below-longer h more actor zero low = refl
calls_below-longer h more actor (suc i) low =
    ap (λ n. n + one_of actor (slice_get (h ++ more) i)) (calls_below-longer h more actor i (omega arith))
    ∙ ap (λ o. calls_below h actor i + one_of actor o) (get-longer h more i (omega arith))

-- an actor's own list has an item for each of its events
own_more-length : (s0 : State) (h : List Event) (actor i : ℕ) (o : Option Event) (past : List Made) → length (own_more s0 h actor i o past) ≡ length past + one_of actor o
own_more-length s0 h actor i None past = omega arith
own_more-length s0 h actor i (Some e) past = step (nat_eq e.actor actor)
  where
    step : (b : Bool) → length (cond b (made_at s0 h i e ∷ past) past) ≡ length past + cond b 1 0
    step true = omega arith
    step false = omega arith

pub own-length : (s0 : State) (h : List Event) (actor i : ℕ) → length (own s0 h actor i) ≡ calls_below h actor i
own-length s0 h actor zero = refl
own-length s0 h actor (suc i) =
    own_more-length s0 h actor i (slice_get h i) (own s0 h actor i) ∙ ap (λ n. n + one_of actor (slice_get h i)) (own-length s0 h actor i)

-- one event more
module _ (s0 : State) (h : List Event) (e : Event) where
  pub after-next : after s0 (h ++ e ∷ []) (suc (length h)) ≡ happens (after s0 h (length h)) e
  after-next =
      ap (λ s. happens_maybe s (slice_get (h ++ e ∷ []) (length h))) (after-longer s0 h (e ∷ []) (length h) (omega arith))
      ∙ ap (λ o. happens_maybe (after s0 h (length h)) o) (get-last h e)

  pub after-whole : after s0 (h ++ e ∷ []) (length (h ++ e ∷ [])) ≡ happens (after s0 h (length h)) e
  after-whole = ap (λ n. after s0 (h ++ e ∷ []) n) (length-next h e) ∙ after-next

  pub reply_at-next : reply_at s0 (h ++ e ∷ []) (length h) ≡ Some (outcome (after s0 h (length h)) e).reply
  reply_at-next =
      ap (λ s. option_map (λ x. (outcome s x).reply) (slice_get (h ++ e ∷ []) (length h))) (after-longer s0 h (e ∷ []) (length h) (omega arith))
      ∙ ap (λ o. option_map (λ x. (outcome (after s0 h (length h)) x).reply) o) (get-last h e)

  own-whole : (actor : ℕ) → own s0 (h ++ e ∷ []) actor (length (h ++ e ∷ [])) ≡ own_more s0 (h ++ e ∷ []) actor (length h) (Some e) (own s0 h actor (length h))
  own-whole actor =
      ap (λ n. own s0 (h ++ e ∷ []) actor n) (length-next h e)
      ∙ ap (λ past. own_more s0 (h ++ e ∷ []) actor (length h) (slice_get (h ++ e ∷ []) (length h)) past) (own-longer s0 h (e ∷ []) actor (length h) (omega arith))
      ∙ ap (λ o. own_more s0 (h ++ e ∷ []) actor (length h) o (own s0 h actor (length h))) (get-last h e)

  -- the actor of the event has it in front of its own list
  pub own-next : own s0 (h ++ e ∷ []) e.actor (length (h ++ e ∷ [])) ≡ made_at s0 (h ++ e ∷ []) (length h) e ∷ own s0 h e.actor (length h)
  own-next =
      own-whole e.actor
      ∙ ap (λ b. cond b (made_at s0 (h ++ e ∷ []) (length h) e ∷ own s0 h e.actor (length h)) (own s0 h e.actor (length h))) (eqb-self e.actor)
    where
      eqb-self : (n : ℕ) → nat_eq n n ≡ true
      eqb-self n = grind (arith, common_steps)

  -- the others' own lists stay
  pub own-others : (other : ℕ) → other ≢ e.actor → own s0 (h ++ e ∷ []) other (length (h ++ e ∷ [])) ≡ own s0 h other (length h)
  own-others other apart =
      own-whole other
      ∙ ap (λ b. cond b (made_at s0 (h ++ e ∷ []) (length h) e ∷ own s0 h other (length h)) (own s0 h other (length h))) (eqb-apart e.actor other apart)
    where
      eqb-apart : (m n : ℕ) → n ≢ m → nat_eq m n ≡ false
      eqb-apart m n ne = grind (arith, common_steps)

pub calls_below-next : (h : List Event) (e : Event) (actor : ℕ) → calls_below (h ++ e ∷ []) actor (suc (length h)) ≡ calls_below h actor (length h) + one_of actor (Some e)
calls_below-next h e actor =
    ap (λ n. n + one_of actor (slice_get (h ++ e ∷ []) (length h))) (calls_below-longer h (e ∷ []) actor (length h) (omega arith))
    ∙ ap (λ o. calls_below h actor (length h) + one_of actor o) (get-last h e)

abbrev event_of : ℕ → Step → Fate → ℕ → Event
event_of actor step fate reading = record { actor = actor; step = step; fate = fate; reading = reading }

some_same : {X : Type 0} (x y : X) → Some x ≡ Some y → x ≡ y
some_same x y same = cc

-- a node's call, as its contract tells it, puts the step with its answer in front of the actor's own list
pub called : (s0 : State) (old new : List Event) (actor : ℕ) (step : Step) (fate : Fate) (answer : Answer)
    → AddsOne old new actor step fate → answer.place ≡ length old → reply_at s0 new answer.place ≡ Some answer.reply → answer.now ≡ now_at s0 new answer.place
    → own s0 new actor (length new) ≡ record { step = step; answer = answer } ∷ own s0 old actor (length old)
called s0 old new actor step fate answer adds place reply now =
    let e = event_of actor step fate adds.reading in
    ap (λ h. own s0 h actor (length h)) adds.added ∙ own-next s0 old e ∙ ap (λ a. record { step = step; answer = a } ∷ own s0 old actor (length old)) same
  where
    told : Some (outcome (after s0 (old ++ event_of actor step fate adds.reading ∷ []) (length old)) (event_of actor step fate adds.reading)).reply ≡ Some answer.reply
    told =
        ap (λ o. option_map (λ x. (outcome (after s0 (old ++ event_of actor step fate adds.reading ∷ []) (length old)) x).reply) o) (sym (get-last old (event_of actor step fate adds.reading)))
        ∙ ap (λ h. reply_at s0 h (length old)) (sym adds.added) ∙ ap (λ k. reply_at s0 new k) (sym place) ∙ reply

    same-now : now_at s0 (old ++ event_of actor step fate adds.reading ∷ []) (length old) ≡ answer.now
    same-now = ap (λ h. now_at s0 h (length old)) (sym adds.added) ∙ ap (λ k. now_at s0 new k) (sym place) ∙ sym now

    same-reply : (outcome (after s0 (old ++ event_of actor step fate adds.reading ∷ []) (length old)) (event_of actor step fate adds.reading)).reply ≡ answer.reply
    same-reply = some_same _ _ told

    same : (made_at s0 (old ++ event_of actor step fate adds.reading ∷ []) (length old) (event_of actor step fate adds.reading)).answer ≡ answer
    same = λ i. record { place = sym place i; now = same-now i; reply = same-reply i }

-- and leaves the own lists of the others
pub others_called : (s0 : State) (old new : List Event) (actor : ℕ) (step : Step) (fate : Fate) (other : ℕ)
    → AddsOne old new actor step fate → other ≢ actor → own s0 new other (length new) ≡ own s0 old other (length old)
others_called s0 old new actor step fate other adds apart =
    ap (λ h. own s0 h other (length h)) adds.added
    ∙ own-others s0 old (event_of actor step fate adds.reading) other apart

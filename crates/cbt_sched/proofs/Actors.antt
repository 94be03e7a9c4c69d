-- A list of actors, one of which has had its turn.
use Rattle.std.proofs.Common.{◌≡◌, ◌≢◌, ℕ, zero, suc, ◌+◌, ◌-◌, ◌<◌, ◌≤◌, ◌⊎◌, inr, ⊎_elim, Bool, true, false, cond, nat_le, List, [], ◌∷◌, length, Option, Some, None, refl, sym, ap, ◌∙◌, subst, arith, slice_get, slice_set, is_some, sum_by, MatchBool}
use Rattle.std.specs.Option.{option_and_then}
use Rattle.std.proofs.lemmas.Grind.{common_steps}
use Rattle.std.proofs.lemmas.List.{append-nil, length-set}
use Rattle.std.proofs.lemmas.List.Sums.{sum_by-set}
use Rattle.std.proofs.lemmas.Option.{slice_get_within, get_or_from_slice_get}
use Rattle.cbt_model.specs.Stops.{stop_of}
use Rattle.cbt_model.specs.declared.actors.Actor.{Ghosts as ActorOf}
use Rattle.cbt_model.specs.declared.nodes.Node.{Ghosts as NodeOf}
use Rattle.cbt_model.specs.declared.steps.Step.{Step}
use Rattle.cbt_sched.specs.Driving.{AllStand, Called, Idle, IsOutside, Keeps, Stands, Visits, asks, own_at}
use Rattle.cbt_sched.specs.Stopping.{StopReached}
use Rattle.cbt_sched.proofs.Counting.{same_or_apart}
use Rattle.cbt_sched.proofs.Keeping.{goes_on-still, own-still}
use Rattle.cbt_sched.proofs.Visiting.{visits-one, visits-none}

module _ {A : Type 0} where
  pub get-set_there : (xs : List A) (k : ℕ) (y : A) → k < length xs → slice_get (slice_set xs k y) k ≡ Some y
  get-set_there [] k y low = absurd (omega arith)
  get-set_there (x ∷ xs) zero y low = refl
  get-set_there (x ∷ xs) (suc k) y low = get-set_there xs k y (omega arith)

  pub get-set_elsewhere : (xs : List A) (k j : ℕ) (y : A) → j ≢ k → slice_get (slice_set xs k y) j ≡ slice_get xs j
  get-set_elsewhere [] k j y apart = refl
  get-set_elsewhere (x ∷ xs) zero zero y apart = absurd (apart refl)
  get-set_elsewhere (x ∷ xs) zero (suc j) y apart = refl
  get-set_elsewhere (x ∷ xs) (suc k) zero y apart = refl
  get-set_elsewhere (x ∷ xs) (suc k) (suc j) y apart = get-set_elsewhere xs k j y (λ same. apart (ap suc same))

-- who asks
module _ {A : Type 0} (step_now : A → Option Step) (first : ℕ) where
  at-place : (k : ℕ) → first + k - first ≡ k
  at-place k = omega arith

  le-true : (k : ℕ) → nat_le first (first + k) ≡ true
  le-true k = grind (arith, common_steps)

  asks-place : (actors : List A) (k : ℕ) → asks step_now first actors (first + k) ≡ is_some (option_and_then step_now (slice_get actors k))
  asks-place actors k =
      ap (λ b. cond b (is_some (option_and_then step_now (slice_get actors (first + k - first)))) false) (le-true k)
      ∙ ap (λ j. is_some (option_and_then step_now (slice_get actors j))) (at-place k)

  pub asks-there : (actors : List A) (k : ℕ) (a : A) → slice_get actors k ≡ Some a → asks step_now first actors (first + k) ≡ is_some (step_now a)
  asks-there actors k a there = asks-place actors k ∙ ap (λ o. is_some (option_and_then step_now o)) there

  pub asks-set_there : (actors : List A) (k : ℕ) (a : A) → k < length actors
      → asks step_now first (slice_set actors k a) (first + k) ≡ is_some (step_now a)
  asks-set_there actors k a low = asks-there (slice_set actors k a) k a (get-set_there actors k a low)

  pub asks-set_elsewhere : (actors : List A) (k : ℕ) (a : A) (number : ℕ) → number ≢ first + k
      → asks step_now first (slice_set actors k a) number ≡ asks step_now first actors number
  asks-set_elsewhere actors k a number apart = choice (nat_le first number) refl
    where
      elsewhere : nat_le first number ≡ true → number - first ≢ k
      elsewhere high same = apart (let from = le-is high in omega arith)
        where
          le-is : nat_le first number ≡ true → first ≤ number
          le-is t = grind (arith, common_steps)

      choice : (b : Bool) → nat_le first number ≡ b
          → cond b (is_some (option_and_then step_now (slice_get (slice_set actors k a) (number - first)))) false
          ≡ cond b (is_some (option_and_then step_now (slice_get actors (number - first)))) false
      choice true high = ap (λ o. is_some (option_and_then step_now o)) (get-set_elsewhere actors k (number - first) a (elsewhere high))
      choice false low = refl

  -- only actors of the list ask
  pub asks-within : (actors : List A) (number : ℕ) → asks step_now first actors number ≡ true → (first ≤ number) × (number < first + length actors)
  asks-within actors number asking = choice (nat_le first number) refl asking
    where
      le-is : nat_le first number ≡ true → first ≤ number
      le-is t = grind (arith, common_steps)

      within : (o : Option A) → slice_get actors (number - first) ≡ o → is_some (option_and_then step_now o) ≡ true → number - first < length actors
      within None none is = absurd (cc)
      within (Some a) there is = slice_get_within actors (number - first) a there

      choice : (b : Bool) → nat_le first number ≡ b → cond b (is_some (option_and_then step_now (slice_get actors (number - first)))) false ≡ true
          → (first ≤ number) × (number < first + length actors)
      choice true high is = (le-is high, let low = within (slice_get actors (number - first)) refl is in let from = le-is high in omega arith)
      choice false low is = absurd (cc)

  -- who does not ask has no step
  pub no-step : (actors : List A) (k : ℕ) (a : A) → slice_get actors k ≡ Some a → asks step_now first actors (first + k) ≡ false → step_now a ≡ None
  no-step actors k a there none = nothing (step_now a) (sym (asks-there actors k a there) ∙ none)
    where
      nothing : (o : Option Step) → is_some o ≡ false → o ≡ None
      nothing None is = refl
      nothing (Some s) is = absurd (cc)

  -- a visit by the list's numbers
  pub visits-there : (actors : List A) (k : ℕ) (a a' : A) (limit : Option ℕ) (old new : List ℕ) → slice_get actors k ≡ Some a
      → Visits (first + k) limit old new (is_some (step_now a)) (is_some (step_now a'))
      → Visits (first + k) limit old new (asks step_now first actors (first + k)) (asks step_now first (slice_set actors k a') (first + k))
  visits-there actors k a a' limit old new there visit =
      subst (λ b. Visits (first + k) limit old new b (asks step_now first (slice_set actors k a') (first + k))) (sym (asks-there actors k a there))
      (subst (λ b. Visits (first + k) limit old new (is_some (step_now a)) b)
      (sym (asks-set_there actors k a' (slice_get_within actors k a there))) visit)

  -- those up to here have ended, where no one called
  pub ended-next : (actors : List A) (k : ℕ) (a a' : A) (made called called' : Bool) (old new : List ℕ) → slice_get actors k ≡ Some a
      → MatchBool made (Called (first + k) old new (is_some (step_now a))) (Idle old new (is_some (step_now a')))
      → (made ≡ true → called' ≡ true) → (made ≡ false → called' ≡ called)
      → (called ≡ false → (number : ℕ) → number < first + k → asks step_now first actors number ≡ false)
      → called' ≡ false → (number : ℕ) → number < first + (k + 1) → asks step_now first (slice_set actors k a') number ≡ false
  ended-next actors k a a' true called called' old new there turn when_called when_idle before still number low =
      absurd (let clash : true ≡ false = sym (when_called refl) ∙ still in cc)
  ended-next actors k a a' false called called' old new there turn when_called when_idle before still number low =
      ⊎_elim (λ (same : number ≡ first + k).
      ap (λ m. asks step_now first (slice_set actors k a') m) same ∙ asks-set_there actors k a' (slice_get_within actors k a there) ∙ turn.ended)
      (λ (apart : number ≢ first + k). asks-set_elsewhere actors k a' number apart ∙ before (sym (when_idle refl) ∙ still) number (omega arith))
      (same_or_apart number (first + k))

-- no one asks where no one in the list does
pub ended-all : {A : Type 0} (step_now : A → Option Step) (first count : ℕ) (actors : List A) → length actors ≡ count
    → ((number : ℕ) → number < first + count → asks step_now first actors number ≡ false) → (number : ℕ) → asks step_now first actors number ≡ false
ended-all step_now first count actors all ended number = choice (asks step_now first actors number) refl
  where
    choice : (b : Bool) → asks step_now first actors number ≡ b → asks step_now first actors number ≡ false
    choice true asking = let at = asks-within step_now first actors number asking in ended number (omega arith)
    choice false still = still

-- nor does a number below the list
pub ended-below : {A : Type 0} (step_now : A → Option Step) (first : ℕ) (actors : List A) (number : ℕ) → number < first
    → asks step_now first actors number ≡ false
ended-below step_now first actors number low = choice (asks step_now first actors number) refl
  where
    choice : (b : Bool) → asks step_now first actors number ≡ b → asks step_now first actors number ≡ false
    choice true asking = absurd (let at = (asks-within step_now first actors number asking).0 in omega arith)
    choice false still = still

-- a turn as a visit
pub visit-of_turn : (made : Bool) (number : ℕ) (old new : List ℕ) (before after : Bool)
    → MatchBool made (Called number old new before) (Idle old new after) → Visits number (Some 1) old new before after
visit-of_turn true number old new before after turn = visits-one number old new before after turn
visit-of_turn false number old new before after turn = visits-none number old new before after turn

-- what is kept of an actor, and of the list that it stands in
module _ {N A : Type 0} (nodes : NodeOf N) (kind : ActorOf A) where
  -- an actor stands as before where its own list stays
  stands-still : (number : ℕ) (stop : Option ℕ) (begun now : A) (refused refused' : Bool) (old new : N)
      → own_at nodes number new ≡ own_at nodes number old → (refused' ≡ false → refused ≡ false)
      → Stands nodes kind number stop begun refused old now → Stands nodes kind number stop begun refused' new now
  stands-still number stop begun now refused refused' old new same sticky before = record {
    stands = subst (λ l. kind.stands_for now l) (sym same) before.stands;
    origin = before.origin;
    within = λ most is. subst (λ l. length l ≤ most) (sym same) (before.within most is);
    cause = λ fine running stopped. subst (λ l. StopReached kind.stands_for kind.step_now kind.same_origin kind.stopped_as stop begun now l) (sym same)
        (before.cause (sticky fine) running stopped);
  }

  -- the clock was moved ahead, or there was no memory for its mark
  pub keeps-ahead : (first : ℕ) (stops : List (ℕ × ℕ)) (IsOther : ℕ → Type 0) (refused refused' : Bool) (old new : N) (actors : List A)
      → nodes.opening new ≡ nodes.opening old → nodes.history new ≡ nodes.history old → nodes.terms new ≡ nodes.terms old
      → ((f : ℕ → ℕ) → nodes.reads_by old f → nodes.reads_by new f) → (refused' ≡ false → refused ≡ false)
      → Keeps nodes (AllStand nodes kind first stops) IsOther refused old actors refused' new actors
  keeps-ahead first stops IsOther refused refused' old new actors opening history terms readings sticky = record {
    goes_on = goes_on-still nodes old new opening history terms readings;
    stand = λ begun all. record {
      same_length = all.same_length;
      each = λ k b a at is. stands-still (first + k) (stop_of stops (first + k)) b a refused refused' old new (same (first + k)) sticky
          (all.each k b a at is);
    };
    others = λ other outside. same other;
    sticky = sticky;
  }
    where
      same : (number : ℕ) → own_at nodes number new ≡ own_at nodes number old
      same number = own-still nodes old new opening history number

  -- one actor of the list had its turn
  module _ (first : ℕ) (stops : List (ℕ × ℕ)) (refused refused' : Bool) (old new : N) (actors : List A) (k : ℕ) (a a' : A)
      (there : slice_get actors k ≡ Some a) where
    keeps-there : Keeps nodes (Stands nodes kind (first + k) (stop_of stops (first + k))) (λ other. other ≢ first + k) refused old a refused' new a'
        → Keeps nodes (AllStand nodes kind first stops) (IsOutside first (length actors)) refused old actors refused' new (slice_set actors k a')
    keeps-there turn = record {
      goes_on = turn.goes_on;
      stand = λ begun all. record {
        same_length = length-set actors k a' ∙ all.same_length;
        each = λ j b x at is. ⊎_elim (λ (same : j ≡ k). here begun all j b x at is same) (λ (apart : j ≢ k). elsewhere begun all j b x at is apart)
            (same_or_apart j k);
      };
      others = λ other outside. turn.others other (⊎_elim (λ (below : other < first). (λ same. omega arith))
          (λ (above : first + length actors ≤ other). (λ same. omega (arith, low))) outside);
      sticky = turn.sticky;
    }
      where
        low : k < length actors
        low = slice_get_within actors k a there

        here : (begun : List A) → AllStand nodes kind first stops begun refused old actors → (j : ℕ) (b x : A) → slice_get begun j ≡ Some b
            → slice_get (slice_set actors k a') j ≡ Some x → j ≡ k → Stands nodes kind (first + j) (stop_of stops (first + j)) b refused' new x
        here begun all j b x at is same =
            let set : Some x ≡ Some a' = sym is ∙ ap (λ i. slice_get (slice_set actors k a') i) same ∙ get-set_there actors k a' low in
            let new-is : x ≡ a' = cc in
            subst (λ i. Stands nodes kind (first + i) (stop_of stops (first + i)) b refused' new x) (sym same)
            (subst (λ y. Stands nodes kind (first + k) (stop_of stops (first + k)) b refused' new y) (sym new-is)
            (turn.stand b (all.each k b a (ap (λ i. slice_get begun i) (sym same) ∙ at) there)))

        elsewhere : (begun : List A) → AllStand nodes kind first stops begun refused old actors → (j : ℕ) (b x : A) → slice_get begun j ≡ Some b
            → slice_get (slice_set actors k a') j ≡ Some x → j ≢ k → Stands nodes kind (first + j) (stop_of stops (first + j)) b refused' new x
        elsewhere begun all j b x at is apart =
            stands-still (first + j) (stop_of stops (first + j)) b x refused refused' old new
            (turn.others (first + j) (λ same. apart (omega arith))) turn.sticky (all.each j b x at (sym (get-set_elsewhere actors k j a' apart) ∙ is))

    -- the same by its number and its stop
    pub keeps-at : (number : ℕ) (stop : Option ℕ) → first + k ≡ number → stop ≡ stop_of stops number
        → Keeps nodes (Stands nodes kind number stop) (λ other. other ≢ number) refused old a refused' new a'
        → Keeps nodes (AllStand nodes kind first stops) (IsOutside first (length actors)) refused old actors refused' new (slice_set actors k a')
    keeps-at number stop same is turn = keeps-there
        (subst (λ m. Keeps nodes (Stands nodes kind m (stop_of stops m)) (λ other. other ≢ m) refused old a refused' new a') (sym same)
        (subst (λ o. Keeps nodes (Stands nodes kind number o) (λ other. other ≢ number) refused old a refused' new a') is turn))

-- a visit, by the actor's number
pub visits-at : {A : Type 0} (step_now : A → Option Step) (first : ℕ) (actors : List A) (k : ℕ) (a a' : A)
    (number : ℕ) (limit : Option ℕ) (old new : List ℕ)
    → first + k ≡ number → slice_get actors k ≡ Some a
    → Visits number limit old new (is_some (step_now a)) (is_some (step_now a'))
    → Visits number limit old new (asks step_now first actors number) (asks step_now first (slice_set actors k a') number)
visits-at step_now first actors k a a' number limit old new same there visit =
    subst (λ m. Visits m limit old new (asks step_now first actors m) (asks step_now first (slice_set actors k a') m)) same
    (visits-there step_now first actors k a a' limit old new there
    (subst (λ m. Visits m limit old new (is_some (step_now a)) (is_some (step_now a'))) (sym same) visit))

-- the others ask as before
pub asks-others : {A : Type 0} (step_now : A → Option Step) (first : ℕ) (actors : List A) (k : ℕ) (a : A) (number : ℕ) → first + k ≡ number
    → (other : ℕ) → other ≢ number → asks step_now first (slice_set actors k a) other ≡ asks step_now first actors other
asks-others step_now first actors k a number same other apart = asks-set_elsewhere step_now first actors k a other (λ e. apart (e ∙ same))

-- a number that is not in the list does not ask, and its visit makes no call
pub visits-unknown : {A : Type 0} (step_now : A → Option Step) (first : ℕ) (actors : List A) (number : ℕ) (limit : Option ℕ) (calls : List ℕ)
    → (number < first) ⊎ (first + length actors ≤ number)
    → Visits number limit calls calls (asks step_now first actors number) (asks step_now first actors number)
visits-unknown step_now first actors number limit calls unknown = record {
  calls = 0;
  added = sym (append-nil calls);
  within = λ k is. omega arith;
  full = inr none;
  ended = λ still. (refl, none);
}
  where
    choice : (b : Bool) → asks step_now first actors number ≡ b → asks step_now first actors number ≡ false
    choice true asking =
        absurd (let at = asks-within step_now first actors number asking in
        ⊎_elim (λ (low : number < first). (let from = at.0 in omega arith))
        (λ (high : first + length actors ≤ number). (let to = at.1 in omega arith)) unknown)
    choice false still = still

    none : asks step_now first actors number ≡ false
    none = choice (asks step_now first actors number) refl

-- the calls that are left in all, after one actor had its turn
module _ {A : Type 0} (calls_left : A → ℕ) (actors : List A) (k : ℕ) (a a' : A) (there : slice_get actors k ≡ Some a) where
  sum-set : sum_by calls_left (slice_set actors k a') + calls_left a ≡ sum_by calls_left actors + calls_left a'
  sum-set =
      ap (λ x. sum_by calls_left (slice_set actors k a') + calls_left x) (sym (get_or_from_slice_get actors k a a' there))
      ∙ sum_by-set calls_left actors k a' a' (slice_get_within actors k a there)

  pub sum-no_more : calls_left a' ≤ calls_left a → sum_by calls_left (slice_set actors k a') ≤ sum_by calls_left actors
  sum-no_more less = let sum = sum-set in omega arith

  pub sum-fewer : calls_left a' < calls_left a → sum_by calls_left (slice_set actors k a') < sum_by calls_left actors
  sum-fewer less = let sum = sum-set in omega arith

-- fewer calls are left where anyone called
pub fewer-next : (made called called' : Bool) (old mid new : ℕ) → (made ≡ true → new < mid) → (made ≡ false → called' ≡ called)
    → new ≤ mid → mid ≤ old
    → (called ≡ true → mid < old) → called' ≡ true → new < old
fewer-next true called called' old mid new when_called when_idle less before so_far any =
    let one = when_called refl in omega arith
fewer-next false called called' old mid new when_called when_idle less before so_far any =
    let one = so_far (sym (when_idle refl) ∙ any) in omega arith

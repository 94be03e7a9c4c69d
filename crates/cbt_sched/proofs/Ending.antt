-- What the driver's contract says, from what items and rounds keep.
use Rattle.std.proofs.Common.{◌≡◌, ℕ, zero, suc, ◌+◌, ◌-◌, ◌<◌, ◌≤◌, ◌⊎◌, inl, inr, ⊎_elim, Bool, true, false, cond, nat_eq, List, [], ◌∷◌, ◌++◌, append_assoc, length, Some, refl, sym, ap, ◌∙◌, subst, arith, slice_get}
use Rattle.std.proofs.lemmas.Bool.{cases_lt}
use Rattle.std.proofs.lemmas.List.{append-nil}
use Rattle.std.proofs.lemmas.List.Sums.{sum_by-cons}
use Rattle.std.proofs.lemmas.Option.{slice_get_within}
use Rattle.cbt_model.specs.History.{own}
use Rattle.cbt_model.specs.Legal.{calls_below, one_of}
use Rattle.cbt_model.specs.Stops.{stop_of}
use Rattle.cbt_model.specs.declared.actors.Actor.{Ghosts as ActorOf}
use Rattle.cbt_model.specs.declared.events.Event.{Event}
use Rattle.cbt_model.specs.declared.nodes.Node.{Ghosts as NodeOf}
use Rattle.cbt_model.specs.declared.states.State.{State}
use Rattle.cbt_model.proofs.Longer.{calls_below-next, length-next, own-length}
use Rattle.cbt_sched.specs.Driving.{AllStand, Stands, own_at}
use Rattle.cbt_sched.specs.Turns.{callers, calls_of}
use Rattle.cbt_sched.proofs.Counting.{eq-same}

-- an item of a list, and the counterpart of one in a list that is as long
pub item-at : {A : Type 0} (xs : List A) (k : ℕ) → k < length xs → (x : A) × (slice_get xs k ≡ Some x)
item-at [] k low = absurd (omega arith)
item-at (x ∷ xs) zero low = (x, refl)
item-at (x ∷ xs) (suc k) low = item-at xs k (omega arith)

pub counterpart : {A : Type 0} (xs ys : List A) (k : ℕ) (x : A) → length xs ≡ length ys → slice_get xs k ≡ Some x
    → (y : A) × (slice_get ys k ≡ Some y)
counterpart xs ys k x same there = item-at ys k (let low = slice_get_within xs k x there in omega arith)

-- the actors as they are begun
pub all_stand-begun : {N A : Type 0} (nodes : NodeOf N) (kind : ActorOf A) (first : ℕ) (stops : List (ℕ × ℕ))
    (refused : Bool) (node : N) (actors : List A)
    → ((a : A) → kind.same_origin a a) → ((k : ℕ) (a : A) → slice_get actors k ≡ Some a → kind.stands_for a [])
    → ((k : ℕ) → k < length actors → own_at nodes (first + k) node ≡ [])
    → AllStand nodes kind first stops actors refused node actors
all_stand-begun {N} {A} nodes kind first stops refused node actors itself fresh apart = record { same_length = refl; each = each }
  where
    each : (k : ℕ) (b a : A) → slice_get actors k ≡ Some b → slice_get actors k ≡ Some a
        → Stands nodes kind (first + k) (stop_of stops (first + k)) b refused node a
    each k b a at is =
        let both : Some b ≡ Some a = sym at ∙ is in
        let same : b ≡ a = cc in
        let none = apart k (slice_get_within actors k a is) in
        record {
          stands = subst (λ l. kind.stands_for a l) (sym none) (fresh k a is);
          origin = subst (λ x. kind.same_origin b x) same (itself b);
          within = λ most stop. (let empty = ap (λ l. length l) none in omega arith);
          cause = λ fine running stopped. absurd (let clash : true ≡ false = sym stopped ∙ ap kind.is_stopped (sym same) ∙ running in cc);
        }

-- calls by place and by actor
calls_below-all : (h more : List Event) (a : ℕ)
    → calls_below (h ++ more) a (length (h ++ more)) ≡ calls_below h a (length h) + calls_of (callers more) a
calls_below-all h [] a = ap (λ x. calls_below x a (length x)) (append-nil h) ∙ plus-none (calls_below h a (length h))
  where
    plus-none : (n : ℕ) → n ≡ n + 0
    plus-none n = omega arith
calls_below-all h (e ∷ more) a =
    ap (λ x. calls_below x a (length x)) (sym (append_assoc h (e ∷ []) more)) ∙ calls_below-all (h ++ e ∷ []) more a
    ∙ ap (λ n. n + calls_of (callers more) a) (ap (λ n. calls_below (h ++ e ∷ []) a n) (length-next h e) ∙ calls_below-next h e a)
    ∙ plus-assoc (calls_below h a (length h)) (one_of a (Some e)) (calls_of (callers more) a)
    ∙ ap (λ n. calls_below h a (length h) + n) (sym (sum_by-cons (λ b. cond (nat_eq b a) 1 0) e.actor (callers more)))
  where
    plus-assoc : (l m n : ℕ) → l + m + n ≡ l + (m + n)
    plus-assoc l m n = omega arith

pub calls_below-callers : (h : List Event) (a : ℕ) → calls_below h a (length h) ≡ calls_of (callers h) a
calls_below-callers h a = calls_below-all [] h a ∙ zero-plus (calls_of (callers h) a)
  where
    zero-plus : (n : ℕ) → 0 + n ≡ n
    zero-plus n = omega arith

-- an actor's own list is as long as it made calls
pub length-own : (s : State) (h : List Event) (a : ℕ) → length (own s h a (length h)) ≡ calls_of (callers h) a
length-own s h a = own-length s h a (length h) ∙ calls_below-callers h a

-- an event is a call of its actor
called-once : (h : List Event) (i : ℕ) (e : Event) → slice_get h i ≡ Some e → 0 < calls_of (callers h) e.actor
called-once [] i e there = absurd (cc)
called-once (x ∷ h) zero e there =
    let both : Some x ≡ Some e = there in
    let same : x ≡ e = cc in
    let cons = sum_by-cons (λ b. cond (nat_eq b e.actor) 1 0) x.actor (callers h) in
    let here : nat_eq x.actor e.actor ≡ true = ap (λ (y : Event). nat_eq y.actor e.actor) same ∙ eq-same e.actor in
    let one : ◌≡◌ {A = ℕ} (cond (nat_eq x.actor e.actor) 1 0) 1 = ap (λ b. cond {A = ℕ} b 1 0) here in
    omega arith
called-once (x ∷ h) (suc i) e there =
    let cons = sum_by-cons (λ b. cond (nat_eq b e.actor) 1 0) x.actor (callers h) in
    let rest = called-once h i e there in
    omega arith

get-behind : (xs ys : List Event) (i : ℕ) → length xs ≤ i → slice_get (xs ++ ys) i ≡ slice_get ys (i - length xs)
get-behind [] ys i low = ap (λ j. slice_get ys j) (minus-none i)
  where
    minus-none : (i : ℕ) → i ≡ i - 0
    minus-none i = omega arith
get-behind (x ∷ xs) ys zero low = absurd (omega arith)
get-behind (x ∷ xs) ys (suc i) low = get-behind xs ys i (omega arith) ∙ ap (λ j. slice_get ys j) (shift i (length xs))
  where
    shift : (i n : ℕ) → i - n ≡ suc i - suc n
    shift i n = omega arith

-- only actors of the list called, where the own lists of the others stay
pub known-callers : (first count : ℕ) (s s' : State) (old added new : List Event) → new ≡ old ++ added
    → ((other : ℕ) → (other < first) ⊎ (first + count ≤ other) → own s' new other (length new) ≡ own s old other (length old))
    → (i : ℕ) (e : Event) → slice_get new i ≡ Some e → length old ≤ i → (first ≤ e.actor) × (e.actor < first + count)
known-callers first count s s' old added new grown others i e there behind = (
  ⊎_elim (λ (low : e.actor < first). absurd (outside (inl low))) (λ (from : first ≤ e.actor). from) (cases_lt e.actor first),
  ⊎_elim (λ (to : e.actor < first + count). to) (λ (high : first + count ≤ e.actor). absurd (outside (inr high))) (cases_lt e.actor (first + count)),
)
  where
    added-there : slice_get added (i - length old) ≡ Some e
    added-there = sym (get-behind old added i behind) ∙ ap (λ h. slice_get h i) (sym grown) ∙ there

    outside : (e.actor < first) ⊎ (first + count ≤ e.actor) → ⊥
    outside out =
        let same = sym (length-own s' new e.actor) ∙ ap (λ l. length l) (others e.actor out) ∙ length-own s old e.actor in
        let more = ap (λ h. calls_below h e.actor (length h)) grown ∙ calls_below-all old added e.actor in
        let before = calls_below-callers old e.actor in
        let all = calls_below-callers new e.actor in
        let once = called-once added (i - length old) e added-there in
        omega arith

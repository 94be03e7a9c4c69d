-- What one call, one item and one round of driving keep and add. Here `nodes` has the members of the trait of nodes, and
-- `kind` those of the trait of actors.
use Rattle.std.specs.Prelude.{◌≡◌, ℕ, suc, ◌+◌, ◌-◌, ◌<◌, ◌≤◌, ◌⊎◌, Bool, true, false, nat_lt, nat_le, if◌then◌else◌, List, [], ◌∷◌, ◌++◌, length, filter, replicate, slice_get, Option, Some, is_some}
use Rattle.std.specs.List.{range_with_len}
use Rattle.std.specs.Option.{option_and_then}
use Rattle.cbt_model.specs.History.{own}
use Rattle.cbt_model.specs.Stops.{stop_of}
use Rattle.cbt_model.specs.declared.actors.Actor.{Ghosts as ActorOf}
use Rattle.cbt_model.specs.declared.events.Event.{Event}
use Rattle.cbt_model.specs.declared.events.Item.{Item}
use Rattle.cbt_model.specs.declared.events.Made.{Made}
use Rattle.cbt_model.specs.declared.events.Mark.{Mark}
use Rattle.cbt_model.specs.declared.nodes.Node.{Ghosts as NodeOf}
use Rattle.cbt_model.specs.declared.steps.Step.{Step}
use Rattle.cbt_sched.specs.Stopping.{StopReached}
use Rattle.cbt_sched.specs.Turns.{calls_of, left_after, after_items, marks_of, rounds, AddsMarks}

-- an actor's own list in all of a node's history
abbrev pub own_at : {N : Type 0} → NodeOf N → ℕ → N → List Made
own_at nodes number node = own (nodes.opening node) (nodes.history node) number (length (nodes.history node))

-- a number that a list of actors does not have
abbrev pub IsOutside : (first count : ℕ) → ℕ → Type 0
IsOutside first count number = (number < first) ⊎ (first + count ≤ number)

-- a node goes on: its opening and terms stay, and its history grows at its end
pub record GoesOn {N : Type 0} (nodes : NodeOf N) (old new : N) : Type 0 where
  pub opening_stays : nodes.opening new ≡ nodes.opening old
  pub terms_stay : nodes.terms new ≡ nodes.terms old
  pub added : List Event
  pub grown : nodes.history new ≡ nodes.history old ++ added
  pub readings : (f : ℕ → ℕ) → nodes.reads_by old f → nodes.reads_by new f

-- an actor stands for its own list, was made with what it was begun with, made no more calls than its stop names, and
-- was stopped for no other cause than that stop or want of memory
pub record Stands {N A : Type 0} (nodes : NodeOf N) (kind : ActorOf A) (number : ℕ) (stop : Option ℕ)
    (begun : A) (refused : Bool) (node : N) (now : A) : Type 0 where
  pub stands : kind.stands_for now (own_at nodes number node)
  pub origin : kind.same_origin begun now
  pub within : (most : ℕ) → stop ≡ Some most → length (own_at nodes number node) ≤ most
  pub cause : refused ≡ false → kind.is_stopped begun ≡ false → kind.is_stopped now ≡ true
      → StopReached kind.stands_for kind.step_now kind.same_origin kind.stopped_as stop begun now (own_at nodes number node)

-- the same of each actor of a list, whose numbers begin with first
pub record AllStand {N A : Type 0} (nodes : NodeOf N) (kind : ActorOf A) (first : ℕ) (stops : List (ℕ × ℕ))
    (begun : List A) (refused : Bool) (node : N) (now : List A) : Type 0 where
  pub same_length : length now ≡ length begun
  pub each : (k : ℕ) (b a : A) → slice_get begun k ≡ Some b → slice_get now k ≡ Some a
      → Stands nodes kind (first + k) (stop_of stops (first + k)) b refused node a

-- what each step of the driver keeps, be it of one actor or of a list of them: the node goes on, who stood stands, the
-- own lists of the others stay, and a refusal stays told; Stand is Stands for an actor, and AllStand for a list
pub record Keeps {N S : Type 0} (nodes : NodeOf N) (Stand : S → Bool → N → S → Type 0) (IsOther : ℕ → Type 0)
    (refused : Bool) (node : N) (actors : S) (refused' : Bool) (node' : N) (actors' : S) : Type 0 where
  pub goes_on : GoesOn nodes node node'
  pub stand : (begun : S) → Stand begun refused node actors → Stand begun refused' node' actors'
  pub others : (other : ℕ) → IsOther other → own_at nodes other node' ≡ own_at nodes other node
  pub sticky : refused' ≡ false → refused ≡ false

-- whether the actor with this number has a next step
abbrev pub asks : {A : Type 0} → (A → Option Step) → ℕ → List A → ℕ → Bool
asks step_now first actors number = if nat_le first number then is_some (option_and_then step_now (slice_get actors (number - first))) else false

-- numbers of calls that each actor may come to in all, after these: no fewer, and no more where it does not ask
pub record Agrees (calls : List ℕ) (asking : ℕ → Bool) (n : ℕ → ℕ) : Type 0 where
  pub least : (a : ℕ) → calls_of calls a ≤ n a
  pub exact : (a : ℕ) → asking a ≡ false → n a ≡ calls_of calls a

-- an actor's turn with a call, and one without
pub record Called (number : ℕ) (old new : List ℕ) (before : Bool) : Type 0 where
  pub added : new ≡ old ++ number ∷ []
  pub asked : before ≡ true

pub record Idle (old new : List ℕ) (after : Bool) : Type 0 where
  pub same : new ≡ old
  pub ended : after ≡ false

-- some calls of one actor in a row, up to a limit where there is one, or until it asks no more
pub record Visits (number : ℕ) (limit : Option ℕ) (old new : List ℕ) (before after : Bool) : Type 0 where
  pub calls : ℕ
  pub added : new ≡ old ++ replicate calls number
  pub within : (k : ℕ) → limit ≡ Some k → calls ≤ k
  pub full : (limit ≡ Some calls) ⊎ (after ≡ false)
  pub ended : before ≡ false → (calls ≡ 0) × (after ≡ false)

-- order items were followed from one list of calls to the next, whatever numbers of calls the actors come to
pub record Follows (items : List Item) (refused : Bool) (old_marks new_marks : List Mark)
    (old new : List ℕ) (before after : ℕ → Bool) (n : ℕ → ℕ) : Type 0 where
  pub agreed : Agrees old before n
  pub calls : new ≡ after_items n items old
  pub marks : AddsMarks refused (marks_of n items old) old_marks new_marks

-- since these calls an actor made r, or has ended after at most so many
pub record IsAtRound (r : ℕ) (ordered calls : List ℕ) (asking : ℕ → Bool) (number : ℕ) : Type 0 where
  pub at_most : calls_of calls number ≤ calls_of ordered number + r
  pub exactly : asking number ≡ true → calls_of calls number ≡ calls_of ordered number + r

-- r rounds were made since the items were followed, and k turns of the next one
pub record InRound (first count : ℕ) (ordered : List ℕ) (at_first : ℕ → Bool) (r k : ℕ) (calls : List ℕ) (asking : ℕ → Bool) : Type 0 where
  pub agreed : (n : ℕ → ℕ) → Agrees calls asking n → Agrees ordered at_first n
  pub so_far : (n : ℕ → ℕ) → Agrees calls asking n
      → calls ≡ ordered ++ (rounds (left_after n ordered) (range_with_len first count) r
      ++ filter (λ a. nat_lt r (left_after n ordered a)) (range_with_len first k))
  pub before : (a : ℕ) → a < first + k → IsAtRound (suc r) ordered calls asking a
  pub behind : (a : ℕ) → first + k ≤ a → IsAtRound r ordered calls asking a

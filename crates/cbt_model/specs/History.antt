-- Histories of events, by place: what the node's state is after so many events, and what each was answered.
use Rattle.std.specs.Prelude.{◌≡◌, ◌≢◌, ℕ, zero, suc, Bool, true, false, ◌==◌, ◌&&◌, not, if◌then◌else◌, List, [], ◌∷◌, ◌++◌, length, reverse, slice_get, Option, Some, None}
use Rattle.std.specs.Option.{option_map, option_to_list}
use Rattle.cbt_base.specs.Clock.{clock_mutated, ms_of}
use Rattle.cbt_model.specs.Table.{Row, refused, row, changed}
use Rattle.cbt_model.specs.declared.events.Event.{Event}
use Rattle.cbt_model.specs.declared.events.Fate.{Fate}
use Rattle.cbt_model.specs.declared.events.Fate.TheVariants.{Plain, Lost, Late}
use Rattle.cbt_model.specs.declared.events.Made.{Made}
use Rattle.cbt_model.specs.declared.states.State.{State}
use Rattle.cbt_model.specs.declared.steps.Reply.{Reply}
use Rattle.cbt_model.specs.declared.steps.Reply.TheVariants as reply
use Rattle.cbt_model.specs.declared.steps.Step.{Step}
use Rattle.cbt_model.specs.declared.steps.Step.TheVariants as step

-- the row that counts for an event: a lost step does not reach the node, and the answer to a late one does not come back
abbrev pub by_fate : Fate → Row → Row
by_fate Plain it = it
by_fate Lost it = refused reply.Failed
by_fate Late it = record { reply = reply.Failed; change = it.change }

-- the row of the table that an event meets at a state
abbrev pub row_at_event : State → Event → Row
row_at_event s e = row s (clock_mutated s.last e.reading) e.step

-- what an event answers and changes
abbrev pub outcome : State → Event → Row
outcome s e = by_fate e.fate (row_at_event s e)

-- the state after an event
abbrev pub happens : State → Event → State
happens s e = changed s e.reading (outcome s e).change

abbrev pub happens_maybe : State → Option Event → State
happens_maybe s None = s
happens_maybe s (Some e) = happens s e

-- the state after the first i events
abbrev pub after : State → List Event → ℕ → State
after s0 h zero = s0
after s0 h (suc i) = happens_maybe (after s0 h i) (slice_get h i)

-- what event i was answered
abbrev pub reply_at : State → List Event → ℕ → Option Reply
reply_at s0 h i = option_map (λ e. (outcome (after s0 h i) e).reply) (slice_get h i)

-- the milliseconds of the clock after event i
abbrev pub now_at : State → List Event → ℕ → ℕ
now_at s0 h i = ms_of (after s0 h (suc i)).last

-- event i, as its actor sees it
abbrev pub made_at : State → List Event → ℕ → Event → Made
made_at s0 h i e = record { step = e.step; answer = record { place = i; now = now_at s0 h i; reply = (outcome (after s0 h i) e).reply } }

abbrev pub own_more : State → List Event → ℕ → ℕ → Option Event → List Made → List Made
own_more s0 h actor i None past = past
own_more s0 h actor i (Some e) past = if e.actor == actor then made_at s0 h i e ∷ past else past

-- an actor's own list: its steps and answers among the first i events, newest first
abbrev pub own : State → List Event → ℕ → ℕ → List Made
own s0 h actor zero = []
own s0 h actor (suc i) = own_more s0 h actor i (slice_get h i) (own s0 h actor i)

abbrev pub is_done : Reply → Bool
is_done (reply.Done c) = true
is_done _ = false

abbrev pub is_lost : Fate → Bool
is_lost Plain = false
is_lost Lost = true
is_lost Late = false

-- event i takes effect: it is not lost, and the table answers it Done
pub record TakesEffect (s0 : State) (h : List Event) (i : ℕ) (e : Event) : Type 0 where
  pub event : slice_get h i ≡ Some e
  pub not_lost : e.fate ≢ Lost
  pub done : is_done (row_at_event (after s0 h i) e).reply ≡ true

-- the same as a test
abbrev pub takes_effect : State → Event → Bool
takes_effect s e = not (is_lost e.fate) && is_done (row_at_event s e).reply

-- the attempt that a step commits
abbrev pub commits : Step → Option ℕ
commits (step.Commit atr attempt lists) = Some attempt
commits _ = None

-- the attempt that a step rolls back
abbrev pub rolls_back : Step → Option ℕ
rolls_back (step.Abort atr attempt lists) = Some attempt
rolls_back (step.DropEntry atr attempt true) = Some attempt
rolls_back _ = None

-- attempt a commits at place i
pub record CommitsAt (s0 : State) (h : List Event) (a i : ℕ) : Type 0 where
  pub event : Event
  pub takes : TakesEffect s0 h i event
  pub is : commits event.step ≡ Some a

-- attempt a is rolled back at place i
pub record RollsBackAt (s0 : State) (h : List Event) (a i : ℕ) : Type 0 where
  pub event : Event
  pub takes : TakesEffect s0 h i event
  pub is : rolls_back event.step ≡ Some a

-- the attempt that an event commits at a state
abbrev pub committed_by : State → Option Event → Option ℕ
committed_by s None = None
committed_by s (Some e) = if takes_effect s e then commits e.step else None

-- the attempts that commit among the first i events, newest first
abbrev pub commits_below : State → List Event → ℕ → List ℕ
commits_below s0 h zero = []
commits_below s0 h (suc i) = option_to_list (committed_by (after s0 h i) (slice_get h i)) ++ commits_below s0 h i

-- the attempts that commit, in the order of their places
abbrev pub commit_order : State → List Event → List ℕ
commit_order s0 h = reverse (commits_below s0 h (length h))

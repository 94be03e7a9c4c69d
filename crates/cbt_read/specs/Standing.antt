-- What the calls of a read are, newest first, as far as it has come.
use Rattle.std.specs.Prelude.{◌≡◌, ℕ, ◌+◌, ◌≤◌, Bool, true, false, List, [], ◌∷◌, length, Some}
use Rattle.cbt_model.specs.declared.entries.Entry.{Entry}
use Rattle.cbt_model.specs.declared.entries.EntryState.TheVariants.{Committed}
use Rattle.cbt_model.specs.declared.events.Made.{Made}
use Rattle.cbt_book.specs.Calls.{GetCalls}
use Rattle.cbt_book.specs.Outcomes.{ChangesHands, EndsFailed, IsContended}
use Rattle.cbt_book.specs.ReadAt.{IsReadAt}
use Rattle.cbt_book.specs.Shown.{ReadsDoc, ReadsEntry, FindsNoEntry}
use Rattle.cbt_read.specs.Phases.{calls_left}
use Rattle.cbt_read.specs.declared.gets.Get.{Get}
use Rattle.cbt_read.specs.declared.phases.Phase.{Phase}
use Rattle.cbt_read.specs.declared.phases.Phase.TheVariants.{Begun, Asking, Again, Ended}
use Rattle.cbt_read.specs.declared.phases.Staged.{Staged}
use Rattle.cbt_read.specs.declared.ends.GetEnd.{GetEnd}
use Rattle.cbt_read.specs.declared.ends.GetEnd.TheVariants.{Value, Contended, CallFailed}

-- the newest call showed the document staged so, which changed hands at each reading and may do so `left` times more
pub record WasShown (d : List ℕ) (staged : Staged) (left : ℕ) (mine : List Made) : Type 0 where
  pub readings : ℕ
  pub count : readings + left ≡ 8
  pub hands : ChangesHands d readings staged.cas staged.stage mine
  pub newest : Made
  pub older : List Made
  pub mine_is : mine ≡ newest ∷ older
  pub shows : ReadsDoc d staged.cas staged.body (Some staged.stage) newest
  pub place_is : newest.answer.place ≡ staged.place

-- the entry of this staging is committed or, where it is gone, not there
abbrev pub Decides : Staged → Bool → Made → Type 0
Decides staged false m = (e : Entry) × ReadsEntry staged.stage.atr staged.stage.attempt e m × (e.state ≡ Committed)
Decides staged true m = FindsNoEntry staged.stage.atr staged.stage.attempt m

-- the newest call, at this place, told so of the staging that the one before had shown
pub record WasDecided (d : List ℕ) (staged : Staged) (gone : Bool) (place left : ℕ) (mine : List Made) : Type 0 where
  pub asked : Made
  pub before : List Made
  pub mine_is : mine ≡ asked ∷ before
  pub place_is : asked.answer.place ≡ place
  pub decides : Decides staged gone asked
  pub shown : WasShown d staged left before

-- a read of document d ended so by its calls
abbrev pub EndsBy : List ℕ → GetEnd → List Made → Type 0
EndsBy d (Value seen) mine = IsReadAt d seen mine
EndsBy d Contended mine = IsContended d mine
EndsBy d (CallFailed place) mine = EndsFailed place mine

-- what a phase tells of the calls
abbrev pub Knows : List ℕ → Phase → List Made → Type 0
Knows d Begun mine = mine ≡ []
Knows d (Asking staged left) mine = WasShown d staged left mine
Knows d (Again staged gone place left) mine = WasDecided d staged gone place left mine
Knows d (Ended end) mine = EndsBy d end mine

-- these are the calls of the read
pub record StandsFor (get : Get) (mine : List Made) : Type 0 where
  pub knows : Knows get.doc get.phase mine
  pub bounded : GetCalls get.doc mine
  pub few : length mine + calls_left get ≤ 17

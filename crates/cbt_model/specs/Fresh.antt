-- Openings that hold documents alone.
use Rattle.std.specs.Prelude.{◌≡◌, ℕ, ◌≤◌, List, length, Option, Some, None}
use Rattle.cbt_model.specs.Keys.{IsOrdered, doc_at}
use Rattle.cbt_model.specs.declared.documents.DocState.{DocState}
use Rattle.cbt_model.specs.declared.states.State.{State}

-- an opening in which nobody has written: no entry, no staging, no stamp above the clock
pub record IsFresh (s : State) : Type 0 where
  pub ordered : IsOrdered s
  pub entries : length s.entries ≡ 0
  pub clients : length s.clients ≡ 0
  pub unstaged : (doc : List ℕ) (d : DocState) → doc_at s doc ≡ Some d → d.stage ≡ None
  pub low : (doc : List ℕ) (d : DocState) → doc_at s doc ≡ Some d → d.cas ≤ s.last

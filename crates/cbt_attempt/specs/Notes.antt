-- What the own writes that an attempt has noted are on its client's own list.
use Rattle.std.specs.Prelude.{◌≡◌, ◌≢◌, ℕ, true, List, Option, Some}
use Rattle.cbt_model.specs.History.{is_done}
use Rattle.cbt_model.specs.declared.documents.OpKind.{OpKind}
use Rattle.cbt_model.specs.declared.documents.Stage.{Stage}
use Rattle.cbt_model.specs.declared.events.Made.{Made}
use Rattle.cbt_model.specs.declared.steps.Step.{Step}
use Rattle.cbt_model.specs.declared.steps.Step.TheVariants as step
use Rattle.cbt_book.specs.Licence.{MayHaveStaged, StagesFor, WritesFor, WritesInVain}
use Rattle.cbt_book.specs.OwnLists.{Once, Kept}
use Rattle.cbt_book.specs.Shown.{StagesAt, AddsEntry}
use Rattle.cbt_attempt.specs.declared.own.Own.{Own}

-- what an own write of attempt a, whose entry stands in record r, staged
abbrev pub stage_of : ℕ → ℕ → Own → Stage
stage_of a r w = record { attempt = a; atr = r; kind = w.kind; content = w.content }

-- as much as a rollback needs, and always so: an own write with a CAS was staged so, and may not have been staged since; and what
-- may stand staged is noted
pub record NotesWrites (a r : ℕ) (own : List ℕ → Option Own) (l : List Made) : Type 0 where
  pub staged : (d : List ℕ) (w : Own) (x : ℕ) → own d ≡ Some w → w.cas ≡ Some x → Kept (λ m _. StagesAt d x (stage_of a r w) m) (λ m _. MayHaveStaged a d m) l
  pub listed : (d : List ℕ) → Kept (λ m _. MayHaveStaged a d m) (λ m _. (x : ℕ) × (m.step ≡ step.Unstick d x) × (is_done m.answer.reply ≡ true)) l
      → (w : Own) × (own d ≡ Some w)

-- as much as a commit needs, while all goes well: each own write has a CAS and is the last that was written of its document; what
-- was staged last is noted; and nothing was written in vain since the entry was added
pub record NotesAll (a r : ℕ) (own : List ℕ → Option Own) (l : List Made) : Type 0 where
  pub known : (d : List ℕ) (w : Own) → own d ≡ Some w → (x : ℕ) × (w.cas ≡ Some x)
  pub last : (d : List ℕ) (w : Own) (x : ℕ) → own d ≡ Some w → w.cas ≡ Some x → Kept (λ m _. StagesAt d x (stage_of a r w) m) (WritesFor a d) l
  pub only : (k : OpKind) (d : List ℕ) → Kept (λ m _. StagesFor a k d m) (WritesFor a d) l → (w : Own) × (own d ≡ Some w) × (w.kind ≡ k)
  pub fine : Once (λ m _. AddsEntry r a m) l → Kept (λ m _. AddsEntry r a m) (WritesInVain a) l

-- a call of this list stages for the attempt
abbrev pub HasStaged : ℕ → List Made → Type 0
HasStaged a l = Once (λ m _. (k : OpKind) × (d : List ℕ) × StagesFor a k d m) l

-- a step that stages nothing for the attempt
abbrev pub IsNoStaging : ℕ → Step → Type 0
IsNoStaging a (step.Stage d e stage) = stage.attempt ≢ a
IsNoStaging a _ = Unit {0}

-- a step that neither stages for the attempt nor takes a staging off
abbrev pub IsQuiet : ℕ → Step → Type 0
IsQuiet a (step.Unstick d x) = ⊥
IsQuiet a s = IsNoStaging a s

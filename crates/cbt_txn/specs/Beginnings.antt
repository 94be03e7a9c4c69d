-- The work with which an operation begins.
use Rattle.std.specs.Prelude.{◌≡◌, ℕ, List, [], Some, None}
use Rattle.cbt_book.specs.ReadAt.{Reading}
use Rattle.cbt_attempt.specs.declared.attempt.Attempt.{Attempt}
use Rattle.cbt_attempt.specs.declared.own.Own.{Own}
use Rattle.cbt_read.specs.declared.phases.Phase.TheVariants.{Begun}
use Rattle.cbt_stage.specs.Phases as put
use Rattle.cbt_stage.specs.PutCalls.{terms_of}
use Rattle.cbt_stage.specs.Rewrites.{rewrite_of, CanWriteAgain}
use Rattle.cbt_stage.specs.Rewriting.{StandsOnce}
use Rattle.cbt_stage.specs.Standing as stands
use Rattle.cbt_stage.specs.Tasks.{task_of}
use Rattle.cbt_stage.specs.declared.agains.Again.{Again}
use Rattle.cbt_stage.specs.declared.puts.Put.{Put}
use Rattle.cbt_txn.specs.declared.operations.Work.{Work}
use Rattle.cbt_txn.specs.declared.operations.Work.TheVariants as work
use Rattle.cbt_txn.specs.declared.starts.Beginning.{Beginning}
use Rattle.cbt_txn.specs.declared.starts.Beginning.TheVariants as beginning

-- a write over an own write needs one that has a CAS
abbrev pub CanBegin : Attempt → Beginning → Type 0
CanBegin a (beginning.Again d write) = CanWriteAgain a d write.kind
CanBegin a _ = Unit {0}

-- a put that stands on this reading
pub record IsPut (a : Attempt) (d : List ℕ) (write : Own) (it : Reading) (made : Put) : Type 0 where
  pub task_is : made.task ≡ task_of a d write.kind write.content it
  pub phase_is : made.phase ≡ put.start made.task
  pub stands : stands.StandsFor (terms_of a) made []

-- a write over an own write
pub record IsAgain (a : Attempt) (d : List ℕ) (write : Own) (made : Again) : Type 0 where
  pub task_is : Some made.task ≡ rewrite_of a d write.kind write.content
  pub going : made.end ≡ None
  pub stands : StandsOnce (terms_of a) made []

-- the work with which an operation begins
abbrev pub Begins : Attempt → Beginning → Work → Type 0
Begins a (beginning.Get d) w = w ≡ work.Get (record { doc = d; phase = Begun }) None
Begins a (beginning.Read d write) w = w ≡ work.Get (record { doc = d; phase = Begun }) (Some write)
Begins a (beginning.Put d write it) w = (made : Put) × (w ≡ work.Put made) × IsPut a d write it made
Begins a (beginning.Again d write) w = (made : Again) × (w ≡ work.Again made) × IsAgain a d write made

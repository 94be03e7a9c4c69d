-- What is so of each run of the program.
use Rattle.std.specs.Prelude.{◌≡◌, ℕ, ◌+◌, Bool, true, [], length, Some, None}
use Rattle.cbt_book.specs.declared.book.Book.{Book}
use Rattle.cbt_core.specs.Invariant.{CommitsOwnWrites}
use Rattle.cbt_core.specs.Laws.{NeverBoth, CommitsOnce, NoCommitDecided, DocumentsCommitted, ContendedByOthers, MovedByOther, BlockedByAnother, NoUpdateLost, AtMostOnce, PassesLeaveNothing, AttemptsLeaveNothing, LostByEviction}
use Rattle.cbt_core.specs.Right.{AnswersRight, MomentsRise}
use Rattle.cbt_core.specs.Runs.{sweeps, AreLicensed, IsLegalRun, LogsFollow}
use Rattle.cbt_model.specs.Legal.{AreReadings}
use Rattle.cbt_runs.specs.Ordered.{AreInTurns}
use Rattle.cbt_script.specs.declared.script.Script.{Script}
use Rattle.cbtx.specs.Cases.{ahead_of, case_of}
use Rattle.cbtx.specs.declared.ran.Ran.{Ran}

-- it is so of the script and the book of a run, where they are there
abbrev pub WhereRan : Ran → (Script → Book → Type 0) → Type 0
WhereRan ran P = (script : Script) (book : Book) → ran.script ≡ Some script → ran.book ≡ Some book → P script book

-- the book is of a legal run of the script, of licensed actors, whose logs follow their plans
pub record IsRunOf (script : Script) (book : Book) : Type 0 where
  pub legal : IsLegalRun (case_of script) book
  pub licensed : AreLicensed (case_of script) book
  pub follow : LogsFollow (case_of script) book

-- the actors called in the script's order and then in turns, and the sweep behind them; a mark of the clock is missing only where memory
-- was refused, which is told by status 5
pub record IsInTurns (status : ℕ) (script : Script) (book : Book) : Type 0 where
  pub refused : Bool
  pub told : refused ≡ true → status ≡ 5
  pub turns : AreInTurns (length script.clients + length script.cleaners) (sweeps script.sweep) (ahead_of script) script.order refused
      book.kept.history [] book.kept.marks

-- without a clock line the calls were made at these readings
abbrev pub ReadsBy : ((ℕ → ℕ) → Type 0) → Script → Book → Type 0
ReadsBy due script book = script.line ≡ None → (f : ℕ → ℕ) → due f → AreReadings f book.kept.history book.kept.marks

-- what the laws over runs say of such a run
pub record IsRight (script : Script) (book : Book) : Type 0 where
  pub never_both : NeverBoth book.kept.opening book.kept.history
  pub commits_once : CommitsOnce book.kept.opening book.kept.history
  pub no_commit_decided : NoCommitDecided book.kept.opening book.kept.history
  pub documents : DocumentsCommitted (case_of script) book
  pub own_writes : CommitsOwnWrites (case_of script) book
  pub answers : AnswersRight (case_of script) book
  pub moments : MomentsRise book
  pub contended : ContendedByOthers (case_of script) book
  pub moved : MovedByOther (case_of script) book
  pub blocked : BlockedByAnother (case_of script) book
  pub passes : PassesLeaveNothing book
  pub attempts : AttemptsLeaveNothing book
  pub entries_lost : LostByEviction book
  pub no_update_lost : NoUpdateLost (case_of script) book
  pub at_most_once : AtMostOnce book

-- What an operation does first, by what it asks for and by what its attempt has noted.
use Rattle.std.specs.Prelude.{ℕ, Bool, true, false, ◌&&◌, if◌then◌else◌, List, Option, Some, None, is_some, Result, Ok, Err}
use Rattle.cbt_json.specs.declared.value.Json.{Json}
use Rattle.cbt_model.specs.declared.documents.OpKind.{OpKind}
use Rattle.cbt_model.specs.declared.documents.OpKind.TheVariants.{Insert, Replace, Remove}
use Rattle.cbt_book.specs.ReadAt.{Reading}
use Rattle.cbt_book.specs.declared.operations.OpAnswer.{OpAnswer}
use Rattle.cbt_book.specs.declared.operations.OpAnswer.TheVariants as answer
use Rattle.cbt_book.specs.declared.operations.When.{When}
use Rattle.cbt_book.specs.declared.operations.When.TheVariants as when
use Rattle.cbt_core.specs.OpAnswers.{agrees}
use Rattle.cbt_core.specs.Walk.{Request, Reads, Writes, Tests}
use Rattle.cbt_attempt.specs.OwnWrites.{noted}
use Rattle.cbt_attempt.specs.declared.attempt.Attempt.{Attempt}
use Rattle.cbt_attempt.specs.declared.own.Own.{Own}
use Rattle.cbt_stage.specs.Rewrites.{needs_call}
use Rattle.cbt_txn.specs.declared.starts.Beginning.TheVariants as beginning
use Rattle.cbt_txn.specs.declared.starts.Start.{Start}
use Rattle.cbt_txn.specs.declared.starts.Start.TheVariants.{Answered, Calls}

-- what a write is answered that does not agree with what is there
abbrev pub refusal : OpKind → When → OpAnswer
refusal Insert w = answer.DocExists w
refusal Replace w = answer.DocNotFound w
refusal Remove w = answer.DocNotFound w

-- what is to be staged
abbrev pub unstamped : OpKind → Option Json → Own
unstamped kind content = record { kind = kind; content = content; cas = None }

-- over an own write
abbrev pub over_own : Attempt → Own → List ℕ → Own → Start
over_own a own d write =
    if needs_call write.kind own.kind
    then (if is_some a.sent && is_some own.cas then Calls (beginning.Again d write) else Answered answer.Moved)
    else Answered (refusal write.kind when.Own)

-- over the last reading, where it agrees, and else over a new one
abbrev pub over_reading : List ℕ → Own → Option Reading → Start
over_reading d write None = Calls (beginning.Read d write)
over_reading d write (Some it) = if agrees write.kind it.value then Calls (beginning.Put d write it) else Calls (beginning.Read d write)

abbrev pub over : Attempt → List ℕ → Own → Option Own → Start
over a d write (Some own) = over_own a own d write
over a d write None = over_reading d write (noted a.seen d)

-- a write
abbrev pub write_first : Attempt → List ℕ → OpKind → Option Json → Start
write_first a d kind content = over a d (unstamped kind content) (noted a.writes d)

-- a get
abbrev pub read_first : List ℕ → Option Own → Start
read_first d (Some own) = Answered (answer.Value own.content when.Own)
read_first d None = Calls (beginning.Get d)

-- a test
abbrev pub tested : Result Bool ℕ → Start
tested (Ok true) = Answered answer.Holds
tested (Ok false) = Answered answer.NeedFalse
tested (Err part) = Answered (answer.BadValue part)

abbrev pub started : Attempt → Request → Start
started a (Reads d name) = read_first d (noted a.writes d)
started a (Writes d kind (Ok content)) = write_first a d kind content
started a (Writes d kind (Err part)) = Answered (answer.BadValue part)
started a (Tests truth) = tested truth

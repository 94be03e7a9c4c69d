-- A get of a document that changes hands at each of nine readings.
use Rattle.std.specs.Prelude.{ℕ, List, [], ◌∷◌, Some}
use Rattle.cbt_base.specs.Ids.{attempt_number}
use Rattle.cbt_model.specs.declared.documents.OpKind.TheVariants.{Replace}
use Rattle.cbt_model.specs.declared.documents.Stage.{Stage}
use Rattle.cbt_model.specs.declared.entries.Entry.{Entry}
use Rattle.cbt_model.specs.declared.entries.EntryState.TheVariants.{Committed}
use Rattle.cbt_model.specs.declared.events.Made.{Made}
use Rattle.cbt_model.specs.declared.steps.Reply.TheVariants as reply
use Rattle.cbt_model.specs.declared.steps.Step.TheVariants as step
use Rattle.cbt_book.specs.declared.operations.OpAnswer.TheVariants as answer
use Rattle.cbt_book.specs.declared.operations.OpLog.{OpLog}
use Rattle.cbt_rows.specs.Words.{doc_a, n, stage_of, lists_of, entry_of, span_of}

-- the staging of client k, and its committed entry
abbrev pub staging : ℕ → Stage
staging k = stage_of (attempt_number k 1 1) 12 Replace (Some (n k))

abbrev pub committed : Entry
committed = entry_of Committed 2 15000 (lists_of [] (doc_a ∷ []) [])

-- a reading at this place that shows the staging of client k at CAS x
abbrev pub reads : ℕ → ℕ → ℕ → Made
reads place k x = record { step = step.ReadDoc doc_a; answer = record { place = place; now = 1000; reply = reply.Doc x (Some (n 0)) (Some (staging k)) } }

-- a reading at this place of the entry of client k
abbrev pub asks : ℕ → ℕ → Made
asks place k = record { step = step.ReadEntry 12 (attempt_number k 1 1); answer = record { place = place; now = 1000; reply = reply.Entry committed } }

-- the calls of the get, newest first
abbrev pub calls : List Made
calls = reads 16 10 1000 ∷ asks 15 9 ∷ reads 14 9 900 ∷ asks 13 8 ∷ reads 12 8 800 ∷ asks 11 7 ∷ reads 10 7 700 ∷ asks 9 6 ∷ reads 8 6 600 ∷ asks 7 5 ∷ reads 6 5 500 ∷ asks 5 4 ∷ reads 4 4 400 ∷ asks 3 3 ∷ reads 2 3 300 ∷ asks 1 2 ∷ reads 0 2 200 ∷ []

abbrev pub log : OpLog
log = record { op = 1; span = span_of 0 17; answer = answer.Contended }

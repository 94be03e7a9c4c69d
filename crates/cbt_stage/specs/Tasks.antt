-- What a put is begun with, and which calls it makes for it.
use Rattle.std.specs.Prelude.{ℕ, ◌%◌, Bool, true, false, List, Option, Some, None, is_some}
use Rattle.cbt_base.specs.Ids.{fnv_1a}
use Rattle.cbt_json.specs.declared.value.Json.{Json}
use Rattle.cbt_model.specs.declared.documents.OpKind.{OpKind}
use Rattle.cbt_model.specs.declared.steps.Step.{Step}
use Rattle.cbt_model.specs.declared.steps.Step.TheVariants as step
use Rattle.cbt_book.specs.Outcomes.{expected}
use Rattle.cbt_book.specs.ReadAt.{Reading}
use Rattle.cbt_attempt.specs.Notes.{stage_of}
use Rattle.cbt_attempt.specs.declared.attempt.Attempt.{Attempt}
use Rattle.cbt_stage.specs.declared.tasks.Task.{Task}

-- the record to which an entry was sent, or else that of the document
abbrev pub record_of : Option ℕ → List ℕ → ℕ → ℕ
record_of (Some r) d atrs = r
record_of None d atrs = fnv_1a d % atrs

-- a write of document d by an attempt, over a reading
abbrev pub task_of : Attempt → List ℕ → OpKind → Option Json → Reading → Task
task_of a d kind content it =
    record {
      doc = d;
      attempt = a.id;
      atr = record_of a.sent d a.atrs;
      exp = a.exp;
      sent = is_some a.sent;
      write = record { kind = kind; content = content; cas = None };
      seen = it;
    }

-- the call that adds the attempt's entry
abbrev pub adds : Task → Step
adds o = step.AddEntry o.atr o.attempt o.exp

-- the call that stages the write
abbrev pub stages : Task → Step
stages o = step.Stage o.doc (expected o.seen.cas) (stage_of o.attempt o.atr o.write)

-- the record to which a call adds an entry
abbrev pub record_added : Option Step → Option ℕ
record_added (Some (step.AddEntry r a exp)) = Some r
record_added _ = None

-- whether a call stages a document
abbrev pub is_staging : Option Step → Bool
is_staging (Some (step.Stage d e stage)) = true
is_staging _ = false

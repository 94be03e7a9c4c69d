-- The step that a text is: a row for each form.
use Rattle.std.specs.Prelude.{ℕ, ◌-◌, ◌^◌, Bool, true, false, if◌then◌else◌, List, Option, Some, None, codes, bytes_eq}
use Rattle.cbt_json.specs.declared.tree.Tree.{Tree}
use Rattle.cbt_model.specs.declared.documents.OpKind.{OpKind}
use Rattle.cbt_model.specs.declared.documents.OpKind.TheVariants.{Insert, Replace, Remove}
use Rattle.cbt_model.specs.declared.documents.Stage.{Stage}
use Rattle.cbt_model.specs.declared.steps.Expect.{Expect}
use Rattle.cbt_model.specs.declared.steps.Expect.TheVariants as expect
use Rattle.cbt_model.specs.declared.steps.Step.{Step}
use Rattle.cbt_model.specs.declared.steps.Step.TheVariants as step
use Rattle.cbt_history.specs.declared.step_forms.StepForm.{StepForm}
use Rattle.cbt_history.specs.declared.step_forms.StepForm.TheVariants as form
use Rattle.cbt_history.specs.Fields.{word_field, number_in, number_field, id_in, id_field, doc_in, doc_field, body_in}
use Rattle.cbt_history.specs.NamesRead.{lists_in, gone_in}
use Rattle.cbt_history.specs.Readings.{◌>>=◌}
use Rattle.cbt_history.specs.StepForms.{form_of}

abbrev pub max_16 : ℕ
max_16 = 2 ^ 16 - 1

abbrev pub max_64 : ℕ
max_64 = 2 ^ 64 - 1

-- ---- steps of one document

unfoldable pub read_doc_in : List ℕ → Option Step
read_doc_in text = do
  doc ← doc_in text
  Some (step.ReadDoc doc)

-- a document at a stamp
unfoldable pub at_cas_in : List ℕ → Option (List ℕ × ℕ)
at_cas_in text = do
  doc ← doc_field text
  cas ← number_in max_64 doc.1
  Some (doc.0, cas)

unfoldable pub publish_in : List ℕ → Option Step
publish_in text = do
  doc ← doc_field text
  cas ← number_field max_64 doc.1
  body ← body_in cas.1
  Some (step.Publish doc.0 cas.0 body)

unfoldable pub delete_in : List ℕ → Option Step
delete_in text = do
  at ← at_cas_in text
  Some (step.Delete at.0 at.1)

unfoldable pub unstick_in : List ℕ → Option Step
unstick_in text = do
  at ← at_cas_in text
  Some (step.Unstick at.0 at.1)

abbrev pub stamped : Option ℕ → Option Expect
stamped (Some cas) = Some (expect.Cas cas)
stamped None = None

abbrev pub expect_in : List ℕ → Option Expect
expect_in word = if bytes_eq word (codes "new") then Some expect.New else stamped (number_in max_64 word)

abbrev pub kind_in : List ℕ → Option OpKind
kind_in word =
    if bytes_eq word (codes "insert") then Some Insert
    else (if bytes_eq word (codes "replace") then Some Replace
    else (if bytes_eq word (codes "remove") then Some Remove
    else None))

abbrev pub held : Option Tree → Option (Option Tree)
held (Some body) = Some (Some body)
held None = None

-- what a document is to hold: a hyphen exactly for a remove
abbrev pub content_in : OpKind → List ℕ → Option (Option Tree)
content_in Insert text = held (body_in text)
content_in Replace text = held (body_in text)
content_in Remove text = if bytes_eq text (codes "-") then Some None else None

unfoldable pub stage_in : List ℕ → Option Stage
stage_in text = do
  attempt ← id_field text
  atr ← number_field max_16 attempt.1
  word ← word_field atr.1
  kind ← kind_in word.0
  content ← content_in kind word.1
  Some (record { attempt = attempt.0; atr = atr.0; kind = kind; content = content })

unfoldable pub staging_in : List ℕ → Option Step
staging_in text = do
  doc ← doc_field text
  word ← word_field doc.1
  expect ← expect_in word.0
  stage ← stage_in word.1
  Some (step.Stage doc.0 expect stage)

-- ---- steps of one entry

-- an attempt's entry in a transaction record
unfoldable pub entry_in : List ℕ → Option (ℕ × ℕ)
entry_in text = do
  atr ← number_field max_16 text
  attempt ← id_in atr.1
  Some (atr.0, attempt)

-- the same before the next space
unfoldable pub entry_field : List ℕ → Option (ℕ × ℕ × List ℕ)
entry_field text = do
  atr ← number_field max_16 text
  attempt ← id_field atr.1
  Some (atr.0, attempt.0, attempt.1)

unfoldable pub read_entry_in : List ℕ → Option Step
read_entry_in text = do
  entry ← entry_in text
  Some (step.ReadEntry entry.0 entry.1)

unfoldable pub add_entry_in : List ℕ → Option Step
add_entry_in text = do
  entry ← entry_field text
  exp ← number_in max_64 entry.2
  Some (step.AddEntry entry.0 entry.1 exp)

unfoldable pub commit_in : List ℕ → Option Step
commit_in text = do
  entry ← entry_field text
  lists ← lists_in entry.2
  Some (step.Commit entry.0 entry.1 lists)

unfoldable pub abort_in : List ℕ → Option Step
abort_in text = do
  entry ← entry_field text
  lists ← lists_in entry.2
  Some (step.Abort entry.0 entry.1 lists)

abbrev pub guard_in : List ℕ → Option Bool
guard_in word =
    if bytes_eq word (codes "guarded") then Some true
    else (if bytes_eq word (codes "plain") then Some false
    else None)

unfoldable pub drop_entry_in : List ℕ → Option Step
drop_entry_in text = do
  entry ← entry_field text
  guarded ← guard_in entry.2
  Some (step.DropEntry entry.0 entry.1 guarded)

-- ---- steps of a record

unfoldable pub read_atr_in : List ℕ → Option Step
read_atr_in text = do
  atr ← number_in max_16 text
  Some (step.ReadAtr atr)

unfoldable pub beat_in : List ℕ → Option Step
beat_in text = do
  me ← id_field text
  expires ← number_field max_64 me.1
  atrs ← number_field max_16 expires.1
  gone ← gone_in atrs.1
  Some (step.Beat me.0 expires.0 atrs.0 gone)

-- ---- all

-- the step of a form with these fields
abbrev pub fields_in : StepForm → List ℕ → Option Step
fields_in form.ReadDoc text = read_doc_in text
fields_in form.Stage text = staging_in text
fields_in form.Publish text = publish_in text
fields_in form.Delete text = delete_in text
fields_in form.Unstick text = unstick_in text
fields_in form.ReadEntry text = read_entry_in text
fields_in form.AddEntry text = add_entry_in text
fields_in form.Commit text = commit_in text
fields_in form.Abort text = abort_in text
fields_in form.DropEntry text = drop_entry_in text
fields_in form.ReadAtr text = read_atr_in text
fields_in form.Beat text = beat_in text

abbrev pub by_form : Option StepForm → List ℕ → Option Step
by_form (Some form) text = fields_in form text
by_form None text = None

abbrev pub by_word : Option (List ℕ × List ℕ) → List ℕ → Option Step
by_word (Some word) text = by_form (form_of word.0) word.1
by_word None text = if bytes_eq text (codes "read-clients") then Some step.ReadClients else None

-- the step that a text is
abbrev pub step_in : List ℕ → Option Step
step_in text = by_word (word_field text) text

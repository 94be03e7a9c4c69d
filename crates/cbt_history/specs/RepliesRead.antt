-- The forms of replies, and which of them may stand behind a step: a row for each form of step.
use Rattle.std.specs.Prelude.{ℕ, Bool, true, false, ◌||◌, is_some, if◌then◌else◌, List, Option, Some, None, codes, bytes_eq}
use Rattle.cbt_lex.specs.Decimals.{number_of}
use Rattle.cbt_model.specs.declared.steps.Step.{Step}
use Rattle.cbt_model.specs.declared.steps.Step.TheVariants as step
use Rattle.cbt_history.specs.declared.reply_forms.ReplyForm.{ReplyForm}
use Rattle.cbt_history.specs.declared.reply_forms.ReplyForm.TheVariants as form
use Rattle.cbt_history.specs.Fields.{word_field}

-- ---- forms

-- the first words of replies that have a field
abbrev pub form_with_field : List ℕ → Option ReplyForm
form_with_field word =
    if bytes_eq word (codes "doc") then Some form.Doc
    else (if bytes_eq word (codes "done") then Some form.Done
    else (if bytes_eq word (codes "cas-mismatch") then Some form.CasMismatch
    else (if bytes_eq word (codes "entry") then Some form.Entry
    else (if bytes_eq word (codes "entries") then Some form.Entries
    else (if bytes_eq word (codes "clients") then Some form.Clients
    else None)))))

-- replies that are one word
abbrev pub form_alone : List ℕ → Option ReplyForm
form_alone word =
    if bytes_eq word (codes "absent") then Some form.Absent
    else (if bytes_eq word (codes "exists") then Some form.Exists
    else (if bytes_eq word (codes "no-entry") then Some form.NoEntry
    else (if bytes_eq word (codes "decided") then Some form.Decided
    else (if bytes_eq word (codes "failed") then Some form.Failed
    else None))))

abbrev pub is_state : List ℕ → Bool
is_state word = bytes_eq word (codes "PENDING") || bytes_eq word (codes "COMMITTED") || bytes_eq word (codes "ABORTED")

-- the field of an entry is its state, and else a number
abbrev pub is_field : ReplyForm → List ℕ → Bool
is_field form.Entry word = is_state word
is_field _ word = is_some (number_of word)

abbrev pub with_field : Option ReplyForm → List ℕ → Option ReplyForm
with_field (Some form) word = if is_field form word then Some form else None
with_field None word = None

abbrev pub form_by_word : Option (List ℕ × List ℕ) → List ℕ → Option ReplyForm
form_by_word (Some word) text = with_field (form_with_field word.0) word.1
form_by_word None text = form_alone text

-- the form of the reply that a text is
abbrev pub reply_form : List ℕ → Option ReplyForm
reply_form text = form_by_word (word_field text) text

-- ---- rows

abbrev pub answers_read_doc : ReplyForm → Bool
answers_read_doc form.Doc = true
answers_read_doc form.Absent = true
answers_read_doc form.Failed = true
answers_read_doc _ = false

abbrev pub answers_stage : ReplyForm → Bool
answers_stage form.Done = true
answers_stage form.CasMismatch = true
answers_stage form.Exists = true
answers_stage form.Absent = true
answers_stage form.Failed = true
answers_stage _ = false

-- a publication, a deletion and an unstick
abbrev pub answers_unstage : ReplyForm → Bool
answers_unstage form.Done = true
answers_unstage form.CasMismatch = true
answers_unstage form.Failed = true
answers_unstage _ = false

abbrev pub answers_read_entry : ReplyForm → Bool
answers_read_entry form.Entry = true
answers_read_entry form.NoEntry = true
answers_read_entry form.Failed = true
answers_read_entry _ = false

abbrev pub answers_add_entry : ReplyForm → Bool
answers_add_entry form.Done = true
answers_add_entry form.Exists = true
answers_add_entry form.Failed = true
answers_add_entry _ = false

-- a commit, an abort and a drop
abbrev pub answers_decide : ReplyForm → Bool
answers_decide form.Done = true
answers_decide form.NoEntry = true
answers_decide form.Decided = true
answers_decide form.Failed = true
answers_decide _ = false

abbrev pub answers_read_atr : ReplyForm → Bool
answers_read_atr form.Entries = true
answers_read_atr form.Failed = true
answers_read_atr _ = false

abbrev pub answers_read_clients : ReplyForm → Bool
answers_read_clients form.Clients = true
answers_read_clients form.Failed = true
answers_read_clients _ = false

abbrev pub answers_beat : ReplyForm → Bool
answers_beat form.Done = true
answers_beat form.Failed = true
answers_beat _ = false

abbrev pub may_answer : Step → ReplyForm → Bool
may_answer (step.ReadDoc doc) form = answers_read_doc form
may_answer (step.Stage doc expect stage) form = answers_stage form
may_answer (step.Publish doc cas body) form = answers_unstage form
may_answer (step.Delete doc cas) form = answers_unstage form
may_answer (step.Unstick doc cas) form = answers_unstage form
may_answer (step.ReadEntry atr attempt) form = answers_read_entry form
may_answer (step.AddEntry atr attempt exp) form = answers_add_entry form
may_answer (step.Commit atr attempt lists) form = answers_decide form
may_answer (step.Abort atr attempt lists) form = answers_decide form
may_answer (step.DropEntry atr attempt guarded) form = answers_decide form
may_answer (step.ReadAtr atr) form = answers_read_atr form
may_answer step.ReadClients form = answers_read_clients form
may_answer (step.Beat me expires num_atrs gone) form = answers_beat form

abbrev pub form_answers : Step → Option ReplyForm → Bool
form_answers step (Some form) = may_answer step form
form_answers step None = false

-- whether a text is a reply that may stand behind a step
abbrev pub answers : Step → List ℕ → Bool
answers step text = form_answers step (reply_form text)

-- The first words of steps that have fields.
use Rattle.std.specs.Prelude.{ℕ, if◌then◌else◌, List, Option, Some, None, codes, bytes_eq}
use Rattle.cbt_history.specs.declared.step_forms.StepForm.{StepForm}
use Rattle.cbt_history.specs.declared.step_forms.StepForm.TheVariants as form

-- of one document
abbrev pub document_form : List ℕ → Option StepForm
document_form word =
    if bytes_eq word (codes "read-doc") then Some form.ReadDoc
    else (if bytes_eq word (codes "stage") then Some form.Stage
    else (if bytes_eq word (codes "publish") then Some form.Publish
    else (if bytes_eq word (codes "delete") then Some form.Delete
    else (if bytes_eq word (codes "unstick") then Some form.Unstick
    else None))))

-- of one entry
abbrev pub entry_form : List ℕ → Option StepForm
entry_form word =
    if bytes_eq word (codes "read-entry") then Some form.ReadEntry
    else (if bytes_eq word (codes "add-entry") then Some form.AddEntry
    else (if bytes_eq word (codes "commit") then Some form.Commit
    else (if bytes_eq word (codes "abort") then Some form.Abort
    else (if bytes_eq word (codes "drop-entry") then Some form.DropEntry
    else None))))

-- of a transaction record and of the client record
abbrev pub record_form : List ℕ → Option StepForm
record_form word =
    if bytes_eq word (codes "read-atr") then Some form.ReadAtr
    else (if bytes_eq word (codes "beat") then Some form.Beat
    else None)

-- the first of two, where it is there
abbrev pub or_else : Option StepForm → Option StepForm → Option StepForm
or_else (Some form) other = Some form
or_else None other = other

unfoldable pub form_of : List ℕ → Option StepForm
form_of word = or_else (document_form word) (or_else (entry_form word) (record_form word))

-- The text of a step: a row for each form.
use Rattle.std.specs.Prelude.{ℕ, Bool, true, false, List, ◌++◌, Option, Some, None, codes, decimal}
use Rattle.cbt_base.specs.Ids.{id_text}
use Rattle.cbt_json.specs.declared.tree.Tree.{Tree}
use Rattle.cbt_json.specs.Trees.{text_of}
use Rattle.cbt_model.specs.declared.documents.OpKind.{OpKind}
use Rattle.cbt_model.specs.declared.documents.OpKind.TheVariants.{Insert, Replace, Remove}
use Rattle.cbt_model.specs.declared.documents.Stage.{Stage}
use Rattle.cbt_model.specs.declared.steps.Expect.{Expect}
use Rattle.cbt_model.specs.declared.steps.Expect.TheVariants as expect
use Rattle.cbt_model.specs.declared.steps.Step.{Step}
use Rattle.cbt_model.specs.declared.steps.Step.TheVariants as step
use Rattle.cbt_history.specs.NameLists.{lists_text, ids_text}

abbrev pub expect_word : Expect → List ℕ
expect_word expect.New = codes "new"
expect_word (expect.Cas cas) = decimal cas

abbrev pub kind_word : OpKind → List ℕ
kind_word Insert = codes "insert"
kind_word Replace = codes "replace"
kind_word Remove = codes "remove"

-- what a document is to hold, and a hyphen where it is to go
abbrev pub content_text : Option Tree → List ℕ
content_text None = codes "-"
content_text (Some content) = text_of content

abbrev pub stage_text : Stage → List ℕ
stage_text stage = id_text stage.attempt ++ codes " " ++ decimal stage.atr ++ codes " " ++ kind_word stage.kind ++ codes " " ++ content_text stage.content

abbrev pub guard_word : Bool → List ℕ
guard_word true = codes "guarded"
guard_word false = codes "plain"

-- a word, with the space behind it, and a document at a stamp
abbrev pub at_cas : List ℕ → List ℕ → ℕ → List ℕ
at_cas word doc cas = word ++ doc ++ codes " " ++ decimal cas

-- a word, with the space behind it, and the entry of an attempt in a transaction record
abbrev pub of_entry : List ℕ → ℕ → ℕ → List ℕ
of_entry word atr attempt = word ++ decimal atr ++ codes " " ++ id_text attempt

abbrev pub step_text : Step → List ℕ
step_text (step.ReadDoc doc) = codes "read-doc " ++ doc
step_text (step.Stage doc expect stage) = codes "stage " ++ doc ++ codes " " ++ expect_word expect ++ codes " " ++ stage_text stage
step_text (step.Publish doc cas body) = at_cas (codes "publish ") doc cas ++ codes " " ++ text_of body
step_text (step.Delete doc cas) = at_cas (codes "delete ") doc cas
step_text (step.Unstick doc cas) = at_cas (codes "unstick ") doc cas
step_text (step.ReadEntry atr attempt) = of_entry (codes "read-entry ") atr attempt
step_text (step.AddEntry atr attempt exp) = of_entry (codes "add-entry ") atr attempt ++ codes " " ++ decimal exp
step_text (step.Commit atr attempt lists) = of_entry (codes "commit ") atr attempt ++ codes " " ++ lists_text lists
step_text (step.Abort atr attempt lists) = of_entry (codes "abort ") atr attempt ++ codes " " ++ lists_text lists
step_text (step.DropEntry atr attempt guarded) = of_entry (codes "drop-entry ") atr attempt ++ codes " " ++ guard_word guarded
step_text (step.ReadAtr atr) = codes "read-atr " ++ decimal atr
step_text step.ReadClients = codes "read-clients"
step_text (step.Beat me expires num_atrs gone) = codes "beat " ++ id_text me ++ codes " " ++ decimal expires ++ codes " " ++ decimal num_atrs ++ codes " " ++ ids_text gone

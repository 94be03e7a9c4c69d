-- The attribute `txn` of a staged document.
use Rattle.std.specs.Prelude.{ℕ, ◌^◌, ◌<◌, ◌≤◌, List, [], ◌∷◌, Option, Some, None, codes}
use Rattle.cbt_base.specs.Ids.{id_text, txn_number}
use Rattle.cbt_json.specs.declared.tree.Tree.{Tree}
use Rattle.cbt_json.specs.declared.tree.Tree.TheVariants as tree
use Rattle.cbt_json.specs.Trees.{levels}
use Rattle.cbt_model.specs.declared.documents.OpKind.{OpKind}
use Rattle.cbt_model.specs.declared.documents.OpKind.TheVariants.{Insert, Replace, Remove}
use Rattle.cbt_model.specs.declared.documents.Stage.{Stage}
use Rattle.cbt_subdoc.specs.Members.{Members}
use Rattle.cbt_shape.specs.Names.{atr_name}

abbrev pub kind_text : OpKind → List ℕ
kind_text Insert = codes "insert"
kind_text Replace = codes "replace"
kind_text Remove = codes "remove"

-- the transaction record that holds the attempt's entry
abbrev pub atr_fields : ℕ → Members
atr_fields atr = (codes "id", tree.Text (atr_name atr)) ∷ []

-- the attempt and its transaction
abbrev pub id_fields : ℕ → Members
id_fields attempt = (codes "atmpt", tree.Text (id_text attempt)) ∷ (codes "txn", tree.Text (id_text (txn_number attempt))) ∷ []

-- the content, where there is one, and the kind of write
abbrev pub op_fields : OpKind → Option Tree → Members
op_fields kind (Some content) = (codes "stgd", content) ∷ (codes "type", tree.Text (kind_text kind)) ∷ []
op_fields kind None = (codes "type", tree.Text (kind_text kind)) ∷ []

-- the written form of a staging
abbrev pub written : Stage → Tree
written stage = tree.Object (
    (codes "atr", tree.Object (atr_fields stage.atr))
    ∷ (codes "id", tree.Object (id_fields stage.attempt))
    ∷ (codes "op", tree.Object (op_fields stage.kind stage.content)) ∷ []
    )

-- ---- which stagings have one

abbrev pub max_content_levels : ℕ
max_content_levels = 125

-- a content is missing exactly for a remove, and has at most 125 levels
abbrev pub HasContent : OpKind → Option Tree → Type 0
HasContent Remove None = Unit {0}
HasContent Remove (Some content) = ⊥
HasContent Insert None = ⊥
HasContent Insert (Some content) = levels content ≤ max_content_levels
HasContent Replace None = ⊥
HasContent Replace (Some content) = levels content ≤ max_content_levels

-- the numbers of a staging are in their types' ranges
pub record IsStaging (stage : Stage) : Type 0 where
  pub attempt : stage.attempt < 2 ^ 128
  pub atr : stage.atr < 2 ^ 16
  pub content : HasContent stage.kind stage.content

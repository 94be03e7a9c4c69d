-- A staging that is written is read back.
use Rattle.std.proofs.Common.{◌≡◌, true, [], ◌∷◌, Option, Some, None, Ok, codes, refl, ap, ap₂, ◌∙◌}
use Rattle.std.proofs.lemmas.Bool.{and_from}
use Rattle.cbt_base.specs.Ids.{id_text, txn_number}
use Rattle.cbt_json.specs.declared.tree.Tree.{Tree}
use Rattle.cbt_json.specs.declared.tree.Tree.TheVariants as tree
use Rattle.cbt_model.specs.declared.documents.OpKind.{OpKind}
use Rattle.cbt_model.specs.declared.documents.OpKind.TheVariants.{Insert, Replace, Remove}
use Rattle.cbt_model.specs.declared.documents.Stage.{Stage}
use Rattle.cbt_subdoc.specs.Members.{Members, member}
use Rattle.cbt_shape.specs.Fields.{field, judged, wanted}
use Rattle.cbt_shape.specs.Forms.{id_form, txn_form, atr_form}
use Rattle.cbt_shape.specs.Names.{atr_name}
use Rattle.cbt_shape.specs.Objects.{members_of, inside, part, has_only}
use Rattle.cbt_shape.specs.Readings.{require}
use Rattle.cbt_shape.proofs.FormsBack.{text-back, atr-back, id-back, txn-back}
use Rattle.cbt_shape.proofs.Steps.{given, then_ok}
use Rattle.cbt_shape.proofs.Trees.{out-Object}
use Rattle.cbt_meta.specs.Stagings.{kind_text, atr_fields, id_fields, op_fields, written, HasContent, IsStaging}
use Rattle.cbt_meta.specs.StagingsRead.{kind_in, kind_form, content_of, stage_of, are_known, staging_of}

kind-back : (kind : OpKind) → kind_form (tree.Text (kind_text kind)) ≡ Some kind
kind-back kind = text-back kind_in (kind_text kind) ∙ by kind
  where
    by : (kind : OpKind) → kind_in (kind_text kind) ≡ Some kind
    by Insert = refl
    by Replace = refl
    by Remove = refl

type_there : (kind : OpKind) (content : Option Tree) → member (codes "type") (op_fields kind content) ≡ Some (tree.Text (kind_text kind))
type_there kind (Some c) = refl
type_there kind None = refl

content_there : (kind : OpKind) (content : Option Tree) → member (codes "stgd") (op_fields kind content) ≡ content
content_there kind (Some c) = refl
content_there kind None = refl

content-back : (kind : OpKind) (content : Option Tree) → HasContent kind content → content_of (judged (Some kind)) content ≡ Ok content
content-back Insert (Some c) has = refl
content-back Replace (Some c) has = refl
content-back Remove None has = refl
content-back Insert None has = absurd has
content-back Replace None has = absurd has
content-back Remove (Some c) has = absurd has

fields-back : (stage : Stage) → IsStaging stage → stage_of (atr_fields stage.atr) (id_fields stage.attempt) (op_fields stage.kind stage.content) ≡ Ok stage
fields-back stage is =
    let op = op_fields stage.kind stage.content in
    let kind : field kind_form (member (codes "type") op) ≡ judged (Some stage.kind) = ap (field kind_form) (type_there stage.kind stage.content) ∙ ap judged (kind-back stage.kind) in
    then_ok _ _ _ _ (given atr_form 1 (tree.Text (atr_name stage.atr)) stage.atr (atr-back stage.atr is.atr))
    (then_ok _ _ _ _ (given id_form 2 (tree.Text (id_text stage.attempt)) stage.attempt (id-back stage.attempt is.attempt))
    (then_ok _ _ _ _ (given (txn_form stage.attempt) 3 (tree.Text (id_text (txn_number stage.attempt))) tt (txn-back stage.attempt is.attempt))
    (then_ok _ _ _ _ (ap₂ content_of kind (content_there stage.kind stage.content) ∙ content-back stage.kind stage.content is.content)
    (then_ok _ _ _ _ (ap (wanted 5) kind) refl))))

op_known : (kind : OpKind) (content : Option Tree) → has_only (codes "stgd" ∷ codes "type" ∷ []) (op_fields kind content) ≡ true
op_known kind (Some c) = refl
op_known kind None = refl

module _ (atrs ids op : Members) where
  abbrev whole : Members
  whole = (codes "atr", tree.Object atrs) ∷ (codes "id", tree.Object ids) ∷ (codes "op", tree.Object op) ∷ []

  atr_part : part (codes "atr") whole ≡ atrs
  atr_part = ap inside (out-Object atrs)

  id_part : part (codes "id") whole ≡ ids
  id_part = ap inside (out-Object ids)

  op_part : part (codes "op") whole ≡ op
  op_part = ap inside (out-Object op)

  parts-back : has_only (codes "id" ∷ []) atrs ≡ true → has_only (codes "atmpt" ∷ codes "txn" ∷ []) ids ≡ true → has_only (codes "stgd" ∷ codes "type" ∷ []) op ≡ true
      → (stage : Stage) → stage_of atrs ids op ≡ Ok stage → staging_of (tree.Object whole) ≡ Ok stage
  parts-back one two three stage read =
      let known : are_known whole ≡ true =
      and_from _ _ (and_from _ _ (and_from _ _ refl (ap (has_only (codes "id" ∷ [])) atr_part ∙ one)) (ap (has_only (codes "atmpt" ∷ codes "txn" ∷ [])) id_part ∙ two))
      (ap (has_only (codes "stgd" ∷ codes "type" ∷ [])) op_part ∙ three) in
      then_ok _ _ _ _ (ap members_of (out-Object whole))
      (then_ok _ _ _ _ (ap require known)
      (ap (λ a. stage_of a (part (codes "id") whole) (part (codes "op") whole)) atr_part ∙ ap₂ (stage_of atrs) id_part op_part ∙ read))

pub read-written : (stage : Stage) → IsStaging stage → staging_of (written stage) ≡ Ok stage
read-written stage is =
    parts-back (atr_fields stage.atr) (id_fields stage.attempt) (op_fields stage.kind stage.content) refl refl (op_known stage.kind stage.content) stage (fields-back stage is)

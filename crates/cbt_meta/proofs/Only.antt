-- Only what is written of a staging is read as one.
use Rattle.std.proofs.Common.{◌≡◌, ℕ, ◌^◌, ◌<◌, ◌≤◌, Bool, true, false, cond, List, [], ◌∷◌, Option, Some, None, Ok, codes, bytes_eq, refl, sym, ap, ap₂, ◌∙◌, subst, arith}
use Rattle.std.proofs.lemmas.Bool.{and_parts}
use Rattle.std.proofs.lemmas.Slice.Eq.{bytes_eq-Decides}
use Rattle.serde_json.specs.Data.{depth}
use Rattle.cbt_base.specs.Ids.{id_text, txn_number}
use Rattle.cbt_json.specs.declared.tree.Tree.{Tree, out-Tree}
use Rattle.cbt_json.specs.declared.tree.Tree.TheVariants as tree
use Rattle.cbt_json.specs.Rules.{IsJson}
use Rattle.cbt_json.specs.Trees.{levels}
use Rattle.cbt_json.proofs.Views.{data_of-Object}
use Rattle.cbt_model.specs.declared.documents.OpKind.{OpKind}
use Rattle.cbt_model.specs.declared.documents.OpKind.TheVariants.{Insert, Replace, Remove}
use Rattle.cbt_model.specs.declared.documents.Stage.{Stage}
use Rattle.cbt_subdoc.specs.Members.{Members, member}
use Rattle.cbt_shape.specs.declared.fields.Field.TheVariants.{Good}
use Rattle.cbt_shape.specs.Fields.{field, judged, wanted, absent}
use Rattle.cbt_shape.specs.Forms.{id_form, txn_form, atr_form}
use Rattle.cbt_shape.specs.Names.{atr_name}
use Rattle.cbt_shape.specs.Objects.{members_of, part, has_only}
use Rattle.cbt_shape.specs.Readings.{◌>>=◌}
use Rattle.cbt_shape.proofs.FormsBack.{text-is, atr-is, id-is, txn-is}
use Rattle.cbt_shape.proofs.Known.{Rise, rise-json, with_field, known}
use Rattle.cbt_shape.proofs.Steps.{bound, required, there}
use Rattle.cbt_meta.specs.Stagings.{kind_text, atr_fields, id_fields, op_fields, written, HasContent, IsStaging}
use Rattle.cbt_meta.specs.StagingsRead.{kind_in, kind_form, held, nothing, content_of, stage_of, are_known, staging_of}
use Rattle.cbt_meta.proofs.Inner.{json-member, object-is, part-is}

-- ---- kinds and contents

tested : (t : Bool) (kind other : OpKind) (text : List ℕ) (rest : Option OpKind) → bytes_eq text (kind_text kind) ≡ t → (rest ≡ Some other → text ≡ kind_text other)
    → cond t (Some kind) rest ≡ Some other → text ≡ kind_text other
tested true kind other text rest same later is = (bytes_eq-Decides text (kind_text kind)).0 same ∙ ap kind_text (let e : kind ≡ other = cc in e)
tested false kind other text rest same later is = later is

kind_shown : (text : List ℕ) (kind : OpKind) → kind_in text ≡ Some kind → text ≡ kind_text kind
kind_shown text kind is =
    tested (bytes_eq text (codes "insert")) Insert kind text _ refl
    (tested (bytes_eq text (codes "replace")) Replace kind text _ refl
    (tested (bytes_eq text (codes "remove")) Remove kind text _ refl (λ none. absurd (never none)))) is
  where
    never : ◌≡◌ {A = Option OpKind} None (Some kind) → ⊥
    never e = cc

kind-is : (t : Tree) (kind : OpKind) → kind_form t ≡ Some kind → t ≡ tree.Text (kind_text kind)
kind-is t kind is = let it = text-is kind_in t kind is in it.1 ∙ ap tree.Text (kind_shown it.0 kind it.2)

-- a content that fits its kind, but for its levels
abbrev Suits : OpKind → Option Tree → Type 0
Suits Remove content = content ≡ None
Suits Insert content = (c : Tree) × (content ≡ Some c)
Suits Replace content = (c : Tree) × (content ≡ Some c)

staged : (o content : Option Tree) → (wanted 4 (field Some o) >>= held) ≡ Ok content → (o ≡ content) × ((c : Tree) × (content ≡ Some c))
staged (Some c) content is = let same : Some c ≡ content = cc in (same, (c, sym same))
staged None content is = absurd (cc)

unstaged : (o content : Option Tree) → (absent 4 o >>= nothing) ≡ Ok content → (o ≡ content) × (content ≡ None)
unstaged (Some c) content is = absurd (cc)
unstaged None content is = let same : ◌≡◌ {A = Option Tree} None content = cc in (same, sym same)

content-is : (kind : OpKind) (o content : Option Tree) → content_of (Good kind) o ≡ Ok content → (o ≡ content) × Suits kind content
content-is Insert o content is = staged o content is
content-is Replace o content is = staged o content is
content-is Remove o content is = unstaged o content is

-- ---- the parts

-- what a reading says of the three parts
record IsRead (atrs ids op : Members) (stage : Stage) : Type 0 where
  pub attempt : stage.attempt < 2 ^ 128
  pub atr : stage.atr < 2 ^ 16
  pub suits : Suits stage.kind stage.content
  pub atr_there : member (codes "id") atrs ≡ Some (tree.Text (atr_name stage.atr))
  pub attempt_there : member (codes "atmpt") ids ≡ Some (tree.Text (id_text stage.attempt))
  pub txn_there : member (codes "txn") ids ≡ Some (tree.Text (id_text (txn_number stage.attempt)))
  pub content_there : member (codes "stgd") op ≡ stage.content
  pub kind_there : member (codes "type") op ≡ Some (tree.Text (kind_text stage.kind))

fields-read : (atrs ids op : Members) (stage : Stage) → stage_of atrs ids op ≡ Ok stage → IsRead atrs ids op stage
fields-read atrs ids op stage is =
    let one = bound _ _ stage is in
    let two = bound _ _ stage one.2 in
    let three = bound _ _ stage two.2 in
    let four = bound _ _ stage three.2 in
    let five = bound _ _ stage four.2 in
    let atr = there atr_form 1 (member (codes "id") atrs) one.0 one.1 in
    let attempt = there id_form 2 (member (codes "atmpt") ids) two.0 two.1 in
    let txn = there (txn_form two.0) 3 (member (codes "txn") ids) three.0 three.1 in
    let kind = there kind_form 5 (member (codes "type") op) five.0 five.1 in
    let atr_is = atr-is atr.0 one.0 atr.2 in
    let attempt_is = id-is attempt.0 two.0 attempt.2 in
    let kind_good : field kind_form (member (codes "type") op) ≡ judged (Some five.0) = ap (field kind_form) kind.1 ∙ ap judged kind.2 in
    let content = content-is five.0 (member (codes "stgd") op) four.0 (ap (λ f. content_of f (member (codes "stgd") op)) (sym kind_good) ∙ four.1) in
    subst (IsRead atrs ids op) (let e : record { attempt = two.0; atr = one.0; kind = five.0; content = four.0 } ≡ stage = cc in e)
    (record {
      attempt = attempt_is.0;
      atr = atr_is.0;
      suits = content.1;
      atr_there = atr.1 ∙ ap Some atr_is.1;
      attempt_there = attempt.1 ∙ ap Some attempt_is.1;
      txn_there = txn.1 ∙ ap Some (txn-is two.0 txn.0 three.0 txn.2);
      content_there = content.0;
      kind_there = kind.1 ∙ ap Some (kind-is kind.0 five.0 kind.2);
    })

op_by : (kind : OpKind) (content : Option Tree) → with_field (codes "stgd") content ((codes "type", tree.Text (kind_text kind)) ∷ []) ≡ op_fields kind content
op_by kind (Some c) = refl
op_by kind None = refl

-- ---- the whole

content_low : (atrs ids : Members) (kind : OpKind) (c : Tree)
    → levels (tree.Object ((codes "atr", tree.Object atrs) ∷ (codes "id", tree.Object ids) ∷ (codes "op", tree.Object (op_fields kind (Some c))) ∷ [])) ≤ 127 → levels c ≤ 125
content_low atrs ids kind c low =
    let outer = ap depth (data_of-Object ((codes "atr", tree.Object atrs) ∷ (codes "id", tree.Object ids) ∷ (codes "op", tree.Object (op_fields kind (Some c))) ∷ [])) in
    let inner = ap depth (data_of-Object (op_fields kind (Some c))) in
    omega arith

has_content : (kind : OpKind) (content : Option Tree) → Suits kind content → ((c : Tree) → content ≡ Some c → levels c ≤ 125) → HasContent kind content
has_content Insert (Some c) suits low = low c refl
has_content Replace (Some c) suits low = low c refl
has_content Remove None suits low = tt
has_content Insert None suits low = absurd (let e = suits.1 in cc)
has_content Replace None suits low = absurd (let e = suits.1 in cc)
has_content Remove (Some c) suits low = absurd (cc)

written-by : (t : Tree) (ms : Members) (stage : Stage) → IsJson t → members_of (out-Tree t) ≡ Ok ms → are_known ms ≡ true
    → stage_of (part (codes "atr") ms) (part (codes "id") ms) (part (codes "op") ms) ≡ Ok stage → IsStaging stage × (t ≡ written stage)
written-by t ms stage json found only is =
    let atrs = part (codes "atr") ms in
    let ids = part (codes "id") ms in
    let op = part (codes "op") ms in
    let read = fields-read atrs ids op stage is in
    let and_op = and_parts _ (has_only (codes "stgd" ∷ codes "type" ∷ []) op) only in
    let and_id = and_parts _ (has_only (codes "atmpt" ∷ codes "txn" ∷ []) ids) and_op.0 in
    let and_atr = and_parts (has_only (codes "atr" ∷ codes "id" ∷ codes "op" ∷ []) ms) (has_only (codes "id" ∷ []) atrs) and_id.0 in
    let atr_there = part-is (codes "atr") (codes "id") _ ms read.atr_there in
    let id_there = part-is (codes "id") (codes "atmpt") _ ms read.attempt_there in
    let op_there = part-is (codes "op") (codes "type") _ ms read.kind_there in
    let rises : (name : List ℕ) → member name ms ≡ Some (tree.Object (part name ms)) → Rise (part name ms) = λ name at. rise-json (part name ms) (json-member name t (tree.Object (part name ms)) ms json found at) in
    let atr_is : atrs ≡ atr_fields stage.atr =
    known (codes "id" ∷ []) atrs refl (rises (codes "atr") atr_there) and_atr.1 ∙ ap (λ o. with_field (codes "id") o []) read.atr_there in
    let id_is : ids ≡ id_fields stage.attempt =
    known (codes "atmpt" ∷ codes "txn" ∷ []) ids refl (rises (codes "id") id_there) and_id.1
    ∙ ap₂ (λ a b. with_field (codes "atmpt") a (with_field (codes "txn") b [])) read.attempt_there read.txn_there in
    let op_is : op ≡ op_fields stage.kind stage.content =
    known (codes "stgd" ∷ codes "type" ∷ []) op refl (rises (codes "op") op_there) and_op.1
    ∙ ap₂ (λ a b. with_field (codes "stgd") a (with_field (codes "type") b [])) read.content_there read.kind_there ∙ op_by stage.kind stage.content in
    let whole_is : ms ≡ (codes "atr", tree.Object (atr_fields stage.atr)) ∷ (codes "id", tree.Object (id_fields stage.attempt)) ∷ (codes "op", tree.Object (op_fields stage.kind stage.content)) ∷ [] =
    known (codes "atr" ∷ codes "id" ∷ codes "op" ∷ []) ms refl (rise-json ms (subst IsJson (object-is t ms found) json)) and_atr.0
    ∙ ap (λ o. with_field (codes "atr") o (with_field (codes "id") (member (codes "id") ms) (with_field (codes "op") (member (codes "op") ms) []))) (atr_there ∙ ap (λ p. Some (tree.Object p)) atr_is)
    ∙ ap₂ (λ a b. (codes "atr", tree.Object (atr_fields stage.atr)) ∷ with_field (codes "id") a (with_field (codes "op") b []))
    (id_there ∙ ap (λ p. Some (tree.Object p)) id_is) (op_there ∙ ap (λ p. Some (tree.Object p)) op_is) in
    let same : t ≡ written stage = object-is t ms found ∙ ap tree.Object whole_is in (
      record {
        attempt = read.attempt;
        atr = read.atr;
        content = has_content stage.kind stage.content read.suits (λ c at. content_low (atr_fields stage.atr) (id_fields stage.attempt) stage.kind c
            (subst (λ o. levels (tree.Object ((codes "atr", tree.Object (atr_fields stage.atr)) ∷ (codes "id", tree.Object (id_fields stage.attempt)) ∷ (codes "op", tree.Object (op_fields stage.kind o)) ∷ [])) ≤ 127) at
            (subst (λ x. levels x ≤ 127) same json.0)));
      },
      same,
    )

pub only-read : (t : Tree) (stage : Stage) → IsJson t → staging_of t ≡ Ok stage → IsStaging stage × (t ≡ written stage)
only-read t stage json is =
    let one = bound _ _ stage is in
    let two = bound _ _ stage one.2 in
    written-by t one.0 stage json one.1 (required (are_known one.0) two.0 two.1) two.2

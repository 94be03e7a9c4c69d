-- The staging for which the value of an attribute `txn` stands. Its fields are `atr.id`, `id.atmpt`, `id.txn`, `op.stgd` and `op.type`.
use Rattle.std.specs.Prelude.{ℕ, Bool, ◌&&◌, if◌then◌else◌, List, [], ◌∷◌, Option, Some, None, Result, Ok, codes, bytes_eq}
use Rattle.cbt_json.specs.declared.tree.Tree.{Tree, out-Tree}
use Rattle.cbt_model.specs.declared.documents.OpKind.{OpKind}
use Rattle.cbt_model.specs.declared.documents.OpKind.TheVariants.{Insert, Replace, Remove}
use Rattle.cbt_model.specs.declared.documents.Stage.{Stage}
use Rattle.cbt_subdoc.specs.Members.{Members, member}
use Rattle.cbt_shape.specs.declared.fault.ShapeFault.{ShapeFault}
use Rattle.cbt_shape.specs.declared.fields.Field.{Field}
use Rattle.cbt_shape.specs.declared.fields.Field.TheVariants.{Missing, OtherForm, Good}
use Rattle.cbt_shape.specs.Fields.{field, wanted, absent}
use Rattle.cbt_shape.specs.Forms.{text_form, id_form, txn_form, atr_form}
use Rattle.cbt_shape.specs.Objects.{members_of, part, has_only}
use Rattle.cbt_shape.specs.Readings.{◌>>=◌, require}

abbrev pub kind_in : List ℕ → Option OpKind
kind_in text =
    if bytes_eq text (codes "insert") then Some Insert
    else (if bytes_eq text (codes "replace") then Some Replace
    else (if bytes_eq text (codes "remove") then Some Remove
    else None))

abbrev pub kind_form : Tree → Option OpKind
kind_form t = text_form kind_in t

abbrev pub held : Tree → Result (Option Tree) ShapeFault
held content = Ok (Some content)

abbrev pub nothing : Unit {0} → Result (Option Tree) ShapeFault
nothing u = Ok None

-- each value has the form of a content
abbrev pub staged_content : Option Tree → Result (Option Tree) ShapeFault
staged_content there = wanted 4 (field Some there) >>= held

-- the kind says whether a content should be there
abbrev pub content_of : Field OpKind → Option Tree → Result (Option Tree) ShapeFault
content_of (Good Insert) there = staged_content there
content_of (Good Replace) there = staged_content there
content_of (Good Remove) there = absent 4 there >>= nothing
content_of Missing there = Ok None
content_of OtherForm there = Ok None

-- the fields of each part, in their order
abbrev pub stage_of : Members → Members → Members → Result Stage ShapeFault
stage_of atrs ids op = do
  atr ← wanted 1 (field atr_form (member (codes "id") atrs))
  attempt ← wanted 2 (field id_form (member (codes "atmpt") ids))
  _ ← wanted 3 (field (txn_form attempt) (member (codes "txn") ids))
  content ← content_of (field kind_form (member (codes "type") op)) (member (codes "stgd") op)
  kind ← wanted 5 (field kind_form (member (codes "type") op))
  Ok (record { attempt = attempt; atr = atr; kind = kind; content = content })

-- no names but those of the fields
abbrev pub are_known : Members → Bool
are_known ms =
    has_only (codes "atr" ∷ codes "id" ∷ codes "op" ∷ []) ms
    && has_only (codes "id" ∷ []) (part (codes "atr") ms)
    && has_only (codes "atmpt" ∷ codes "txn" ∷ []) (part (codes "id") ms)
    && has_only (codes "stgd" ∷ codes "type" ∷ []) (part (codes "op") ms)

abbrev pub staging_of : Tree → Result Stage ShapeFault
staging_of t = do
  ms ← members_of (out-Tree t)
  _ ← require (are_known ms)
  stage_of (part (codes "atr") ms) (part (codes "id") ms) (part (codes "op") ms)

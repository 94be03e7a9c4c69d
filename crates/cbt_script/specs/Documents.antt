-- The documents of a script.
use Rattle.std.specs.Prelude.{ℕ, Bool, true, false, ◌&&◌, not, is_some, nat_lt, if◌then◌else◌, List, [], ◌∷◌, ◌++◌, length, Result, Ok, Err, codes, bytes_eq}
use Rattle.std.specs.List.{list_all}
use Rattle.cbt_base.specs.Keyed.{at_key, with_pair}
use Rattle.cbt_json.specs.declared.tree.Tree.{Tree, out-Tree}
use Rattle.cbt_json.specs.declared.tree.Tree.TheOpen.{Tree-F}
use Rattle.cbt_json.specs.declared.tree.Tree.TheVariants as tree
use Rattle.cbt_model.specs.Keys.{doc_cmp}
use Rattle.cbt_script.specs.declared.cause.Cause.{Cause}
use Rattle.cbt_script.specs.declared.cause.Cause.TheVariants.{Attrs, Twice, Limit}
use Rattle.cbt_script.specs.declared.documents.Documents.{Documents}
use Rattle.cbt_script.specs.Causes.{◌>>=◌, require}
use Rattle.cbt_script.specs.Fields.{id_field, body_field}

abbrev pub no_documents : Documents
no_documents = record { docs = []; ids = []; follows = false }

-- a document in front of those that follow it
abbrev pub in_front : List ℕ × Tree × Tree → Result (List (List ℕ × Tree × Tree)) Cause → Result (List (List ℕ × Tree × Tree)) Cause
in_front doc (Ok docs) = Ok (doc ∷ docs)
in_front doc (Err why) = Err why

-- an attribute may have any name but the empty one and that of stagings
abbrev pub may_name_attribute : List ℕ → Bool
may_name_attribute name = nat_lt 0 (length name) && not (bytes_eq name (codes "txn"))

-- an object whose names may all name attributes
abbrev pub are_attributes : Tree-F Tree → Bool
are_attributes (Tree-F.Object members) = list_all (λ m. may_name_attribute m.0) members
are_attributes _ = false

-- the documents, the last of which, with this identifier, has these attributes
abbrev pub attributed : List ℕ → Tree → List (List ℕ × Tree × Tree) → Result (List (List ℕ × Tree × Tree)) Cause
attributed id attrs [] = Err Attrs
attributed id attrs (doc ∷ []) = if bytes_eq doc.0 id then Ok ((doc.0, doc.1, attrs) ∷ []) else Err Attrs
attributed id attrs (doc ∷ next ∷ docs) = in_front doc (attributed id attrs (next ∷ docs))

-- `doc ID JSON`
unfoldable pub add_doc : Documents → List ℕ → Result Documents Cause
add_doc d rest = do
  id ← id_field rest
  _ ← require (not (is_some (at_key doc_cmp d.ids id.0))) Twice
  body ← body_field id.1
  _ ← require (nat_lt (length d.docs) 65536) Limit
  Ok (record { docs = d.docs ++ (id.0, body, tree.Object []) ∷ []; ids = with_pair doc_cmp d.ids id.0 tt; follows = true })

-- `attrs ID JSON`, right behind the line of the document
unfoldable pub add_attrs : Documents → List ℕ → Result Documents Cause
add_attrs d rest = do
  id ← id_field rest
  attrs ← body_field id.1
  _ ← require (are_attributes (out-Tree attrs)) Attrs
  _ ← require d.follows Attrs
  docs ← attributed id.0 attrs d.docs
  Ok (record d { docs = docs; follows = false })

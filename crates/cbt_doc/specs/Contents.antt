-- The content of a document, changed at paths, and what becomes of it.
use Rattle.std.specs.Prelude.{ℕ, suc, if◌then◌else◌, List, [], ◌∷◌, Option, Some, None, Result, Ok, Err}
use Rattle.cbt_json.specs.declared.tree.Tree.{Tree}
use Rattle.cbt_subdoc.specs.declared.edits.Refusal.{Refusal}
use Rattle.cbt_subdoc.specs.declared.edits.Refusal.TheVariants.{PathNotFound}
use Rattle.cbt_subdoc.specs.Along.{changed, fault_at}
use Rattle.cbt_doc.specs.declared.contents.Content.{Content}
use Rattle.cbt_doc.specs.declared.docs.Doc.{Doc}
use Rattle.cbt_doc.specs.declared.docs.DocMut.{DocMut}
use Rattle.cbt_doc.specs.declared.docs.BodyChange.{BodyChange}
use Rattle.cbt_doc.specs.declared.docs.BodyChange.TheVariants as body
use Rattle.cbt_doc.specs.declared.docs.DocFault.{DocFault}
use Rattle.cbt_doc.specs.declared.docs.DocFault.TheVariants.{Path}
use Rattle.cbt_json.specs.Attributes.{no_attributes, kept_attributes}

-- the content that a call begins with: where there is no document, no attributes and no body
abbrev pub content_of : Option Doc → Content
content_of None = record { attrs = no_attributes; body = None }
content_of (Some d) = record { attrs = d.attrs; body = d.body }

abbrev pub with_attrs : Content → Result Tree Refusal → Result Content Refusal
with_attrs c (Ok t) = Ok (record c { attrs = t })
with_attrs c (Err why) = Err why

abbrev pub with_body : Content → Result Tree Refusal → Result Content Refusal
with_body c (Ok t) = Ok (record c { body = Some t })
with_body c (Err why) = Err why

-- a change of the body; a body path on a tombstone was refused before
abbrev pub body_changed : ℕ → DocMut → Content → Option Tree → Result Content Refusal
body_changed cas m c None = Err PathNotFound
body_changed cas m c (Some t) = with_body c (changed cas m.change t)

-- one change, of the attributes or of the body
abbrev pub content_changed : ℕ → DocMut → Content → Result Content Refusal
content_changed cas m c = if m.attr then with_attrs c (changed cas m.change c.attrs) else body_changed cas m c c.body

abbrev pub and_then : ℕ → (Content → Result Content DocFault) → Result Content Refusal → Result Content DocFault
and_then i next (Ok c) = next c
and_then i next (Err why) = Err (Path (fault_at i why))

-- the changes in order, counted from i; the first that cannot be made decides
abbrev pub all_changed : ℕ → ℕ → List DocMut → Content → Result Content DocFault
all_changed cas i [] c = Ok c
all_changed cas i (m ∷ ms) c = and_then i (all_changed cas (suc i) ms) (content_changed cas m c)

-- the document of a content, after what the call makes of the body
abbrev pub doc_of : ℕ → BodyChange → Content → Doc
doc_of cas body.Keep c = record { cas = cas; body = c.body; attrs = c.attrs }
doc_of cas body.Ensure c = record { cas = cas; body = c.body; attrs = c.attrs }
doc_of cas (body.Revive v) c = record { cas = cas; body = Some v; attrs = c.attrs }
doc_of cas (body.Replace v) c = record { cas = cas; body = Some v; attrs = c.attrs }
doc_of cas body.Delete c = record { cas = cas; body = None; attrs = kept_attributes c.attrs }

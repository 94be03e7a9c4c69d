-- What a call makes of a document, and what a look into one finds.
use Rattle.std.specs.Prelude.{ℕ, Bool, true, false, Option, Some, None, Result, Ok, Err}
use Rattle.cbt_json.specs.declared.tree.Tree.{Tree}
use Rattle.cbt_doc.specs.declared.contents.Content.{Content}
use Rattle.cbt_doc.specs.declared.docs.Doc.{Doc}
use Rattle.cbt_doc.specs.declared.docs.DocCall.{DocCall}
use Rattle.cbt_doc.specs.declared.docs.BodyChange.{BodyChange}
use Rattle.cbt_doc.specs.declared.docs.DocFault.{DocFault}
use Rattle.cbt_doc.specs.Refusals.{expect_fault, presence_fault, paths_fault, has_body}
use Rattle.cbt_doc.specs.Contents.{content_of, all_changed, doc_of}

-- a test that comes before the rest
abbrev pub unless : Option DocFault → Result Doc DocFault → Result Doc DocFault
unless (Some fault) rest = Err fault
unless None rest = rest

abbrev pub finished : ℕ → BodyChange → Result Content DocFault → Result Doc DocFault
finished cas body (Ok c) = Ok (doc_of cas body c)
finished cas body (Err fault) = Err fault

-- the document after a call, or the first fault of the call
abbrev pub doc_after : Option Doc → DocCall → ℕ → Result Doc DocFault
doc_after slot call cas =
    unless (expect_fault call.expect slot)
    (unless (presence_fault call.body slot)
    (unless (paths_fault call.changes (has_body slot))
    (finished cas call.body (all_changed cas 0 call.changes (content_of slot)))))

-- what a look into a document looks at: the attributes, or the body where there is one
abbrev pub looked_at : Bool → Doc → Option Tree
looked_at true d = Some d.attrs
looked_at false d = d.body

-- The tests of a call on a document, in their order.
use Rattle.std.specs.Prelude.{ℕ, suc, ◌==◌, nat_lt, not, ◌&&◌, Bool, true, false, if◌then◌else◌, List, [], ◌∷◌, length, Option, Some, None, is_some}
use Rattle.std.specs.List.{list_any}
use Rattle.cbt_subdoc.specs.Along.{max_changes}
use Rattle.cbt_doc.specs.declared.docs.Doc.{Doc}
use Rattle.cbt_doc.specs.declared.docs.DocMut.{DocMut}
use Rattle.cbt_doc.specs.declared.docs.DocExpect.{DocExpect}
use Rattle.cbt_doc.specs.declared.docs.DocExpect.TheVariants as expect
use Rattle.cbt_doc.specs.declared.docs.BodyChange.{BodyChange}
use Rattle.cbt_doc.specs.declared.docs.BodyChange.TheVariants as body
use Rattle.cbt_doc.specs.declared.docs.DocFault.{DocFault}
use Rattle.cbt_doc.specs.declared.docs.DocFault.TheVariants.{Exists, NotFound, CasMismatch, Deleted, TooManyPaths, Order}

-- first: what the call expects
abbrev pub expect_fault : DocExpect → Option Doc → Option DocFault
expect_fault expect.Any slot = None
expect_fault expect.New None = None
expect_fault expect.New (Some d) = Some Exists
expect_fault (expect.Cas x) None = Some NotFound
expect_fault (expect.Cas x) (Some d) = if d.cas == x then None else Some (CasMismatch d.cas)

abbrev pub fault_where : Bool → DocFault → Option DocFault
fault_where test fault = if test then Some fault else None

-- second: what is there, by what becomes of the body; a tombstone is a document
abbrev pub presence_fault : BodyChange → Option Doc → Option DocFault
presence_fault body.Ensure None = None
presence_fault _ None = Some NotFound
presence_fault (body.Revive v) (Some d) = fault_where (is_some d.body) Exists
presence_fault (body.Replace v) (Some d) = fault_where (not (is_some d.body)) Deleted
presence_fault _ (Some d) = None

-- the document has a body
abbrev pub has_body : Option Doc → Bool
has_body None = false
has_body (Some d) = is_some d.body

-- the place, counted from i, of the first attribute path behind a body path
abbrev pub order_fault : ℕ → Bool → List DocMut → Option ℕ
order_fault i behind [] = None
order_fault i behind (m ∷ ms) =
    if m.attr && behind then Some i
    else order_fault (suc i) (if m.attr then behind else true) ms

abbrev pub has_body_path : List DocMut → Bool
has_body_path ms = list_any (λ m. not m.attr) ms

abbrev pub misplaced : Option ℕ → Option DocFault → Option DocFault
misplaced (Some i) other = Some (Order i)
misplaced None other = other

-- third: the paths, of which there are no more than `mutate` takes, for a document with a body or
-- without
abbrev pub paths_fault : List DocMut → Bool → Option DocFault
paths_fault ms live =
    if nat_lt max_changes (length ms) then Some (TooManyPaths (length ms))
    else misplaced (order_fault 0 false ms) (fault_where (not live && has_body_path ms) Deleted)

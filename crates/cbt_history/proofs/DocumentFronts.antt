-- The lines of documents, cut off: those of fewer documents, the last of which may be without its attributes.
use Rattle.std.proofs.Common.{◌≡◌, ℕ, ◌≤◌, Bool, true, false, ◌&&◌, nat_le, cond, List, [], ◌∷◌, ◌++◌, length, map, codes, refl, ap, arith, rules}
use Rattle.std.specs.List.{All}
use Rattle.std.proofs.lemmas.List.Elements.{All-nil, All-cons, All-head, All-tail}
use Rattle.cbt_json.specs.Rules.{is_regular}
use Rattle.cbt_json.specs.Trees.{data_of, levels}
use Rattle.cbt_json.specs.declared.tree.Tree.{Tree, out-Tree, the_lemmas}
use Rattle.cbt_json.specs.declared.tree.Tree.TheOpen.{Tree-F}
use Rattle.cbt_json.specs.declared.tree.Tree.TheVariants as tree
use Rattle.cbt_json.proofs.Views.{data_of-Object}
use Rattle.serde_json.specs.Data.{object, no_members, depth}
use Rattle.serde_json.specs.Written.{compact_text}
use Rattle.cbt_script.specs.Documents.{are_attributes}
use Rattle.cbt_script.specs.Printed.{has_no_members, is_empty_object, doc_line, attrs_lines, doc_lines}
use Rattle.cbt_script.specs.Rules.{IsBody, IsDocument}
use Rattle.cbt_history.proofs.Fronts.{Lines, Fronts, weaker, both}

abbrev pub Doc : Type 0
Doc = List ℕ × Tree × Tree

-- ---- no attributes

abbrev none : Tree
none = tree.Object []

none-body : IsBody none
none-body =
    let as_data : data_of none ≡ object no_members = data_of-Object [] in
    let l : levels none ≡ 1 = ap depth as_data in
    ((omega arith, ap is_regular as_data), ap (λ d. nat_le (length (compact_text d)) 4096 && nat_le (depth d) 100) as_data)

none-out : out-Tree none ≡ Tree-F.Object []
none-out = search (rules, the_lemmas)

-- ---- documents

abbrev pub doc_ids : List Doc → Lines
doc_ids docs = map (λ d. d.0) docs

pub record DocsCut (all : List Doc) (front : Lines) : Type 0 where
  pub docs : List Doc
  pub are : All IsDocument docs
  pub few : length docs ≤ length all
  pub others : Lines
  pub ids : doc_ids all ≡ doc_ids docs ++ others
  pub lines : doc_lines docs ≡ front

pub no_docs : (all : List Doc) → DocsCut all []
no_docs all = record { docs = []; are = All-nil IsDocument; few = omega arith; others = doc_ids all; ids = refl; lines = refl }

module _ (doc : Doc) (all : List Doc) (is : IsDocument doc) where
  abbrev head : List ℕ
  head = doc_line (codes "doc ") doc.0 doc.1

  abbrev CutHere : Lines → Type 0
  CutHere l = DocsCut (doc ∷ all) (head ∷ l)

  -- without its attributes
  bare : CutHere []
  bare =
      let here : Doc = (doc.0, doc.1, none) in
      record {
        docs = here ∷ [];
        are = All-cons IsDocument here [] (is.0, is.1, none-body, ap are_attributes none-out) (All-nil IsDocument);
        few = omega arith;
        others = doc_ids all;
        ids = refl;
        lines = ap (λ t. head ∷ (cond t [] (doc_line (codes "attrs ") doc.0 none ∷ []) ++ [])) (ap has_no_members none-out);
      }

  attrs_cut : (t : Bool) → Fronts CutHere (cond t [] (doc_line (codes "attrs ") doc.0 doc.2 ∷ []))
  attrs_cut true = tt
  attrs_cut false = (bare, tt)

  -- some further documents
  cut_more : (l : Lines) → DocsCut all l → CutHere (attrs_lines doc.0 doc.2 ++ l)
  cut_more l c =
      let few : length c.docs ≤ length all = c.few in
      record {
        docs = doc ∷ c.docs;
        are = All-cons IsDocument doc c.docs is c.are;
        few = omega arith;
        others = c.others;
        ids = ap (λ ls. doc.0 ∷ ls) c.ids;
        lines = ap (λ ls. head ∷ (attrs_lines doc.0 doc.2 ++ ls)) c.lines;
      }

pub docs_cut : (all : List Doc) → All IsDocument all → Fronts (DocsCut all) (doc_lines all)
docs_cut [] are = tt
docs_cut (doc ∷ all) are =
    let is = All-head IsDocument doc all are in (
      no_docs (doc ∷ all),
      both (CutHere doc all is) (attrs_lines doc.0 doc.2) (doc_lines all) (attrs_cut doc all is (is_empty_object doc.2))
          (weaker (DocsCut all) (λ l. CutHere doc all is (attrs_lines doc.0 doc.2 ++ l)) (doc_lines all) (cut_more doc all is) (docs_cut all (All-tail IsDocument doc all are))),
    )

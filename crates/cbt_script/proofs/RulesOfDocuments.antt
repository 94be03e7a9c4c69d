-- The documents of a draft keep their rules.
use Rattle.std.proofs.Common.{◌≡◌, ℕ, ◌<◌, ◌≤◌, true, not, nat_lt, nat_le, ◌&&◌, List, [], ◌∷◌, ◌++◌, length, map, is_some, Result, Ok, Err, bytes_eq, refl, sym, ap, subst, arith, rules, length-append}
use Rattle.std.specs.List.{All}
use Rattle.std.proofs.lemmas.Bool.{ltb-true, not-true}
use Rattle.std.proofs.lemmas.List.{map-append}
use Rattle.std.proofs.lemmas.List.Elements.{All-nil, All-cons, All-head, All-tail, All-push}
use Rattle.cbt_base.specs.Ids.{IsDocId}
use Rattle.cbt_base.specs.Keyed.{at_key, with_pair}
use Rattle.cbt_json.specs.declared.tree.Tree.{Tree, out-Tree, the_lemmas}
use Rattle.cbt_json.specs.declared.tree.Tree.TheOpen.{Tree-F}
use Rattle.cbt_json.specs.declared.tree.Tree.TheVariants as tree
use Rattle.cbt_json.specs.Trees.{data_of, levels}
use Rattle.cbt_json.specs.Rules.{is_regular}
use Rattle.cbt_json.proofs.Views.{data_of-Object}
use Rattle.cbt_model.specs.Keys.{doc_cmp}
use Rattle.serde_json.specs.Data.{object, no_members, depth}
use Rattle.serde_json.specs.Written.{compact_text}
use Rattle.cbt_script.specs.declared.cause.Cause.{Cause}
use Rattle.cbt_script.specs.declared.cause.Cause.TheVariants.{Attrs, Twice, Limit}
use Rattle.cbt_script.specs.declared.documents.Documents.{Documents}
use Rattle.cbt_script.specs.Documents.{no_documents, in_front, are_attributes, attributed, add_doc, add_attrs}
use Rattle.cbt_script.specs.Fields.{id_field, body_field}
use Rattle.cbt_script.specs.Rules.{IsBody, IsDocument, AreDistinct}
use Rattle.cbt_script.proofs.RulesOfFields.{Keeps, Field, keeps-bind, keeps-cond, keeps-required, id-kept, body-kept}
use Rattle.cbt_script.proofs.RulesOfNames.{AreKeys, keys-push, keys-apart, distinct-push}

abbrev Doc : Type 0
Doc = List ℕ × Tree × Tree

-- the identifiers of documents
abbrev pub ids_of : List Doc → List (List ℕ)
ids_of docs = map (λ d. d.0) docs

pub record AreDocuments (d : Documents) : Type 0 where
  pub docs : All IsDocument d.docs
  pub few : length d.docs ≤ 65536
  pub keys : AreKeys d.ids (ids_of d.docs)
  pub distinct : AreDistinct (ids_of d.docs)

pub no-documents : AreDocuments no_documents
no-documents = record { docs = All-nil IsDocument; few = omega arith; keys = All-nil (λ name. is_some (at_key {V = Unit {0}} doc_cmp [] name) ≡ true); distinct = tt }

-- ---- no attributes

abbrev none : Tree
none = tree.Object []

none-data : data_of none ≡ object no_members
none-data = data_of-Object []

none-body : IsBody none
none-body =
    let l : levels none ≡ 1 = ap depth none-data in
    ((omega arith, ap is_regular none-data), ap (λ d. nat_le (length (compact_text d)) 4096 && nat_le (depth d) 100) none-data)

none-out : out-Tree none ≡ Tree-F.Object []
none-out = search (rules, the_lemmas)

none-attributes : are_attributes (out-Tree none) ≡ true
none-attributes = ap are_attributes none-out

-- ---- lines

-- the documents with other attributes
pub record IsAttributed (docs changed : List Doc) : Type 0 where
  pub keep : All IsDocument changed
  pub ids : ids_of changed ≡ ids_of docs
  pub count : length changed ≡ length docs

in_front-kept : (doc : Doc) (docs : List Doc) (r : Result (List Doc) Cause) → IsDocument doc → Keeps (IsAttributed docs) r → Keeps (IsAttributed (doc ∷ docs)) (in_front doc r)
in_front-kept doc docs (Err why) is kept = tt
in_front-kept doc docs (Ok changed) is kept =
    let c : length changed ≡ length docs = kept.count in
    record { keep = All-cons IsDocument doc changed is kept.keep; ids = ap (λ xs. doc.0 ∷ xs) kept.ids; count = omega arith }

attributed-kept : (id : List ℕ) (attrs : Tree) (docs : List Doc) → IsBody attrs → are_attributes (out-Tree attrs) ≡ true → All IsDocument docs → Keeps (IsAttributed docs) (attributed id attrs docs)
attributed-kept id attrs [] body may all = tt
attributed-kept id attrs (doc ∷ []) body may all =
    let is = All-head IsDocument doc [] all in
    keeps-cond (IsAttributed (doc ∷ [])) (bytes_eq doc.0 id) (Ok ((doc.0, doc.1, attrs) ∷ [])) (Err Attrs)
    (λ same. record { keep = All-cons IsDocument (doc.0, doc.1, attrs) [] (is.0, is.1, body, may) (All-nil IsDocument); ids = refl; count = refl }) (λ other. tt)
attributed-kept id attrs (doc ∷ next ∷ docs) body may all =
    in_front-kept doc (next ∷ docs) (attributed id attrs (next ∷ docs)) (All-head IsDocument doc (next ∷ docs) all)
    (attributed-kept id attrs (next ∷ docs) body may (All-tail IsDocument doc (next ∷ docs) all))

pub attrs-kept : (d : Documents) (rest : List ℕ) → AreDocuments d → Keeps AreDocuments (add_attrs d rest)
unfolding add_attrs
attrs-kept d rest are =
    keeps-bind (Field IsDocId rest) AreDocuments (id_field rest) _ (id-kept rest)
    (λ id named. keeps-bind IsBody AreDocuments (body_field id.1) _ (body-kept id.1)
    (λ attrs body. keeps-required AreDocuments (are_attributes (out-Tree attrs)) Attrs _
    (λ may. keeps-required AreDocuments d.follows Attrs _
    (λ follows. keeps-bind (IsAttributed d.docs) AreDocuments (attributed id.0 attrs d.docs) _ (attributed-kept id.0 attrs d.docs body may are.docs)
    (λ docs kept. let c : length docs ≡ length d.docs = kept.count in let few : length d.docs ≤ 65536 = are.few in
    record { docs = kept.keep; few = omega arith; keys = subst (AreKeys d.ids) (sym kept.ids) are.keys; distinct = subst AreDistinct (sym kept.ids) are.distinct })))))

pub doc-kept : (d : Documents) (rest : List ℕ) → AreDocuments d → Keeps AreDocuments (add_doc d rest)
unfolding add_doc
doc-kept d rest are =
    keeps-bind (Field IsDocId rest) AreDocuments (id_field rest) _ (id-kept rest)
    (λ id named. keeps-required AreDocuments (not (is_some (at_key doc_cmp d.ids id.0))) Twice _
    (λ new. keeps-bind IsBody AreDocuments (body_field id.1) _ (body-kept id.1)
    (λ body good. keeps-required AreDocuments (nat_lt (length d.docs) 65536) Limit _
    (λ room.
    let few : length d.docs < 65536 = ltb-true (length d.docs) 65536 room in
    let absent = not-true (is_some (at_key doc_cmp d.ids id.0)) new in
    let names : ids_of (d.docs ++ (id.0, body, none) ∷ []) ≡ ids_of d.docs ++ id.0 ∷ [] = map-append (λ (x : Doc). x.0) d.docs ((id.0, body, none) ∷ []) in
    record {
      docs = All-push IsDocument d.docs (id.0, body, none) are.docs (named.0, good, none-body, none-attributes);
      few = omega (arith, length-append d.docs ((id.0, body, none) ∷ []));
      keys = subst (AreKeys (with_pair doc_cmp d.ids id.0 tt)) (sym names) (keys-push d.ids id.0 tt (ids_of d.docs) are.keys);
      distinct = subst AreDistinct (sym names) (distinct-push (ids_of d.docs) id.0 are.distinct (keys-apart d.ids id.0 (ids_of d.docs) are.keys absent));
    }))))

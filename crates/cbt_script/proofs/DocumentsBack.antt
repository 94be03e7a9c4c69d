-- The printed documents are read back.
use Rattle.std.proofs.Common.{◌≡◌, ℕ, ◌+◌, ◌<◌, ◌≤◌, Bool, true, false, cond, ltb, not, List, [], ◌∷◌, ◌++◌, length, map, None, Ok, Err, IsTrue, ◌≢◌, true≢false, is_some, codes, refl, sym, ap, ◌∙◌, subst, arith, rules, append_assoc, append-nil, length-append}
use Rattle.std.specs.List.{AllByRecursion, All}
use Rattle.std.proofs.lemmas.Bool.{lt-ltb, le-ltb, ne_eqb}
use Rattle.std.proofs.lemmas.List.Elements.{All-head, All-tail}
use Rattle.cbt_base.specs.Keyed.{at_key, with_pair}
use Rattle.cbt_base.specs.Ids.{IsDocId}
use Rattle.cbt_json.specs.declared.tree.Tree.{Tree, out-Tree, roll-Tree, ind-Tree, map-Tree, the_lemmas}
use Rattle.cbt_json.specs.declared.tree.Tree.TheOpen.{Tree-F}
use Rattle.cbt_json.specs.declared.tree.Tree.TheVariants as tree
use Rattle.cbt_json.specs.Reading.{json_of}
use Rattle.cbt_json.specs.Trees.{text_of}
use Rattle.cbt_json.proofs.Read.{json_of-text_of}
use Rattle.cbt_lex.proofs.Spaces.{IsLed, behind_space}
use Rattle.cbt_lex.proofs.WordsBack.{led_word}
use Rattle.cbt_model.specs.Keys.{doc_cmp}
use Rattle.cbt_script.specs.declared.cause.Cause.TheVariants.{Word, Form, Big, Twice, Limit, Attrs}
use Rattle.cbt_script.specs.declared.draft.Draft.{Draft}
use Rattle.cbt_script.specs.declared.draft.Group.{Group}
use Rattle.cbt_script.specs.declared.draft.Group.TheVariants as group
use Rattle.cbt_script.specs.declared.keywords.Keyword.TheVariants as k
use Rattle.cbt_script.specs.declared.settings.Settings.{Settings}
use Rattle.cbt_script.specs.Causes.{◌>>=◌, and_then, require}
use Rattle.cbt_script.specs.Documents.{are_attributes, attributed, add_doc, add_attrs}
use Rattle.cbt_script.specs.Drafts.{start, group_number, enter, doc_line, attrs_line}
use Rattle.cbt_script.specs.Fields.{id_field, body_field, fit_body}
use Rattle.cbt_script.specs.Keywords.{keyword_of}
use Rattle.cbt_script.specs.Printed.{has_no_members, is_empty_object, attrs_lines, doc_lines}
use Rattle.cbt_script.specs.Printed as printed
use Rattle.cbt_script.specs.Reading.{taken}
use Rattle.cbt_script.specs.Rules.{IsBody, IsDocument, AreDistinct}
use Rattle.cbt_script.proofs.Attributed.{attributed_last}
use Rattle.cbt_script.proofs.Drafted.{drafted, drafted_on, drafted_same, drafted_both}
use Rattle.cbt_script.proofs.KeysBack.{at_other}
use Rattle.cbt_script.proofs.KeywordsBack.{line_taken}
use Rattle.cbt_script.proofs.TextsBack.{json_edged}
use Rattle.cbt_script.proofs.FieldsBack.{id_field-next, bytes_same}
use Rattle.cbt_script.proofs.IdsBack.{id_word}

abbrev pub Doc : Type 0
Doc = List ℕ × Tree × Tree

abbrev pub Ids : Type 0
Ids = List (List ℕ × Unit {0})

abbrev pub with_documents : Settings → Group → List Doc → Ids → Bool → Draft
with_documents s g docs ids follows = record start { group = g; settings = s; documents = record { docs = docs; ids = ids; follows = follows } }

entered_if : (t : Bool) (next : Group) (d : Draft) → t ≡ false → cond t (Err Word) (Ok (record d { group = next })) ≡ Ok (record d { group = next })
entered_if t next d is = ap (λ b. cond b (Err Word) (Ok (record d { group = next }))) is

-- a group that may stand before another
pub entered : (next : Group) (d : Draft) → group_number d.group ≤ group_number next → enter next d ≡ Ok (record d { group = next })
entered next d low = entered_if (ltb (group_number next) (group_number d.group)) next d (le-ltb (group_number next) (group_number d.group) low)

-- ---- bodies

pub body_back : (t : Tree) → IsBody t → body_field (text_of t) ≡ Ok t
body_back t is =
    let edged = json_edged t is.0 in
    let some : 0 < length (text_of t) = edged.some in
    ap (λ b. cond b (Err Form) (fit_body (json_of (text_of t)))) (ne_eqb (length (text_of t)) 0 (λ e. omega arith))
    ∙ ap fit_body (json_of-text_of t is.0) ∙ ap (λ b. cond b (Ok t) (Err Big)) is.1

-- an identifier and a JSON behind it
module _ (id : List ℕ) (t : Tree) (fit : IsDocId id) (is : IsBody t) where
  pub led_id : (tail : List ℕ) → IsLed (id ++ tail)
  led_id tail = led_word id tail (id_word id fit)

  pub id_back : id_field (id ++ 32 ∷ text_of t) ≡ Ok (id, text_of t)
  id_back = id_field-next id (32 ∷ text_of t) (id_word id fit) refl fit ∙ ap (λ x. Ok (id, x)) (behind_space (text_of t) (json_edged t is.0).led)

module _ (s : Settings) (g : Group) (low : group_number g ≤ 1) (docs : List Doc) (ids : Ids) (follows : Bool) (id : List ℕ) (t : Tree) (fit : IsDocId id) (is : IsBody t) where
  abbrev at_doc : Draft
  at_doc = with_documents s g docs ids follows

  doc_taken : at_key doc_cmp ids id ≡ None → length docs < 65536
      → taken at_doc (printed.doc_line (codes "doc ") id t) ≡ Ok (with_documents s group.Documents (docs ++ (id, t, tree.Object []) ∷ []) (with_pair doc_cmp ids id tt) true)
  unfolding keyword_of doc_line add_doc
  doc_taken new few =
      ap (λ x. taken at_doc (codes "doc " ++ x)) (append_assoc id (32 ∷ []) (text_of t))
      ∙ line_taken at_doc 100 (codes "oc") (id ++ 32 ∷ text_of t) k.Doc refl refl refl (led_id id t fit is (32 ∷ text_of t))
      ∙ ap (λ r. r >>= (λ e. add_doc e.documents (id ++ 32 ∷ text_of t) >>= (λ x. Ok (record e { documents = x })))) (entered group.Documents at_doc low)
      ∙ ap (λ r. (r >>= (λ i. require (not (is_some (at_key doc_cmp ids i.0))) Twice >>= (λ _. body_field i.1 >>= (λ body. require (ltb (length docs) 65536) Limit
      >>= (λ _. Ok (record { docs = docs ++ (i.0, body, tree.Object []) ∷ []; ids = with_pair doc_cmp ids i.0 tt; follows = true }))))))
      >>= (λ x. Ok (record at_doc { group = group.Documents; documents = x }))) (id_back id t fit is)
      ∙ ap (λ o. (require (not (is_some o)) Twice >>= (λ _. body_field (text_of t) >>= (λ body. require (ltb (length docs) 65536) Limit
      >>= (λ _. Ok (record { docs = docs ++ (id, body, tree.Object []) ∷ []; ids = with_pair doc_cmp ids id tt; follows = true })))))
      >>= (λ x. Ok (record at_doc { group = group.Documents; documents = x }))) new
      ∙ ap (λ r. (r >>= (λ body. require (ltb (length docs) 65536) Limit
      >>= (λ _. Ok (record { docs = docs ++ (id, body, tree.Object []) ∷ []; ids = with_pair doc_cmp ids id tt; follows = true }))))
      >>= (λ x. Ok (record at_doc { group = group.Documents; documents = x }))) (body_back t is)
      ∙ ap (λ b. (require b Limit
      >>= (λ _. Ok (record { docs = docs ++ (id, t, tree.Object []) ∷ []; ids = with_pair doc_cmp ids id tt; follows = true })))
      >>= (λ x. Ok (record at_doc { group = group.Documents; documents = x }))) (lt-ltb (length docs) 65536 few)

-- ---- attributes

abbrev Emptied : Tree → Type 0
Emptied t = is_empty_object t ≡ true → t ≡ tree.Object []

not_empty : (t : Tree) (o : Tree-F Tree) → out-Tree t ≡ o → has_no_members o ≡ false → is_empty_object t ≡ true → ⊥
not_empty t o same other is = true≢false (sym is ∙ ap has_no_members same ∙ other)

empty_level : (y : Tree-F ((t : Tree) × Emptied t)) → Emptied (roll-Tree (map-Tree _ Tree (λ e. e.0) y))
empty_level Tree-F.Null = subst Emptied (sym tree.rolls-Null) (λ is. absurd (not_empty tree.Null Tree-F.Null (search (rules, the_lemmas)) refl is))
empty_level (Tree-F.Bool b) = subst Emptied (sym (tree.rolls-Bool b)) (λ is. absurd (not_empty (tree.Bool b) (Tree-F.Bool b) (search (rules, the_lemmas)) refl is))
empty_level (Tree-F.Whole z) = subst Emptied (sym (tree.rolls-Whole z)) (λ is. absurd (not_empty (tree.Whole z) (Tree-F.Whole z) (search (rules, the_lemmas)) refl is))
empty_level (Tree-F.Text s) = subst Emptied (sym (tree.rolls-Text s)) (λ is. absurd (not_empty (tree.Text s) (Tree-F.Text s) (search (rules, the_lemmas)) refl is))
empty_level (Tree-F.List es) =
    let ts = map (λ (e : (t : Tree) × Emptied t). e.0) es in
    subst Emptied (sym (tree.rolls-List ts)) (λ is. absurd (not_empty (tree.List ts) (Tree-F.List ts) (search (rules, the_lemmas)) refl is))
empty_level (Tree-F.Object []) = subst Emptied (sym (tree.rolls-Object [])) (λ is. refl)
empty_level (Tree-F.Object (m ∷ es)) =
    let ms = map (λ (e : List ℕ × ((t : Tree) × Emptied t)). (e.0, e.1.0)) (m ∷ es) in
    subst Emptied (sym (tree.rolls-Object ms)) (λ is. absurd (not_empty (tree.Object ms) (Tree-F.Object ms) (search (rules, the_lemmas)) refl is))

empty_object : (t : Tree) → Emptied t
empty_object = ind-Tree Emptied (λ x y is. subst (λ z. Emptied (roll-Tree z)) is (empty_level y))

module _ (s : Settings) (docs : List Doc) (ids : Ids) (id : List ℕ) (body t : Tree) (fit : IsDocId id) (is : IsBody t) where
  abbrev at_attrs : Draft
  at_attrs = with_documents s group.Documents (docs ++ (id, body, tree.Object []) ∷ []) ids true

  abbrev past_attrs : Bool → Draft
  past_attrs follows = with_documents s group.Documents (docs ++ (id, body, t) ∷ []) ids follows

  attributed_is : attributed id t (docs ++ (id, body, tree.Object []) ∷ []) ≡ Ok (docs ++ (id, body, t) ∷ [])
  attributed_is = attributed_last id t docs (id, body, tree.Object []) ∙ ap (λ b. cond b (Ok (docs ++ (id, body, t) ∷ [])) (Err Attrs)) (bytes_same id)

  attrs_taken : IsTrue (are_attributes (out-Tree t)) → taken at_attrs (printed.doc_line (codes "attrs ") id t) ≡ Ok (past_attrs false)
  unfolding keyword_of attrs_line add_attrs
  attrs_taken may =
      ap (λ x. taken at_attrs (codes "attrs " ++ x)) (append_assoc id (32 ∷ []) (text_of t))
      ∙ line_taken at_attrs 97 (codes "ttrs") (id ++ 32 ∷ text_of t) k.Attrs refl refl refl (led_id id t fit is (32 ∷ text_of t))
      ∙ ap (λ r. (r >>= (λ i. body_field i.1 >>= (λ attrs. require (are_attributes (out-Tree attrs)) Attrs >>= (λ _. attributed i.0 attrs (docs ++ (id, body, tree.Object []) ∷ [])
      >>= (λ ds. Ok (record { docs = ds; ids = ids; follows = false }))))))
      >>= (λ x. Ok (record at_attrs { documents = x }))) (id_back id t fit is)
      ∙ ap (λ r. (r >>= (λ attrs. require (are_attributes (out-Tree attrs)) Attrs >>= (λ _. attributed id attrs (docs ++ (id, body, tree.Object []) ∷ [])
      >>= (λ ds. Ok (record { docs = ds; ids = ids; follows = false })))))
      >>= (λ x. Ok (record at_attrs { documents = x }))) (body_back t is)
      ∙ ap (λ b. (require b Attrs >>= (λ _. attributed id t (docs ++ (id, body, tree.Object []) ∷ []) >>= (λ ds. Ok (record { docs = ds; ids = ids; follows = false }))))
      >>= (λ x. Ok (record at_attrs { documents = x }))) may
      ∙ ap (λ r. (r >>= (λ ds. Ok (record { docs = ds; ids = ids; follows = false }))) >>= (λ x. Ok (record at_attrs { documents = x }))) attributed_is

  attrs_if : (e : Bool) → is_empty_object t ≡ e → IsTrue (are_attributes (out-Tree t)) → drafted at_attrs (cond e [] (printed.doc_line (codes "attrs ") id t ∷ [])) ≡ Ok (past_attrs e)
  attrs_if true none may = ap (λ x. Ok (with_documents s group.Documents (docs ++ (id, body, x) ∷ []) ids true)) (sym (empty_object t none))
  attrs_if false some may = ap (λ r. and_then r (λ x. Ok x)) (attrs_taken may)

  attrs_back : IsTrue (are_attributes (out-Tree t)) → drafted at_attrs (attrs_lines id t) ≡ Ok (past_attrs (is_empty_object t))
  attrs_back may = attrs_if (is_empty_object t) refl may

-- ---- all documents

-- no document has an identifier that is taken
abbrev NoneIn : Ids → List Doc → Type 0
NoneIn ids docs = AllByRecursion (λ doc. at_key doc_cmp ids doc.0 ≡ None) docs

none_more : (ids : Ids) (id : List ℕ) (docs : List Doc) → All (λ y. id ≢ y) (map (λ d. d.0) docs) → NoneIn ids docs → NoneIn (with_pair doc_cmp ids id tt) docs
none_more ids id [] apart none = tt
none_more ids id (doc ∷ docs) apart none = (
  at_other ids id doc.0 tt (All-head (λ y. id ≢ y) doc.0 (map (λ d. d.0) docs) apart) ∙ none.0,
  none_more ids id docs (All-tail (λ y. id ≢ y) doc.0 (map (λ d. d.0) docs) apart) none.1,
)

pub none_at_start : (docs : List Doc) → NoneIn [] docs
none_at_start [] = tt
none_at_start (doc ∷ docs) = (refl, none_at_start docs)

pub record DocsRead (s : Settings) (g : Group) (docs more : List Doc) (ids : Ids) (follows : Bool) : Type 0 where
  pub last : Group
  pub low : group_number last ≤ 1
  pub last_ids : Ids
  pub last_follows : Bool
  pub reads : drafted (with_documents s g docs ids follows) (doc_lines more) ≡ Ok (with_documents s last (docs ++ more) last_ids last_follows)

pub docs_back : (s : Settings) (g : Group) (docs more : List Doc) (ids : Ids) (follows : Bool) → group_number g ≤ 1 → All IsDocument more → AreDistinct (map (λ d. d.0) more) → NoneIn ids more
    → length docs + length more ≤ 65536 → DocsRead s g docs more ids follows
docs_back s g docs [] ids follows low all apart none few = record { last = g; low = low; last_ids = ids; last_follows = follows; reads = ap (λ x. Ok (with_documents s g x ids follows)) (sym (append-nil docs)) }
docs_back s g docs (doc ∷ more) ids follows low all apart none few =
    let is = All-head IsDocument doc more all in
    let next = with_pair doc_cmp ids doc.0 tt in
    let room : length docs < 65536 = omega arith in
    let few_more : length (docs ++ doc ∷ []) + length more ≤ 65536 = omega (arith, length-append docs (doc ∷ [])) in
    let rest = docs_back s group.Documents (docs ++ doc ∷ []) more next (is_empty_object doc.2) (omega arith) (All-tail IsDocument doc more all) apart.1 (none_more ids doc.0 more apart.0 none.1) few_more in
    let first = with_documents s group.Documents (docs ++ (doc.0, doc.1, tree.Object []) ∷ []) next true in
    let second = with_documents s group.Documents (docs ++ doc ∷ []) next (is_empty_object doc.2) in
    let end = with_documents s rest.last (docs ++ doc ∷ more) rest.last_ids rest.last_follows in
    record {
      last = rest.last;
      low = rest.low;
      last_ids = rest.last_ids;
      last_follows = rest.last_follows;
      reads = drafted_on (with_documents s g docs ids follows) first end (printed.doc_line (codes "doc ") doc.0 doc.1) (attrs_lines doc.0 doc.2 ++ doc_lines more)
          (doc_taken s g low docs ids follows doc.0 doc.1 is.0 is.1 none.0 room)
          (drafted_both first second end (attrs_lines doc.0 doc.2) (doc_lines more) (attrs_back s docs next doc.0 doc.1 doc.2 is.0 is.2 is.3)
          (drafted_same second (with_documents s rest.last (docs ++ doc ∷ [] ++ more) rest.last_ids rest.last_follows) end (doc_lines more) rest.reads
          (ap (λ x. with_documents s rest.last x rest.last_ids rest.last_follows) (append_assoc docs (doc ∷ []) more))));
    }

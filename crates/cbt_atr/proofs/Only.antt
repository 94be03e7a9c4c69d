-- Only what is written of entries whose attempts rise is read as these.
use Rattle.std.proofs.Common.{◌≡◌, ℕ, pos, ◌^◌, ◌<◌, ◌==◌, Bool, true, false, cond, is_none, List, [], ◌∷◌, ◌++◌, map, Option, Some, None, Result, Ok, codes, bytes_eq, refl, sym, ap, ap₂, ◌∙◌, subst, arith}
use Rattle.std.proofs.lemmas.Bool.{and_parts, and_from, lt-ltb, eqb-true}
use Rattle.std.proofs.lemmas.Bool.Decides.{nat_tests}
use Rattle.std.proofs.lemmas.Slice.Eq.{bytes_eq-Decides}
use Rattle.std.specs.List.{AllByRecursion}
use Rattle.std.specs.Option.{option_and_then}
use Rattle.std.specs.Ordering.{nat_cmp}
use Rattle.std.specs.declared.cmp.Ordering.TheVariants.{Less}
use Rattle.cbt_base.specs.Ids.{id_text, txn_number, IsDocId, id_fault}
use Rattle.cbt_base.specs.declared.doc_id.IdFault.{IdFault}
use Rattle.cbt_json.specs.declared.tree.Tree.{Tree, out-Tree}
use Rattle.cbt_json.specs.declared.tree.Tree.TheOpen.{Tree-F}
use Rattle.cbt_json.specs.declared.tree.Tree.TheVariants as tree
use Rattle.cbt_json.specs.Rules.{IsJson, is_regular, names_rise, rises_from, members_are_regular}
use Rattle.cbt_json.specs.Trees.{data_of, members_data}
use Rattle.cbt_json.proofs.Proper.{less as less_is}
use Rattle.cbt_json.proofs.Views.{data_of-Object}
use Rattle.cbt_model.specs.declared.entries.Entry.{Entry}
use Rattle.cbt_model.specs.declared.entries.EntryState.{EntryState}
use Rattle.cbt_model.specs.declared.entries.EntryState.TheVariants.{Pending, Committed, Aborted}
use Rattle.cbt_model.specs.declared.entries.Lists.{Lists}
use Rattle.cbt_model.specs.Fitting.{ids_rise, ids_rise_from}
use Rattle.cbt_subdoc.specs.Members.{Members, member, name_cmp}
use Rattle.cbt_subdoc.specs.Values.{macro_text}
use Rattle.cbt_shape.specs.declared.fault.ShapeFault.{ShapeFault}
use Rattle.cbt_shape.specs.Fields.{field, judged}
use Rattle.cbt_shape.specs.Forms.{text_form, txn_form, whole_form, macro_form, where_true}
use Rattle.cbt_shape.specs.Names.{id_in}
use Rattle.cbt_shape.specs.Objects.{members_of}
use Rattle.cbt_shape.proofs.FormsBack.{text-is, txn-is, whole-is, macro-is}
use Rattle.cbt_shape.proofs.IdNames.{id_is}
use Rattle.cbt_shape.proofs.IdOrder.{id_texts_compare}
use Rattle.cbt_shape.proofs.Known.{Rise, rise-json, with_field, known}
use Rattle.cbt_shape.proofs.Steps.{bound, required, there, not_there}
use Rattle.cbt_shape.proofs.Trees.{is-List, is-Object}
use Rattle.cbt_atr.specs.Entries.{state_text, doc_tree, docs_tree, decided_fields, state_fields, entry_fields, written_entry, written, HasLists, AreDocs, IsEntry}
use Rattle.cbt_atr.specs.EntriesRead.{state_in, state_form, zero_form, doc_in, doc_of, doc_form, doc_inside, with_doc, docs_in, docs_form, docs_inside, empty_lists, decided_lists, no_lists, lists_of, names, are_fields, entry_of, named, entry_at, entries_in, entries_of}

-- ---- forms

tested : (t : Bool) (state other : EntryState) (text : List ℕ) (rest : Option EntryState) → bytes_eq text (state_text state) ≡ t → (rest ≡ Some other → text ≡ state_text other)
    → cond t (Some state) rest ≡ Some other → text ≡ state_text other
tested true state other text rest same later is = (bytes_eq-Decides text (state_text state)).0 same ∙ ap state_text (let e : state ≡ other = cc in e)
tested false state other text rest same later is = later is

state_shown : (text : List ℕ) (state : EntryState) → state_in text ≡ Some state → text ≡ state_text state
state_shown text state is =
    tested (bytes_eq text (codes "PENDING")) Pending state text _ refl
    (tested (bytes_eq text (codes "COMMITTED")) Committed state text _ refl
    (tested (bytes_eq text (codes "ABORTED")) Aborted state text _ refl (λ none. absurd (never none)))) is
  where
    never : ◌≡◌ {A = Option EntryState} None (Some state) → ⊥
    never e = cc

state-is : (t : Tree) (state : EntryState) → state_form t ≡ Some state → t ≡ tree.Text (state_text state)
state-is t state is = let it = text-is state_in t state is in it.1 ∙ ap tree.Text (state_shown it.0 state it.2)

zero_by : (t : Tree) (u : Unit {0}) (o : Option ℕ) → whole_form t ≡ o → option_and_then (λ n. where_true (n == 0)) o ≡ Some u → t ≡ tree.Whole (pos 0)
zero_by t u (Some n) at is = (whole-is t n at).1 ∙ ap (λ m. tree.Whole (pos m)) (zero (n == 0) refl is)
  where
    zero : (b : Bool) → (n == 0) ≡ b → where_true b ≡ Some u → n ≡ 0
    zero true same is = eqb-true n 0 same
    zero false same is = absurd (cc)
zero_by t u None at is = absurd (cc)

zero-is : (t : Tree) (u : Unit {0}) → zero_form t ≡ Some u → t ≡ tree.Whole (pos 0)
zero-is t u is = zero_by t u (whole_form t) refl is

named_by : (o : Option IdFault) (text doc : List ℕ) → id_fault text ≡ o → cond (is_none o) (Some text) None ≡ Some doc → (text ≡ doc) × IsDocId doc
named_by None text doc at is = let same : text ≡ doc = cc in (same, ap id_fault (sym same) ∙ at)
named_by (Some fault) text doc at is = absurd (cc)

doc_by : (b : Bool) (m : List ℕ × Tree) (doc : List ℕ) → bytes_eq m.0 (codes "id") ≡ b → cond b (text_form doc_in m.1) None ≡ Some doc
    → (m ≡ (codes "id", tree.Text doc)) × IsDocId doc
doc_by true m doc same is =
    let it = text-is doc_in m.1 doc is in
    let p = named_by (id_fault it.0) it.0 doc refl it.2 in
    (ap₂ (λ n t. (n, t)) ((bytes_eq-Decides m.0 (codes "id")).0 same) (it.1 ∙ ap tree.Text p.0), p.1)
doc_by false m doc same is = absurd (cc)

doc_of-is : (ms : Members) (doc : List ℕ) → doc_of ms ≡ Some doc → (ms ≡ (codes "id", tree.Text doc) ∷ []) × IsDocId doc
doc_of-is [] doc is = absurd (cc)
doc_of-is (m ∷ []) doc is = let p = doc_by (bytes_eq m.0 (codes "id")) m doc refl is in (ap (λ x. x ∷ []) p.0, p.1)
doc_of-is (m ∷ n ∷ ms) doc is = absurd (cc)

doc_level : (t : Tree) (doc : List ℕ) (y : Tree-F Tree) → out-Tree t ≡ y → doc_inside y ≡ Some doc → (t ≡ doc_tree doc) × IsDocId doc
doc_level t doc (Tree-F.Object ms) at is = let p = doc_of-is ms doc is in (is-Object t ms at ∙ ap tree.Object p.0, p.1)
doc_level t doc _ at is = absurd (cc)

doc-is : (t : Tree) (doc : List ℕ) → doc_form t ≡ Some doc → (t ≡ doc_tree doc) × IsDocId doc
doc-is t doc is = doc_level t doc (out-Tree t) refl is

both : (o : Option (List ℕ)) (os : Option (List (List ℕ))) (docs : List (List ℕ)) → with_doc o os ≡ Some docs
    → (doc : List ℕ) × (o ≡ Some doc) × ((rest : List (List ℕ)) × (os ≡ Some rest) × (docs ≡ doc ∷ rest))
both (Some doc) (Some rest) docs is = (doc, refl, (rest, refl, (let e : doc ∷ rest ≡ docs = cc in sym e)))
both (Some doc) None docs is = absurd (cc)
both None os docs is = absurd (cc)

items-is : (ts : List Tree) (docs : List (List ℕ)) → docs_in ts ≡ Some docs → (ts ≡ map doc_tree docs) × AreDocs docs
items-is [] docs is = let same : ◌≡◌ {A = List (List ℕ)} [] docs = cc in (ap (map doc_tree) same, subst AreDocs same tt)
items-is (t ∷ ts) docs is =
    let it = both (doc_form t) (docs_in ts) docs is in
    let one = doc-is t it.0 it.1 in
    let rest = items-is ts it.2.0 it.2.1 in
    (ap₂ (λ x xs. x ∷ xs) one.0 rest.0 ∙ ap (map doc_tree) (sym it.2.2), subst AreDocs (sym it.2.2) (one.1, rest.1))

docs_level : (t : Tree) (docs : List (List ℕ)) (y : Tree-F Tree) → out-Tree t ≡ y → docs_inside y ≡ Some docs → (t ≡ docs_tree docs) × AreDocs docs
docs_level t docs (Tree-F.List ts) at is = let p = items-is ts docs is in (is-List t ts at ∙ ap tree.List p.0, p.1)
docs_level t docs _ at is = absurd (cc)

docs-is : (t : Tree) (docs : List (List ℕ)) → docs_form t ≡ Some docs → (t ≡ docs_tree docs) × AreDocs docs
docs-is t docs is = docs_level t docs (out-Tree t) refl is

-- ---- the fields of a decided entry

-- what a reading says of them
record AreRead (ms : Members) (state : EntryState) (lists : Lists) : Type 0 where
  pub ins : AreDocs lists.ins
  pub rep : AreDocs lists.rep
  pub rem : AreDocs lists.rem
  pub has : HasLists state lists
  pub fields : (exp st tid tst : Tree)
      → with_field (codes "exp") (Some exp) (with_field (codes "ins") (member (codes "ins") ms) (with_field (codes "p") (member (codes "p") ms)
      (with_field (codes "rem") (member (codes "rem") ms) (with_field (codes "rep") (member (codes "rep") ms)
      ((codes "st", st) ∷ (codes "tid", tid) ∷ (codes "tst", tst) ∷ [])))))
      ≡ (codes "exp", exp) ∷ state_fields state lists ++ (codes "st", st) ∷ (codes "tid", tid) ∷ (codes "tst", tst) ∷ []

abbrev around : Option Tree → Option Tree → Option Tree → Option Tree → (exp st tid tst : Tree) → Members
around ins p rem rep exp st tid tst =
    with_field (codes "exp") (Some exp) (with_field (codes "ins") ins (with_field (codes "p") p
    (with_field (codes "rem") rem (with_field (codes "rep") rep ((codes "st", st) ∷ (codes "tid", tid) ∷ (codes "tst", tst) ∷ [])))))

same_lists : (l m : Lists) → ◌≡◌ {A = Result Lists ShapeFault} (Ok l) (Ok m) → l ≡ m
same_lists l m e = cc

none-read : (ms : Members) (lists : Lists) → no_lists ms ≡ Ok lists → AreRead ms Pending lists
none-read ms lists is =
    let one = bound _ _ lists is in
    let two = bound _ _ lists one.2 in
    let three = bound _ _ lists two.2 in
    let four = bound _ _ lists three.2 in
    let same = same_lists empty_lists lists four.2 in
    let ins = not_there 2 (member (codes "ins") ms) one.0 one.1 in
    let p = not_there 3 (member (codes "p") ms) two.0 two.1 in
    let rem = not_there 4 (member (codes "rem") ms) three.0 three.1 in
    let rep = not_there 5 (member (codes "rep") ms) four.0 four.1 in
    subst (AreRead ms Pending) same (record {
      ins = tt;
      rep = tt;
      rem = tt;
      has = (refl, refl, refl);
      fields = λ exp st tid tst. λ i. around (ins i) (p i) (rem i) (rep i) exp st tid tst;
    })

decided-read : (ms : Members) (state : EntryState) (lists : Lists) → ((l : Lists) → HasLists state l) → ((l : Lists) → state_fields state l ≡ decided_fields l) → decided_lists ms ≡ Ok lists
    → AreRead ms state lists
decided-read ms state lists has shown is =
    let one = bound _ _ lists is in
    let two = bound _ _ lists one.2 in
    let three = bound _ _ lists two.2 in
    let four = bound _ _ lists three.2 in
    let same : record { ins = one.0; rep = four.0; rem = three.0 } ≡ lists = (let e = four.2 in cc) in
    let ins = there docs_form 2 (member (codes "ins") ms) one.0 one.1 in
    let p = there zero_form 3 (member (codes "p") ms) two.0 two.1 in
    let rem = there docs_form 4 (member (codes "rem") ms) three.0 three.1 in
    let rep = there docs_form 5 (member (codes "rep") ms) four.0 four.1 in
    let ins_is = docs-is ins.0 one.0 ins.2 in
    let rem_is = docs-is rem.0 three.0 rem.2 in
    let rep_is = docs-is rep.0 four.0 rep.2 in
    let ins_at = ins.1 ∙ ap Some ins_is.0 in
    let p_at = p.1 ∙ ap Some (zero-is p.0 two.0 p.2) in
    let rem_at = rem.1 ∙ ap Some rem_is.0 in
    let rep_at = rep.1 ∙ ap Some rep_is.0 in
    subst (AreRead ms state) same (record {
      ins = ins_is.1;
      rep = rep_is.1;
      rem = rem_is.1;
      has = has _;
      fields = λ exp st tid tst. (λ i. around (ins_at i) (p_at i) (rem_at i) (rep_at i) exp st tid tst)
          ∙ ap (λ fs. (codes "exp", exp) ∷ fs ++ (codes "st", st) ∷ (codes "tid", tid) ∷ (codes "tst", tst) ∷ []) (sym (shown _));
    })

lists-read : (ms : Members) (state : EntryState) (lists : Lists) → lists_of (judged (Some state)) ms ≡ Ok lists → AreRead ms state lists
lists-read ms Pending lists is = none-read ms lists is
lists-read ms Committed lists is = decided-read ms Committed lists (λ l. tt) (λ l. refl) is
lists-read ms Aborted lists is = decided-read ms Aborted lists (λ l. tt) (λ l. refl) is

-- ---- an entry

entry-only : (id : ℕ) (ms : Members) (entry : Entry) → id < 2 ^ 128 → Rise ms → entry_of id ms ≡ Ok entry → IsEntry (id, entry) × (ms ≡ entry_fields id entry)
entry-only id ms entry id_fits rise is =
    let zero = bound _ _ entry is in
    let one = bound _ _ entry zero.2 in
    let two = bound _ _ entry one.2 in
    let three = bound _ _ entry two.2 in
    let four = bound _ _ entry three.2 in
    let five = bound _ _ entry four.2 in
    let same : record { state = three.0; start = five.0; exp = one.0; lists = two.0 } ≡ entry = (let e = five.2 in cc) in
    let only = required (are_fields ms) zero.0 zero.1 in
    let exp = there whole_form 1 (member (codes "exp") ms) one.0 one.1 in
    let st = there state_form 6 (member (codes "st") ms) three.0 three.1 in
    let tid = there (txn_form id) 7 (member (codes "tid") ms) four.0 four.1 in
    let tst = there macro_form 8 (member (codes "tst") ms) five.0 five.1 in
    let good : field state_form (member (codes "st") ms) ≡ judged (Some three.0) = ap (field state_form) st.1 ∙ ap judged st.2 in
    let read = lists-read ms three.0 two.0 (ap (λ f. lists_of f ms) (sym good) ∙ two.1) in
    let exp_is = whole-is exp.0 one.0 exp.2 in
    let tst_is = macro-is tst.0 five.0 tst.2 in
    let exp_at = exp.1 ∙ ap Some exp_is.1 in
    let st_at = st.1 ∙ ap Some (state-is st.0 three.0 st.2) in
    let tid_at = tid.1 ∙ ap Some (txn-is id tid.0 four.0 tid.2) in
    let tst_at = tst.1 ∙ ap Some tst_is.1 in
    let all : ms ≡ entry_fields id (record { state = three.0; start = five.0; exp = one.0; lists = two.0 }) =
    known names ms refl rise only
    ∙ (λ i. with_field (codes "exp") (exp_at i) (with_field (codes "ins") (member (codes "ins") ms) (with_field (codes "p") (member (codes "p") ms)
    (with_field (codes "rem") (member (codes "rem") ms) (with_field (codes "rep") (member (codes "rep") ms)
    (with_field (codes "st") (st_at i) (with_field (codes "tid") (tid_at i) (with_field (codes "tst") (tst_at i) []))))))))
    ∙ read.fields (tree.Whole (pos one.0)) (tree.Text (state_text three.0)) (tree.Text (id_text (txn_number id))) (tree.Text (macro_text five.0)) in
    subst (λ e. IsEntry (id, e) × (ms ≡ entry_fields id e)) same
    (record { id = id_fits; start = tst_is.0; exp = exp_is.0; ins = read.ins; rep = read.rep; rem = read.rem; lists = read.has }, all)

-- ---- all entries

named-is : (o : Option ℕ) (id : ℕ) → named o ≡ Ok id → o ≡ Some id
named-is (Some n) id is = cc
named-is None id is = absurd (cc)

object_by : (t : Tree) (ms : Members) (y : Tree-F Tree) → out-Tree t ≡ y → members_of y ≡ Ok ms → t ≡ tree.Object ms
object_by t ms (Tree-F.Object all) at found = let same : all ≡ ms = cc in is-Object t all at ∙ ap tree.Object same
object_by t ms _ at found = absurd (cc)

object-is : (t : Tree) (ms : Members) → members_of (out-Tree t) ≡ Ok ms → t ≡ tree.Object ms
object-is t ms found = object_by t ms (out-Tree t) refl found

regular-rise : (t : Tree) (ms : Members) → t ≡ tree.Object ms → is_regular (data_of t) ≡ true → Rise ms
regular-rise t ms same regular =
    (and_parts (names_rise (members_data ms)) (members_are_regular (members_data ms)) (ap is_regular (sym (ap data_of same ∙ data_of-Object ms)) ∙ regular)).0

at-only : (m : List ℕ × Tree) (e : ℕ × Entry) → is_regular (data_of m.1) ≡ true → entry_at m ≡ Ok e → IsEntry e × (m ≡ written_entry e)
at-only m e regular is =
    let one = bound _ _ e is in
    let two = bound _ _ e one.2 in
    let three = bound _ _ e two.2 in
    let same : (one.0, three.0) ≡ e = (let x = three.2 in cc) in
    let name = id_is m.0 one.0 (named-is (id_in m.0) one.0 one.1) in
    let object = object-is m.1 two.0 two.1 in
    let read = entry-only one.0 two.0 three.0 name.0 (regular-rise m.1 two.0 object regular) three.1 in
    subst (λ x. IsEntry x × (m ≡ written_entry x)) same (read.0, ap₂ (λ n t. (n, t)) name.1 (object ∙ ap tree.Object read.1))

all-only : (ms : Members) (entries : List (ℕ × Entry)) → members_are_regular (members_data ms) ≡ true → entries_in ms ≡ Ok entries
    → AllByRecursion IsEntry entries × (ms ≡ map written_entry entries)
all-only [] entries regular is = let same : ◌≡◌ {A = List (ℕ × Entry)} [] entries = cc in (subst (AllByRecursion IsEntry) same tt, ap (map written_entry) same)
all-only (m ∷ ms) entries regular is =
    let p = and_parts (is_regular (data_of m.1)) (members_are_regular (members_data ms)) regular in
    let one = bound _ _ entries is in
    let two = bound _ _ entries one.2 in
    let same : one.0 ∷ two.0 ≡ entries = (let x = two.2 in cc) in
    let first = at-only m one.0 p.0 one.1 in
    let rest = all-only ms two.0 p.1 two.1 in
    subst (λ es. AllByRecursion IsEntry es × (m ∷ ms ≡ map written_entry es)) same ((first.0, rest.0), ap₂ (λ x xs. x ∷ xs) first.1 rest.1)

-- ---- attempts that rise

below : (m n : ℕ) → nat_cmp m n ≡ Less → m < n
below m n is = grind (arith, nat_tests)

rise-from : (low : ℕ) (entries : List (ℕ × Entry)) → low < 2 ^ 128 → AllByRecursion IsEntry entries → rises_from (id_text low) (members_data (map written_entry entries)) ≡ true
    → names_rise (members_data (map written_entry entries)) ≡ true → ids_rise_from (Some low) entries ≡ true
rise-from low [] fits all first rise = refl
rise-from low (e ∷ es) fits all first rise =
    let p = and_parts (rises_from (id_text e.0) (members_data (map written_entry es))) (names_rise (members_data (map written_entry es))) rise in
    let less = below low e.0 (sym (id_texts_compare low e.0 fits all.0.id) ∙ less_is (name_cmp (id_text low) (id_text e.0)) first) in
    and_from _ _ (lt-ltb low e.0 less) (rise-from e.0 es all.0.id all.1 p.0 p.1)

ids-rise : (entries : List (ℕ × Entry)) → AllByRecursion IsEntry entries → names_rise (members_data (map written_entry entries)) ≡ true → ids_rise entries ≡ true
ids-rise [] all rise = refl
ids-rise (e ∷ es) all rise =
    let p = and_parts (rises_from (id_text e.0) (members_data (map written_entry es))) (names_rise (members_data (map written_entry es))) rise in
    and_from _ _ refl (rise-from e.0 es all.0.id all.1 p.0 p.1)

pub only-read : (t : Tree) (entries : List (ℕ × Entry)) → IsJson t → entries_of t ≡ Ok entries → (AllByRecursion IsEntry entries × (ids_rise entries ≡ true)) × (t ≡ written entries)
only-read t entries json is =
    let one = bound _ _ entries is in
    let object = object-is t one.0 one.1 in
    let regular = (and_parts (names_rise (members_data one.0)) (members_are_regular (members_data one.0)) (ap is_regular (sym (ap data_of object ∙ data_of-Object one.0)) ∙ json.1)).1 in
    let all = all-only one.0 entries regular one.2 in
    let rise = ap (λ ms. names_rise (members_data ms)) (sym all.1) ∙ rise-json one.0 (subst IsJson object json) in
    ((all.0, ids-rise entries all.0 rise), object ∙ ap tree.Object all.1)

-- Entries that are written are read back.
use Rattle.std.proofs.Common.{◌≡◌, ℕ, pos, ◌^◌, ◌<◌, ◌==◌, arith, true, cond, is_none, List, [], ◌∷◌, ◌++◌, map, Some, None, Ok, codes, refl, sym, ap, ap₂, ◌∙◌}
use Rattle.std.specs.List.{AllByRecursion}
use Rattle.std.specs.Option.{option_and_then}
use Rattle.cbt_base.specs.Ids.{id_text, txn_number, IsDocId}
use Rattle.cbt_json.specs.declared.tree.Tree.TheVariants as tree
use Rattle.cbt_model.specs.declared.entries.Entry.{Entry}
use Rattle.cbt_model.specs.declared.entries.EntryState.{EntryState}
use Rattle.cbt_model.specs.declared.entries.EntryState.TheVariants.{Pending, Committed, Aborted}
use Rattle.cbt_model.specs.declared.entries.Lists.{Lists}
use Rattle.cbt_subdoc.specs.Members.{Members, member}
use Rattle.cbt_subdoc.specs.Values.{macro_text}
use Rattle.cbt_shape.specs.Fields.{field, judged, wanted}
use Rattle.cbt_shape.specs.Forms.{txn_form, whole_form, macro_form, where_true}
use Rattle.cbt_shape.specs.Objects.{members_of}
use Rattle.cbt_shape.specs.Readings.{require}
use Rattle.cbt_shape.proofs.FormsBack.{text-back, txn-back, whole-back, macro-back}
use Rattle.cbt_shape.proofs.IdNames.{id_found}
use Rattle.cbt_shape.proofs.Steps.{given, then_ok}
use Rattle.cbt_shape.proofs.Trees.{out-List, out-Object}
use Rattle.cbt_atr.specs.Entries.{state_text, doc_tree, docs_tree, decided_fields, last_fields, entry_fields, written_entry, written, HasLists, AreDocs, IsEntry}
use Rattle.cbt_atr.specs.EntriesRead.{state_in, state_form, zero_form, doc_in, doc_form, doc_inside, with_doc, docs_in, docs_form, docs_inside, decided_lists, lists_of, are_fields, entry_of, named, entry_at, entries_in, entries_of}

-- ---- forms

pub state-back : (state : EntryState) → state_form (tree.Text (state_text state)) ≡ Some state
state-back state = text-back state_in (state_text state) ∙ by state
  where
    by : (state : EntryState) → state_in (state_text state) ≡ Some state
    by Pending = refl
    by Committed = refl
    by Aborted = refl

zero-back : zero_form (tree.Whole (pos 0)) ≡ Some tt
zero-back = ap (option_and_then (λ n. where_true (n == 0))) (whole-back 0 (omega arith))

doc-back : (doc : List ℕ) → IsDocId doc → doc_form (doc_tree doc) ≡ Some doc
doc-back doc is = ap doc_inside (out-Object ((codes "id", tree.Text doc) ∷ [])) ∙ text-back doc_in doc ∙ ap (λ o. cond (is_none o) (Some doc) None) is

items-back : (docs : List (List ℕ)) → AreDocs docs → docs_in (map doc_tree docs) ≡ Some docs
items-back [] are = refl
items-back (doc ∷ docs) are = ap₂ with_doc (doc-back doc are.0) (items-back docs are.1)

docs-back : (docs : List (List ℕ)) → AreDocs docs → docs_form (docs_tree docs) ≡ Some docs
docs-back docs are = ap docs_inside (out-List (map doc_tree docs)) ∙ items-back docs are

-- ---- an entry

module _ (id exp start : ℕ) (lists : Lists) (id_fits : id < 2 ^ 128) (exp_fits : exp < 2 ^ 64) (start_fits : start < 2 ^ 64)
    (ins : AreDocs lists.ins) (rep : AreDocs lists.rep) (rem : AreDocs lists.rem) where
  abbrev entry_in : EntryState → Entry
  entry_in state = record { state = state; start = start; exp = exp; lists = lists }

  decided-back : (rest : Members) → decided_lists ((codes "exp", tree.Whole (pos exp)) ∷ decided_fields lists ++ rest) ≡ Ok lists
  decided-back rest =
      then_ok _ _ _ _ (given docs_form 2 (docs_tree lists.ins) lists.ins (docs-back lists.ins ins))
      (then_ok _ _ _ _ (given zero_form 3 (tree.Whole (pos 0)) tt zero-back)
      (then_ok _ _ _ _ (given docs_form 4 (docs_tree lists.rem) lists.rem (docs-back lists.rem rem))
      (then_ok _ _ _ _ (given docs_form 5 (docs_tree lists.rep) lists.rep (docs-back lists.rep rep)) refl)))

  -- what stands in front of the lists, and behind them
  fields-back : (state : EntryState) → lists_of (judged (Some state)) (entry_fields id (entry_in state)) ≡ Ok lists
      → member (codes "exp") (entry_fields id (entry_in state)) ≡ Some (tree.Whole (pos exp))
      → member (codes "st") (entry_fields id (entry_in state)) ≡ Some (tree.Text (state_text state))
      → member (codes "tid") (entry_fields id (entry_in state)) ≡ Some (tree.Text (id_text (txn_number id)))
      → member (codes "tst") (entry_fields id (entry_in state)) ≡ Some (tree.Text (macro_text start))
      → are_fields (entry_fields id (entry_in state)) ≡ true → entry_of id (entry_fields id (entry_in state)) ≡ Ok (entry_in state)
  fields-back state listed exp_there st_there tid_there tst_there only =
      let ms = entry_fields id (entry_in state) in
      let good : field state_form (member (codes "st") ms) ≡ judged (Some state) = ap (field state_form) st_there ∙ ap judged (state-back state) in
      then_ok _ _ _ _ (ap require only)
      (then_ok _ _ _ _ (ap (λ o. wanted 1 (field whole_form o)) exp_there ∙ given whole_form 1 (tree.Whole (pos exp)) exp (whole-back exp exp_fits))
      (then_ok _ _ _ _ (ap (λ f. lists_of f ms) good ∙ listed)
      (then_ok _ _ _ _ (ap (wanted 6) good)
      (then_ok _ _ _ _ (ap (λ o. wanted 7 (field (txn_form id) o)) tid_there ∙ given (txn_form id) 7 (tree.Text (id_text (txn_number id))) tt (txn-back id id_fits))
      (then_ok _ _ _ _ (ap (λ o. wanted 8 (field macro_form o)) tst_there ∙ given macro_form 8 (tree.Text (macro_text start)) start (macro-back start start_fits)) refl)))))

  entry-back : (state : EntryState) → HasLists state lists → entry_of id (entry_fields id (entry_in state)) ≡ Ok (entry_in state)
  entry-back Pending has = fields-back Pending (λ i. Ok (record { ins = sym has.0 i; rep = sym has.1 i; rem = sym has.2 i })) refl refl refl refl refl
  entry-back Committed has = fields-back Committed (decided-back (last_fields id (entry_in Committed))) refl refl refl refl refl
  entry-back Aborted has = fields-back Aborted (decided-back (last_fields id (entry_in Aborted))) refl refl refl refl refl

-- ---- all entries

at-back : (e : ℕ × Entry) → IsEntry e → entry_at (written_entry e) ≡ Ok e
at-back e is =
    let entry = e.1 in
    then_ok _ _ _ _ (ap named (id_found (id_text e.0) e.0 is.id refl))
    (then_ok _ _ _ _ (ap members_of (out-Object (entry_fields e.0 entry)))
    (then_ok _ _ _ _ (entry-back e.0 entry.exp entry.start entry.lists is.id is.exp is.start is.ins is.rep is.rem entry.state is.lists) refl))

all-back : (entries : List (ℕ × Entry)) → AllByRecursion IsEntry entries → entries_in (map written_entry entries) ≡ Ok entries
all-back [] are = refl
all-back (e ∷ es) are = then_ok _ _ _ _ (at-back e are.0) (then_ok _ _ _ _ (all-back es are.1) refl)

pub read-written : (entries : List (ℕ × Entry)) → AllByRecursion IsEntry entries → entries_of (written entries) ≡ Ok entries
read-written entries are = then_ok _ _ _ _ (ap members_of (out-Object (map written_entry entries))) (all-back entries are)

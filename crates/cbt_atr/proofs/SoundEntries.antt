-- Entries that are written keep the rules of JSON.
use Rattle.std.proofs.Common.{◌≡◌, ℕ, pos, ◌^◌, ◌<◌, true, nat_lt, List, [], ◌∷◌, ◌++◌, map, codes, Some, refl, sym, ap, ap₂, ◌∙◌, subst, arith}
use Rattle.std.specs.List.{AllByRecursion}
use Rattle.std.specs.Ordering.{nat_cmp, is_lt}
use Rattle.std.specs.declared.cmp.Ordering.TheVariants.{Less}
use Rattle.std.proofs.lemmas.Bool.{and_parts, and_from, ltb-true}
use Rattle.std.proofs.lemmas.Bool.Decides.{nat_tests}
use Rattle.cbt_base.specs.Ids.{id_text}
use Rattle.cbt_json.specs.declared.tree.Tree.{Tree}
use Rattle.cbt_json.specs.declared.tree.Tree.TheVariants as tree
use Rattle.cbt_json.specs.Rules.{names_rise, rises_from, is_regular, members_are_regular}
use Rattle.cbt_json.specs.Trees.{data_of, members_data}
use Rattle.cbt_model.specs.declared.entries.Entry.{Entry}
use Rattle.cbt_model.specs.declared.entries.EntryState.{EntryState}
use Rattle.cbt_model.specs.declared.entries.EntryState.TheVariants.{Pending, Committed, Aborted}
use Rattle.cbt_model.specs.declared.entries.Lists.{Lists}
use Rattle.cbt_model.specs.Fitting.{ids_rise, ids_rise_from}
use Rattle.cbt_subdoc.specs.Members.{Members}
use Rattle.cbt_shape.specs.Levels.{IsSound}
use Rattle.cbt_shape.proofs.IdOrder.{id_texts_compare}
use Rattle.cbt_shape.proofs.Sound.{AreSound, AreSoundItems, sound-Text, sound-Whole, sound-List, sound-Object, sound_nil, sound_cons, sound_no_items, sound_item}
use Rattle.cbt_atr.specs.Entries.{doc_tree, docs_tree, decided_fields, state_fields, last_fields, entry_fields, written_entry}

sound-doc : (doc : List ℕ) → IsSound 1 (doc_tree doc)
sound-doc doc = sound-Object 0 _ refl (sound_cons 0 _ _ [] (sound-Text 0 doc) (sound_nil 0))

sound-items : (docs : List (List ℕ)) → AreSoundItems 1 (map doc_tree docs)
sound-items [] = sound_no_items 1
sound-items (doc ∷ docs) = sound_item 1 (doc_tree doc) (map doc_tree docs) (sound-doc doc) (sound-items docs)

sound-docs : (docs : List (List ℕ)) → IsSound 2 (docs_tree docs)
sound-docs docs = sound-List 1 (map doc_tree docs) (sound-items docs)

sound-last : (id : ℕ) (entry : Entry) → AreSound 2 (last_fields id entry)
sound-last id entry = sound_cons 2 _ _ _ (sound-Text 2 _) (sound_cons 2 _ _ _ (sound-Text 2 _) (sound_cons 2 _ _ [] (sound-Text 2 _) (sound_nil 2)))

sound-decided : (lists : Lists) (rest : Members) → AreSound 2 rest → AreSound 2 (decided_fields lists ++ rest)
sound-decided lists rest sound =
    sound_cons 2 _ _ _ (sound-docs lists.ins) (sound_cons 2 _ _ _ (sound-Whole 2 0 (omega arith))
    (sound_cons 2 _ _ _ (sound-docs lists.rem) (sound_cons 2 _ _ _ (sound-docs lists.rep) sound)))

sound-state : (state : EntryState) (lists : Lists) (rest : Members) → AreSound 2 rest → AreSound 2 (state_fields state lists ++ rest)
sound-state Pending lists rest sound = sound
sound-state Committed lists rest sound = sound-decided lists rest sound
sound-state Aborted lists rest sound = sound-decided lists rest sound

names-rise : (state : EntryState) (id : ℕ) (entry : Entry) → names_rise (members_data ((codes "exp", tree.Whole (pos entry.exp)) ∷ state_fields state entry.lists ++ last_fields id entry)) ≡ true
names-rise Pending id entry = refl
names-rise Committed id entry = refl
names-rise Aborted id entry = refl

pub sound-entry : (id : ℕ) (entry : Entry) (t : Tree) → entry.exp < 2 ^ 64 → t ≡ tree.Object (entry_fields id entry) → IsSound 3 t
sound-entry id entry t fits same = subst (IsSound 3) (sym same)
    (sound-Object 2 (entry_fields id entry) (names-rise entry.state id entry)
    (sound_cons 2 _ _ _ (sound-Whole 2 entry.exp fits) (sound-state entry.state entry.lists (last_fields id entry) (sound-last id entry))))

-- ---- all entries

pub one_more : (n : ℕ) (ms : Members) (name : List ℕ) (t : Tree) → AreSound n ms → IsSound n t → AreSound n (ms ++ (name, t) ∷ [])
one_more n [] name t are is = sound_cons n name t [] is (sound_nil n)
one_more n (m ∷ ms) name t are is =
    let low = are.low in
    let p = and_parts (is_regular (data_of m.1)) (members_are_regular (members_data ms)) are.regular in
    sound_cons n m.0 m.1 (ms ++ (name, t) ∷ []) (record { low = omega arith; regular = p.0 }) (one_more n ms name t (record { low = omega arith; regular = p.1 }) is)

-- an entry as it is put together
pub entry-is : (id : ℕ) (entry : Entry) (exp : Tree) (start one two all : Members) → start ≡ [] → one ≡ start ++ (codes "exp", exp) ∷ [] → exp ≡ tree.Whole (pos entry.exp)
    → two ≡ one ++ state_fields entry.state entry.lists → all ≡ two ++ last_fields id entry → tree.Object all ≡ tree.Object (entry_fields id entry)
entry-is id entry exp start one two all none first number second third =
    ap tree.Object (
    third ∙ ap (λ ms. ms ++ last_fields id entry) (second ∙ ap (λ ms. ms ++ state_fields entry.state entry.lists)
    (first ∙ ap₂ (λ ms t. ms ++ (codes "exp", t) ∷ []) none number))
    )

abbrev pub Fit : ℕ × Entry → Type 0
Fit e = e.0 < 2 ^ 128

rises : (m n : ℕ) → m < 2 ^ 128 → n < 2 ^ 128 → m < n → nat_cmp m n ≡ Less
rises m n m_fits n_fits low = grind (arith, nat_tests)

rise-from : (low : ℕ) (entries : List (ℕ × Entry)) → low < 2 ^ 128 → AllByRecursion Fit entries → ids_rise_from (Some low) entries ≡ true
    → (rises_from (id_text low) (members_data (map written_entry entries)) ≡ true) × (names_rise (members_data (map written_entry entries)) ≡ true)
rise-from low [] fits all rise = (refl, refl)
rise-from low (e ∷ es) fits all rise =
    let p = and_parts (nat_lt low e.0) (ids_rise_from (Some e.0) es) rise in
    let less = ltb-true low e.0 p.0 in
    let tail = rise-from e.0 es all.0 all.1 p.1 in
    (ap is_lt (id_texts_compare low e.0 fits all.0 ∙ rises low e.0 fits all.0 less), and_from _ _ tail.0 tail.1)

names-of : (entries : List (ℕ × Entry)) → AllByRecursion Fit entries → ids_rise entries ≡ true → names_rise (members_data (map written_entry entries)) ≡ true
names-of [] all rise = refl
names-of (e ∷ es) all rise = let tail = rise-from e.0 es all.0 all.1 rise in and_from _ _ tail.0 tail.1

pub sound-entries : (entries : List (ℕ × Entry)) (members : Members) → AllByRecursion Fit entries → ids_rise entries ≡ true → members ≡ map written_entry entries → AreSound 3 members
    → IsSound 4 (tree.Object members)
sound-entries entries members all rise same are =
    sound-Object 3 members (ap (λ ms. names_rise (members_data ms)) same ∙ names-of entries all rise) are

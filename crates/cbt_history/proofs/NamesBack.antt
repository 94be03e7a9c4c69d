-- Lists of names that are written as JSON are read back.
use Rattle.std.proofs.Common.{◌≡◌, ℕ, nat_le, true, List, [], ◌∷◌, map, length, Some, refl, ap, ◌∙◌, rules}
use Rattle.std.specs.List.{AllByRecursion}
use Rattle.cbt_base.specs.Ids.{IsDocId, id_text}
use Rattle.cbt_json.specs.declared.tree.Tree.{Tree, out-Tree, the_lemmas}
use Rattle.cbt_json.specs.declared.tree.Tree.TheOpen.{Tree-F}
use Rattle.cbt_json.specs.declared.tree.Tree.TheVariants as tree
use Rattle.cbt_model.specs.declared.entries.Lists.{Lists}
use Rattle.cbt_history.specs.NameLists.{names_tree, lists_tree, lists_text, ids_tree, ids_text}
use Rattle.cbt_history.specs.NamesRead.{doc_of, docs_of, doc_list, three_lists, lists_from, lists_in, id_of, ids_of, id_list, gone_in}
use Rattle.cbt_history.specs.Readings.{◌>>=◌, require}
use Rattle.cbt_history.specs.Rules.{AreLists, IsId}
use Rattle.cbt_history.proofs.FieldsBack.{doc_back, json_back}
use Rattle.cbt_history.proofs.NameLists.{lists_json, ids_json}
use Rattle.cbt_history.proofs.Names.{id_found}

out-List : (ts : List Tree) → out-Tree (tree.List ts) ≡ Tree-F.List ts
out-List ts = search (rules, the_lemmas)

out-Text : (text : List ℕ) → out-Tree (tree.Text text) ≡ Tree-F.Text text
out-Text text = search (rules, the_lemmas)

-- ---- documents

docs_back : (docs : List (List ℕ)) → AllByRecursion IsDocId docs → docs_of (map tree.Text docs) ≡ Some docs
docs_back [] are = refl
docs_back (doc ∷ docs) are =
    ap (λ t. doc_of t >>= (λ d. docs_of (map tree.Text docs) >>= (λ ds. Some (d ∷ ds)))) (out-Text doc)
    ∙ ap (λ o. o >>= (λ d. docs_of (map tree.Text docs) >>= (λ ds. Some (d ∷ ds)))) (doc_back doc are.0)
    ∙ ap (λ o. o >>= (λ ds. Some (doc ∷ ds))) (docs_back docs are.1)

doc_list_back : (docs : List (List ℕ)) → AllByRecursion IsDocId docs → doc_list (out-Tree (names_tree docs)) ≡ Some docs
doc_list_back docs are = ap doc_list (out-List (map tree.Text docs)) ∙ docs_back docs are

three_back : (lists : Lists) → AreLists lists → three_lists (names_tree lists.ins) (names_tree lists.rep) (names_tree lists.rem) ≡ Some lists
unfolding three_lists
three_back lists are =
    ap (λ o. o >>= (λ ins. doc_list (out-Tree (names_tree lists.rep)) >>= (λ rep. doc_list (out-Tree (names_tree lists.rem)) >>= (λ rem. Some (record { ins = ins; rep = rep; rem = rem })))))
    (doc_list_back lists.ins are.0)
    ∙ ap (λ o. o >>= (λ rep. doc_list (out-Tree (names_tree lists.rem)) >>= (λ rem. Some (record { ins = lists.ins; rep = rep; rem = rem })))) (doc_list_back lists.rep are.1)
    ∙ ap (λ o. o >>= (λ rem. Some (record { ins = lists.ins; rep = lists.rep; rem = rem }))) (doc_list_back lists.rem are.2)

pub lists_back : (lists : Lists) → AreLists lists → lists_in (lists_text lists) ≡ Some lists
unfolding lists_in
lists_back lists are =
    ap (λ o. o >>= (λ t. lists_from (out-Tree t))) (json_back (lists_tree lists) (lists_json lists))
    ∙ ap lists_from (out-List (names_tree lists.ins ∷ names_tree lists.rep ∷ names_tree lists.rem ∷ []))
    ∙ three_back lists are

-- ---- cleaners

ids_back : (ids : List ℕ) → AllByRecursion IsId ids → ids_of (map (λ id. tree.Text (id_text id)) ids) ≡ Some ids
ids_back [] are = refl
ids_back (id ∷ ids) are =
    ap (λ t. id_of t >>= (λ i. ids_of (map (λ id. tree.Text (id_text id)) ids) >>= (λ is. Some (i ∷ is)))) (out-Text (id_text id))
    ∙ ap (λ o. o >>= (λ i. ids_of (map (λ id. tree.Text (id_text id)) ids) >>= (λ is. Some (i ∷ is)))) (id_found (id_text id) id are.0 refl)
    ∙ ap (λ o. o >>= (λ is. Some (id ∷ is))) (ids_back ids are.1)

pub gone_back : (ids : List ℕ) → AllByRecursion IsId ids → nat_le (length ids) 12 ≡ true → gone_in (ids_text ids) ≡ Some ids
unfolding gone_in
gone_back ids are few =
    ap (λ o. o >>= (λ t. id_list (out-Tree t) >>= (λ is. require (nat_le (length is) 12) >>= (λ _. Some is)))) (json_back (ids_tree ids) (ids_json ids))
    ∙ ap (λ t. id_list t >>= (λ is. require (nat_le (length is) 12) >>= (λ _. Some is))) (out-List (map (λ id. tree.Text (id_text id)) ids))
    ∙ ap (λ o. o >>= (λ is. require (nat_le (length is) 12) >>= (λ _. Some is))) (ids_back ids are)
    ∙ ap (λ t. require t >>= (λ _. Some ids)) few

-- Lists of names, read one name after another.
use Rattle.std.proofs.Common.{◌≡◌, ℕ, ◌+◌, ◌<◌, List, [], ◌∷◌, ◌++◌, append_assoc, append-nil, length, get_or, drop, suc, drop-cons, add-one, Option, Some, None, refl, sym, ap, ◌∙◌}
use Rattle.cbt_json.specs.declared.tree.Tree.{Tree, out-Tree}
use Rattle.cbt_history.specs.NamesRead.{doc_of, docs_of, id_of, ids_of}
use Rattle.cbt_history.specs.Readings.{◌>>=◌}

-- some things in front of those that were read
abbrev pub behind : {X : Type 0} → List X → Option (List X) → Option (List X)
behind xs (Some ys) = Some (xs ++ ys)
behind xs None = None

pub behind_none : {X : Type 0} (o : Option (List X)) → behind [] o ≡ o
behind_none (Some ys) = refl
behind_none None = refl

-- one thing more
pub behind_one : {X : Type 0} (xs : List X) (x : X) (o : Option (List X)) → behind (xs ++ x ∷ []) o ≡ behind xs (o >>= (λ ys. Some (x ∷ ys)))
behind_one xs x (Some ys) = ap Some (append_assoc xs (x ∷ []) ys)
behind_one xs x None = refl

at_item : {X : Type 0} (xs : List X) (i : ℕ) (x : X) → i < length xs → x ≡ get_or xs i x → drop i xs ≡ x ∷ drop (i + 1) xs
at_item xs i x low is = drop-cons xs i x low ∙ ap (λ y. y ∷ drop (suc i) xs) (sym is) ∙ ap (λ k. x ∷ drop k xs) (sym (add-one i))

module _ {X : Type 0} (one : Tree → Option X) (all : List Tree → Option (List X))
    (step : (tree : Tree) (trees : List Tree) → all (tree ∷ trees) ≡ one tree >>= (λ x. all trees >>= (λ xs. Some (x ∷ xs))))
    (trees : List Tree) (i : ℕ) (tree : Tree) (low : i < length trees) (is : tree ≡ get_or trees i tree) (xs : List X) where
  unread : behind xs (all (drop i trees)) ≡ behind xs (one tree >>= (λ x. all (drop (i + 1) trees) >>= (λ ys. Some (x ∷ ys))))
  unread = ap (λ ts. behind xs (all ts)) (at_item trees i tree low is) ∙ ap (behind xs) (step tree (drop (i + 1) trees))

  next_read : (x : X) (grown : List X) → one tree ≡ Some x → grown ≡ xs ++ x ∷ [] → behind xs (all (drop i trees)) ≡ all trees → behind grown (all (drop (i + 1) trees)) ≡ all trees
  next_read x grown found longer before =
      ap (λ g. behind g (all (drop (i + 1) trees))) longer ∙ behind_one xs x (all (drop (i + 1) trees))
      ∙ ap (λ o. behind xs (o >>= (λ x. all (drop (i + 1) trees) >>= (λ ys. Some (x ∷ ys))))) (sym found) ∙ sym unread ∙ before

  none_read : one tree ≡ None → behind xs (all (drop i trees)) ≡ all trees → all trees ≡ None
  none_read missing before =
      sym before ∙ unread ∙ ap (λ o. behind xs (o >>= (λ x. all (drop (i + 1) trees) >>= (λ ys. Some (x ∷ ys))))) missing

module _ (trees : List Tree) (i : ℕ) (tree : Tree) (low : i < length trees) (is : tree ≡ get_or trees i tree) where
  pub next_doc : (docs grown : List (List ℕ)) (doc : List ℕ) → doc_of (out-Tree tree) ≡ Some doc → grown ≡ docs ++ doc ∷ []
      → behind docs (docs_of (drop i trees)) ≡ docs_of trees → behind grown (docs_of (drop (i + 1) trees)) ≡ docs_of trees
  next_doc docs grown doc = next_read (λ t. doc_of (out-Tree t)) docs_of (λ t ts. refl) trees i tree low is docs doc grown

  pub no_doc : (docs : List (List ℕ)) → doc_of (out-Tree tree) ≡ None → behind docs (docs_of (drop i trees)) ≡ docs_of trees → docs_of trees ≡ None
  no_doc docs = none_read (λ t. doc_of (out-Tree t)) docs_of (λ t ts. refl) trees i tree low is docs

  pub next_id : (ids grown : List ℕ) (id : ℕ) → id_of (out-Tree tree) ≡ Some id → grown ≡ ids ++ id ∷ []
      → behind ids (ids_of (drop i trees)) ≡ ids_of trees → behind grown (ids_of (drop (i + 1) trees)) ≡ ids_of trees
  next_id ids grown id = next_read (λ t. id_of (out-Tree t)) ids_of (λ t ts. refl) trees i tree low is ids id grown

  pub no_id : (ids : List ℕ) → id_of (out-Tree tree) ≡ None → behind ids (ids_of (drop i trees)) ≡ ids_of trees → ids_of trees ≡ None
  no_id ids = none_read (λ t. id_of (out-Tree t)) ids_of (λ t ts. refl) trees i tree low is ids

-- where nothing is left, what was read is all
pub docs_all : (trees : List Tree) (i : ℕ) (docs : List (List ℕ)) → drop i trees ≡ [] → behind docs (docs_of (drop i trees)) ≡ docs_of trees → docs_of trees ≡ Some docs
docs_all trees i docs none before = sym before ∙ ap (λ ts. behind docs (docs_of ts)) none ∙ ap Some (append-nil docs)

pub ids_all : (trees : List Tree) (i : ℕ) (ids : List ℕ) → drop i trees ≡ [] → behind ids (ids_of (drop i trees)) ≡ ids_of trees → ids_of trees ≡ Some ids
ids_all trees i ids none before = sym before ∙ ap (λ ts. behind ids (ids_of ts)) none ∙ ap Some (append-nil ids)

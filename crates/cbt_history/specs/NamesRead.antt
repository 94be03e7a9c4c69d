-- Lists of names, read from JSON.
use Rattle.std.specs.Prelude.{ℕ, List, [], ◌∷◌, Option, Some, None, length, nat_le}
use Rattle.cbt_json.specs.declared.tree.Tree.{Tree, out-Tree}
use Rattle.cbt_json.specs.declared.tree.Tree.TheOpen.{Tree-F}
use Rattle.cbt_model.specs.declared.entries.Lists.{Lists}
use Rattle.cbt_history.specs.Fields.{id_in, doc_in, json_in}
use Rattle.cbt_history.specs.Readings.{◌>>=◌, require}

-- ---- documents

abbrev pub doc_of : Tree-F Tree → Option (List ℕ)
doc_of (Tree-F.Text name) = doc_in name
doc_of _ = None

abbrev pub docs_of : List Tree → Option (List (List ℕ))
docs_of [] = Some []
docs_of (tree ∷ trees) = do
  doc ← doc_of (out-Tree tree)
  docs ← docs_of trees
  Some (doc ∷ docs)

abbrev pub doc_list : Tree-F Tree → Option (List (List ℕ))
doc_list (Tree-F.List trees) = docs_of trees
doc_list _ = None

-- a list of three lists of documents
unfoldable pub three_lists : Tree → Tree → Tree → Option Lists
three_lists one two three = do
  ins ← doc_list (out-Tree one)
  rep ← doc_list (out-Tree two)
  rem ← doc_list (out-Tree three)
  Some (record { ins = ins; rep = rep; rem = rem })

abbrev pub lists_from : Tree-F Tree → Option Lists
lists_from (Tree-F.List (one ∷ two ∷ three ∷ [])) = three_lists one two three
lists_from _ = None

-- what an attempt inserted, replaced and removed
unfoldable pub lists_in : List ℕ → Option Lists
lists_in text = do
  tree ← json_in text
  lists_from (out-Tree tree)

-- ---- cleaners

abbrev pub id_of : Tree-F Tree → Option ℕ
id_of (Tree-F.Text name) = id_in name
id_of _ = None

abbrev pub ids_of : List Tree → Option (List ℕ)
ids_of [] = Some []
ids_of (tree ∷ trees) = do
  id ← id_of (out-Tree tree)
  ids ← ids_of trees
  Some (id ∷ ids)

abbrev pub id_list : Tree-F Tree → Option (List ℕ)
id_list (Tree-F.List trees) = ids_of trees
id_list _ = None

-- at most twelve identifiers
unfoldable pub gone_in : List ℕ → Option (List ℕ)
gone_in text = do
  tree ← json_in text
  ids ← id_list (out-Tree tree)
  _ ← require (nat_le (length ids) 12)
  Some ids

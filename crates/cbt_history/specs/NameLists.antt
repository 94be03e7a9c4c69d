-- Lists of names, as JSON.
use Rattle.std.specs.Prelude.{ℕ, List, [], ◌∷◌, map}
use Rattle.cbt_base.specs.Ids.{id_text}
use Rattle.cbt_json.specs.declared.tree.Tree.{Tree}
use Rattle.cbt_json.specs.declared.tree.Tree.TheVariants as tree
use Rattle.cbt_json.specs.Trees.{text_of}
use Rattle.cbt_model.specs.declared.entries.Lists.{Lists}

-- the list of some texts
abbrev pub names_tree : List (List ℕ) → Tree
names_tree names = tree.List (map tree.Text names)

-- what an attempt inserted, replaced and removed: a list of three lists of documents
abbrev pub lists_tree : Lists → Tree
lists_tree lists = tree.List (names_tree lists.ins ∷ names_tree lists.rep ∷ names_tree lists.rem ∷ [])

abbrev pub lists_text : Lists → List ℕ
lists_text lists = text_of (lists_tree lists)

-- cleaners
abbrev pub ids_tree : List ℕ → Tree
ids_tree ids = tree.List (map (λ id. tree.Text (id_text id)) ids)

abbrev pub ids_text : List ℕ → List ℕ
ids_text ids = text_of (ids_tree ids)

-- Attribute objects of documents.
use Rattle.std.specs.Prelude.{ℕ, Bool, false, ◌==◌, List, [], ◌∷◌, filter}
use Rattle.cbt_json.specs.declared.tree.Tree.{Tree, out-Tree}
use Rattle.cbt_json.specs.declared.tree.Tree.TheOpen.{Tree-F}
use Rattle.cbt_json.specs.declared.tree.Tree.TheVariants as tree

-- the object without members
abbrev pub no_attributes : Tree
no_attributes = tree.Object []

-- a name that begins with `_`
abbrev pub begins_with_underscore : List ℕ → Bool
begins_with_underscore [] = false
begins_with_underscore (b ∷ bs) = b == 95

-- the members whose names begin with `_`
abbrev pub kept_members : List (List ℕ × Tree) → List (List ℕ × Tree)
kept_members members = filter (λ m. begins_with_underscore m.0) members

abbrev pub kept_of : Tree → Tree-F Tree → Tree
kept_of t (Tree-F.Object members) = tree.Object (kept_members members)
kept_of t _ = t

-- the attributes that a deletion keeps: those whose names begin with `_`
abbrev pub kept_attributes : Tree → Tree
kept_attributes attrs = kept_of attrs (out-Tree attrs)

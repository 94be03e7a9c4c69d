-- Objects and their members.
use Rattle.std.specs.Prelude.{ℕ, Bool, true, false, ◌&&◌, ◌||◌, List, [], ◌∷◌, Option, Some, None, Result, Ok, Err, bytes_eq}
use Rattle.cbt_json.specs.declared.tree.Tree.{Tree, out-Tree}
use Rattle.cbt_json.specs.declared.tree.Tree.TheOpen.{Tree-F}
use Rattle.cbt_subdoc.specs.Members.{Members, member}
use Rattle.cbt_shape.specs.declared.fault.ShapeFault.{ShapeFault}
use Rattle.cbt_shape.specs.declared.fault.ShapeFault.TheVariants.{Shape}

-- the members of an object; what is no object is bad as a whole
abbrev pub members_of : Tree-F Tree → Result Members ShapeFault
members_of (Tree-F.Object ms) = Ok ms
members_of _ = Err (Shape 0)

abbrev pub inside : Tree-F Tree → Members
inside (Tree-F.Object ms) = ms
inside _ = []

abbrev pub inside_maybe : Option Tree → Members
inside_maybe (Some t) = inside (out-Tree t)
inside_maybe None = []

-- the members of a part: none where it is missing or no object
abbrev pub part : List ℕ → Members → Members
part name ms = inside_maybe (member name ms)

-- a name is one of these
abbrev pub is_among : List (List ℕ) → List ℕ → Bool
is_among [] name = false
is_among (n ∷ ns) name = bytes_eq n name || is_among ns name

-- each name is one of these
abbrev pub has_only : List (List ℕ) → Members → Bool
has_only names [] = true
has_only names (m ∷ ms) = is_among names m.0 && has_only names ms

-- the text that a value is
abbrev pub text_of : Tree-F Tree → Option (List ℕ)
text_of (Tree-F.Text text) = Some text
text_of _ = None

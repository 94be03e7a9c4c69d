-- The canonical texts of expressions and conditions, which have no spaces but the one behind `some` and `none`.
use Rattle.std.specs.Prelude.{ℕ, Bool, true, false, ◌&&◌, nat_lt, if◌then◌else◌, List, [], ◌∷◌, ◌++◌, length, decimal, codes, Option, Some, None}
use Rattle.std.specs.List.{list_all}
use Rattle.cbt_json.specs.declared.tree.Tree.TheVariants as tree
use Rattle.cbt_json.specs.Trees.{text_of}
use Rattle.cbt_subdoc.specs.declared.path.Part.{Part}
use Rattle.cbt_subdoc.specs.declared.path.Part.TheVariants.{Name, Place, Last}
use Rattle.cbt_subdoc.specs.Written.{doubled}
use Rattle.cbt_expr.specs.declared.expressions.Sign.{Sign}
use Rattle.cbt_expr.specs.declared.expressions.Sign.TheVariants.{Plus, Minus}
use Rattle.cbt_expr.specs.declared.expressions.Expr.{Expr}
use Rattle.cbt_expr.specs.declared.expressions.Cmp.{Cmp}
use Rattle.cbt_expr.specs.declared.expressions.Cmp.TheVariants.{Eq, Ne, Lt, Le, Gt, Ge}
use Rattle.cbt_expr.specs.declared.expressions.Cond.{Cond}
use Rattle.cbt_expr.specs.declared.expressions.Cond.TheVariants.{Compare, Has, Lacks}
use Rattle.cbt_expr.specs.Forms.{Form, one, joined, TermForm, plain, list, object, reference, Items, no_items, item, Members, no_members, member, form_of}
use Rattle.cbt_syntax.specs.References.{is_word_byte}

-- ---- references

-- one or more ASCII letters, digits and underscores
abbrev pub is_word : List ℕ → Bool
is_word name = nat_lt 0 (length name) && list_all is_word_byte name

-- a name of a path: a word where it can be one, and else between backticks, in which each backtick stands twice
abbrev pub name_text : List ℕ → List ℕ
name_text name = if is_word name then name else codes "`" ++ (doubled name ++ codes "`")

-- a part: a name is always led by a dot
abbrev pub part_text : Part → List ℕ
part_text (Name name) = codes "." ++ name_text name
part_text (Place n) = codes "[" ++ (decimal n ++ codes "]")
part_text Last = codes "[-1]"

-- the parts of a path, one after another
abbrev pub path_text : List Part → List ℕ
path_text [] = []
path_text (part ∷ parts) = part_text part ++ path_text parts

-- a reference without a path names all that is bound
abbrev pub maybe_path_text : Option (List Part) → List ℕ
maybe_path_text None = []
maybe_path_text (Some path) = path_text path

-- ---- expressions

-- the sign in front of a further term
abbrev pub sign_text : Sign → List ℕ
sign_text Plus = codes "+"
sign_text Minus = codes "-"

-- a JSON string
abbrev pub string_text : List ℕ → List ℕ
string_text s = text_of (tree.Text s)

-- what stands in front of an item: a comma, if others stand before it
abbrev pub comma : Bool → List ℕ
comma false = []
comma true = codes ","

abbrev mutual
  pub form_text : Form → List ℕ
  form_text (one term) = term_text term
  form_text (joined form sign term) = form_text form ++ (sign_text sign ++ term_text term)

  pub term_text : TermForm → List ℕ
  term_text (plain json) = text_of json
  term_text (list forms) = codes "[" ++ items_text false forms
  term_text (object ms) = codes "{" ++ members_text false ms
  term_text (reference name path) = codes "@" ++ (name ++ maybe_path_text path)

  -- items and the closing bracket; `more` says whether others stand before them
  pub items_text : Bool → Items → List ℕ
  items_text more no_items = codes "]"
  items_text more (item form forms) = comma more ++ (form_text form ++ items_text true forms)

  -- members and the closing bracket
  pub members_text : Bool → Members → List ℕ
  members_text more no_members = codes "}"
  members_text more (member name form ms) =
      comma more ++ (string_text name ++ (codes ":" ++ (form_text form ++ members_text true ms)))

-- further terms of an expression, each behind its sign
abbrev pub joins_text : List (Sign × TermForm) → List ℕ
joins_text [] = []
joins_text (x ∷ xs) = sign_text x.0 ++ (term_text x.1 ++ joins_text xs)

-- the canonical text of an expression
abbrev pub expr_text : Expr → List ℕ
expr_text expr = form_text (form_of expr)

-- ---- conditions

-- the operator of a comparison
abbrev pub cmp_text : Cmp → List ℕ
cmp_text Eq = codes "=="
cmp_text Ne = codes "!="
cmp_text Lt = codes "<"
cmp_text Le = codes "<="
cmp_text Gt = codes ">"
cmp_text Ge = codes ">="

-- the canonical text of a condition
abbrev pub cond_text : Cond → List ℕ
cond_text (Compare left cmp right) = expr_text left ++ (cmp_text cmp ++ expr_text right)
cond_text (Has name) = codes "some " ++ name
cond_text (Lacks name) = codes "none " ++ name

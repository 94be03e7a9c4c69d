-- The rules that expressions and conditions keep, so that they have a text.
use Rattle.std.specs.Prelude.{◌≡◌, ℕ, zero, suc, Bool, true, false, IsTrue, List, [], ◌∷◌, Option, Some, None, Ok}
use Rattle.std.specs.Ordering.{nat_cmp}
use Rattle.std.specs.Cmp.Lexicographic.{slice_cmp}
use Rattle.std.specs.List.Sorted.{IsStrictlySortedBy}
use Rattle.serde_json.specs.Data.{Data, null, boolean, number, string, array, object as object_data}
use Rattle.cbt_json.specs.Trees.{data_of}
use Rattle.cbt_json.specs.Rules.{is_whole}
use Rattle.cbt_lex.specs.Names.{is_name}
use Rattle.cbt_subdoc.specs.declared.path.Part.{Part}
use Rattle.cbt_expr.specs.declared.expressions.Expr.{Expr}
use Rattle.cbt_expr.specs.declared.expressions.Cond.{Cond}
use Rattle.cbt_expr.specs.declared.expressions.Cond.TheVariants.{Compare, Has, Lacks}
use Rattle.cbt_expr.specs.Forms.{Form, one, joined, TermForm, plain, list, object, reference, Items, no_items, item, Members, no_members, member, form_of}
use Rattle.cbt_syntax.specs.References.{path_in}
use Rattle.cbt_syntax.specs.Conditions.{max_levels}
use Rattle.cbt_syntax.specs.Texts.{path_text}

-- null, a truth value, a whole number in the range, or a text
abbrev pub is_scalar : Data → Bool
is_scalar null = true
is_scalar (boolean b) = true
is_scalar (number n) = is_whole n
is_scalar (string s) = true
is_scalar (array ds) = false
is_scalar (object_data ms) = false

-- no path, or one whose canonical text is the text of a path, and of this one
abbrev pub IsMaybePath : Option (List Part) → Type 0
IsMaybePath None = Unit {0}
IsMaybePath (Some parts) = path_in (path_text parts) ≡ Ok (Some parts)

-- the names of an object
abbrev pub names_of : Members → List (List ℕ)
names_of no_members = []
names_of (member name form ms) = name ∷ names_of ms

module _ (bound : List ℕ → Bool) where
  -- a name that is bound
  abbrev pub IsBoundName : List ℕ → Type 0
  IsBoundName name = IsTrue (is_name name) × IsTrue (bound name)

  abbrev mutual
    -- an expression in which at most so many levels of lists and objects nest
    pub IsForm : ℕ → Form → Type 0
    IsForm n (one term) = IsTerm n term
    IsForm n (joined form sign term) = IsForm n form × IsTerm n term

    pub IsTerm : ℕ → TermForm → Type 0
    IsTerm n (plain json) = IsTrue (is_scalar (data_of json))
    IsTerm n (reference name path) = IsBoundName name × IsMaybePath path
    IsTerm zero (list forms) = ⊥
    IsTerm (suc n) (list forms) = AreItems n forms
    IsTerm zero (object ms) = ⊥
    IsTerm (suc n) (object ms) = IsStrictlySortedBy (slice_cmp nat_cmp) (names_of ms) × AreMembers n ms

    pub AreItems : ℕ → Items → Type 0
    AreItems n no_items = Unit {0}
    AreItems n (item form forms) = IsForm n form × AreItems n forms

    pub AreMembers : ℕ → Members → Type 0
    AreMembers n no_members = Unit {0}
    AreMembers n (member name form ms) = IsForm n form × AreMembers n ms

  -- an expression that a script may have where these names are bound: at most 127 levels; plain terms that are scalars;
  -- names of objects that rise by bytes; and references to bound names, with paths that have a text
  abbrev pub IsExpr : Expr → Type 0
  IsExpr expr = IsForm max_levels (form_of expr)

  -- a condition over such expressions, or on a bound name
  abbrev pub IsCond : Cond → Type 0
  IsCond (Compare left cmp right) = IsExpr left × IsExpr right
  IsCond (Has name) = IsBoundName name
  IsCond (Lacks name) = IsBoundName name

-- What an expression is worth, and whether a condition holds.
use Rattle.std.specs.Prelude.{ℕ, ◌+◌, ℤ, ◌+ℤ◌, ◌-ℤ◌, Bool, true, false, not, ◌&&◌, nat_le, if◌then◌else◌, List, [], ◌∷◌, length, Option, Some, None, Result, Ok, Err}
use Rattle.std.specs.Option.{option_and_then}
use Rattle.std.specs.Result.{result_ok}
use Rattle.std.specs.Int.Signed.{lt_z, le_z}
use Rattle.cbt_json.specs.declared.value.Json.{Json}
use Rattle.cbt_json.specs.declared.tree.Tree.{Tree, out-Tree}
use Rattle.cbt_json.specs.declared.tree.Tree.TheOpen.{Tree-F}
use Rattle.cbt_json.specs.declared.tree.Tree.TheVariants as tree
use Rattle.cbt_json.specs.Trees.{data_of, levels, text_of}
use Rattle.cbt_json.specs.Rules.{is_in_range, is_regular, max_body_bytes, max_body_levels}
use Rattle.cbt_json.specs.Same.{tree_eq}
use Rattle.cbt_subdoc.specs.declared.path.Path.{Path}
use Rattle.cbt_subdoc.specs.Reach.{reached}
use Rattle.cbt_expr.specs.declared.expressions.Cmp.{Cmp}
use Rattle.cbt_expr.specs.declared.expressions.Cmp.TheVariants.{Eq, Ne, Lt, Le, Gt, Ge}
use Rattle.cbt_expr.specs.declared.expressions.Cond.{Cond}
use Rattle.cbt_expr.specs.declared.expressions.Cond.TheVariants.{Compare, Has, Lacks}
use Rattle.cbt_expr.specs.declared.expressions.Expr.{Expr}
use Rattle.cbt_expr.specs.declared.expressions.Sign.{Sign}
use Rattle.cbt_expr.specs.declared.expressions.Sign.TheVariants.{Plus, Minus}
use Rattle.cbt_expr.specs.Forms.{Form, one, joined, TermForm, plain, list, object, reference, Items, no_items, item, Members, no_members, member, form_of, parts}

-- ---- references

-- all of a value, or what a path reaches in it
abbrev pub looked_up : Option Path → Json → Option Json
looked_up None v = Some v
looked_up (Some path) v = result_ok (reached path v)

-- what is bound to a name, and what a reference reaches in it
abbrev pub referred : (List ℕ → Option Json) → List ℕ → Option Path → Option Json
referred bound name path = option_and_then (looked_up path) (bound name)

-- ---- operators

abbrev pub whole_in : Tree-F Tree → Option ℤ
whole_in (Tree-F.Whole n) = Some n
whole_in _ = None

-- the whole number that a value is
abbrev pub whole_of : Json → Option ℤ
whole_of v = whole_in (out-Tree v)

-- an operator that takes whole numbers alone
abbrev pub on_wholes : {A : Type 0} → (ℤ → ℤ → Option A) → Json → Json → Option A
on_wholes op x y = option_and_then (λ m. option_and_then (op m) (whole_of y)) (whole_of x)

-- from -2^63 to 2^64-1
abbrev pub in_range : ℤ → Option Json
in_range n = if is_in_range n then Some (tree.Whole n) else None

-- + or -
abbrev pub added : Sign → Json → Json → Option Json
added Plus = on_wholes (λ m n. in_range (m +ℤ n))
added Minus = on_wholes (λ m n. in_range (m -ℤ n))

-- any two values are the same or not; the four orders are those of whole numbers
abbrev pub compared : Cmp → Json → Json → Option Bool
compared Eq x y = Some (tree_eq x y)
compared Ne x y = Some (not (tree_eq x y))
compared Lt x y = on_wholes (λ m n. Some (lt_z m n)) x y
compared Le x y = on_wholes (λ m n. Some (le_z m n)) x y
compared Gt x y = on_wholes (λ m n. Some (lt_z n m)) x y
compared Ge x y = on_wholes (λ m n. Some (le_z n m)) x y

-- ---- the order of evaluation

-- the value of the part with this number, where it has one
abbrev pub of_part : {A : Type 0} → ℕ → Option A → Result A ℕ
of_part number (Some v) = Ok v
of_part number None = Err number

-- an operator with its number, behind its left operand and then its right one
abbrev pub operated : {A : Type 0} → ℕ → (Json → Json → Option A) → Result Json ℕ → Result Json ℕ → Result A ℕ
operated number op (Ok x) (Ok y) = of_part number (op x y)
operated number op (Ok x) (Err part) = Err part
operated number op (Err part) right = Err part

-- what is made of a value, where there is one
abbrev pub made_into : {A B : Type 0} → (A → B) → Result A ℕ → Result B ℕ
made_into make (Ok v) = Ok (make v)
made_into make (Err part) = Err part

-- a first value, and then the others
abbrev pub led_by : {A : Type 0} → Result A ℕ → Result (List A) ℕ → Result (List A) ℕ
led_by (Ok v) (Ok vs) = Ok (v ∷ vs)
led_by (Ok v) (Err part) = Err part
led_by (Err part) others = Err part

module _ (bound : List ℕ → Option Json) where
  abbrev mutual
    -- the value of an expression that `before` parts stand before, or the number of its first part without one
    pub valued : ℕ → Form → Result Json ℕ
    valued before (one term) = term_valued before term
    valued before (joined form sign term) =
        operated (before + parts form + 1) (added sign) (valued before form) (term_valued (before + parts form + 1) term)

    pub term_valued : ℕ → TermForm → Result Json ℕ
    term_valued before (plain json) = Ok json
    term_valued before (list forms) = made_into tree.List (items_valued before forms)
    term_valued before (object ms) = made_into tree.Object (members_valued before ms)
    term_valued before (reference name path) = of_part (before + 1) (referred bound name path)

    pub items_valued : ℕ → Items → Result (List Json) ℕ
    items_valued before no_items = Ok []
    items_valued before (item form forms) = led_by (valued before form) (items_valued (before + parts form) forms)

    pub members_valued : ℕ → Members → Result (List (List ℕ × Json)) ℕ
    members_valued before no_members = Ok []
    members_valued before (member name form ms) =
        led_by (made_into (λ v. (name, v)) (valued before form)) (members_valued (before + parts form) ms)

-- ---- whole expressions and conditions

-- a JSON value whose text and levels are within the limits of a body
abbrev pub is_fit_body : Tree → Bool
is_fit_body v = is_regular (data_of v) && nat_le (length (text_of v)) max_body_bytes && nat_le (levels v) max_body_levels

-- the value of a whole expression has to be a fit body; part 0 says that it is none
abbrev pub judged : Result Json ℕ → Result Json ℕ
judged (Ok v) = if is_fit_body v then Ok v else Err 0
judged (Err part) = Err part

-- a whole expression that `before` parts stand before
abbrev pub value_behind : (List ℕ → Option Json) → ℕ → Expr → Result Json ℕ
value_behind bound before e = judged (valued bound before (form_of e))

-- the value of an expression over what the gets of the attempt have bound to its names so far, or the number of the first
-- part that has no value; a name that no get has bound counts as bound to none
abbrev pub value_of : (List ℕ → Option Json) → Expr → Result Json ℕ
value_of bound = value_behind bound 0

abbrev pub is_there : Option Json → Bool
is_there (Some v) = true
is_there None = false

-- whether a condition holds, or the number of the first part without a value; the operator of a comparison stands
-- between the parts of its sides
abbrev pub truth_of : (List ℕ → Option Json) → Cond → Result Bool ℕ
truth_of bound (Compare left cmp right) =
    let operator = parts (form_of left) + 1 in
    operated operator (compared cmp) (value_behind bound 0 left) (value_behind bound operator right)
truth_of bound (Has name) = Ok (is_there (bound name))
truth_of bound (Lacks name) = Ok (not (is_there (bound name)))

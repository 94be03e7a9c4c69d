-- Expressions of the histories that are written out here, as a reader of scripts makes them.
use Rattle.std.specs.Prelude.{ℕ, pos, List, [], ◌∷◌, Some}
use Rattle.cbt_json.specs.declared.tree.Tree.TheVariants as tree
use Rattle.cbt_subdoc.specs.declared.path.Part.TheVariants.{Name}
use Rattle.cbt_expr.specs.declared.expressions.Cmp.TheVariants.{Eq}
use Rattle.cbt_expr.specs.declared.expressions.Cond.{Cond}
use Rattle.cbt_expr.specs.declared.expressions.Cond.TheVariants.{Compare}
use Rattle.cbt_expr.specs.declared.expressions.Expr.{Expr}
use Rattle.cbt_expr.specs.declared.expressions.Sign.{Sign}
use Rattle.cbt_expr.specs.declared.expressions.Sign.TheVariants.{Plus}
use Rattle.cbt_expr.specs.declared.expressions.Term.{Term}
use Rattle.cbt_expr.specs.declared.expressions.Term.TheVariants as term
use Rattle.cbt_rows.specs.Words.{name_x}

-- a term alone, and a sum or a difference of two
abbrev pub alone : Term → Expr
alone x = record { first = x; rest = [] }

abbrev pub joined : Term → Sign → Term → Expr
joined x sign y = record { first = x; rest = (sign, y) ∷ [] }

-- a number
abbrev pub number : ℕ → Term
number k = term.Plain (tree.Whole (pos k))

-- the member of this name in what a get has bound to a name, as in @x.n
abbrev pub ref : List ℕ → List ℕ → Term
ref name part = term.Ref name (Some (Name part ∷ []))

-- an object of one member
abbrev pub object_of : List ℕ → Expr → Expr
object_of name e = alone (term.Members ((name, e) ∷ []))

-- the names `n` and `got` of members
abbrev pub name_n : List ℕ
name_n = 110 ∷ []

abbrev pub name_got : List ℕ
name_got = 103 ∷ 111 ∷ 116 ∷ []

-- {"n":k}
abbrev pub n_of : ℕ → Expr
n_of k = object_of name_n (alone (number k))

-- {"got":@x.n}
abbrev pub got_x : Expr
got_x = object_of name_got (alone (ref name_x name_n))

-- {"n":@x.n+1}
abbrev pub one_more : Expr
one_more = object_of name_n (joined (ref name_x name_n) Plus (number 1))

-- {"n":@x.n}
abbrev pub n_x : Expr
n_x = object_of name_n (alone (ref name_x name_n))

-- 1 == 2
abbrev pub one_is_two : Cond
one_is_two = Compare (alone (number 1)) Eq (alone (number 2))

-- @x.n == 1
abbrev pub x_is_one : Cond
x_is_one = Compare (alone (ref name_x name_n)) Eq (alone (number 1))

-- The expression that writes a JSON value out.
use Rattle.std.specs.Prelude.{[]}
use Rattle.cbt_json.specs.declared.tree.Tree.{Tree, fold-Tree}
use Rattle.cbt_json.specs.declared.tree.Tree.TheOpen.{Tree-F}
use Rattle.cbt_json.specs.declared.tree.Tree.TheVariants as tree
use Rattle.cbt_expr.specs.declared.expressions.Expr.{Expr}
use Rattle.cbt_expr.specs.declared.expressions.Term.{Term}
use Rattle.cbt_expr.specs.declared.expressions.Term.TheVariants.{Plain, Items, Members}

-- one level of a value, with each value inside already written out
abbrev pub literal_term : Tree-F Expr → Term
literal_term Tree-F.Null = Plain tree.Null
literal_term (Tree-F.Bool b) = Plain (tree.Bool b)
literal_term (Tree-F.Whole n) = Plain (tree.Whole n)
literal_term (Tree-F.Text s) = Plain (tree.Text s)
literal_term (Tree-F.List es) = Items es
literal_term (Tree-F.Object ms) = Members ms

-- the expression of one term
abbrev pub alone : Term → Expr
alone term = record { first = term; rest = [] }

abbrev pub literal : Tree → Expr
literal = fold-Tree Expr (λ y. alone (literal_term y))

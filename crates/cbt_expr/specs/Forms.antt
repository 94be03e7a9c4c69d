-- Expressions as plain data.
use Rattle.std.specs.Prelude.{ℕ, ◌+◌, List, [], ◌∷◌, map, Option}
use Rattle.cbt_json.specs.declared.value.Json.{Json}
use Rattle.cbt_subdoc.specs.declared.path.Path.{Path}
use Rattle.cbt_expr.specs.declared.expressions.Sign.{Sign}
use Rattle.cbt_expr.specs.declared.expressions.Expr.{Expr, fold-Expr}
use Rattle.cbt_expr.specs.declared.expressions.Term.{Term, fold-Term}
use Rattle.cbt_expr.specs.declared.expressions.Term.TheOpen.{Expr-F, Term-F}

mutual
  -- an expression: one term, or an expression that another term is added to or taken off from
  pub data Form : Type 0 where
    one : TermForm → Form
    joined : Form → Sign → TermForm → Form

  pub data TermForm : Type 0 where
    plain : Json → TermForm
    list : Items → TermForm
    object : Members → TermForm
    reference : List ℕ → Option Path → TermForm

  pub data Items : Type 0 where
    no_items : Items
    item : Form → Items → Items

  pub data Members : Type 0 where
    no_members : Members
    member : List ℕ → Form → Members → Members

-- ---- the form of an expression

-- further terms, joined from the left
abbrev pub joined_all : Form → List (Sign × TermForm) → Form
joined_all form [] = form
joined_all form (x ∷ xs) = joined_all (joined form x.0 x.1) xs

abbrev pub items_of : List Form → Items
items_of [] = no_items
items_of (form ∷ forms) = item form (items_of forms)

abbrev pub members_of : List (List ℕ × Form) → Members
members_of [] = no_members
members_of (m ∷ ms) = member m.0 m.1 (members_of ms)

-- one level of a term, with each expression inside already seen as its form
abbrev pub term_step : Term-F TermForm Form → TermForm
term_step (Term-F.Plain json) = plain json
term_step (Term-F.Items forms) = list (items_of forms)
term_step (Term-F.Members ms) = object (members_of ms)
term_step (Term-F.Ref name path) = reference name path

abbrev pub expr_step : Expr-F TermForm Form → Form
expr_step e = joined_all (one e.first) e.rest

abbrev pub form_of : Expr → Form
form_of = fold-Expr TermForm Form term_step expr_step

abbrev pub term_form : Term → TermForm
term_form = fold-Term TermForm Form term_step expr_step

-- further terms of an expression, each with its sign
abbrev pub terms_form : List (Sign × Term) → List (Sign × TermForm)
terms_form = map (λ x. (x.0, term_form x.1))

abbrev pub items_form : List Expr → Items
items_form es = items_of (map form_of es)

abbrev pub members_form : List (List ℕ × Expr) → Members
members_form ms = members_of (map (λ m. (m.0, form_of m.1)) ms)

-- ---- the parts of an expression

-- how many parts there are, which are references and operators
abbrev mutual
  pub parts : Form → ℕ
  parts (one term) = term_parts term
  parts (joined form sign term) = parts form + 1 + term_parts term

  pub term_parts : TermForm → ℕ
  term_parts (plain json) = 0
  term_parts (list forms) = items_parts forms
  term_parts (object ms) = members_parts ms
  term_parts (reference name path) = 1

  pub items_parts : Items → ℕ
  items_parts no_items = 0
  items_parts (item form forms) = parts form + items_parts forms

  pub members_parts : Members → ℕ
  members_parts no_members = 0
  members_parts (member name form ms) = parts form + members_parts ms

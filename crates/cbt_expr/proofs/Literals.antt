-- A JSON value that is written out is worth itself.
use Rattle.std.proofs.Common.{◌≡◌, ℕ, ◌+◌, ℤ, Bool, List, [], ◌∷◌, map, Option, Ok, refl, sym, ap, ap₂, ◌∙◌, subst, rules}
use Rattle.cbt_json.specs.declared.value.Json.{Json}
use Rattle.cbt_json.specs.declared.tree.Tree.{Tree, roll-Tree, ind-Tree, map-Tree, the_lemmas as tree_lemmas}
use Rattle.cbt_json.specs.declared.tree.Tree.TheVariants as t
use Rattle.cbt_json.specs.declared.tree.Tree.TheOpen.{Tree-F}
use Rattle.cbt_expr.specs.declared.expressions.Expr.{Expr, the_lemmas}
use Rattle.cbt_expr.specs.declared.expressions.Term.TheVariants.{Plain, Items, Members}
use Rattle.cbt_expr.specs.Forms.{one, plain, list, object, form_of, items_form, members_form, parts}
use Rattle.cbt_expr.specs.Literals.{alone, literal}
use Rattle.cbt_expr.specs.Values.{led_by, made_into, valued, items_valued, members_valued}

-- ---- the forms of values that are written out

form-Plain : (v : Json) → form_of (alone (Plain v)) ≡ one (plain v)
form-Plain v = search (rules, the_lemmas)

form-Items : (es : List Expr) → form_of (alone (Items es)) ≡ one (list (items_form es))
form-Items es = search (rules, the_lemmas)

form-Members : (ms : List (List ℕ × Expr)) → form_of (alone (Members ms)) ≡ one (object (members_form ms))
form-Members ms = search (rules, the_lemmas)

literal-Null : literal t.Null ≡ alone (Plain t.Null)
literal-Null = search (rules, tree_lemmas)

literal-Bool : (b : Bool) → literal (t.Bool b) ≡ alone (Plain (t.Bool b))
literal-Bool b = search (rules, tree_lemmas)

literal-Whole : (n : ℤ) → literal (t.Whole n) ≡ alone (Plain (t.Whole n))
literal-Whole n = search (rules, tree_lemmas)

literal-Text : (s : List ℕ) → literal (t.Text s) ≡ alone (Plain (t.Text s))
literal-Text s = search (rules, tree_lemmas)

literal-List : (ts : List Tree) → literal (t.List ts) ≡ alone (Items (map literal ts))
literal-List ts = search (rules, tree_lemmas)

literal-Object : (ms : List (List ℕ × Tree)) → literal (t.Object ms) ≡ alone (Members (map (λ m. (m.0, literal m.1)) ms))
literal-Object ms = search (rules, tree_lemmas)

-- ---- and their values

module _ (bound : List ℕ → Option Json) where
  abbrev Own : Tree → Type 0
  Own x = (before : ℕ) → valued bound before (form_of (literal x)) ≡ Ok x

  own_plain : (v : Tree) → literal v ≡ alone (Plain v) → Own v
  own_plain v e before = ap (λ w. valued bound before (form_of w)) e ∙ ap (valued bound before) (form-Plain v)

  own_items : (es : List ((x : Tree) × Own x)) (before : ℕ) → items_valued bound before (items_form (map literal (map (λ e. e.0) es))) ≡ Ok (map (λ e. e.0) es)
  own_items [] before = refl
  own_items (e ∷ es) before = ap₂ led_by (e.1 before) (own_items es (before + parts (form_of (literal e.0))))

  own_members : (es : List (List ℕ × ((x : Tree) × Own x))) (before : ℕ)
      → members_valued bound before (members_form (map (λ (m : List ℕ × Tree). (m.0, literal m.1)) (map (λ (e : List ℕ × ((x : Tree) × Own x)). (e.0, e.1.0)) es))) ≡ Ok (map (λ e. (e.0, e.1.0)) es)
  own_members [] before = refl
  own_members (e ∷ es) before = ap₂ led_by (ap (made_into (λ v. (e.0, v))) (e.1.1 before)) (own_members es (before + parts (form_of (literal e.1.0))))

  own_level : (y : Tree-F ((x : Tree) × Own x)) → Own (roll-Tree (map-Tree _ Tree (λ e. e.0) y))
  own_level Tree-F.Null = subst Own (sym t.rolls-Null) (own_plain t.Null literal-Null)
  own_level (Tree-F.Bool b) = subst Own (sym (t.rolls-Bool b)) (own_plain (t.Bool b) (literal-Bool b))
  own_level (Tree-F.Whole n) = subst Own (sym (t.rolls-Whole n)) (own_plain (t.Whole n) (literal-Whole n))
  own_level (Tree-F.Text s) = subst Own (sym (t.rolls-Text s)) (own_plain (t.Text s) (literal-Text s))
  own_level (Tree-F.List es) =
      let ts = map (λ (e : (x : Tree) × Own x). e.0) es in
      subst Own (sym (t.rolls-List ts)) (λ before. ap (valued bound before) (ap form_of (literal-List ts) ∙ form-Items (map literal ts)) ∙ ap (made_into t.List) (own_items es before))
  own_level (Tree-F.Object es) =
      let ms = map (λ (e : List ℕ × ((x : Tree) × Own x)). (e.0, e.1.0)) es in
      subst Own (sym (t.rolls-Object ms)) (λ before. ap (valued bound before) (ap form_of (literal-Object ms) ∙ form-Members (map (λ m. (m.0, literal m.1)) ms)) ∙ ap (made_into t.Object) (own_members es before))

  pub own_value : (x : Tree) → Own x
  own_value = ind-Tree Own (λ x y is. subst (λ z. Own (roll-Tree z)) is (own_level y))

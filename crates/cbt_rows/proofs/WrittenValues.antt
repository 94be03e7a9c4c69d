-- What the written expressions are worth.
use Rattle.std.proofs.Common.{◌≡◌, ℕ, ℤ, pos, true, ◌&&◌, nat_le, List, [], ◌∷◌, length, Option, Some, Ok, Err, ◌+ℤ◌, if◌then◌else◌, refl, ap, ◌∙◌, rules, None, false, ◌==◌, ◌+◌}
use Rattle.std.specs.Fmt.{digits}
use Rattle.std.specs.Option.{option_and_then}
use Rattle.std.specs.Result.{result_ok}
use Rattle.json.specs.Print.{escape_byte}
use Rattle.serde_json.specs.Data.{Data, depth, object, member, no_members, number, unsigned}
use Rattle.serde_json.specs.Written.{compact_text}
use Rattle.cbt_json.proofs.Views.{data_of-Whole}
use Rattle.cbt_json.specs.Same.{data_eq, tree_eq}
use Rattle.cbt_json.specs.Trees.{data_of}
use Rattle.cbt_json.specs.Rules.{is_regular, max_body_bytes, max_body_levels}
use Rattle.cbt_json.specs.declared.tree.Tree.{out-Tree, the_lemmas as tree_lemmas}
use Rattle.cbt_json.specs.declared.tree.Tree.TheOpen.{Tree-F}
use Rattle.cbt_json.specs.declared.tree.Tree.TheVariants as tree
use Rattle.cbt_json.specs.declared.value.Json.{Json}
use Rattle.cbt_subdoc.specs.Reach.{reached, onward, child}
use Rattle.cbt_subdoc.specs.declared.path.Part.TheVariants.{Name}
use Rattle.cbt_expr.specs.declared.expressions.Cmp.TheVariants.{Eq}
use Rattle.cbt_expr.specs.declared.expressions.Cond.TheVariants.{Compare}
use Rattle.cbt_expr.specs.declared.expressions.Expr.{Expr, the_lemmas}
use Rattle.cbt_expr.specs.declared.expressions.Sign.TheVariants.{Plus}
use Rattle.cbt_expr.specs.declared.expressions.Term.{Term}
use Rattle.cbt_expr.specs.Forms as forms
use Rattle.cbt_expr.specs.Forms.{Form, form_of, parts}
use Rattle.cbt_expr.specs.Values.{value_of, truth_of, value_behind, compared, valued, judged, is_fit_body, made_into, led_by, referred, looked_up, of_part, operated, added, in_range, whole_of, whole_in}
use Rattle.cbt_rows.proofs.Fits.{data-one}
use Rattle.cbt_rows.specs.Words.{name_x, n, got}
use Rattle.cbt_rows.specs.Written as written
use Rattle.cbt_rows.specs.Written.{n_of, n_x, one_is_two, x_is_one, got_x, one_more, object_of, name_n, name_got}

-- ---- forms

form-number : (k : ℕ) → form_of (written.alone (written.number k)) ≡ forms.one (forms.plain (tree.Whole (pos k)))
form-number k = search (rules, the_lemmas)

form-object : (name : List ℕ) (e : Expr) → form_of (object_of name e) ≡ forms.one (forms.object (forms.member name (form_of e) forms.no_members))
form-object name e = search (rules, the_lemmas)

form-ref : (name part : List ℕ) → form_of (written.alone (written.ref name part)) ≡ forms.one (forms.reference name (Some (Name part ∷ [])))
form-ref name part = search (rules, the_lemmas)

form-more : (name part : List ℕ) (k : ℕ) → form_of (written.joined (written.ref name part) Plus (written.number k))
    ≡ forms.joined (forms.one (forms.reference name (Some (Name part ∷ [])))) Plus (forms.plain (tree.Whole (pos k)))
form-more name part k = search (rules, the_lemmas)

-- ---- values as they are matched

out-Whole : (z : ℤ) → out-Tree (tree.Whole z) ≡ Tree-F.Whole z
out-Whole z = search (rules, tree_lemmas)

out-Object : (ms : List (List ℕ × Json)) → out-Tree (tree.Object ms) ≡ Tree-F.Object ms
out-Object ms = search (rules, tree_lemmas)

-- ---- bodies

fit-data : (v : Json) (d : Data) → data_of v ≡ d → (is_regular d && nat_le (length (compact_text d)) max_body_bytes && nat_le (depth d)
    max_body_levels) ≡ true
    → is_fit_body v ≡ true
fit-data v d e is = ap (λ x. is_regular x && nat_le (length (compact_text x)) max_body_bytes && nat_le (depth x) max_body_levels) e ∙ is

abbrev one_member : List ℕ → ℕ → Data
one_member name k = object (member name (number (unsigned k)) no_members)

fit-member : (name : List ℕ) (k : ℕ) → (is_regular (one_member name k) && nat_le (length (compact_text (one_member name k))) max_body_bytes
    && nat_le (depth (one_member name k)) max_body_levels) ≡ true → is_fit_body (tree.Object ((name, tree.Whole (pos k)) ∷ [])) ≡ true
fit-member name k is = fit-data (tree.Object ((name, tree.Whole (pos k)) ∷ [])) (one_member name k) (data-one name k) is

pub fit-n0 : is_fit_body (n 0) ≡ true
unfolding escape_byte digits
fit-n0 = fit-member name_n 0 refl

pub fit-n1 : is_fit_body (n 1) ≡ true
unfolding escape_byte digits
fit-n1 = fit-member name_n 1 refl

pub fit-n2 : is_fit_body (n 2) ≡ true
unfolding escape_byte digits
fit-n2 = fit-member name_n 2 refl

pub fit-n3 : is_fit_body (n 3) ≡ true
unfolding escape_byte digits
fit-n3 = fit-member name_n 3 refl

pub fit-n9 : is_fit_body (n 9) ≡ true
unfolding escape_byte digits
fit-n9 = fit-member name_n 9 refl

pub fit-got2 : is_fit_body (got 2) ≡ true
unfolding escape_byte digits
fit-got2 = fit-member name_got 2 refl

pub fit-got3 : is_fit_body (got 3) ≡ true
unfolding escape_byte digits
fit-got3 = fit-member name_got 3 refl

-- ---- values

-- an object of one member is worth the object of its value
pub value-object : (bound : List ℕ → Option Json) (name : List ℕ) (e : Expr) (v : Json) → valued bound 0 (form_of e) ≡ Ok v
    → is_fit_body (tree.Object ((name, v) ∷ [])) ≡ true
    → value_of bound (object_of name e) ≡ Ok (tree.Object ((name, v) ∷ []))
value-object bound name e v is fits =
    ap (λ f. judged (valued bound 0 f)) (form-object name e)
    ∙ ap (λ r. judged (made_into tree.Object (led_by (made_into (λ x. (name, x)) r) (Ok [])))) is
    ∙ ap (λ b. if b then Ok (tree.Object ((name, v) ∷ [])) else Err 0) fits

pub value-n : (k : ℕ) → is_fit_body (n k) ≡ true → (bound : List ℕ → Option Json) → value_of bound (n_of k) ≡ Ok (n k)
value-n k fits bound = value-object bound name_n (written.alone (written.number k)) (tree.Whole (pos k)) (ap (valued bound 0) (form-number k)) fits

pub value-n1 : (bound : List ℕ → Option Json) → value_of bound (n_of 1) ≡ Ok (n 1)
value-n1 = value-n 1 fit-n1

pub value-n2 : (bound : List ℕ → Option Json) → value_of bound (n_of 2) ≡ Ok (n 2)
value-n2 = value-n 2 fit-n2

pub value-n3 : (bound : List ℕ → Option Json) → value_of bound (n_of 3) ≡ Ok (n 3)
value-n3 = value-n 3 fit-n3

pub value-n9 : (bound : List ℕ → Option Json) → value_of bound (n_of 9) ≡ Ok (n 9)
value-n9 = value-n 9 fit-n9

-- @x.n, where an {"n":k} was bound to `x`
referred-n : (bound : List ℕ → Option Json) (k : ℕ) → bound name_x ≡ Some (n k)
    → referred bound name_x (Some (Name name_n ∷ [])) ≡ Some (tree.Whole (pos k))
referred-n bound k is =
    ap (option_and_then (looked_up (Some (Name name_n ∷ [])))) is
    ∙ ap (λ t. result_ok (onward (reached []) (child (Name name_n) t))) (out-Object ((name_n, tree.Whole (pos k)) ∷ []))

value-got : (k : ℕ) → is_fit_body (got k) ≡ true → (bound : List ℕ → Option Json) → bound name_x ≡ Some (n k) → value_of bound got_x ≡ Ok (got k)
value-got k fits bound is =
    value-object bound name_got (written.alone (written.ref name_x name_n)) (tree.Whole (pos k))
    (ap (valued bound 0) (form-ref name_x name_n) ∙ ap (of_part 1) (referred-n bound k is)) fits

pub value-got2 : (bound : List ℕ → Option Json) → bound name_x ≡ Some (n 2) → value_of bound got_x ≡ Ok (got 2)
value-got2 = value-got 2 fit-got2

pub value-got3 : (bound : List ℕ → Option Json) → bound name_x ≡ Some (n 3) → value_of bound got_x ≡ Ok (got 3)
value-got3 = value-got 3 fit-got3

-- one more than a number
added-one : (k : ℕ) (v : Json) → in_range (pos k +ℤ pos 1) ≡ Some v → added Plus (tree.Whole (pos k)) (tree.Whole (pos 1)) ≡ Some v
added-one k v is =
    ap (λ t. option_and_then (λ x. option_and_then (λ y. in_range (x +ℤ y)) (whole_of (tree.Whole (pos 1)))) (whole_in t)) (out-Whole (pos k))
    ∙ ap (λ t. option_and_then (λ y. in_range (pos k +ℤ y)) (whole_in t)) (out-Whole (pos 1)) ∙ is

value-more : (k next : ℕ) → in_range (pos k +ℤ pos 1) ≡ Some (tree.Whole (pos next)) → is_fit_body (n next) ≡ true → (bound : List ℕ
    → Option Json) → bound name_x ≡ Some (n k)
    → value_of bound one_more ≡ Ok (n next)
value-more k next sum fits bound is =
    value-object bound name_n (written.joined (written.ref name_x name_n) Plus (written.number 1)) (tree.Whole (pos next))
    (ap (valued bound 0) (form-more name_x name_n 1)
    ∙ ap (λ r. operated 2 (added Plus) (of_part 1 r) (Ok (tree.Whole (pos 1)))) (referred-n bound k is)
    ∙ ap (of_part 2) (added-one k (tree.Whole (pos next)) sum)) fits

pub value-more-n1 : (bound : List ℕ → Option Json) → bound name_x ≡ Some (n 0) → value_of bound one_more ≡ Ok (n 1)
value-more-n1 = value-more 0 1 refl fit-n1

pub value-more-n2 : (bound : List ℕ → Option Json) → bound name_x ≡ Some (n 1) → value_of bound one_more ≡ Ok (n 2)
value-more-n2 = value-more 1 2 refl fit-n2

-- {"n":@x.n} has no value where none was bound to `x`
pub value-n-none : (bound : List ℕ → Option Json) → bound name_x ≡ None → value_of bound n_x ≡ Err 1
value-n-none bound none =
    ap (λ f. judged (valued bound 0 f)) (form-object name_n (written.alone (written.ref name_x name_n)))
    ∙ ap (λ f. judged (made_into tree.Object (led_by (made_into (λ x. (name_n, x)) (valued bound 0 f)) (Ok [])))) (form-ref name_x name_n)
    ∙ ap (λ o. judged (made_into tree.Object (led_by (made_into (λ x. (name_n, x)) (of_part 1 (option_and_then (looked_up (Some (Name name_n ∷ [])))
    o))) (Ok [])))) none

-- ---- conditions

fit-1 : is_fit_body (tree.Whole (pos 1)) ≡ true
unfolding escape_byte digits
fit-1 = fit-data (tree.Whole (pos 1)) (number (unsigned 1)) (data_of-Whole (pos 1)) refl

fit-2 : is_fit_body (tree.Whole (pos 2)) ≡ true
unfolding escape_byte digits
fit-2 = fit-data (tree.Whole (pos 2)) (number (unsigned 2)) (data_of-Whole (pos 2)) refl

same-numbers : (i k : ℕ) → tree_eq (tree.Whole (pos i)) (tree.Whole (pos k)) ≡ (i == k)
same-numbers i k = ap (λ d. data_eq d (data_of (tree.Whole (pos k)))) (data_of-Whole (pos i)) ∙ ap (data_eq (number (unsigned i))) (data_of-Whole
    (pos k))

-- whether two terms are the same number
truth-same : (bound : List ℕ → Option Json) (left : Term) (form : Form) (i k : ℕ) → form_of (written.alone left) ≡ form
    → valued bound 0 form ≡ Ok (tree.Whole (pos i))
    → is_fit_body (tree.Whole (pos i)) ≡ true → is_fit_body (tree.Whole (pos k)) ≡ true
    → truth_of bound (Compare (written.alone left) Eq (written.alone (written.number k))) ≡ Ok (i == k)
truth-same bound left form i k is value fit-i fit-k =
    ap (λ f. operated (parts f + 1) (compared Eq) (judged (valued bound 0 f)) (value_behind bound (parts f + 1) (written.alone (written.number k))))
    is
    ∙ ap (λ r. operated (parts form + 1) (compared Eq) (judged r) (value_behind bound (parts form + 1) (written.alone (written.number k)))) value
    ∙ ap (λ b. operated (parts form + 1) (compared Eq) (if b then Ok (tree.Whole (pos i)) else Err 0) (value_behind bound (parts form + 1)
    (written.alone (written.number k)))) fit-i
    ∙ ap (λ f. operated (parts form + 1) (compared Eq) (Ok (tree.Whole (pos i))) (judged (valued bound (parts form + 1) f))) (form-number k)
    ∙ ap (λ b. operated (parts form + 1) (compared Eq) (Ok (tree.Whole (pos i))) (if b then Ok (tree.Whole (pos k)) else Err 0)) fit-k
    ∙ ap (λ b. Ok b) (same-numbers i k)

pub one_is_two-false : (bound : List ℕ → Option Json) → truth_of bound one_is_two ≡ Ok false
one_is_two-false bound = truth-same bound (written.number 1) (forms.one (forms.plain (tree.Whole (pos 1)))) 1 2 (form-number 1) refl fit-1 fit-2

pub x_is_one-true : (bound : List ℕ → Option Json) → bound name_x ≡ Some (n 1) → truth_of bound x_is_one ≡ Ok true
x_is_one-true bound is =
    truth-same bound (written.ref name_x name_n) (forms.one (forms.reference name_x (Some (Name name_n ∷ [])))) 1 1 (form-ref name_x name_n)
    (ap (of_part 1) (referred-n bound 1 is)) fit-1 fit-1

-- What is read keeps the rules.
use Rattle.std.proofs.Common.{◌≡◌, ℕ, ℤ, pos, negsuc, zero, suc, Bool, true, false, cond, not, eqb, List, [], ◌∷◌, ◌++◌, length, take, drop, codes, Option, Some, None, Ok, Err, refl, sym, subst, ap, ◌∙◌}
use Rattle.std.specs.List.{prefix_len}
use Rattle.std.specs.declared.cmp.Ordering.{Ordering}
use Rattle.std.specs.declared.cmp.Ordering.TheVariants.{Less, Equal, Greater}
use Rattle.std.specs.Ordering.{nat_cmp, match_ordering}
use Rattle.std.specs.Cmp.Lexicographic.{slice_cmp, nat_list_cmp_total}
use Rattle.std.specs.List.Sorted.{IsStrictlySortedBy}
use Rattle.std.specs.Map.{keys_of}
use Rattle.std.specs.BTreeMap.{insert_entry}
use Rattle.cbt_base.specs.Keyed.{with_pair}
use Rattle.cbt_base.proofs.Maps.{rises-with_pair}
use Rattle.cbt_json.specs.declared.tree.Tree.{Tree}
use Rattle.cbt_json.specs.declared.tree.Tree.TheVariants as tree
use Rattle.cbt_json.specs.Trees.{data_of}
use Rattle.cbt_json.specs.Rules.{is_in_range}
use Rattle.cbt_json.proofs.Views.{data_of-Null, data_of-Bool, data_of-Whole, data_of-Text}
use Rattle.cbt_lex.specs.Decimals.{is_digit}
use Rattle.cbt_lex.specs.Lines.{skip_spaces}
use Rattle.cbt_lex.specs.Names.{is_name, is_name_byte}
use Rattle.cbt_subdoc.specs.declared.path.Part.{Part}
use Rattle.cbt_expr.specs.declared.expressions.Expr.{Expr, roll-Expr}
use Rattle.cbt_expr.specs.declared.expressions.Term.{Term}
use Rattle.cbt_expr.specs.declared.expressions.Term.TheVariants as t
use Rattle.cbt_expr.specs.declared.expressions.Sign.{Sign}
use Rattle.cbt_expr.specs.Forms.{Form, one, joined, joined_all, form_of, term_form, terms_form, items_form, members_form}
use Rattle.cbt_expr.proofs.Views.{form_of-terms, term_form-Members}
use Rattle.cbt_syntax.specs.declared.fault.SyntaxFault.TheVariants.{NotWhole, Malformed, Unbound, NoMemory}
use Rattle.cbt_syntax.specs.declared.references.Within.TheVariants.{Steps}
use Rattle.cbt_syntax.specs.Readings.{Outcome, Read, ◌>>=◌}
use Rattle.cbt_syntax.specs.Pieces.{behind}
use Rattle.cbt_syntax.specs.Strings.{string_at}
use Rattle.cbt_syntax.specs.Numbers.{number_at}
use Rattle.cbt_syntax.specs.References.{path_end, path_in, path_at, name_of, name_at}
use Rattle.cbt_syntax.specs.Terms.{word_or, word_at, text_at, whole_at, scalar_at, plain_at, reference_at, past, after_item, sign_at, by_sign, items_from, list_at, member_at, members_from, object_at, joined_from, expr_by, term_by, too_deep, term_at, expr_at}
use Rattle.cbt_expr.specs.declared.expressions.Cond.{Cond}
use Rattle.cbt_syntax.specs.Conditions.{nothing_behind, cmp_at, max_levels, whole_expr, comparison, whole_name, has, lacks, asked, whole_cond}
use Rattle.cbt_syntax.specs.Whole.{unbound_or, decided, any_name, expr_of, cond_of}
use Rattle.cbt_syntax.specs.Rules.{is_scalar, IsMaybePath, IsBoundName, IsForm, IsTerm, AreItems, AreMembers, IsExpr, IsCond}
use Rattle.cbt_syntax.proofs.Shapes.{term_form-Plain, term_form-Items, term_form-Ref, names-keys}
use Rattle.cbt_syntax.proofs.Ranges.{InRange, number-range}
use Rattle.cbt_syntax.proofs.CanonicalPaths.{Runs, runs-taken, canonical-path}

-- ---- what holds of all that a reading gives

abbrev pub Gives : {A : Type 0} → (A → Type 0) → Outcome A → Type 0
Gives P (Ok x) = P x
Gives P (Err fault) = Unit {0}

pub gives-any : {A : Type 0} (r : Outcome A) → Gives (λ x. Unit {0}) r
gives-any (Ok x) = tt
gives-any (Err fault) = tt

pub gives-bind : {A B : Type 0} (P : A → Type 0) (Q : B → Type 0) (r : Outcome A) (f : A → Outcome B) → Gives P r → ((x : A) → P x → Gives Q (f x)) → Gives Q (r >>= f)
gives-bind P Q (Ok x) f is then = then x is
gives-bind P Q (Err fault) f is then = tt

pub gives-cond : {A : Type 0} (P : A → Type 0) (c : Bool) (r s : Outcome A) → (c ≡ true → Gives P r) → (c ≡ false → Gives P s) → Gives P (cond c r s)
gives-cond P true r s first second = first refl
gives-cond P false r s first second = second refl

pub gives-ok : {A : Type 0} (P : A → Type 0) (r : Outcome A) (x : A) → r ≡ Ok x → Gives P r → P x
gives-ok P r x e is = subst (Gives P) e is

unbound-never : {A : Type 0} (s : Outcome A) (x : A) → unbound_or s ≡ Ok x → ⊥
unbound-never (Ok y) x e = cc
unbound-never (Err fault) x e = cc

-- what is decided on is what the reading gives
pub decided-ok : {A : Type 0} (r s : Outcome A) (x : A) → decided r s ≡ Ok x → r ≡ Ok x
decided-ok (Ok y) s x e = e
decided-ok (Err NotWhole) s x e = absurd (cc)
decided-ok (Err Malformed) s x e = absurd (cc)
decided-ok (Err NoMemory) s x e = absurd (cc)
decided-ok (Err Unbound) s x e = absurd (unbound-never s x e)

-- ---- scalars

abbrev IsScalar : Tree × List ℕ → Type 0
IsScalar x = is_scalar (data_of x.0) ≡ true

whole_scalar : (z : ℤ) → is_in_range z ≡ true → is_scalar (data_of (tree.Whole z)) ≡ true
whole_scalar (pos n) e = ap is_scalar (data_of-Whole (pos n)) ∙ e
whole_scalar (negsuc n) e = ap is_scalar (data_of-Whole (negsuc n)) ∙ e

in_range : (r : Read ℤ) → InRange r → Gives (λ x. is_in_range x.0 ≡ true) r
in_range (Ok x) e = e
in_range (Err fault) e = tt

whole-scalar : (text : List ℕ) → Gives IsScalar (whole_at text)
whole-scalar text = gives-bind (λ x. is_in_range x.0 ≡ true) IsScalar (number_at text) _ (in_range (number_at text) (number-range text)) (λ x e. whole_scalar x.0 e)

text-scalar : (text : List ℕ) → Gives IsScalar (text_at text)
text-scalar text = gives-bind (λ x. Unit {0}) IsScalar (string_at text) _ (gives-any (string_at text)) (λ x e. ap is_scalar (data_of-Text x.0))

word_or-scalar : (value : Tree) (o : Option (List ℕ)) (other : Read Tree) → is_scalar (data_of value) ≡ true → Gives IsScalar other → Gives IsScalar (word_or value o other)
word_or-scalar value None other is rest = rest
word_or-scalar value (Some x) other is rest = is

word-scalar : (text : List ℕ) → Gives IsScalar (word_at text)
unfolding word_at
word-scalar text =
    word_or-scalar tree.Null (behind (codes "null") text) _ (ap is_scalar data_of-Null)
    (word_or-scalar (tree.Bool true) (behind (codes "true") text) _ (ap is_scalar (data_of-Bool true))
    (word_or-scalar (tree.Bool false) (behind (codes "false") text) (Err Malformed) (ap is_scalar (data_of-Bool false)) tt))

scalar-scalar : (text : List ℕ) → Gives IsScalar (scalar_at text)
unfolding scalar_at
scalar-scalar [] = tt
scalar-scalar (b ∷ bs) =
    gives-cond IsScalar (eqb b 34) _ _ (λ _. text-scalar (b ∷ bs))
    (λ _. gives-cond IsScalar (eqb b 45) _ _ (λ _. whole-scalar (b ∷ bs)) (λ _. gives-cond IsScalar (is_digit b) _ _ (λ _. whole-scalar (b ∷ bs)) (λ _. word-scalar (b ∷ bs))))

-- ---- paths

path_in-rule : (text : List ℕ) → Runs Steps text → (r : Outcome (Option (List Part))) → path_in text ≡ r → Gives IsMaybePath r
path_in-rule text runs (Ok None) e = tt
path_in-rule text runs (Ok (Some parts)) e = canonical-path text parts runs e
path_in-rule text runs (Err fault) e = tt

path-rule : (text : List ℕ) → Gives (λ x. IsMaybePath x.0) (path_at text)
path-rule text =
    let front = take (path_end 0 Steps text) text in
    gives-bind IsMaybePath (λ x. IsMaybePath x.0) (path_in front) _ (path_in-rule front (runs-taken text) (path_in front) refl) (λ x is. is)

module _ (bound : List ℕ → Bool) where
  abbrev NameKeeps : List ℕ × List ℕ → Type 0
  NameKeeps x = IsBoundName bound x.0

  name_by : (name rest : List ℕ) (is known : Bool) → is_name name ≡ is → bound name ≡ known
      → Gives NameKeeps (cond (not is) (Err Malformed) (cond known (Ok (name, rest)) (Err Unbound)))
  name_by name rest true true i k = (i, k)
  name_by name rest true false i k = tt
  name_by name rest false known i k = tt

  name_of-rule : (len : ℕ) (text : List ℕ) → Gives NameKeeps (name_of bound len text)
  name_of-rule len text = name_by (take len text) (drop len text) (is_name (take len text)) (bound (take len text)) refl refl

  name-rule : (text : List ℕ) → Gives NameKeeps (name_at bound text)
  name-rule text = name_of-rule (prefix_len is_name_byte text) text

  -- ---- terms by their forms

  abbrev TermKeeps : ℕ → Term × List ℕ → Type 0
  TermKeeps n x = IsTerm bound n (term_form x.0)

  abbrev ExprKeeps : ℕ → Expr × List ℕ → Type 0
  ExprKeeps n x = IsForm bound n (form_of x.0)

  plain-keeps : (n : ℕ) (text : List ℕ) → Gives (TermKeeps n) (plain_at text)
  unfolding plain_at
  plain-keeps n text =
      gives-bind IsScalar (TermKeeps n) (scalar_at text) _ (scalar-scalar text) (λ x is. subst (IsTerm bound n) (sym (term_form-Plain x.0)) is)

  reference-keeps : (n : ℕ) (text : List ℕ) → Gives (TermKeeps n) (reference_at bound text)
  unfolding reference_at
  reference-keeps n text =
      gives-bind NameKeeps (TermKeeps n) (name_at bound text) _ (name-rule text)
      (λ name known. gives-bind (λ x. IsMaybePath x.0) (TermKeeps n) (path_at name.1) _ (path-rule name.1)
      (λ path is. subst (IsTerm bound n) (sym (term_form-Ref name.0 path.0)) (known, is)))

  -- ---- lists

  items-append : (n : ℕ) (found : List Expr) (e : Expr) → AreItems bound n (items_form found) → IsForm bound n (form_of e) → AreItems bound n (items_form (found ++ e ∷ []))
  items-append n [] e are is = (is, tt)
  items-append n (x ∷ xs) e are is = (are.0, items-append n xs e are.1 is)

  module _ (n : ℕ) (inner : (text : List ℕ) → Gives (ExprKeeps n) (expr_at bound n text)) where
    abbrev ItemsKeep : List Expr × List ℕ → Type 0
    ItemsKeep x = AreItems bound n (items_form x.0)

    items-keep : (turns : ℕ) (found : List Expr) (text : List ℕ) → AreItems bound n (items_form found) → Gives ItemsKeep (items_from (expr_at bound n) turns found text)
    unfolding items_from
    items-keep zero found text are = tt
    items-keep (suc turns) found text are =
        gives-bind (ExprKeeps n) ItemsKeep (expr_at bound n text) _ (inner text)
        (λ item is. gives-bind (λ x. Unit {0}) ItemsKeep (after_item 93 item.1) _ (gives-any (after_item 93 item.1))
        (λ next _. gives-cond ItemsKeep next.0 _ _ (λ _. items-keep turns (found ++ item.0 ∷ []) next.1 (items-append n found item.0 are is))
        (λ _. items-append n found item.0 are is)))

    list-keeps : (text : List ℕ) → Gives (TermKeeps (suc n)) (list_at (expr_at bound n) text)
    unfolding list_at
    list-keeps [] = tt
    list-keeps (b ∷ bs) =
        gives-cond (TermKeeps (suc n)) (eqb b 93) _ _ (λ _. subst (IsTerm bound (suc n)) (sym (term_form-Items [])) tt)
        (λ _. gives-bind ItemsKeep (TermKeeps (suc n)) (items_from (expr_at bound n) (length (b ∷ bs)) [] (b ∷ bs)) _ (items-keep (length (b ∷ bs)) [] (b ∷ bs) tt)
        (λ items are. subst (IsTerm bound (suc n)) (sym (term_form-Items items.0)) are))

    -- ---- objects

    abbrev Keep : List (List ℕ × Expr) → Type 0
    Keep ms = IsStrictlySortedBy (slice_cmp nat_cmp) (keys_of ms) × AreMembers bound n (members_form ms)

    are_by : (e : List ℕ × Expr) (es inserted : List (List ℕ × Expr)) (k : List ℕ) (v : Expr) (o : Ordering) → AreMembers bound n (members_form (e ∷ es)) → IsForm bound n (form_of v)
        → AreMembers bound n (members_form inserted) → AreMembers bound n (members_form (match_ordering o ((k, v) ∷ e ∷ es) ((e.0, v) ∷ es) (e ∷ inserted)))
    are_by e es inserted k v Less are is rest = (is, are)
    are_by e es inserted k v Equal are is rest = (is, are.1)
    are_by e es inserted k v Greater are is rest = (are.0, rest)

    are-insert : (es : List (List ℕ × Expr)) (k : List ℕ) (v : Expr) → AreMembers bound n (members_form es) → IsForm bound n (form_of v)
        → AreMembers bound n (members_form (insert_entry (slice_cmp nat_cmp) es k v))
    are-insert [] k v are is = (is, tt)
    are-insert (e ∷ es) k v are is = are_by e es (insert_entry (slice_cmp nat_cmp) es k v) k v (slice_cmp nat_cmp k e.0) are is (are-insert es k v are.1 is)

    keep-insert : (found : List (List ℕ × Expr)) (k : List ℕ) (v : Expr) → Keep found → IsForm bound n (form_of v) → Keep (with_pair (slice_cmp nat_cmp) found k v)
    keep-insert found k v keep is = (rises-with_pair (slice_cmp nat_cmp) nat_list_cmp_total found k v keep.0, are-insert found k v keep.1 is)

    abbrev MemberKeeps : (List ℕ × Expr) × List ℕ → Type 0
    MemberKeeps x = IsForm bound n (form_of x.0.1)

    member-keeps : (text : List ℕ) → Gives MemberKeeps (member_at (expr_at bound n) text)
    unfolding member_at
    member-keeps text =
        gives-bind (λ x. Unit {0}) MemberKeeps (string_at text) _ (gives-any (string_at text))
        (λ name _. gives-bind (λ x. Unit {0}) MemberKeeps (past 58 (skip_spaces name.1)) _ (gives-any (past 58 (skip_spaces name.1)))
        (λ value _. gives-bind (ExprKeeps n) MemberKeeps (expr_at bound n value) _ (inner value) (λ x is. is)))

    abbrev MembersKeep : List (List ℕ × Expr) × List ℕ → Type 0
    MembersKeep x = Keep x.0

    members-keep : (turns : ℕ) (found : List (List ℕ × Expr)) (text : List ℕ) → Keep found → Gives MembersKeep (members_from (expr_at bound n) turns found text)
    unfolding members_from
    members-keep zero found text keep = tt
    members-keep (suc turns) found text keep =
        gives-bind MemberKeeps MembersKeep (member_at (expr_at bound n) text) _ (member-keeps text)
        (λ m is. gives-bind (λ x. Unit {0}) MembersKeep (after_item 125 m.1) _ (gives-any (after_item 125 m.1))
        (λ next _. gives-cond MembersKeep next.0 _ _
        (λ _. members-keep turns (with_pair (slice_cmp nat_cmp) found m.0.0 m.0.1) next.1 (keep-insert found m.0.0 m.0.1 keep is))
        (λ _. keep-insert found m.0.0 m.0.1 keep is)))

    as-object : (ms : List (List ℕ × Expr)) → Keep ms → IsTerm bound (suc n) (term_form (t.Members ms))
    as-object ms keep =
        subst (IsTerm bound (suc n)) (sym (term_form-Members ms)) (subst (IsStrictlySortedBy (slice_cmp nat_cmp)) (sym (names-keys ms)) keep.0, keep.1)

    none-keep : Keep []
    unfolding IsStrictlySortedBy
    none-keep = (tt, tt)

    object-keeps : (text : List ℕ) → Gives (TermKeeps (suc n)) (object_at (expr_at bound n) text)
    unfolding object_at
    object-keeps [] = tt
    object-keeps (b ∷ bs) =
        gives-cond (TermKeeps (suc n)) (eqb b 125) _ _ (λ _. as-object [] none-keep)
        (λ _. gives-bind MembersKeep (TermKeeps (suc n)) (members_from (expr_at bound n) (length (b ∷ bs)) [] (b ∷ bs)) _ (members-keep (length (b ∷ bs)) [] (b ∷ bs) none-keep)
        (λ ms keep. as-object ms.0 keep))

  -- ---- expressions

  abbrev AllTerms : ℕ → List (Sign × Term) → Type 0
  AllTerms n [] = Unit {0}
  AllTerms n (x ∷ xs) = IsTerm bound n (term_form x.1) × AllTerms n xs

  all-append : (n : ℕ) (found : List (Sign × Term)) (x : Sign × Term) → AllTerms n found → IsTerm bound n (term_form x.1) → AllTerms n (found ++ x ∷ [])
  all-append n [] x all is = (is, tt)
  all-append n (y ∷ ys) x all is = (all.0, all-append n ys x all.1 is)

  all-form : (n : ℕ) (form : Form) (xs : List (Sign × Term)) → IsForm bound n form → AllTerms n xs → IsForm bound n (joined_all form (terms_form xs))
  all-form n form [] is all = is
  all-form n form (x ∷ xs) is all = all-form n (joined form x.0 (term_form x.1)) xs (is, all.0) all.1

  module _ (n : ℕ) (inner : (text : List ℕ) → Gives (TermKeeps n) (term_at bound n text)) where
    abbrev JoinsKeep : List (Sign × Term) × List ℕ → Type 0
    JoinsKeep x = AllTerms n x.0

    by_sign-keeps : (o : Option (Sign × List ℕ)) (found : List (Sign × Term)) (text : List ℕ) (f : Sign × List ℕ → Outcome (List (Sign × Term) × List ℕ)) → AllTerms n found
        → ((x : Sign × List ℕ) → Gives JoinsKeep (f x)) → Gives JoinsKeep (by_sign o (Ok (found, text)) f)
    by_sign-keeps None found text f all then = all
    by_sign-keeps (Some x) found text f all then = then x

    joined-keeps : (turns : ℕ) (found : List (Sign × Term)) (text : List ℕ) → AllTerms n found → Gives JoinsKeep (joined_from (term_at bound n) turns found text)
    unfolding joined_from
    joined-keeps zero found text all = all
    joined-keeps (suc turns) found text all =
        by_sign-keeps (sign_at text) found text _ all
        (λ x. gives-bind (TermKeeps n) JoinsKeep (term_at bound n x.1) _ (inner x.1)
        (λ y is. joined-keeps turns (found ++ (x.0, y.0) ∷ []) y.1 (all-append n found (x.0, y.0) all is)))

    expr-keeps : (text : List ℕ) → Gives (ExprKeeps n) (expr_at bound n text)
    unfolding expr_by
    expr-keeps text =
        gives-bind (TermKeeps n) (ExprKeeps n) (term_at bound n text) _ (inner text)
        (λ first is. gives-bind JoinsKeep (ExprKeeps n) (joined_from (term_at bound n) (length first.1) [] first.1) _ (joined-keeps (length first.1) [] first.1 tt)
        (λ rest all. subst (IsForm bound n) (sym (form_of-terms (roll-Expr (record { first = first.0; rest = rest.0 })))) (all-form n (one (term_form first.0)) rest.0 is all)))

  term_by-keeps : (n : ℕ) (lists objects : List ℕ → Read Term) → ((text : List ℕ) → Gives (TermKeeps n) (lists text)) → ((text : List ℕ) → Gives (TermKeeps n) (objects text))
      → (text : List ℕ) → Gives (TermKeeps n) (term_by bound lists objects text)
  unfolding term_by
  term_by-keeps n lists objects first second [] = tt
  term_by-keeps n lists objects first second (b ∷ bs) =
      gives-cond (TermKeeps n) (eqb b 91) _ _ (λ _. first (skip_spaces bs))
      (λ _. gives-cond (TermKeeps n) (eqb b 123) _ _ (λ _. second (skip_spaces bs))
      (λ _. gives-cond (TermKeeps n) (eqb b 64) _ _ (λ _. reference-keeps n bs) (λ _. plain-keeps n (b ∷ bs))))

  term-keeps : (n : ℕ) (text : List ℕ) → Gives (TermKeeps n) (term_at bound n text)
  unfolding term_at
  term-keeps zero text = term_by-keeps zero (too_deep bound) (too_deep bound) (λ _. tt) (λ _. tt) text
  term-keeps (suc n) text =
      let inner = expr-keeps n (term-keeps n) in
      term_by-keeps (suc n) (list_at (expr_at bound n)) (object_at (expr_at bound n)) (list-keeps n inner) (object-keeps n inner) text

  pub read-keeps : (n : ℕ) (text : List ℕ) → Gives (ExprKeeps n) (expr_at bound n text)
  read-keeps n text = expr-keeps n (term-keeps n) text

  -- ---- whole texts

  nothing-keeps : (x : Expr × List ℕ) → ExprKeeps max_levels x → Gives (IsExpr bound) (nothing_behind x)
  nothing-keeps (e, []) is = is
  nothing-keeps (e, b ∷ bs) is = tt

  whole-keeps : (text : List ℕ) → Gives (IsExpr bound) (whole_expr bound text)
  unfolding whole_expr
  whole-keeps text = gives-bind (ExprKeeps max_levels) (IsExpr bound) (expr_at bound max_levels text) nothing_behind (read-keeps max_levels text) nothing-keeps

  name-keeps : (name : List ℕ) → Gives (IsBoundName bound) (whole_name bound name)
  unfolding whole_name
  name-keeps name =
      gives-cond (IsBoundName bound) (is_name name) _ _ (λ is. gives-cond (IsBoundName bound) (bound name) _ _ (λ known. (is, known)) (λ _. tt)) (λ _. tt)

  has-keeps : (text : List ℕ) → Gives (IsCond bound) (has bound text)
  has-keeps text = gives-bind (IsBoundName bound) (IsCond bound) (whole_name bound (skip_spaces text)) _ (name-keeps (skip_spaces text)) (λ name is. is)

  lacks-keeps : (text : List ℕ) → Gives (IsCond bound) (lacks bound text)
  lacks-keeps text = gives-bind (IsBoundName bound) (IsCond bound) (whole_name bound (skip_spaces text)) _ (name-keeps (skip_spaces text)) (λ name is. is)

  comparison-keeps : (text : List ℕ) → Gives (IsCond bound) (comparison bound text)
  unfolding comparison
  comparison-keeps text =
      gives-bind (ExprKeeps max_levels) (IsCond bound) (expr_at bound max_levels text) _ (read-keeps max_levels text)
      (λ left first. gives-bind (λ x. Unit {0}) (IsCond bound) (cmp_at left.1) _ (gives-any (cmp_at left.1))
      (λ cmp _. gives-bind (IsExpr bound) (IsCond bound) (whole_expr bound cmp.1) _ (whole-keeps cmp.1) (λ right second. (first, second))))

  asked-keeps : (o : Option (List ℕ)) (f : List ℕ → Outcome Cond) (other : Outcome Cond) → ((text : List ℕ) → Gives (IsCond bound) (f text)) → Gives (IsCond bound) other
      → Gives (IsCond bound) (asked bound o f other)
  asked-keeps None f other first second = second
  asked-keeps (Some text) f other first second = first text

  cond-keeps : (text : List ℕ) → Gives (IsCond bound) (whole_cond bound text)
  unfolding whole_cond
  cond-keeps text =
      asked-keeps (behind (codes "some ") text) (has bound) _ has-keeps
      (asked-keeps (behind (codes "none ") text) (lacks bound) (comparison bound text) lacks-keeps (comparison-keeps text))

  pub expr_of-rules : (text : List ℕ) (e : Expr) → expr_of bound text ≡ Ok e → IsExpr bound e
  expr_of-rules text e is = gives-ok (IsExpr bound) (whole_expr bound text) e (decided-ok (whole_expr bound text) (whole_expr any_name text) e is) (whole-keeps text)

  pub cond_of-rules : (text : List ℕ) (c : Cond) → cond_of bound text ≡ Ok c → IsCond bound c
  cond_of-rules text c is = gives-ok (IsCond bound) (whole_cond bound text) c (decided-ok (whole_cond bound text) (whole_cond any_name text) c is) (cond-keeps text)

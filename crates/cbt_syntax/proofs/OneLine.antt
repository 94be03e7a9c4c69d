-- What is read from a text without line feeds has a canonical text without them.
use Rattle.std.proofs.Common.{◌≡◌, ◌≢◌, ℕ, ℤ, pos, neg_ℤ, zero, suc, ◌+◌, ◌-◌, ◌*◌, ◌^◌, Bool, true, false, cond, not, ◌||◌, eqb, List, [], ◌∷◌, ◌++◌, length, take, drop, codes, Option, Some, None, Result, Ok, Err, refl, sym, subst}
use Rattle.std.specs.Prelude.{nat_lt}
use Rattle.std.specs.List.{prefix_len}
use Rattle.std.specs.declared.cmp.Ordering.{Ordering}
use Rattle.std.specs.declared.cmp.Ordering.TheVariants.{Less, Equal, Greater}
use Rattle.std.specs.Ordering.{nat_cmp, match_ordering}
use Rattle.std.specs.Cmp.Lexicographic.{slice_cmp}
use Rattle.std.specs.BTreeMap.{insert_entry}
use Rattle.std.proofs.lemmas.List.Elements.{All-drop, All-take}
use Rattle.cbt_base.specs.Keyed.{with_pair}
use Rattle.cbt_json.specs.declared.tree.Tree.{Tree}
use Rattle.cbt_json.specs.declared.tree.Tree.TheVariants as tree
use Rattle.cbt_json.specs.Reading.{json_of}
use Rattle.cbt_lex.specs.Decimals.{is_digit}
use Rattle.cbt_lex.specs.Lines.{skip_spaces, IsOneLine}
use Rattle.cbt_lex.specs.Names.{is_name, is_name_byte}
use Rattle.cbt_lex.proofs.OneLine.{skipped-one_line}
use Rattle.cbt_subdoc.specs.declared.path.Part.{Part}
use Rattle.cbt_subdoc.specs.declared.path.PathFault.{PathFault}
use Rattle.cbt_subdoc.specs.Paths.{path_of}
use Rattle.cbt_expr.specs.declared.expressions.Expr.{Expr, roll-Expr}
use Rattle.cbt_expr.specs.declared.expressions.Term.{Term}
use Rattle.cbt_expr.specs.declared.expressions.Term.TheVariants as t
use Rattle.cbt_expr.specs.declared.expressions.Sign.{Sign}
use Rattle.cbt_expr.specs.declared.expressions.Sign.TheVariants.{Plus, Minus}
use Rattle.cbt_expr.specs.declared.expressions.Cmp.{Cmp}
use Rattle.cbt_expr.specs.declared.expressions.Cmp.TheVariants.{Eq, Ne, Lt, Le, Gt, Ge}
use Rattle.cbt_expr.specs.declared.expressions.Cond.{Cond}
use Rattle.cbt_expr.specs.declared.expressions.Cond.TheVariants.{Compare, Has, Lacks}
use Rattle.cbt_expr.specs.Forms.{Form, one, joined, joined_all, form_of, term_form, terms_form, items_form, members_form}
use Rattle.cbt_expr.proofs.Views.{form_of-terms, term_form-Members}
use Rattle.cbt_syntax.specs.declared.fault.SyntaxFault.TheVariants.{NotWhole, Malformed, Unbound}
use Rattle.cbt_syntax.specs.declared.references.Within.TheVariants.{Steps}
use Rattle.cbt_syntax.specs.Readings.{Outcome, Read}
use Rattle.cbt_syntax.specs.Pieces.{behind}
use Rattle.cbt_syntax.specs.Strings.{closing, text_of_json, literal, closed_at, string_at}
use Rattle.cbt_syntax.specs.Numbers.{digits, decimal_at, ended, negative_at, positive_at, number_at}
use Rattle.cbt_syntax.specs.Numbers as numbers
use Rattle.cbt_syntax.specs.References.{path_end, as_path, named_path, path_in, path_at, name_at}
use Rattle.cbt_syntax.specs.Terms.{word_or, word_at, text_at, whole_at, scalar_at, plain_at, reference_at, past, after_item, sign_at, by_sign, items_from, list_at, member_at, members_from, object_at, joined_from, expr_by, term_by, too_deep, term_at, expr_at}
use Rattle.cbt_syntax.specs.Conditions.{nothing_behind, cmp_or, cmp_at, max_levels, whole_expr, comparison, whole_name, has, lacks, asked, whole_cond}
use Rattle.cbt_syntax.specs.Texts.{expr_text, cmp_text, cond_text}
use Rattle.cbt_syntax.specs.Whole.{any_name, expr_of, cond_of}
use Rattle.cbt_syntax.specs.Rules.{IsCond}
use Rattle.cbt_syntax.proofs.CleanTexts.{one-tail, one-append, one-fixed, one-name, cmp-one, IsCleanPath, IsCleanForm, IsCleanTerm, AreCleanItems, AreCleanMembers, form-one}
use Rattle.cbt_syntax.proofs.CleanPaths.{AreCleanParts, path-clean}
use Rattle.cbt_syntax.proofs.Shapes.{term_form-Plain, term_form-Items, term_form-Ref}
use Rattle.cbt_syntax.proofs.WellRead.{Gives, gives-any, gives-bind, gives-cond, gives-ok, decided-ok, expr_of-rules, cond_of-rules}

-- ---- what is left behind pieces

-- what is left has no line feed
abbrev IsLed : {A : Type 0} → A × List ℕ → Type 0
IsLed x = IsOneLine x.1

one-drop : (n : ℕ) (text : List ℕ) → IsOneLine text → IsOneLine (drop n text)
one-drop n text all = All-drop (λ x. x ≢ 10) n text all

one-take : (n : ℕ) (text : List ℕ) → IsOneLine text → IsOneLine (take n text)
one-take n text all = All-take (λ x. x ≢ 10) n text all

abbrev IsBehind : Option (List ℕ) → Type 0
IsBehind None = Unit {0}
IsBehind (Some rest) = IsOneLine rest

behind_if : (t : Bool) (a : Option (List ℕ)) → IsBehind a → IsBehind (cond t a None)
behind_if true a is = is
behind_if false a is = tt

behind-one : (piece text : List ℕ) → IsOneLine text → IsBehind (behind piece text)
behind-one [] text all = all
behind-one (w ∷ ws) [] all = tt
behind-one (w ∷ ws) (b ∷ bs) all = behind_if (eqb w b) (behind ws bs) (behind-one ws bs (one-tail b bs all))

-- ---- scalars

digits-led : (n : ℕ) (text : List ℕ) → IsOneLine text → Gives (IsLed {A = ℕ}) (digits n text)
digits-led n [] all = all
digits-led n (b ∷ bs) all =
    gives-cond (IsLed {A = ℕ}) (is_digit b) _ (Ok (n, b ∷ bs))
    (λ _. gives-cond (IsLed {A = ℕ}) (nat_lt (n * 10 + (b - 48)) (2 ^ 64)) (digits (n * 10 + (b - 48)) bs) (Err NotWhole) (λ _. digits-led (n * 10 + (b - 48)) bs (one-tail b bs all)) (λ _. tt))
    (λ _. all)

decimal-led : (text : List ℕ) → IsOneLine text → Gives (IsLed {A = ℕ}) (decimal_at text)
decimal-led [] all = tt
decimal-led (b ∷ bs) all =
    let rest = one-tail b bs all in
    gives-cond (IsLed {A = ℕ}) (eqb b 48) (Ok (0, bs)) _ (λ _. rest)
    (λ _. gives-cond (IsLed {A = ℕ}) (is_digit b) (digits (b - 48) bs) (Err Malformed) (λ _. digits-led (b - 48) bs rest) (λ _. tt))

ended-led : (z : ℤ) (text : List ℕ) → IsOneLine text → Gives (IsLed {A = ℤ}) (ended z text)
ended-led z text all = gives-cond (IsLed {A = ℤ}) (numbers.goes_on text) (Err NotWhole) (Ok (z, text)) (λ _. tt) (λ _. all)

negative-led : (text : List ℕ) → IsOneLine text → Gives (IsLed {A = ℤ}) (negative_at text)
negative-led text all =
    gives-bind (IsLed {A = ℕ}) (IsLed {A = ℤ}) (decimal_at text) _ (decimal-led text all)
    (λ n is. gives-cond (IsLed {A = ℤ}) (eqb n.0 0 || nat_lt (2 ^ 63) n.0) (Err NotWhole) (ended (neg_ℤ (pos n.0)) n.1) (λ _. tt) (λ _. ended-led (neg_ℤ (pos n.0)) n.1 is))

positive-led : (text : List ℕ) → IsOneLine text → Gives (IsLed {A = ℤ}) (positive_at text)
positive-led text all =
    gives-bind (IsLed {A = ℕ}) (IsLed {A = ℤ}) (decimal_at text) _ (decimal-led text all) (λ n is. ended-led (pos n.0) n.1 is)

number-led : (text : List ℕ) → IsOneLine text → Gives (IsLed {A = ℤ}) (number_at text)
unfolding number_at
number-led [] all = tt
number-led (b ∷ bs) all =
    gives-cond (IsLed {A = ℤ}) (eqb b 45) (negative_at bs) (positive_at (b ∷ bs)) (λ _. negative-led bs (one-tail b bs all)) (λ _. positive-led (b ∷ bs) all)

literal-led : (len : ℕ) (text : List ℕ) → IsOneLine text → Gives (IsLed {A = List ℕ}) (literal len text)
literal-led len text all =
    gives-bind (λ s. Unit {0}) (IsLed {A = List ℕ}) (text_of_json (json_of (take len text))) _ (gives-any (text_of_json (json_of (take len text)))) (λ s _. one-drop len text all)

closed-led : (at : Option ℕ) (text : List ℕ) → IsOneLine text → Gives (IsLed {A = List ℕ}) (closed_at at text)
closed-led None text all = tt
closed-led (Some at) text all = literal-led (at + 2) text all

string-led : (text : List ℕ) → IsOneLine text → Gives (IsLed {A = List ℕ}) (string_at text)
unfolding string_at
string-led [] all = tt
string-led (b ∷ bs) all =
    gives-cond (IsLed {A = List ℕ}) (eqb b 34) (closed_at (closing 0 false bs) (b ∷ bs)) (Err Malformed) (λ _. closed-led (closing 0 false bs) (b ∷ bs) all) (λ _. tt)

word_or-led : (value : Tree) (o : Option (List ℕ)) (other : Read Tree) → IsBehind o → Gives (IsLed {A = Tree}) other → Gives (IsLed {A = Tree}) (word_or value o other)
word_or-led value None other is rest = rest
word_or-led value (Some x) other is rest = is

word-led : (text : List ℕ) → IsOneLine text → Gives (IsLed {A = Tree}) (word_at text)
unfolding word_at
word-led text all =
    word_or-led tree.Null (behind (codes "null") text) _ (behind-one (codes "null") text all)
    (word_or-led (tree.Bool true) (behind (codes "true") text) _ (behind-one (codes "true") text all)
    (word_or-led (tree.Bool false) (behind (codes "false") text) (Err Malformed) (behind-one (codes "false") text all) tt))

text-led : (text : List ℕ) → IsOneLine text → Gives (IsLed {A = Tree}) (text_at text)
text-led text all = gives-bind (IsLed {A = List ℕ}) (IsLed {A = Tree}) (string_at text) _ (string-led text all) (λ s is. is)

whole-led : (text : List ℕ) → IsOneLine text → Gives (IsLed {A = Tree}) (whole_at text)
whole-led text all = gives-bind (IsLed {A = ℤ}) (IsLed {A = Tree}) (number_at text) _ (number-led text all) (λ z is. is)

scalar-led : (text : List ℕ) → IsOneLine text → Gives (IsLed {A = Tree}) (scalar_at text)
unfolding scalar_at
scalar-led [] all = tt
scalar-led (b ∷ bs) all =
    gives-cond (IsLed {A = Tree}) (eqb b 34) _ _ (λ _. text-led (b ∷ bs) all)
    (λ _. gives-cond (IsLed {A = Tree}) (eqb b 45) _ _ (λ _. whole-led (b ∷ bs) all)
    (λ _. gives-cond (IsLed {A = Tree}) (is_digit b) _ _ (λ _. whole-led (b ∷ bs) all) (λ _. word-led (b ∷ bs) all)))

-- ---- references

as_path-clean : (r : Result (List Part) PathFault) → AreCleanParts r → Gives IsCleanPath (as_path r)
as_path-clean (Ok parts) are = are
as_path-clean (Err fault) are = tt

named-clean : (text : List ℕ) → IsOneLine text → Gives IsCleanPath (named_path text)
named-clean [] all = tt
named-clean (b ∷ bs) all =
    gives-cond IsCleanPath (eqb b 91) (Err Malformed) (as_path (path_of (b ∷ bs))) (λ _. tt) (λ _. as_path-clean (path_of (b ∷ bs)) (path-clean (b ∷ bs) all))

path_in-clean : (text : List ℕ) → IsOneLine text → Gives IsCleanPath (path_in text)
path_in-clean [] all = tt
path_in-clean (b ∷ bs) all =
    gives-cond IsCleanPath (eqb b 46) (named_path bs) _ (λ _. named-clean bs (one-tail b bs all))
    (λ _. gives-cond IsCleanPath (eqb b 91) (as_path (path_of (b ∷ bs))) (Err Malformed) (λ _. as_path-clean (path_of (b ∷ bs)) (path-clean (b ∷ bs) all)) (λ _. tt))

abbrev PathKept : Option (List Part) × List ℕ → Type 0
PathKept x = IsCleanPath x.0 × IsOneLine x.1

path-kept : (text : List ℕ) → IsOneLine text → Gives PathKept (path_at text)
path-kept text all =
    let n = path_end 0 Steps text in
    gives-bind IsCleanPath PathKept (path_in (take n text)) _ (path_in-clean (take n text) (one-take n text all)) (λ path is. (is, one-drop n text all))

-- ---- what parts terms

past-one : (b : ℕ) (text : List ℕ) → IsOneLine text → Gives IsOneLine (past b text)
past-one b [] all = tt
past-one b (c ∷ cs) all = gives-cond IsOneLine (eqb c b) (Ok (skip_spaces cs)) (Err Malformed) (λ _. skipped-one_line cs (one-tail c cs all)) (λ _. tt)

after_item-led : (close : ℕ) (text : List ℕ) → IsOneLine text → Gives (IsLed {A = Bool}) (after_item close text)
after_item-led close [] all = tt
after_item-led close (b ∷ bs) all =
    let rest = skipped-one_line bs (one-tail b bs all) in
    gives-cond (IsLed {A = Bool}) (eqb b 44) (Ok (true, skip_spaces bs)) _ (λ _. rest)
    (λ _. gives-cond (IsLed {A = Bool}) (eqb b close) (Ok (false, skip_spaces bs)) (Err Malformed) (λ _. rest) (λ _. tt))

abbrev SignLed : Option (Sign × List ℕ) → Type 0
SignLed None = Unit {0}
SignLed (Some x) = IsOneLine x.1

sign_if : (t : Bool) (a b : Option (Sign × List ℕ)) → SignLed a → SignLed b → SignLed (cond t a b)
sign_if true a b first second = first
sign_if false a b first second = second

sign-led : (text : List ℕ) → IsOneLine text → SignLed (sign_at text)
sign-led [] all = tt
sign-led (b ∷ bs) all =
    let rest = skipped-one_line bs (one-tail b bs all) in
    sign_if (eqb b 43) (Some (Plus, skip_spaces bs)) _ rest (sign_if (eqb b 45) (Some (Minus, skip_spaces bs)) None rest tt)

module _ (bound : List ℕ → Bool) where
  name-led : (text : List ℕ) → IsOneLine text → Gives (IsLed {A = List ℕ}) (name_at bound text)
  name-led text all =
      let n = prefix_len is_name_byte text in
      gives-cond (IsLed {A = List ℕ}) (not (is_name (take n text))) (Err Malformed) _ (λ _. tt)
      (λ _. gives-cond (IsLed {A = List ℕ}) (bound (take n text)) (Ok (take n text, drop n text)) (Err Unbound) (λ _. one-drop n text all) (λ _. tt))

  -- ---- terms by their forms

  abbrev TermKept : Term × List ℕ → Type 0
  TermKept x = IsCleanTerm (term_form x.0) × IsOneLine x.1

  abbrev ExprKept : Expr × List ℕ → Type 0
  ExprKept x = IsCleanForm (form_of x.0) × IsOneLine x.1

  plain-kept : (text : List ℕ) → IsOneLine text → Gives TermKept (plain_at text)
  unfolding plain_at
  plain-kept text all =
      gives-bind (IsLed {A = Tree}) TermKept (scalar_at text) _ (scalar-led text all) (λ x is. (subst IsCleanTerm (sym (term_form-Plain x.0)) tt, skipped-one_line x.1 is))

  reference-kept : (text : List ℕ) → IsOneLine text → Gives TermKept (reference_at bound text)
  unfolding reference_at
  reference-kept text all =
      gives-bind (IsLed {A = List ℕ}) TermKept (name_at bound text) _ (name-led text all)
      (λ name rest. gives-bind PathKept TermKept (path_at name.1) _ (path-kept name.1 rest)
      (λ path is. (subst IsCleanTerm (sym (term_form-Ref name.0 path.0)) is.0, skipped-one_line path.1 is.1)))

  -- ---- lists

  items-append : (found : List Expr) (e : Expr) → AreCleanItems (items_form found) → IsCleanForm (form_of e) → AreCleanItems (items_form (found ++ e ∷ []))
  items-append [] e are is = (is, tt)
  items-append (x ∷ xs) e are is = (are.0, items-append xs e are.1 is)

  module _ (n : ℕ) (inner : (text : List ℕ) → IsOneLine text → Gives ExprKept (expr_at bound n text)) where
    abbrev ItemsKept : List Expr × List ℕ → Type 0
    ItemsKept x = AreCleanItems (items_form x.0) × IsOneLine x.1

    items-kept : (turns : ℕ) (found : List Expr) (text : List ℕ) → AreCleanItems (items_form found) → IsOneLine text → Gives ItemsKept (items_from (expr_at bound n) turns found text)
    unfolding items_from
    items-kept zero found text are all = tt
    items-kept (suc turns) found text are all =
        gives-bind ExprKept ItemsKept (expr_at bound n text) _ (inner text all)
        (λ item is. gives-bind (IsLed {A = Bool}) ItemsKept (after_item 93 item.1) _ (after_item-led 93 item.1 is.1)
        (λ next rest. gives-cond ItemsKept next.0 _ _ (λ _. items-kept turns (found ++ item.0 ∷ []) next.1 (items-append found item.0 are is.0) rest)
        (λ _. (items-append found item.0 are is.0, rest))))

    list-kept : (text : List ℕ) → IsOneLine text → Gives TermKept (list_at (expr_at bound n) text)
    unfolding list_at
    list-kept [] all = tt
    list-kept (b ∷ bs) all =
        gives-cond TermKept (eqb b 93) _ _ (λ _. (subst IsCleanTerm (sym (term_form-Items [])) tt, skipped-one_line bs (one-tail b bs all)))
        (λ _. gives-bind ItemsKept TermKept (items_from (expr_at bound n) (length (b ∷ bs)) [] (b ∷ bs)) _ (items-kept (length (b ∷ bs)) [] (b ∷ bs) tt all)
        (λ items are. (subst IsCleanTerm (sym (term_form-Items items.0)) are.0, are.1)))

    -- ---- objects

    abbrev Clean : List (List ℕ × Expr) → Type 0
    Clean ms = AreCleanMembers (members_form ms)

    clean_by : (e : List ℕ × Expr) (es inserted : List (List ℕ × Expr)) (k : List ℕ) (v : Expr) (o : Ordering) → Clean (e ∷ es) → IsCleanForm (form_of v) → Clean inserted
        → Clean (match_ordering o ((k, v) ∷ e ∷ es) ((e.0, v) ∷ es) (e ∷ inserted))
    clean_by e es inserted k v Less are is rest = (is, are)
    clean_by e es inserted k v Equal are is rest = (is, are.1)
    clean_by e es inserted k v Greater are is rest = (are.0, rest)

    clean-insert : (es : List (List ℕ × Expr)) (k : List ℕ) (v : Expr) → Clean es → IsCleanForm (form_of v) → Clean (insert_entry (slice_cmp nat_cmp) es k v)
    clean-insert [] k v are is = (is, tt)
    clean-insert (e ∷ es) k v are is = clean_by e es (insert_entry (slice_cmp nat_cmp) es k v) k v (slice_cmp nat_cmp k e.0) are is (clean-insert es k v are.1 is)

    abbrev MemberKept : (List ℕ × Expr) × List ℕ → Type 0
    MemberKept x = IsCleanForm (form_of x.0.1) × IsOneLine x.1

    member-kept : (text : List ℕ) → IsOneLine text → Gives MemberKept (member_at (expr_at bound n) text)
    unfolding member_at
    member-kept text all =
        gives-bind (IsLed {A = List ℕ}) MemberKept (string_at text) _ (string-led text all)
        (λ name rest. gives-bind IsOneLine MemberKept (past 58 (skip_spaces name.1)) _ (past-one 58 (skip_spaces name.1) (skipped-one_line name.1 rest))
        (λ value led. gives-bind ExprKept MemberKept (expr_at bound n value) _ (inner value led) (λ x is. is)))

    abbrev MembersKept : List (List ℕ × Expr) × List ℕ → Type 0
    MembersKept x = Clean x.0 × IsOneLine x.1

    members-kept : (turns : ℕ) (found : List (List ℕ × Expr)) (text : List ℕ) → Clean found → IsOneLine text → Gives MembersKept (members_from (expr_at bound n) turns found text)
    unfolding members_from
    members-kept zero found text are all = tt
    members-kept (suc turns) found text are all =
        gives-bind MemberKept MembersKept (member_at (expr_at bound n) text) _ (member-kept text all)
        (λ m is. gives-bind (IsLed {A = Bool}) MembersKept (after_item 125 m.1) _ (after_item-led 125 m.1 is.1)
        (λ next rest. gives-cond MembersKept next.0 _ _
        (λ _. members-kept turns (with_pair (slice_cmp nat_cmp) found m.0.0 m.0.1) next.1 (clean-insert found m.0.0 m.0.1 are is.0) rest)
        (λ _. (clean-insert found m.0.0 m.0.1 are is.0, rest))))

    as-object : (ms : List (List ℕ × Expr)) → Clean ms → IsCleanTerm (term_form (t.Members ms))
    as-object ms are = subst IsCleanTerm (sym (term_form-Members ms)) are

    object-kept : (text : List ℕ) → IsOneLine text → Gives TermKept (object_at (expr_at bound n) text)
    unfolding object_at
    object-kept [] all = tt
    object-kept (b ∷ bs) all =
        gives-cond TermKept (eqb b 125) _ _ (λ _. (as-object [] tt, skipped-one_line bs (one-tail b bs all)))
        (λ _. gives-bind MembersKept TermKept (members_from (expr_at bound n) (length (b ∷ bs)) [] (b ∷ bs)) _ (members-kept (length (b ∷ bs)) [] (b ∷ bs) tt all)
        (λ ms are. (as-object ms.0 are.0, are.1)))

  -- ---- expressions

  abbrev AllTerms : List (Sign × Term) → Type 0
  AllTerms [] = Unit {0}
  AllTerms (x ∷ xs) = IsCleanTerm (term_form x.1) × AllTerms xs

  all-append : (found : List (Sign × Term)) (x : Sign × Term) → AllTerms found → IsCleanTerm (term_form x.1) → AllTerms (found ++ x ∷ [])
  all-append [] x all is = (is, tt)
  all-append (y ∷ ys) x all is = (all.0, all-append ys x all.1 is)

  all-form : (form : Form) (xs : List (Sign × Term)) → IsCleanForm form → AllTerms xs → IsCleanForm (joined_all form (terms_form xs))
  all-form form [] is all = is
  all-form form (x ∷ xs) is all = all-form (joined form x.0 (term_form x.1)) xs (is, all.0) all.1

  module _ (n : ℕ) (inner : (text : List ℕ) → IsOneLine text → Gives TermKept (term_at bound n text)) where
    abbrev JoinsKept : List (Sign × Term) × List ℕ → Type 0
    JoinsKept x = AllTerms x.0 × IsOneLine x.1

    by_sign-kept : (o : Option (Sign × List ℕ)) (found : List (Sign × Term)) (text : List ℕ) (f : Sign × List ℕ → Outcome (List (Sign × Term) × List ℕ)) → JoinsKept (found, text) → SignLed o
        → ((x : Sign × List ℕ) → IsOneLine x.1 → Gives JoinsKept (f x)) → Gives JoinsKept (by_sign o (Ok (found, text)) f)
    by_sign-kept None found text f all is then = all
    by_sign-kept (Some x) found text f all is then = then x is

    joined-kept : (turns : ℕ) (found : List (Sign × Term)) (text : List ℕ) → AllTerms found → IsOneLine text → Gives JoinsKept (joined_from (term_at bound n) turns found text)
    unfolding joined_from
    joined-kept zero found text all rest = (all, rest)
    joined-kept (suc turns) found text all rest =
        by_sign-kept (sign_at text) found text _ (all, rest) (sign-led text rest)
        (λ x led. gives-bind TermKept JoinsKept (term_at bound n x.1) _ (inner x.1 led)
        (λ y is. joined-kept turns (found ++ (x.0, y.0) ∷ []) y.1 (all-append found (x.0, y.0) all is.0) is.1))

    expr-kept : (text : List ℕ) → IsOneLine text → Gives ExprKept (expr_at bound n text)
    unfolding expr_by
    expr-kept text all =
        gives-bind TermKept ExprKept (term_at bound n text) _ (inner text all)
        (λ first is. gives-bind JoinsKept ExprKept (joined_from (term_at bound n) (length first.1) [] first.1) _ (joined-kept (length first.1) [] first.1 tt is.1)
        (λ rest are. (subst IsCleanForm (sym (form_of-terms (roll-Expr (record { first = first.0; rest = rest.0 })))) (all-form (one (term_form first.0)) rest.0 is.0 are.0), are.1)))

  term_by-kept : (lists objects : List ℕ → Read Term) → ((text : List ℕ) → IsOneLine text → Gives TermKept (lists text)) → ((text : List ℕ) → IsOneLine text → Gives TermKept (objects text))
      → (text : List ℕ) → IsOneLine text → Gives TermKept (term_by bound lists objects text)
  unfolding term_by
  term_by-kept lists objects first second [] all = tt
  term_by-kept lists objects first second (b ∷ bs) all =
      let rest = one-tail b bs all in
      gives-cond TermKept (eqb b 91) _ _ (λ _. first (skip_spaces bs) (skipped-one_line bs rest))
      (λ _. gives-cond TermKept (eqb b 123) _ _ (λ _. second (skip_spaces bs) (skipped-one_line bs rest))
      (λ _. gives-cond TermKept (eqb b 64) _ _ (λ _. reference-kept bs rest) (λ _. plain-kept (b ∷ bs) all)))

  term-kept : (n : ℕ) (text : List ℕ) → IsOneLine text → Gives TermKept (term_at bound n text)
  unfolding term_at
  term-kept zero text all = term_by-kept (too_deep bound) (too_deep bound) (λ _ _. tt) (λ _ _. tt) text all
  term-kept (suc n) text all =
      let inner = expr-kept n (term-kept n) in
      term_by-kept (list_at (expr_at bound n)) (object_at (expr_at bound n)) (list-kept n inner) (object-kept n inner) text all

  read-kept : (n : ℕ) (text : List ℕ) → IsOneLine text → Gives ExprKept (expr_at bound n text)
  read-kept n text all = expr-kept n (term-kept n) text all

  -- ---- whole texts

  abbrev IsClean : Expr → Type 0
  IsClean e = IsCleanForm (form_of e)

  abbrev AreSidesClean : Cond → Type 0
  AreSidesClean (Compare left cmp right) = IsClean left × IsClean right
  AreSidesClean (Has name) = Unit {0}
  AreSidesClean (Lacks name) = Unit {0}

  nothing-kept : (x : Expr × List ℕ) → ExprKept x → Gives IsClean (nothing_behind x)
  nothing-kept (e, []) is = is.0
  nothing-kept (e, b ∷ bs) is = tt

  whole-kept : (text : List ℕ) → IsOneLine text → Gives IsClean (whole_expr bound text)
  unfolding whole_expr
  whole-kept text all = gives-bind ExprKept IsClean (expr_at bound max_levels text) nothing_behind (read-kept max_levels text all) nothing-kept

  cmp_or-led : (cmp : Cmp) (o : Option (List ℕ)) (other : Read Cmp) → IsBehind o → Gives (IsLed {A = Cmp}) other → Gives (IsLed {A = Cmp}) (cmp_or cmp o other)
  cmp_or-led cmp None other is rest = rest
  cmp_or-led cmp (Some x) other is rest = skipped-one_line x is

  cmp-led : (text : List ℕ) → IsOneLine text → Gives (IsLed {A = Cmp}) (cmp_at text)
  unfolding cmp_at
  cmp-led text all =
      cmp_or-led Eq (behind (codes "==") text) _ (behind-one (codes "==") text all)
      (cmp_or-led Ne (behind (codes "!=") text) _ (behind-one (codes "!=") text all)
      (cmp_or-led Le (behind (codes "<=") text) _ (behind-one (codes "<=") text all)
      (cmp_or-led Lt (behind (codes "<") text) _ (behind-one (codes "<") text all)
      (cmp_or-led Ge (behind (codes ">=") text) _ (behind-one (codes ">=") text all)
      (cmp_or-led Gt (behind (codes ">") text) (Err Malformed) (behind-one (codes ">") text all) tt)))))

  has-kept : (text : List ℕ) → Gives AreSidesClean (has bound text)
  has-kept text = gives-bind (λ x. Unit {0}) AreSidesClean (whole_name bound (skip_spaces text)) _ (gives-any (whole_name bound (skip_spaces text))) (λ name _. tt)

  lacks-kept : (text : List ℕ) → Gives AreSidesClean (lacks bound text)
  lacks-kept text = gives-bind (λ x. Unit {0}) AreSidesClean (whole_name bound (skip_spaces text)) _ (gives-any (whole_name bound (skip_spaces text))) (λ name _. tt)

  comparison-kept : (text : List ℕ) → IsOneLine text → Gives AreSidesClean (comparison bound text)
  unfolding comparison
  comparison-kept text all =
      gives-bind ExprKept AreSidesClean (expr_at bound max_levels text) _ (read-kept max_levels text all)
      (λ left first. gives-bind (IsLed {A = Cmp}) AreSidesClean (cmp_at left.1) _ (cmp-led left.1 first.1)
      (λ cmp rest. gives-bind IsClean AreSidesClean (whole_expr bound cmp.1) _ (whole-kept cmp.1 rest) (λ right second. (first.0, second))))

  asked-kept : (o : Option (List ℕ)) (f : List ℕ → Outcome Cond) (other : Outcome Cond) → ((text : List ℕ) → Gives AreSidesClean (f text)) → Gives AreSidesClean other
      → Gives AreSidesClean (asked bound o f other)
  asked-kept None f other first second = second
  asked-kept (Some text) f other first second = first text

  cond-kept : (text : List ℕ) → IsOneLine text → Gives AreSidesClean (whole_cond bound text)
  unfolding whole_cond
  cond-kept text all =
      asked-kept (behind (codes "some ") text) (has bound) _ has-kept
      (asked-kept (behind (codes "none ") text) (lacks bound) (comparison bound text) lacks-kept (comparison-kept text all))

  cond-one : (c : Cond) → IsCond bound c → AreSidesClean c → IsOneLine (cond_text c)
  cond-one (Compare left cmp right) is clean =
      one-append (expr_text left) (cmp_text cmp ++ expr_text right) (form-one bound (form_of left) max_levels is.0 clean.0)
      (one-append (cmp_text cmp) (expr_text right) (cmp-one cmp) (form-one bound (form_of right) max_levels is.1 clean.1))
  cond-one (Has name) is clean = one-append (codes "some ") name (one-fixed (codes "some ") refl) (one-name name is.0)
  cond-one (Lacks name) is clean = one-append (codes "none ") name (one-fixed (codes "none ") refl) (one-name name is.0)

  -- the text of an expression that was read from a text without line feeds
  pub expr_of-one_line : (text : List ℕ) (e : Expr) → IsOneLine text → expr_of bound text ≡ Ok e → IsOneLine (expr_text e)
  expr_of-one_line text e all is =
      form-one bound (form_of e) max_levels (expr_of-rules bound text e is)
      (gives-ok IsClean (whole_expr bound text) e (decided-ok (whole_expr bound text) (whole_expr any_name text) e is) (whole-kept text all))

  -- the same of a condition
  pub cond_of-one_line : (text : List ℕ) (c : Cond) → IsOneLine text → cond_of bound text ≡ Ok c → IsOneLine (cond_text c)
  cond_of-one_line text c all is =
      cond-one c (cond_of-rules bound text c is)
      (gives-ok AreSidesClean (whole_cond bound text) c (decided-ok (whole_cond bound text) (whole_cond any_name text) c is) (cond-kept text all))

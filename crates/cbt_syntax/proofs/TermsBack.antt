-- The text of a term and of an expression is read as it.
use Rattle.std.proofs.Common.{◌≡◌, ℕ, ℤ, pos, negsuc, zero, suc, ◌^◌, ◌<◌, ◌≤◌, Bool, true, false, cond, eqb, List, [], ◌∷◌, ◌++◌, length, map, Option, Some, None, Ok, Err, refl, sym, subst, ap, ◌∙◌, arith, append_assoc, append-nil, decimal, length-append}
use Rattle.std.proofs.lemmas.Bool.{eqb-true}
use Rattle.std.proofs.lemmas.Bool.Decides.{nat_tests}
use Rattle.std.specs.Ordering.{nat_cmp}
use Rattle.std.specs.Cmp.Lexicographic.{slice_cmp, nat_list_cmp_total}
use Rattle.std.specs.List.Sorted.{IsStrictlySortedBy}
use Rattle.cbt_base.specs.Keyed.{with_pair, Rises}
use Rattle.cbt_base.proofs.Rising.{insert-last}
use Rattle.serde_json.specs.Data.{Data, unsigned, negative, float, null, boolean, number, string, array, object as object_data}
use Rattle.serde_json.specs.Written.{compact_text}
use Rattle.cbt_json.specs.declared.tree.Tree.{Tree}
use Rattle.cbt_json.specs.declared.tree.Tree.TheVariants as tree
use Rattle.cbt_json.specs.Trees.{data_of, text_of}
use Rattle.cbt_json.specs.Reading.{tree_of}
use Rattle.cbt_json.proofs.Views.{data_of-Text}
use Rattle.cbt_json.proofs.Inverse.{tree_of-data_of}
use Rattle.cbt_lex.specs.Decimals.{is_digit}
use Rattle.cbt_lex.specs.Lines.{skip_spaces}
use Rattle.cbt_subdoc.specs.declared.path.Path.{Path}
use Rattle.cbt_expr.specs.declared.expressions.Expr.{Expr, Expr-F, ind-Expr, roll-Expr, map-Expr}
use Rattle.cbt_expr.specs.declared.expressions.Term.{Term, Term-F, roll-Term, map-Term}
use Rattle.cbt_expr.specs.declared.expressions.Term.TheVariants as t
use Rattle.cbt_expr.specs.declared.expressions.Sign.{Sign}
use Rattle.cbt_expr.specs.declared.expressions.Sign.TheVariants.{Plus, Minus}
use Rattle.cbt_expr.specs.Forms.{Form, one, joined, TermForm, plain, list, object, reference, joined_all, form_of, term_form, terms_form, items_form, members_form}
use Rattle.cbt_expr.proofs.Views.{form_of-terms, term_form-Members}
use Rattle.cbt_syntax.specs.declared.fault.SyntaxFault.TheVariants.{Malformed}
use Rattle.cbt_syntax.specs.Readings.{Read, ◌>>=◌}
use Rattle.cbt_syntax.specs.Numbers.{number_at}
use Rattle.cbt_syntax.specs.References.{path_at}
use Rattle.cbt_syntax.specs.Terms.{word_at, text_at, whole_at, scalar_at, plain_at, reference_at, past, after_item, sign_at, by_sign, items_from, list_at, member_at, members_from, object_at, joined_from, expr_by, term_by, too_deep, term_at, expr_at}
use Rattle.cbt_syntax.specs.Texts.{sign_text, string_text, term_text, items_text, members_text, joins_text, expr_text, maybe_path_text}
use Rattle.cbt_syntax.specs.Rules.{is_scalar, names_of, IsMaybePath, IsBoundName, IsForm, IsTerm, AreItems, AreMembers}
use Rattle.cbt_syntax.proofs.Shapes.{term_form-Plain, term_form-Items, term_form-Ref, names-keys}
use Rattle.cbt_syntax.proofs.Ends.{Ends, Stops, stops-ends, spaces-end, sign-stop}
use Rattle.cbt_syntax.proofs.StringsBack.{string_text-quoted, string_at-text}
use Rattle.cbt_syntax.proofs.NumbersBack.{decimal-begins, no_minus, number_at-positive, number_at-negative}
use Rattle.cbt_syntax.proofs.NamesBack.{name_at-text, maybe-path-text, maybe-path-no-name}
use Rattle.cbt_syntax.proofs.Joins.{expr-text}

-- ---- scalars

whole-read : (text rest : List ℕ) (z : ℤ) → number_at text ≡ Ok (z, rest) → whole_at text ≡ Ok (tree.Whole z, rest)
whole-read text rest z e = ap (λ r. r >>= (λ x. Ok (tree.Whole x.0, x.1))) e

digit_no_quote : (b : ℕ) → is_digit b ≡ true → eqb b 34 ≡ false
digit_no_quote b e = grind (arith, nat_tests)

digit-scalar : (b : ℕ) (bs : List ℕ) → is_digit b ≡ true → scalar_at (b ∷ bs) ≡ whole_at (b ∷ bs)
unfolding scalar_at
digit-scalar b bs e = simp (digit_no_quote b e, no_minus b e, e)

decimal-scalar : (n : ℕ) (rest : List ℕ) → n < 2 ^ 64 → scalar_at (decimal n ++ rest) ≡ whole_at (decimal n ++ rest)
decimal-scalar n rest below =
    let b = decimal-begins n below in
    ap (λ l. scalar_at (l ++ rest)) b.begins ∙ digit-scalar b.first (b.behind ++ rest) b.is_one ∙ ap (λ l. whole_at (l ++ rest)) (sym b.begins)

scalar-string : (s rest : List ℕ) → scalar_at (string_text s ++ rest) ≡ Ok (tree.Text s, rest)
unfolding scalar_at
scalar-string s rest =
    ap (λ w. scalar_at (w ++ rest)) (string_text-quoted s)
    ∙ ap (λ w. text_at (w ++ rest)) (sym (string_text-quoted s)) ∙ ap (λ r. r >>= (λ x. Ok (tree.Text x.0, x.1))) (string_at-text s rest)

scalar-back : (d : Data) (rest : List ℕ) → is_scalar d ≡ true → Ends rest → scalar_at (compact_text d ++ rest) ≡ Ok (tree_of d, rest)
unfolding scalar_at word_at
scalar-back null rest is ends = refl
scalar-back (boolean true) rest is ends = refl
scalar-back (boolean false) rest is ends = refl
scalar-back (number (unsigned n)) rest is ends =
    let below : n < 2 ^ 64 = grind (arith, nat_tests) in
    decimal-scalar n rest below ∙ whole-read (decimal n ++ rest) rest (pos n) (number_at-positive n rest below ends)
scalar-back (number (negative (pos n))) rest is ends = absurd (cc)
scalar-back (number (negative (negsuc n))) rest is ends = whole-read (45 ∷ decimal (suc n) ++ rest) rest (negsuc n) (number_at-negative n rest is ends)
scalar-back (number (float x)) rest is ends = absurd (cc)
scalar-back (string s) rest is ends = ap (λ w. scalar_at (w ++ rest)) (sym (ap compact_text (data_of-Text s))) ∙ scalar-string s rest
scalar-back (array ds) rest is ends = absurd (cc)
scalar-back (object_data ms) rest is ends = absurd (cc)

pub plain-back : (json : Tree) (rest : List ℕ) → is_scalar (data_of json) ≡ true → Ends rest → plain_at (text_of json ++ rest) ≡ Ok (t.Plain json, rest)
unfolding plain_at
plain-back json rest is ends =
    ap (λ r. r >>= (λ x. Ok (t.Plain x.0, skip_spaces x.1))) (scalar-back (data_of json) rest is ends)
    ∙ ap (λ w. Ok (t.Plain (tree_of (data_of json)), w)) (spaces-end rest ends) ∙ ap (λ j. Ok (t.Plain j, rest)) (tree_of-data_of json)

-- ---- with which bytes no term begins

plain-none : plain_at [] ≡ Err Malformed
unfolding plain_at scalar_at
plain-none = refl

-- `[`, `{`, `@`, a space, `]`
plain-91 : (bs : List ℕ) → plain_at (91 ∷ bs) ≡ Err Malformed
unfolding plain_at scalar_at word_at
plain-91 bs = refl

plain-123 : (bs : List ℕ) → plain_at (123 ∷ bs) ≡ Err Malformed
unfolding plain_at scalar_at word_at
plain-123 bs = refl

plain-64 : (bs : List ℕ) → plain_at (64 ∷ bs) ≡ Err Malformed
unfolding plain_at scalar_at word_at
plain-64 bs = refl

pub plain-32 : (bs : List ℕ) → plain_at (32 ∷ bs) ≡ Err Malformed
unfolding plain_at scalar_at word_at
plain-32 bs = refl

plain-93 : (bs : List ℕ) → plain_at (93 ∷ bs) ≡ Err Malformed
unfolding plain_at scalar_at word_at
plain-93 bs = refl

-- a byte with which nothing is read is another one
pub not_byte : {A : Type 0} (read : List ℕ → Read A) (c b : ℕ) (bs : List ℕ) (x : A × List ℕ) (t : Bool) → ((ys : List ℕ) → read (c ∷ ys) ≡ Err Malformed)
    → read (b ∷ bs) ≡ Ok x → eqb b c ≡ t → t ≡ false
not_byte read c b bs x true fails e is = absurd (let same = eqb-true b c is in let k = fails bs in let m = ap (λ z. read (z ∷ bs)) same in cc)
not_byte read c b bs x false fails e is = refl

module _ (bound : List ℕ → Bool) where
  plain-term : (lists objects : List ℕ → Read Term) (text : List ℕ) (x : Term × List ℕ) → plain_at text ≡ Ok x → term_by bound lists objects text ≡ Ok x
  unfolding term_by
  plain-term lists objects [] x e = absurd (let k = plain-none in cc)
  plain-term lists objects (b ∷ bs) x e =
      let n91 = not_byte plain_at 91 b bs x (eqb b 91) plain-91 e refl in
      let n123 = not_byte plain_at 123 b bs x (eqb b 123) plain-123 e refl in
      let n64 = not_byte plain_at 64 b bs x (eqb b 64) plain-64 e refl in
      simp (n91, n123, n64) e

  pub record Shape (n : ℕ) : Type 0 where
    pub lists : List ℕ → Read Term
    pub objects : List ℕ → Read Term
    pub same : (text : List ℕ) → term_at bound n text ≡ term_by bound lists objects text

  pub shape : (n : ℕ) → Shape n
  unfolding term_at
  shape zero = record { lists = too_deep bound; objects = too_deep bound; same = λ text. refl }
  shape (suc n) = record { lists = list_at (expr_by (term_at bound n)); objects = object_at (expr_by (term_at bound n)); same = λ text. refl }

  term-none : (n : ℕ) → term_at bound n [] ≡ Err Malformed
  unfolding term_by
  term-none n = (shape n).same []

  term-32 : (n : ℕ) (bs : List ℕ) → term_at bound n (32 ∷ bs) ≡ Err Malformed
  unfolding term_by
  term-32 n bs = (shape n).same (32 ∷ bs) ∙ plain-32 bs

  term-93 : (n : ℕ) (bs : List ℕ) → term_at bound n (93 ∷ bs) ≡ Err Malformed
  unfolding term_by
  term-93 n bs = (shape n).same (93 ∷ bs) ∙ plain-93 bs

  pub expr-none : (n : ℕ) → expr_at bound n [] ≡ Err Malformed
  unfolding expr_by
  expr-none n = ap (λ r. r >>= (λ first. joined_from (term_at bound n) (length first.1) [] first.1 >>= (λ rest. Ok (roll-Expr (record { first = first.0; rest = rest.0 }), rest.1)))) (term-none n)

  pub expr-32 : (n : ℕ) (bs : List ℕ) → expr_at bound n (32 ∷ bs) ≡ Err Malformed
  unfolding expr_by
  expr-32 n bs = ap (λ r. r >>= (λ first. joined_from (term_at bound n) (length first.1) [] first.1 >>= (λ rest. Ok (roll-Expr (record { first = first.0; rest = rest.0 }), rest.1)))) (term-32 n bs)

  expr-93 : (n : ℕ) (bs : List ℕ) → expr_at bound n (93 ∷ bs) ≡ Err Malformed
  unfolding expr_by
  expr-93 n bs = ap (λ r. r >>= (λ first. joined_from (term_at bound n) (length first.1) [] first.1 >>= (λ rest. Ok (roll-Expr (record { first = first.0; rest = rest.0 }), rest.1)))) (term-93 n bs)

  unspaced : {A : Type 0} (read : List ℕ → Read A) (text : List ℕ) (x : A × List ℕ) → ((ys : List ℕ) → read (32 ∷ ys) ≡ Err Malformed) → read text ≡ Ok x → skip_spaces text ≡ text
  unspaced read [] x fails e = refl
  unspaced read (b ∷ bs) x fails e = ap (λ t. cond t (skip_spaces bs) (b ∷ bs)) (not_byte read 32 b bs x (eqb b 32) fails e refl)

  term-unspaced : (n : ℕ) (text : List ℕ) (x : Term × List ℕ) → term_at bound n text ≡ Ok x → skip_spaces text ≡ text
  term-unspaced n text x e = unspaced (term_at bound n) text x (term-32 n) e

  pub expr-unspaced : (n : ℕ) (text : List ℕ) (x : Expr × List ℕ) → expr_at bound n text ≡ Ok x → skip_spaces text ≡ text
  expr-unspaced n text x e = unspaced (expr_at bound n) text x (expr-32 n) e

  -- ---- what is claimed of terms and of expressions

  abbrev pub TermBack : Term → Type 0
  TermBack x = (n : ℕ) (rest : List ℕ) → IsTerm bound n (term_form x) → Ends rest → term_at bound n (term_text (term_form x) ++ rest) ≡ Ok (x, rest)

  abbrev pub ExprBack : Expr → Type 0
  ExprBack e = (n : ℕ) (rest : List ℕ) → IsForm bound n (form_of e) → Stops rest → expr_at bound n (expr_text e ++ rest) ≡ Ok (e, rest)

  abbrev BackTerm : Type 0
  BackTerm = (x : Term) × TermBack x

  abbrev BackExpr : Type 0
  BackExpr = (e : Expr) × ExprBack e

  -- ---- lists

  abbrev exprs : List BackExpr → List Expr
  exprs es = map (λ e. e.0) es

  items-stop : (es : List Expr) (rest : List ℕ) → Stops (items_text true (items_form es) ++ rest)
  items-stop [] rest = refl
  items-stop (e ∷ es) rest = refl

  items-step : (n turns : ℕ) (found : List Expr) (text after next : List ℕ) (x : Expr) (more : Bool) → expr_at bound n text ≡ Ok (x, after) → after_item 93 after ≡ Ok (more, next)
      → items_from (expr_at bound n) (suc turns) found text ≡ cond more (items_from (expr_at bound n) turns (found ++ x ∷ []) next) (Ok (found ++ x ∷ [], next))
  unfolding items_from
  items-step n turns found text after next x more e g =
      ap (λ r. r >>= (λ item. after_item 93 item.1 >>= (λ next. cond next.0 (items_from (expr_at bound n) turns (found ++ item.0 ∷ []) next.1) (Ok (found ++ item.0 ∷ [], next.1))))) e
      ∙ ap (λ r. r >>= (λ next. cond next.0 (items_from (expr_at bound n) turns (found ++ x ∷ []) next.1) (Ok (found ++ x ∷ [], next.1)))) g

  items-long : (es : List Expr) → length es < length (items_text true (items_form es))
  items-long [] = omega arith
  items-long (e ∷ es) =
      let tail = items-long es in omega (arith, tail, length-append (expr_text e) (items_text true (items_form es)))

  items-back : (n turns : ℕ) (found : List Expr) (e : BackExpr) (es : List BackExpr) (rest : List ℕ) → AreItems bound n (items_form (exprs (e ∷ es))) → length es < turns → Ends rest
      → items_from (expr_at bound n) turns found (expr_text e.0 ++ (items_text true (items_form (exprs es)) ++ rest)) ≡ Ok (found ++ exprs (e ∷ es), rest)
  items-back n zero found e es rest are some ends = absurd (omega arith)
  items-back n (suc turns) found e [] rest are some ends =
      items-step n turns found _ (93 ∷ rest) (skip_spaces rest) e.0 false (e.1 n (93 ∷ rest) are.0 refl) refl ∙ ap (λ w. Ok (found ++ e.0 ∷ [], w)) (spaces-end rest ends)
  items-back n (suc turns) found e (x ∷ xs) rest are some ends =
      let text = expr_text x.0 ++ (items_text true (items_form (exprs xs)) ++ rest) in
      let read = x.1 n (items_text true (items_form (exprs xs)) ++ rest) are.1.0 (items-stop (exprs xs) rest) in
      let cut : items_text true (items_form (exprs (x ∷ xs))) ++ rest ≡ 44 ∷ text = ap (λ w. 44 ∷ w) (append_assoc (expr_text x.0) (items_text true (items_form (exprs xs))) rest) in
      let whole : expr_at bound n (expr_text e.0 ++ (items_text true (items_form (exprs (x ∷ xs))) ++ rest)) ≡ Ok (e.0, 44 ∷ text) =
      e.1 n (items_text true (items_form (exprs (x ∷ xs))) ++ rest) are.0 (items-stop (exprs (x ∷ xs)) rest) ∙ ap (λ w. Ok (e.0, w)) cut in
      items-step n turns found _ (44 ∷ text) (skip_spaces text) e.0 true whole refl
      ∙ ap (items_from (expr_at bound n) turns (found ++ e.0 ∷ [])) (expr-unspaced n text _ read)
      ∙ items-back n turns (found ++ e.0 ∷ []) x xs rest are.1 (omega arith) ends
      ∙ ap (λ fs. Ok (fs, rest)) (append_assoc found (e.0 ∷ []) (exprs (x ∷ xs)))

  list-opens : (n : ℕ) (text : List ℕ) (x : Expr × List ℕ) → expr_at bound n text ≡ Ok x
      → list_at (expr_at bound n) text ≡ (items_from (expr_at bound n) (length text) [] text >>= (λ items. Ok (t.Items items.0, items.1)))
  unfolding list_at
  list-opens n [] x e = absurd (let k = expr-none n in cc)
  list-opens n (b ∷ bs) x e =
      ap (λ c. cond c (Ok (t.Items [], skip_spaces bs)) (items_from (expr_at bound n) (length (b ∷ bs)) [] (b ∷ bs) >>= (λ items. Ok (t.Items items.0, items.1))))
      (not_byte (expr_at bound n) 93 b bs x (eqb b 93) (expr-93 n) e refl)

  list-empty : (n : ℕ) (rest : List ℕ) → Ends rest → list_at (expr_at bound n) (93 ∷ rest) ≡ Ok (t.Items [], rest)
  unfolding list_at
  list-empty n rest ends = ap (λ w. Ok (t.Items [], w)) (spaces-end rest ends)

  length-exprs : (es : List BackExpr) → length (exprs es) ≡ length es
  length-exprs [] = refl
  length-exprs (e ∷ es) = ap suc (length-exprs es)

  list-back : (n : ℕ) (es : List BackExpr) (rest : List ℕ) → AreItems bound n (items_form (exprs es)) → Ends rest
      → list_at (expr_at bound n) (skip_spaces (items_text false (items_form (exprs es)) ++ rest)) ≡ Ok (t.Items (exprs es), rest)
  list-back n [] rest are ends = list-empty n rest ends
  list-back n (e ∷ es) rest are ends =
      let text = expr_text e.0 ++ (items_text true (items_form (exprs es)) ++ rest) in
      let read = e.1 n (items_text true (items_form (exprs es)) ++ rest) are.0 (items-stop (exprs es) rest) in
      let cut : items_text false (items_form (exprs (e ∷ es))) ++ rest ≡ text = append_assoc (expr_text e.0) (items_text true (items_form (exprs es))) rest in
      let long : length es < length text =
      omega (arith, items-long (exprs es), length-exprs es, length-append (expr_text e.0) (items_text true (items_form (exprs es)) ++ rest), length-append (items_text true (items_form (exprs es))) rest) in
      ap (λ w. list_at (expr_at bound n) (skip_spaces w)) cut ∙ ap (list_at (expr_at bound n)) (expr-unspaced n text _ read)
      ∙ list-opens n text _ read ∙ ap (λ r. r >>= (λ items. Ok (t.Items items.0, items.1))) (items-back n (length text) [] e es rest are long ends)

  -- ---- objects

  abbrev pairs : List (List ℕ × BackExpr) → List (List ℕ × Expr)
  pairs ms = map (λ m. (m.0, m.1.0)) ms

  abbrev Rising : List (List ℕ × Expr) → Type 0
  Rising ms = Rises (slice_cmp nat_cmp) ms

  members-stop : (ms : List (List ℕ × Expr)) (rest : List ℕ) → Stops (members_text true (members_form ms) ++ rest)
  members-stop [] rest = refl
  members-stop (m ∷ ms) rest = refl

  members-long : (ms : List (List ℕ × Expr)) → length ms < length (members_text true (members_form ms))
  members-long [] = omega arith
  members-long (m ∷ ms) =
      let tail = members-long ms in
      omega (arith, tail, length-append (string_text m.0) (58 ∷ (expr_text m.1 ++ members_text true (members_form ms))), length-append (expr_text m.1) (members_text true (members_form ms)))

  -- a member, behind a comma or a bracket
  abbrev member_text : List ℕ → Expr → List ℕ → List ℕ
  member_text name e after = string_text name ++ (58 ∷ (expr_text e ++ after))

  member-back : (n : ℕ) (name : List ℕ) (e : BackExpr) (after : List ℕ) → IsForm bound n (form_of e.0) → Stops after
      → member_at (expr_at bound n) (member_text name e.0 after) ≡ Ok ((name, e.0), after)
  unfolding member_at
  member-back n name e after is stops =
      let read = e.1 n after is stops in
      ap (λ r. r >>= (λ name. past 58 (skip_spaces name.1) >>= (λ value. expr_at bound n value >>= (λ x. Ok ((name.0, x.0), x.1))))) (string_at-text name (58 ∷ (expr_text e.0 ++ after)))
      ∙ ap (λ w. expr_at bound n w >>= (λ x. Ok ((name, x.0), x.1))) (expr-unspaced n (expr_text e.0 ++ after) _ read)
      ∙ ap (λ r. r >>= (λ x. Ok ((name, x.0), x.1))) read

  members-step : (n turns : ℕ) (found : List (List ℕ × Expr)) (text after next name : List ℕ) (x : Expr) (more : Bool)
      → member_at (expr_at bound n) text ≡ Ok ((name, x), after) → after_item 125 after ≡ Ok (more, next)
      → members_from (expr_at bound n) (suc turns) found text
      ≡ cond more (members_from (expr_at bound n) turns (with_pair (slice_cmp nat_cmp) found name x) next) (Ok (with_pair (slice_cmp nat_cmp) found name x, next))
  unfolding members_from
  members-step n turns found text after next name x more e g =
      ap (λ r. r >>= (λ m. after_item 125 m.1 >>= (λ next. cond next.0 (members_from (expr_at bound n) turns (with_pair (slice_cmp nat_cmp) found m.0.0 m.0.1) next.1) (Ok (with_pair (slice_cmp nat_cmp) found m.0.0 m.0.1, next.1))))) e
      ∙ ap (λ r. r >>= (λ next. cond next.0 (members_from (expr_at bound n) turns (with_pair (slice_cmp nat_cmp) found name x) next.1) (Ok (with_pair (slice_cmp nat_cmp) found name x, next.1)))) g

  string-unspaced : (name after : List ℕ) → skip_spaces (string_text name ++ after) ≡ string_text name ++ after
  string-unspaced name after = ap (λ w. skip_spaces (w ++ after)) (string_text-quoted name) ∙ ap (λ w. w ++ after) (sym (string_text-quoted name))

  member-cut : (name rest : List ℕ) (e : Expr) (ms : List (List ℕ × Expr))
      → (string_text name ++ (58 ∷ (expr_text e ++ members_text true (members_form ms)))) ++ rest ≡ member_text name e (members_text true (members_form ms) ++ rest)
  member-cut name rest e ms =
      append_assoc (string_text name) (58 ∷ (expr_text e ++ members_text true (members_form ms))) rest
      ∙ ap (λ w. string_text name ++ (58 ∷ w)) (append_assoc (expr_text e) (members_text true (members_form ms)) rest)

  members-back : (n turns : ℕ) (found : List (List ℕ × Expr)) (m : List ℕ × BackExpr) (ms : List (List ℕ × BackExpr)) (rest : List ℕ)
      → AreMembers bound n (members_form (pairs (m ∷ ms))) → Rising (found ++ pairs (m ∷ ms)) → length ms < turns → Ends rest
      → members_from (expr_at bound n) turns found (member_text m.0 m.1.0 (members_text true (members_form (pairs ms)) ++ rest)) ≡ Ok (found ++ pairs (m ∷ ms), rest)
  members-back n zero found m ms rest are rises some ends = absurd (omega arith)
  members-back n (suc turns) found m [] rest are rises some ends =
      let last : with_pair (slice_cmp nat_cmp) found m.0 m.1.0 ≡ found ++ (m.0, m.1.0) ∷ [] = insert-last (slice_cmp nat_cmp) nat_list_cmp_total found m.0 m.1.0 [] rises in
      members-step n turns found _ (125 ∷ rest) (skip_spaces rest) m.0 m.1.0 false (member-back n m.0 m.1 (125 ∷ rest) are.0 refl) refl
      ∙ ap (λ w. Ok (with_pair (slice_cmp nat_cmp) found m.0 m.1.0, w)) (spaces-end rest ends) ∙ ap (λ ps. Ok (ps, rest)) last
  members-back n (suc turns) found m (x ∷ xs) rest are rises some ends =
      let last : with_pair (slice_cmp nat_cmp) found m.0 m.1.0 ≡ found ++ (m.0, m.1.0) ∷ [] = insert-last (slice_cmp nat_cmp) nat_list_cmp_total found m.0 m.1.0 (pairs (x ∷ xs)) rises in
      let text = member_text x.0 x.1.0 (members_text true (members_form (pairs xs)) ++ rest) in
      let cut : members_text true (members_form (pairs (x ∷ xs))) ++ rest ≡ 44 ∷ text = ap (λ w. 44 ∷ w) (member-cut x.0 rest x.1.0 (pairs xs)) in
      let whole : member_at (expr_at bound n) (member_text m.0 m.1.0 (members_text true (members_form (pairs (x ∷ xs))) ++ rest)) ≡ Ok ((m.0, m.1.0), 44 ∷ text) =
      member-back n m.0 m.1 (members_text true (members_form (pairs (x ∷ xs))) ++ rest) are.0 (members-stop (pairs (x ∷ xs)) rest) ∙ ap (λ w. Ok ((m.0, m.1.0), w)) cut in
      let again : Rising ((found ++ (m.0, m.1.0) ∷ []) ++ pairs (x ∷ xs)) = subst Rising (sym (append_assoc found ((m.0, m.1.0) ∷ []) (pairs (x ∷ xs)))) rises in
      members-step n turns found _ (44 ∷ text) (skip_spaces text) m.0 m.1.0 true whole refl
      ∙ ap (members_from (expr_at bound n) turns (with_pair (slice_cmp nat_cmp) found m.0 m.1.0)) (string-unspaced x.0 (58 ∷ (expr_text x.1.0 ++ (members_text true (members_form (pairs xs)) ++ rest))))
      ∙ ap (λ ps. members_from (expr_at bound n) turns ps text) last
      ∙ members-back n turns (found ++ (m.0, m.1.0) ∷ []) x xs rest are.1 again (omega arith) ends
      ∙ ap (λ ps. Ok (ps, rest)) (append_assoc found ((m.0, m.1.0) ∷ []) (pairs (x ∷ xs)))

  object-empty : (n : ℕ) (rest : List ℕ) → Ends rest → object_at (expr_at bound n) (125 ∷ rest) ≡ Ok (t.Members [], rest)
  unfolding object_at
  object-empty n rest ends = ap (λ w. Ok (t.Members [], w)) (spaces-end rest ends)

  object-opens : (n : ℕ) (name after : List ℕ) → let text = string_text name ++ after in
      object_at (expr_at bound n) text ≡ (members_from (expr_at bound n) (length text) [] text >>= (λ ms. Ok (t.Members ms.0, ms.1)))
  unfolding object_at
  object-opens n name after =
      ap (λ w. object_at (expr_at bound n) (w ++ after)) (string_text-quoted name)
      ∙ ap (λ w. members_from (expr_at bound n) (length (w ++ after)) [] (w ++ after) >>= (λ ms. Ok (t.Members ms.0, ms.1))) (sym (string_text-quoted name))

  length-pairs : (ms : List (List ℕ × BackExpr)) → length (pairs ms) ≡ length ms
  length-pairs [] = refl
  length-pairs (m ∷ ms) = ap suc (length-pairs ms)

  object-back : (n : ℕ) (ms : List (List ℕ × BackExpr)) (rest : List ℕ) → IsStrictlySortedBy (slice_cmp nat_cmp) (names_of (members_form (pairs ms)))
      → AreMembers bound n (members_form (pairs ms)) → Ends rest
      → object_at (expr_at bound n) (skip_spaces (members_text false (members_form (pairs ms)) ++ rest)) ≡ Ok (t.Members (pairs ms), rest)
  object-back n [] rest rise are ends = object-empty n rest ends
  object-back n (m ∷ ms) rest rise are ends =
      let after = 58 ∷ (expr_text m.1.0 ++ (members_text true (members_form (pairs ms)) ++ rest)) in
      let text = string_text m.0 ++ after in
      let cut : members_text false (members_form (pairs (m ∷ ms))) ++ rest ≡ text = member-cut m.0 rest m.1.0 (pairs ms) in
      let rises : Rising (pairs (m ∷ ms)) = subst (IsStrictlySortedBy (slice_cmp nat_cmp)) (names-keys (pairs (m ∷ ms))) rise in
      let long : length ms < length text =
      omega (
        arith,
        members-long (pairs ms),
        length-pairs ms,
        length-append (string_text m.0) after,
        length-append (expr_text m.1.0) (members_text true (members_form (pairs ms)) ++ rest),
        length-append (members_text true (members_form (pairs ms))) rest,
      ) in
      ap (λ w. object_at (expr_at bound n) (skip_spaces w)) cut ∙ ap (object_at (expr_at bound n)) (string-unspaced m.0 after)
      ∙ object-opens n m.0 after ∙ ap (λ r. r >>= (λ ms. Ok (t.Members ms.0, ms.1))) (members-back n (length text) [] m ms rest are rises long ends)

  -- ---- references

  reference-back : (name rest : List ℕ) (path : Option Path) → IsBoundName bound name → IsMaybePath path → Ends rest
      → reference_at bound ((name ++ maybe_path_text path) ++ rest) ≡ Ok (t.Ref name path, rest)
  unfolding reference_at
  reference-back name rest path known is ends =
      ap (reference_at bound) (append_assoc name (maybe_path_text path) rest)
      ∙ ap (λ r. r >>= (λ name. path_at name.1 >>= (λ path. Ok (t.Ref name.0 path.0, skip_spaces path.1))))
      (name_at-text bound name (maybe_path_text path ++ rest) known.0 known.1 (maybe-path-no-name path rest ends))
      ∙ ap (λ r. r >>= (λ path. Ok (t.Ref name path.0, skip_spaces path.1))) (maybe-path-text path rest is ends)
      ∙ ap (λ w. Ok (t.Ref name path, w)) (spaces-end rest ends)

  -- ---- terms

  -- a claim on a term, by its form
  by_form : (x : Term) (form : TermForm) → term_form x ≡ form → ((n : ℕ) (rest : List ℕ) → IsTerm bound n form → Ends rest → term_at bound n (term_text form ++ rest) ≡ Ok (x, rest)) → TermBack x
  by_form x form is claim = subst (λ f. (n : ℕ) (rest : List ℕ) → IsTerm bound n f → Ends rest → term_at bound n (term_text f ++ rest) ≡ Ok (x, rest)) (sym is) claim

  plain-claim : (json : Tree) (n : ℕ) (rest : List ℕ) → IsTerm bound n (plain json) → Ends rest → term_at bound n (term_text (plain json) ++ rest) ≡ Ok (t.Plain json, rest)
  plain-claim json n rest is ends =
      let s = shape n in
      s.same (text_of json ++ rest) ∙ plain-term s.lists s.objects (text_of json ++ rest) _ (plain-back json rest is ends)

  items-claim : (es : List BackExpr) (n : ℕ) (rest : List ℕ) → IsTerm bound n (list (items_form (exprs es))) → Ends rest
      → term_at bound n (term_text (list (items_form (exprs es))) ++ rest) ≡ Ok (t.Items (exprs es), rest)
  unfolding term_at term_by
  items-claim es zero rest is ends = absurd is
  items-claim es (suc n) rest is ends = list-back n es rest is ends

  members-claim : (ms : List (List ℕ × BackExpr)) (n : ℕ) (rest : List ℕ) → IsTerm bound n (object (members_form (pairs ms))) → Ends rest
      → term_at bound n (term_text (object (members_form (pairs ms))) ++ rest) ≡ Ok (t.Members (pairs ms), rest)
  unfolding term_at term_by
  members-claim ms zero rest is ends = absurd is
  members-claim ms (suc n) rest is ends = object-back n ms rest is.0 is.1 ends

  reference-claim : (name : List ℕ) (path : Option Path) (n : ℕ) (rest : List ℕ) → IsTerm bound n (reference name path) → Ends rest
      → term_at bound n (term_text (reference name path) ++ rest) ≡ Ok (t.Ref name path, rest)
  unfolding term_by
  reference-claim name path n rest is ends =
      (shape n).same (64 ∷ ((name ++ maybe_path_text path) ++ rest)) ∙ reference-back name rest path is.0 is.1 ends

  term_level : (y : Term-F BackTerm BackExpr) → TermBack (roll-Term (map-Term BackTerm BackExpr Term Expr (λ e. e.0) (λ e. e.0) y))
  term_level (Term-F.Plain json) = subst TermBack (sym (t.rolls-Plain json)) (by_form (t.Plain json) _ (term_form-Plain json) (plain-claim json))
  term_level (Term-F.Items es) = subst TermBack (sym (t.rolls-Items (exprs es))) (by_form (t.Items (exprs es)) _ (term_form-Items (exprs es)) (items-claim es))
  term_level (Term-F.Members ms) = subst TermBack (sym (t.rolls-Members (pairs ms))) (by_form (t.Members (pairs ms)) _ (term_form-Members (pairs ms)) (members-claim ms))
  term_level (Term-F.Ref name path) = subst TermBack (sym (t.rolls-Ref name path)) (by_form (t.Ref name path) _ (term_form-Ref name path) (reference-claim name path))

  -- ---- expressions

  abbrev joins : List (Sign × BackTerm) → List (Sign × Term)
  joins xs = map (λ x. (x.0, x.1.0)) xs

  abbrev AllTerms : ℕ → List (Sign × TermForm) → Type 0
  AllTerms n [] = Unit {0}
  AllTerms n (x ∷ xs) = IsTerm bound n x.1 × AllTerms n xs

  all-terms : (n : ℕ) (form : Form) (xs : List (Sign × TermForm)) → IsForm bound n (joined_all form xs) → IsForm bound n form × AllTerms n xs
  all-terms n form [] is = (is, tt)
  all-terms n form (x ∷ xs) is = let p = all-terms n (joined form x.0 x.1) xs is in (p.0.0, (p.0.1, p.1))

  sign-read : (sign : Sign) (text : List ℕ) → sign_at (sign_text sign ++ text) ≡ Some (sign, skip_spaces text)
  sign-read Plus text = refl
  sign-read Minus text = refl

  sign-ends : (sign : Sign) (text : List ℕ) → Ends (sign_text sign ++ text)
  sign-ends Plus text = refl
  sign-ends Minus text = refl

  sign-long : (sign : Sign) → 0 < length (sign_text sign)
  sign-long Plus = omega arith
  sign-long Minus = omega arith

  joins-cut : (x : Sign × TermForm) (xs : List (Sign × TermForm)) (rest : List ℕ) → joins_text (x ∷ xs) ++ rest ≡ sign_text x.0 ++ (term_text x.1 ++ (joins_text xs ++ rest))
  joins-cut x xs rest = append_assoc (sign_text x.0) (term_text x.1 ++ joins_text xs) rest ∙ ap (λ w. sign_text x.0 ++ w) (append_assoc (term_text x.1) (joins_text xs) rest)

  joins-end : (xs : List (Sign × TermForm)) (rest : List ℕ) → Stops rest → Ends (joins_text xs ++ rest)
  joins-end [] rest stops = stops-ends rest stops
  joins-end (x ∷ xs) rest stops = subst Ends (sym (joins-cut x xs rest)) (sign-ends x.0 (term_text x.1 ++ (joins_text xs ++ rest)))

  joins-long : (xs : List (Sign × TermForm)) → length xs ≤ length (joins_text xs)
  joins-long [] = omega arith
  joins-long (x ∷ xs) =
      let tail = joins-long xs in
      let one = sign-long x.0 in
      omega (arith, tail, one, length-append (sign_text x.0) (term_text x.1 ++ joins_text xs), length-append (term_text x.1) (joins_text xs))

  joined-stops : (n turns : ℕ) (found : List (Sign × Term)) (text : List ℕ) → sign_at text ≡ None → joined_from (term_at bound n) turns found text ≡ Ok (found, text)
  unfolding joined_from
  joined-stops n zero found text e = refl
  joined-stops n (suc turns) found text e =
      ap (λ o. by_sign o (Ok (found, text)) (λ x. term_at bound n x.1 >>= (λ y. joined_from (term_at bound n) turns (found ++ (x.0, y.0) ∷ []) y.1))) e

  joined-step : (n turns : ℕ) (found : List (Sign × Term)) (text behind after : List ℕ) (sign : Sign) (x : Term) → sign_at text ≡ Some (sign, behind)
      → term_at bound n behind ≡ Ok (x, after) → joined_from (term_at bound n) (suc turns) found text ≡ joined_from (term_at bound n) turns (found ++ (sign, x) ∷ []) after
  unfolding joined_from
  joined-step n turns found text behind after sign x e read =
      ap (λ o. by_sign o (Ok (found, text)) (λ x. term_at bound n x.1 >>= (λ y. joined_from (term_at bound n) turns (found ++ (x.0, y.0) ∷ []) y.1))) e
      ∙ ap (λ r. r >>= (λ y. joined_from (term_at bound n) turns (found ++ (sign, y.0) ∷ []) y.1)) read

  joins-back : (n turns : ℕ) (found : List (Sign × Term)) (xs : List (Sign × BackTerm)) (rest : List ℕ) → AllTerms n (terms_form (joins xs)) → length xs ≤ turns → Stops rest
      → joined_from (term_at bound n) turns found (joins_text (terms_form (joins xs)) ++ rest) ≡ Ok (found ++ joins xs, rest)
  joins-back n turns found [] rest are enough stops = joined-stops n turns found rest (sign-stop rest stops) ∙ ap (λ fs. Ok (fs, rest)) (sym (append-nil found))
  joins-back n zero found (x ∷ xs) rest are enough stops = absurd (omega arith)
  joins-back n (suc turns) found (x ∷ xs) rest are enough stops =
      let after = joins_text (terms_form (joins xs)) ++ rest in
      let text = term_text (term_form x.1.0) ++ after in
      let read = x.1.1 n after are.0 (joins-end (terms_form (joins xs)) rest stops) in
      let sign : sign_at (sign_text x.0 ++ text) ≡ Some (x.0, text) = sign-read x.0 text ∙ ap (λ w. Some (x.0, w)) (term-unspaced n text _ read) in
      ap (joined_from (term_at bound n) (suc turns) found) (joins-cut (x.0, term_form x.1.0) (terms_form (joins xs)) rest)
      ∙ joined-step n turns found (sign_text x.0 ++ text) text after x.0 x.1.0 sign read
      ∙ joins-back n turns (found ++ (x.0, x.1.0) ∷ []) xs rest are.1 (omega arith) stops
      ∙ ap (λ fs. Ok (fs, rest)) (append_assoc found ((x.0, x.1.0) ∷ []) (joins xs))

  length-joins : (xs : List (Sign × BackTerm)) → length (terms_form (joins xs)) ≡ length xs
  length-joins [] = refl
  length-joins (x ∷ xs) = ap suc (length-joins xs)

  expr_level : (y : Expr-F BackTerm BackExpr) → ExprBack (roll-Expr (map-Expr BackTerm BackExpr Term Expr (λ e. e.0) (λ e. e.0) y))
  unfolding expr_by
  expr_level y n rest is stops =
      let e = roll-Expr (map-Expr BackTerm BackExpr Term Expr (λ e. e.0) (λ e. e.0) y) in
      let xs = terms_form (joins y.rest) in
      let after = joins_text xs ++ rest in
      let are = all-terms n (one (term_form y.first.0)) xs (subst (IsForm bound n) (form_of-terms e) is) in
      let cut : expr_text e ++ rest ≡ term_text (term_form y.first.0) ++ after =
      ap (λ w. w ++ rest) (expr-text e) ∙ append_assoc (term_text (term_form y.first.0)) (joins_text xs) rest in
      let enough : length y.rest ≤ length after = omega (arith, joins-long xs, length-joins y.rest, length-append (joins_text xs) rest) in
      ap (expr_at bound n) cut
      ∙ ap (λ r. r >>= (λ first. joined_from (term_at bound n) (length first.1) [] first.1 >>= (λ rest. Ok (roll-Expr (record { first = first.0; rest = rest.0 }), rest.1))))
      (y.first.1 n after are.0 (joins-end xs rest stops))
      ∙ ap (λ r. r >>= (λ rest. Ok (roll-Expr (record { first = y.first.0; rest = rest.0 }), rest.1))) (joins-back n (length after) [] y.rest rest are.1 enough stops)

  pub expr-back : (e : Expr) → ExprBack e
  expr-back = ind-Expr TermBack ExprBack
      (λ x y is. subst (λ z. TermBack (roll-Term z)) is (term_level y))
      (λ x y is. subst (λ z. ExprBack (roll-Expr z)) is (expr_level y))

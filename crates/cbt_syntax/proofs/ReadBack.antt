-- The text of an expression or a condition, as a whole, is read as it.
use Rattle.std.proofs.Common.{◌≡◌, ℕ, Bool, true, false, cond, eqb, leb, ◌&&◌, List, [], ◌∷◌, ◌++◌, length, codes, None, Ok, Err, refl, sym, ap, ◌∙◌, append-nil, arith}
use Rattle.std.proofs.lemmas.Bool.{and_parts}
use Rattle.std.proofs.lemmas.Bool.Decides.{nat_tests}
use Rattle.std.specs.List.{list_all}
use Rattle.cbt_lex.specs.Lines.{skip_spaces}
use Rattle.cbt_lex.specs.Names.{is_lower, is_name, is_name_byte}
use Rattle.cbt_expr.specs.declared.expressions.Expr.{Expr, roll-Expr}
use Rattle.cbt_expr.specs.declared.expressions.Cmp.{Cmp}
use Rattle.cbt_expr.specs.declared.expressions.Cmp.TheVariants.{Eq, Ne, Lt, Le, Gt, Ge}
use Rattle.cbt_expr.specs.declared.expressions.Cond.{Cond}
use Rattle.cbt_expr.specs.declared.expressions.Cond.TheVariants.{Compare, Has, Lacks}
use Rattle.cbt_syntax.specs.declared.fault.SyntaxFault.TheVariants.{Malformed, Unbound}
use Rattle.cbt_syntax.specs.Readings.{◌>>=◌}
use Rattle.cbt_syntax.specs.Pieces.{behind}
use Rattle.cbt_syntax.specs.Terms.{word_at, scalar_at, plain_at, joined_from, expr_by, term_by, term_at, expr_at}
use Rattle.cbt_syntax.specs.Conditions.{nothing_behind, cmp_at, max_levels, whole_expr, comparison, whole_name, has, lacks, asked, whole_cond}
use Rattle.cbt_syntax.specs.Whole.{decided, any_name, expr_of, cond_of}
use Rattle.cbt_syntax.specs.Texts.{expr_text, cmp_text, cond_text}
use Rattle.cbt_syntax.specs.Rules.{IsBoundName, IsExpr, IsCond}
use Rattle.cbt_syntax.proofs.Ends.{Stops}
use Rattle.cbt_syntax.proofs.Behind.{behind-split, none_where}
use Rattle.cbt_syntax.proofs.TermsBack.{not_byte, shape, expr-none, expr-unspaced, expr-back}

plain-some : (rest : List ℕ) → plain_at (codes "some " ++ rest) ≡ Err Malformed
unfolding plain_at scalar_at word_at
plain-some rest = refl

plain-none_word : (rest : List ℕ) → plain_at (codes "none " ++ rest) ≡ Err Malformed
unfolding plain_at scalar_at word_at
plain-none_word rest = refl

plain-61 : (bs : List ℕ) → plain_at (61 ∷ bs) ≡ Err Malformed
unfolding plain_at scalar_at word_at
plain-61 bs = refl

lower_no_space : (b : ℕ) → is_lower b ≡ true → eqb b 32 ≡ false
lower_no_space b e = grind (arith, nat_tests)

name-unspaced : (name : List ℕ) → is_name name ≡ true → skip_spaces name ≡ name
name-unspaced [] is = refl
name-unspaced (b ∷ bs) is =
    let h = and_parts (is_lower b && leb (length bs) 31) (list_all is_name_byte bs) is in
    let k = and_parts (is_lower b) (leb (length bs) 31) h.0 in
    ap (λ t. cond t (skip_spaces bs) (b ∷ bs)) (lower_no_space b k.0)

cmp-stops : (cmp : Cmp) (text : List ℕ) → Stops (cmp_text cmp ++ text)
cmp-stops Eq text = refl
cmp-stops Ne text = refl
cmp-stops Lt text = refl
cmp-stops Le text = refl
cmp-stops Gt text = refl
cmp-stops Ge text = refl

module _ (bound : List ℕ → Bool) where
  term-refused : (n b : ℕ) (bs : List ℕ) → eqb b 91 ≡ false → eqb b 123 ≡ false → eqb b 64 ≡ false → plain_at (b ∷ bs) ≡ Err Malformed
      → term_at bound n (b ∷ bs) ≡ Err Malformed
  unfolding term_by
  term-refused n b bs n91 n123 n64 e = (shape bound n).same (b ∷ bs) ∙ simp (n91, n123, n64) e

  refused : (n b : ℕ) (bs : List ℕ) → eqb b 91 ≡ false → eqb b 123 ≡ false → eqb b 64 ≡ false → plain_at (b ∷ bs) ≡ Err Malformed → expr_at bound n (b ∷ bs) ≡ Err Malformed
  unfolding expr_by
  refused n b bs n91 n123 n64 e =
      ap (λ r. r >>= (λ first. joined_from (term_at bound n) (length first.1) [] first.1 >>= (λ rest. Ok (roll-Expr (record { first = first.0; rest = rest.0 }), rest.1))))
      (term-refused n b bs n91 n123 n64 e)

  -- where a whole expression is read, neither word is in front
  no-some : (text : List ℕ) (x : Expr × List ℕ) → expr_at bound max_levels text ≡ Ok x → behind (codes "some ") text ≡ None
  no-some text x e =
      none_where (behind (codes "some ") text)
      (λ rest is. (let cut = behind-split (codes "some ") text rest is in
      let k = refused max_levels 115 (codes "ome " ++ rest) refl refl refl (plain-some rest) in
      let m = ap (expr_at bound max_levels) cut in cc))

  no-none : (text : List ℕ) (x : Expr × List ℕ) → expr_at bound max_levels text ≡ Ok x → behind (codes "none ") text ≡ None
  no-none text x e =
      none_where (behind (codes "none ") text)
      (λ rest is. (let cut = behind-split (codes "none ") text rest is in
      let k = refused max_levels 110 (codes "one " ++ rest) refl refl refl (plain-none_word rest) in
      let m = ap (expr_at bound max_levels) cut in cc))

  whole-back : (e : Expr) → IsExpr bound e → whole_expr bound (expr_text e) ≡ Ok e
  unfolding whole_expr
  whole-back e is =
      ap (λ w. expr_at bound max_levels w >>= nothing_behind) (sym (append-nil (expr_text e)))
      ∙ ap (λ r. r >>= nothing_behind) (expr-back bound e max_levels [] is tt)

  pub expr_of-text : (e : Expr) → IsExpr bound e → expr_of bound (expr_text e) ≡ Ok e
  expr_of-text e is = ap (λ r. decided r (whole_expr any_name (expr_text e))) (whole-back e is)

  no_equal : (b : ℕ) (bs : List ℕ) (x : Expr × List ℕ) → expr_at bound max_levels (b ∷ bs) ≡ Ok x → eqb 61 b ≡ false
  no_equal b bs x e =
      let k : eqb b 61 ≡ false = not_byte (expr_at bound max_levels) 61 b bs x (eqb b 61) (λ ys. refused max_levels 61 ys refl refl refl (plain-61 ys)) e refl in
      grind (arith, nat_tests)

  cmp-read : (cmp : Cmp) (text : List ℕ) (x : Expr × List ℕ) → expr_at bound max_levels text ≡ Ok x → cmp_at (cmp_text cmp ++ text) ≡ Ok (cmp, skip_spaces text)
  unfolding cmp_at
  cmp-read cmp [] x e = absurd (let k = expr-none bound max_levels in cc)
  cmp-read Eq (b ∷ bs) x e = refl
  cmp-read Ne (b ∷ bs) x e = refl
  cmp-read Le (b ∷ bs) x e = refl
  cmp-read Ge (b ∷ bs) x e = refl
  cmp-read Lt (b ∷ bs) x e = simp (no_equal b bs x e)
  cmp-read Gt (b ∷ bs) x e = simp (no_equal b bs x e)

  comparison-back : (left right : Expr) (cmp : Cmp) → IsExpr bound left → IsExpr bound right → comparison bound (cond_text (Compare left cmp right)) ≡ Ok (Compare left cmp right)
  unfolding comparison
  comparison-back left right cmp first second =
      let text = expr_text right in
      let read : expr_at bound max_levels text ≡ Ok (right, []) = ap (expr_at bound max_levels) (sym (append-nil text)) ∙ expr-back bound right max_levels [] second tt in
      ap (λ r. r >>= (λ left. cmp_at left.1 >>= (λ cmp. whole_expr bound cmp.1 >>= (λ right. Ok (Compare left.0 cmp.0 right)))))
      (expr-back bound left max_levels (cmp_text cmp ++ text) first (cmp-stops cmp text))
      ∙ ap (λ r. r >>= (λ cmp. whole_expr bound cmp.1 >>= (λ right. Ok (Compare left cmp.0 right)))) (cmp-read cmp text _ read)
      ∙ ap (λ w. whole_expr bound w >>= (λ right. Ok (Compare left cmp right))) (expr-unspaced bound max_levels text _ read)
      ∙ ap (λ r. r >>= (λ right. Ok (Compare left cmp right))) (whole-back right second)

  name-back : (name : List ℕ) → IsBoundName bound name → whole_name bound (skip_spaces name) ≡ Ok name
  unfolding whole_name
  name-back name is =
      ap (whole_name bound) (name-unspaced name is.0)
      ∙ ap (λ t. cond t (cond (bound name) (Ok name) (Err Unbound)) (Err Malformed)) is.0 ∙ ap (λ t. cond t (Ok name) (Err Unbound)) is.1

  cond-back : (c : Cond) → IsCond bound c → whole_cond bound (cond_text c) ≡ Ok c
  unfolding whole_cond
  cond-back (Compare left cmp right) is =
      let text = cond_text (Compare left cmp right) in
      let read = expr-back bound left max_levels (cmp_text cmp ++ expr_text right) is.0 (cmp-stops cmp (expr_text right)) in
      ap (λ o. asked bound o (has bound) (asked bound (behind (codes "none ") text) (lacks bound) (comparison bound text))) (no-some text _ read)
      ∙ ap (λ o. asked bound o (lacks bound) (comparison bound text)) (no-none text _ read) ∙ comparison-back left right cmp is.0 is.1
  cond-back (Has name) is = ap (λ r. r >>= (λ name. Ok (Has name))) (name-back name is)
  cond-back (Lacks name) is = ap (λ r. r >>= (λ name. Ok (Lacks name))) (name-back name is)

  pub cond_of-text : (c : Cond) → IsCond bound c → cond_of bound (cond_text c) ≡ Ok c
  cond_of-text c is = ap (λ r. decided r (whole_cond any_name (cond_text c))) (cond-back c is)

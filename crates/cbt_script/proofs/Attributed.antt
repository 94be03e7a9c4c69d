-- The attributes of the last document.
use Rattle.std.proofs.Common.{◌≡◌, ℕ, Bool, true, false, cond, List, [], ◌∷◌, ◌++◌, Ok, Err, bytes_eq, not, refl, sym, ap, ◌∙◌}
use Rattle.cbt_json.specs.declared.tree.Tree.{Tree}
use Rattle.cbt_script.specs.declared.cause.Cause.TheVariants.{Attrs}
use Rattle.cbt_script.specs.Documents.{attributed, in_front}

abbrev Doc : Type 0
Doc = List ℕ × Tree × Tree

front_if : (t : Bool) (doc : Doc) (docs : List Doc) → in_front doc (cond t (Ok docs) (Err Attrs)) ≡ cond t (Ok (doc ∷ docs)) (Err Attrs)
front_if true doc docs = refl
front_if false doc docs = refl

pub attributed_last : (id : List ℕ) (attrs : Tree) (front : List Doc) (last : Doc)
    → attributed id attrs (front ++ last ∷ []) ≡ cond (bytes_eq last.0 id) (Ok (front ++ (last.0, last.1, attrs) ∷ [])) (Err Attrs)
attributed_last id attrs [] last = refl
attributed_last id attrs (doc ∷ []) last = front_if (bytes_eq last.0 id) doc ((last.0, last.1, attrs) ∷ [])
attributed_last id attrs (doc ∷ next ∷ docs) last =
    ap (in_front doc) (attributed_last id attrs (next ∷ docs) last) ∙ front_if (bytes_eq last.0 id) doc (next ∷ docs ++ (last.0, last.1, attrs) ∷ [])

by_test : (t : Bool) (docs : List Doc) → t ≡ true → cond t (Ok docs) (Err Attrs) ≡ Ok docs
by_test t docs is = ap (λ b. cond b (Ok docs) (Err Attrs)) is

by_no_test : (t : Bool) (docs : List Doc) → t ≡ false → cond t (Ok docs) (Err Attrs) ≡ Err Attrs
by_no_test t docs is = ap (λ b. cond b (Ok docs) (Err Attrs)) is

not_true : (t : Bool) → true ≡ not t → t ≡ false
not_true true is = cc
not_true false is = refl

not_false : (t : Bool) → false ≡ not t → t ≡ true
not_false true is = refl
not_false false is = cc

module _ (id : List ℕ) (attrs : Tree) (docs front : List Doc) (last : Doc) (parts : docs ≡ front ++ last ∷ []) (x y : List ℕ) (x_is : x ≡ last.0) (y_is : y ≡ id) where
  same : bytes_eq x y ≡ bytes_eq last.0 id
  same = ap (λ z. bytes_eq z y) x_is ∙ ap (bytes_eq last.0) y_is

  pub attributed_so : false ≡ not (bytes_eq x y) → attributed id attrs docs ≡ Ok (front ++ (last.0, last.1, attrs) ∷ [])
  attributed_so is = ap (attributed id attrs) parts ∙ attributed_last id attrs front last
      ∙ by_test (bytes_eq last.0 id) (front ++ (last.0, last.1, attrs) ∷ []) (sym same ∙ not_false (bytes_eq x y) is)

  pub attributed_not : true ≡ not (bytes_eq x y) → attributed id attrs docs ≡ Err Attrs
  attributed_not is = ap (attributed id attrs) parts ∙ attributed_last id attrs front last
      ∙ by_no_test (bytes_eq last.0 id) (front ++ (last.0, last.1, attrs) ∷ []) (sym same ∙ not_true (bytes_eq x y) is)

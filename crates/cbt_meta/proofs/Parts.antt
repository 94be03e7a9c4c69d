-- The parts of a written staging.
use Rattle.std.proofs.Common.{◌≡◌, ℕ, ◌≤◌, List, [], ◌∷◌, ◌++◌, Some, None, codes, refl, sym, ap, ap₂, ◌∙◌, subst, arith}
use Rattle.cbt_json.specs.declared.tree.Tree.{Tree}
use Rattle.cbt_json.specs.declared.tree.Tree.TheVariants as tree
use Rattle.cbt_json.specs.Rules.{IsJson}
use Rattle.cbt_json.specs.Trees.{levels}
use Rattle.cbt_model.specs.declared.documents.OpKind.{OpKind}
use Rattle.cbt_model.specs.declared.documents.OpKind.TheVariants.{Insert, Replace, Remove}
use Rattle.cbt_subdoc.specs.Members.{Members}
use Rattle.cbt_shape.specs.Levels.{IsSound}
use Rattle.cbt_shape.proofs.Sound.{json-sound, sound-json, sound-Text, sound-Object, sound_nil, sound_cons}
use Rattle.cbt_meta.specs.Stagings.{HasContent, atr_fields, id_fields, op_fields, kind_text}

pub two : (name_a name_b a b : List ℕ) (start one all : Members) → start ≡ [] → (x y : List ℕ) → one ≡ start ++ (name_a, tree.Text x) ∷ [] → all ≡ one ++ (name_b, tree.Text y) ∷ []
    → x ≡ a → y ≡ b → tree.Object all ≡ tree.Object ((name_a, tree.Text a) ∷ (name_b, tree.Text b) ∷ [])
two name_a name_b a b start one all none x y first second is_a is_b =
    ap tree.Object (
    second ∙ ap (λ ms. ms ++ (name_b, tree.Text y) ∷ []) (first ∙ ap (λ ms. ms ++ (name_a, tree.Text x) ∷ []) none)
    ∙ ap₂ (λ p q. (name_a, tree.Text p) ∷ (name_b, tree.Text q) ∷ []) is_a is_b
    )

-- each has few levels
pub few : (kind : OpKind) (content : Tree) → HasContent kind (Some content) → levels content ≤ 125
few Insert content has = has
few Replace content has = has
few Remove content has = absurd has

pub sound-staged : (kind : OpKind) (content t : Tree) → levels content ≤ 125 → IsJson content → t ≡ tree.Object (op_fields kind (Some content)) → IsSound 126 t
sound-staged kind content t low is same = subst (IsSound 126) (sym same)
    (sound-Object 125 (op_fields kind (Some content)) refl
    (sound_cons 125 _ _ _ (sound-json 125 content low is) (sound_cons 125 _ _ [] (sound-Text 125 (kind_text kind)) (sound_nil 125))))

pub sound-bare : (kind : OpKind) (t : Tree) → t ≡ tree.Object (op_fields kind None) → IsSound 126 t
sound-bare kind t same = subst (IsSound 126) (sym same) (sound-Object 125 (op_fields kind None) refl (sound_cons 125 _ _ [] (sound-Text 125 (kind_text kind)) (sound_nil 125)))

sound-atr : (atr : ℕ) → IsSound 126 (tree.Object (atr_fields atr))
sound-atr atr = sound-Object 125 (atr_fields atr) refl (sound_cons 125 _ _ [] (sound-Text 125 _) (sound_nil 125))

sound-id : (attempt : ℕ) → IsSound 126 (tree.Object (id_fields attempt))
sound-id attempt = sound-Object 125 (id_fields attempt) refl (sound_cons 125 _ _ _ (sound-Text 125 _) (sound_cons 125 _ _ [] (sound-Text 125 _) (sound_nil 125)))

-- so the whole is JSON
pub json-whole : (atr attempt : ℕ) (op t : Tree) → IsSound 126 op
    → t ≡ tree.Object ((codes "atr", tree.Object (atr_fields atr)) ∷ (codes "id", tree.Object (id_fields attempt)) ∷ (codes "op", op) ∷ []) → IsJson t
json-whole atr attempt op t is same = subst IsJson (sym same)
    (json-sound 127 _ (omega arith)
    (sound-Object 126 _ refl (sound_cons 126 _ _ _ (sound-atr atr) (sound_cons 126 _ _ _ (sound-id attempt) (sound_cons 126 _ _ [] is (sound_nil 126))))))

pub three : (a b c : Tree) (name_a name_b name_c : List ℕ) (start one more all : Members) (x y z : Tree) → start ≡ [] → one ≡ start ++ (name_a, x) ∷ [] → more ≡ one ++ (name_b, y) ∷ [] → all ≡ more ++ (name_c, z) ∷ []
    → x ≡ a → y ≡ b → z ≡ c → tree.Object all ≡ tree.Object ((name_a, a) ∷ (name_b, b) ∷ (name_c, c) ∷ [])
three a b c name_a name_b name_c start one more all x y z none first second third is_a is_b is_c =
    ap tree.Object (
    third ∙ ap (λ ms. ms ++ (name_c, z) ∷ []) (second ∙ ap (λ ms. ms ++ (name_b, y) ∷ []) (first ∙ ap (λ ms. ms ++ (name_a, x) ∷ []) none))
    ∙ ap (λ p. (name_a, p) ∷ (name_b, y) ∷ (name_c, z) ∷ []) is_a ∙ ap₂ (λ p q. (name_a, a) ∷ (name_b, p) ∷ (name_c, q) ∷ []) is_b is_c
    )

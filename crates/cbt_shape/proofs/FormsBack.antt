-- The forms of fields, both ways.
use Rattle.std.proofs.Common.{◌≡◌, ℕ, ℤ, pos, negsuc, ◌^◌, ◌<◌, Bool, true, false, cond, ltb, List, Option, Some, None, refl, ap, ◌∙◌, arith}
use Rattle.std.specs.Option.{option_and_then}
use Rattle.std.proofs.lemmas.Bool.{lt-ltb, ltb-true, eqb-true, eq-eqb}
use Rattle.cbt_base.specs.Ids.{id_text, txn_number}
use Rattle.cbt_json.specs.declared.tree.Tree.{Tree, out-Tree}
use Rattle.cbt_json.specs.declared.tree.Tree.TheOpen.{Tree-F}
use Rattle.cbt_json.specs.declared.tree.Tree.TheVariants as tree
use Rattle.cbt_subdoc.specs.Values.{macro_text}
use Rattle.cbt_shape.specs.Names.{id_in, is_number, is_txn_text, atr_name, atr_in}
use Rattle.cbt_shape.specs.Numbers.{natural, whole_of, macro_in}
use Rattle.cbt_shape.specs.Objects.{text_of}
use Rattle.cbt_shape.specs.Forms.{text_form, id_form, where_true, txn_form, atr_form, whole_form, macro_form}
use Rattle.cbt_shape.proofs.Trees.{out-Text, out-Whole, is-Text, is-Whole}
use Rattle.cbt_shape.proofs.IdNames.{id_found, id_is}
use Rattle.cbt_shape.proofs.Atrs.{atr_found, atr_is}
use Rattle.cbt_shape.proofs.Macros.{macro_found, macro_is}

-- ---- texts

pub text-back : {A : Type 0} (form : List ℕ → Option A) (text : List ℕ) → text_form form (tree.Text text) ≡ form text
text-back form text = ap (λ y. option_and_then form (text_of y)) (out-Text text)

text_by : {A : Type 0} (form : List ℕ → Option A) (t : Tree) (x : A) (y : Tree-F Tree) → out-Tree t ≡ y → option_and_then form (text_of y) ≡ Some x
    → (text : List ℕ) × (t ≡ tree.Text text) × (form text ≡ Some x)
text_by form t x (Tree-F.Text text) at is = (text, is-Text t text at, is)
text_by form t x _ at is = absurd (cc)

pub text-is : {A : Type 0} (form : List ℕ → Option A) (t : Tree) (x : A) → text_form form t ≡ Some x → (text : List ℕ) × (t ≡ tree.Text text) × (form text ≡ Some x)
text-is form t x is = text_by form t x (out-Tree t) refl is

pub id-back : (n : ℕ) → n < 2 ^ 128 → id_form (tree.Text (id_text n)) ≡ Some n
id-back n fits = text-back id_in (id_text n) ∙ id_found (id_text n) n fits refl

pub id-is : (t : Tree) (n : ℕ) → id_form t ≡ Some n → (n < 2 ^ 128) × (t ≡ tree.Text (id_text n))
id-is t n is =
    let it = text-is id_in t n is in
    let p = id_is it.0 n it.2 in
    (p.0, it.1 ∙ ap tree.Text p.1)

pub atr-back : (n : ℕ) → n < 2 ^ 16 → atr_form (tree.Text (atr_name n)) ≡ Some n
atr-back n fits = text-back atr_in (atr_name n) ∙ atr_found n fits

pub atr-is : (t : Tree) (n : ℕ) → atr_form t ≡ Some n → (n < 2 ^ 16) × (t ≡ tree.Text (atr_name n))
atr-is t n is =
    let it = text-is atr_in t n is in
    let p = atr_is it.0 n it.2 in
    (p.0, it.1 ∙ ap tree.Text p.1)

pub macro-back : (n : ℕ) → n < 2 ^ 64 → macro_form (tree.Text (macro_text n)) ≡ Some n
macro-back n fits = text-back macro_in (macro_text n) ∙ macro_found n fits

pub macro-is : (t : Tree) (n : ℕ) → macro_form t ≡ Some n → (n < 2 ^ 64) × (t ≡ tree.Text (macro_text n))
macro-is t n is =
    let it = text-is macro_in t n is in
    let p = macro_is it.0 n it.2 in
    (p.0, it.1 ∙ ap tree.Text p.1)

-- ---- the transaction of an attempt

txn_fits : (a : ℕ) → a < 2 ^ 128 → txn_number a < 2 ^ 128
txn_fits a fits = omega arith

pub txn-back : (attempt : ℕ) → attempt < 2 ^ 128 → txn_form attempt (tree.Text (id_text (txn_number attempt))) ≡ Some tt
txn-back attempt fits =
    let txn = txn_number attempt in
    text-back (λ text. where_true (is_txn_text attempt text)) (id_text txn)
    ∙ ap (λ o. where_true (is_number txn o)) (id_found (id_text txn) txn (txn_fits attempt fits) refl)
    ∙ ap where_true (eq-eqb txn txn refl)

true_where : (t : Bool) (u : Unit {0}) → where_true t ≡ Some u → t ≡ true
true_where true u is = refl
true_where false u is = absurd (cc)

numbered : (n : ℕ) (o : Option ℕ) → is_number n o ≡ true → o ≡ Some n
numbered n (Some m) is = ap Some (eqb-true m n is)
numbered n None is = absurd (cc)

pub txn-is : (attempt : ℕ) (t : Tree) (u : Unit {0}) → txn_form attempt t ≡ Some u → t ≡ tree.Text (id_text (txn_number attempt))
txn-is attempt t u is =
    let it = text-is (λ text. where_true (is_txn_text attempt text)) t u is in
    let found = numbered (txn_number attempt) (id_in it.0) (true_where (is_txn_text attempt it.0) u it.2) in
    it.1 ∙ ap tree.Text (id_is it.0 (txn_number attempt) found).1

-- ---- whole numbers

pub whole-back : (n : ℕ) → n < 2 ^ 64 → whole_form (tree.Whole (pos n)) ≡ Some n
whole-back n fits = ap whole_of (out-Whole (pos n)) ∙ ap (λ t. cond t (Some n) None) (lt-ltb n (2 ^ 64) fits)

natural_by : (t : Bool) (m n : ℕ) → ltb m (2 ^ 64) ≡ t → cond t (Some m) None ≡ Some n → (n < 2 ^ 64) × (m ≡ n)
natural_by true m n low is = let same : m ≡ n = cc in let fits = ltb-true m (2 ^ 64) low in (omega arith, same)
natural_by false m n low is = absurd (cc)

natural-is : (z : ℤ) (n : ℕ) → natural z ≡ Some n → (n < 2 ^ 64) × (z ≡ pos n)
natural-is (pos m) n is = let p = natural_by (ltb m (2 ^ 64)) m n refl is in (p.0, ap pos p.1)
natural-is (negsuc m) n is = absurd (cc)

whole_by : (t : Tree) (n : ℕ) (y : Tree-F Tree) → out-Tree t ≡ y → whole_of y ≡ Some n → (n < 2 ^ 64) × (t ≡ tree.Whole (pos n))
whole_by t n (Tree-F.Whole z) at is = let p = natural-is z n is in (p.0, is-Whole t z at ∙ ap tree.Whole p.1)
whole_by t n _ at is = absurd (cc)

pub whole-is : (t : Tree) (n : ℕ) → whole_form t ≡ Some n → (n < 2 ^ 64) × (t ≡ tree.Whole (pos n))
whole-is t n is = whole_by t n (out-Tree t) refl is

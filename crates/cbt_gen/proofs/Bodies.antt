-- The bodies and the attributes of accounts keep the rules of bodies, and so do whole numbers those of values.
use Rattle.std.proofs.Common.{◌≡◌, ℕ, ◌*◌, ◌/◌, ◌%◌, ◌^◌, ◌<◌, ◌≤◌, pos, Bool, true, false, cond, ◌&&◌, nat_lt, nat_le, List, [], ◌∷◌, length, codes, decimal, refl, sym, ap, ap₂, ◌∙◌, subst, arith, length-append}
use Rattle.std.specs.Char.{digit_char}
use Rattle.std.proofs.lemmas.Bool.{and_from, le-leb, lt-ltb}
use Rattle.std.proofs.lemmas.Fmt.{length-decimal-le}
use Rattle.json.specs.Print.{escape_letter, escape_byte, escape}
use Rattle.serde_json.specs.Data.{Data, object, string, number, unsigned, no_members, member, depth}
use Rattle.serde_json.specs.Written.{compact_text}
use Rattle.cbt_json.specs.declared.tree.Tree.{Tree}
use Rattle.cbt_json.specs.declared.tree.Tree.TheVariants as tree
use Rattle.cbt_json.specs.Trees.{data_of}
use Rattle.cbt_json.specs.Rules.{IsJson, is_regular}
use Rattle.cbt_json.proofs.Views.{data_of-Object, data_of-Whole, data_of-Text}
use Rattle.cbt_script.specs.Rules.{IsBody}
use Rattle.cbt_gen.specs.Accounts.{object_of, first_body, attributes_of}
use Rattle.cbt_gen.specs.Names.{owner_name}

-- ---- bodies

-- a tree that stands for some data keeps the rules of bodies, where the data does
body-by : (t : Tree) (d : Data) → data_of t ≡ d → depth d ≤ 100 → is_regular d ≡ true → length (compact_text d) ≤ 4096 → IsBody t
body-by t d is flat regular short =
    let fits : (nat_le (length (compact_text d)) 4096 && nat_le (depth d) 100) ≡ true =
    and_from (nat_le (length (compact_text d)) 4096) (nat_le (depth d) 100) (le-leb (length (compact_text d)) 4096 short) (le-leb (depth d) 100 flat) in
    subst (λ x. ((depth x ≤ 127) × (is_regular x ≡ true)) × ((nat_le (length (compact_text x)) 4096 && nat_le (depth x) 100) ≡ true)) (sym is) ((omega arith, regular), fits)

only-data : (name : List ℕ) (t : Tree) (d : Data) → data_of t ≡ d → data_of (object_of name t) ≡ object (member name d no_members)
only-data name t d is = data_of-Object ((name, t) ∷ []) ∙ ap (λ x. object (member name x no_members)) is

abbrev number_data : ℕ → Data
number_data n = object (member (codes "n") (number (unsigned n)) no_members)

first-length : length (compact_text (number_data 1000)) ≤ 4096
unfolding escape_byte
first-length =
    let few = length-decimal-le 4 1000 (omega arith) (omega arith) (omega arith) in
    omega (arith, length-append (decimal 1000) (125 ∷ []))

pub first_body-fits : IsBody first_body
first_body-fits = body-by first_body (number_data 1000) (only-data (codes "n") (tree.Whole (pos 1000)) (number (unsigned 1000)) (data_of-Whole (pos 1000))) (omega arith) refl first-length

-- ---- attributes

abbrev attributes_data : ℕ → Data
attributes_data n = object
    (member (codes "_kept") (object (member (codes "no") (number (unsigned n)) no_members))
    (member (codes "owner") (string (owner_name n)) no_members))

attributes-data : (n : ℕ) → data_of (attributes_of n) ≡ attributes_data n
attributes-data n =
    data_of-Object ((codes "_kept", object_of (codes "no") (tree.Whole (pos n))) ∷ (codes "owner", tree.Text (owner_name n)) ∷ [])
    ∙ ap₂ (λ d e. object (member (codes "_kept") d (member (codes "owner") e no_members)))
    (only-data (codes "no") (tree.Whole (pos n)) (number (unsigned n)) (data_of-Whole (pos n))) (data_of-Text (owner_name n))

attributes-regular : (n : ℕ) → n < 2 ^ 64 → is_regular (attributes_data n) ≡ true
attributes-regular n small = rw (lt-ltb n (2 ^ 64) small)

-- an escape has six bytes at most
escape_if : (letter low : Bool) (a b : ℕ) (c : List ℕ) → length c ≤ 6 → length (cond letter (92 ∷ a ∷ []) (cond low c (b ∷ []))) ≤ 6
escape_if true low a b c short = omega arith
escape_if false true a b c short = short
escape_if false false a b c short = omega arith

escape_byte-short : (b : ℕ) → length (escape_byte b) ≤ 6
unfolding escape_byte
escape_byte-short b = escape_if (nat_lt 0 (escape_letter b)) (nat_lt b 32) (escape_letter b) b (92 ∷ 117 ∷ 48 ∷ 48 ∷ digit_char (b / 16) ∷ digit_char (b % 16) ∷ []) (omega arith)

escape-short : (s : List ℕ) → length (escape s) ≤ 6 * length s
escape-short [] = omega arith
escape-short (b ∷ s) = omega (arith, length-append (escape_byte b) (escape s), escape_byte-short b, escape-short s)

-- the text of attributes with any owner
abbrev owned_data : ℕ → List ℕ → Data
owned_data n owner = object
    (member (codes "_kept") (object (member (codes "no") (number (unsigned n)) no_members))
    (member (codes "owner") (string owner) no_members))

owned-length : (n : ℕ) (owner : List ℕ) → length (decimal n) ≤ 5 → length (escape owner) ≤ 30 → length (compact_text (owned_data n owner)) ≤ 4096
unfolding escape_byte
owned-length n owner few short = simp length-append (omega arith)

attributes-length : (n : ℕ) → n < 10000 → length (compact_text (attributes_data n)) ≤ 4096
attributes-length n small = owned-length n (owner_name n) (length-decimal-le 5 n (omega arith) (omega arith) (omega arith)) (escape-short (owner_name n))

pub attributes-fit : (n : ℕ) → n < 10000 → IsBody (attributes_of n)
attributes-fit n small = body-by (attributes_of n) (attributes_data n) (attributes-data n) (omega arith) (attributes-regular n (omega arith)) (attributes-length n small)

-- ---- as values that the code makes

pub first_body_json : (t : Tree) → t ≡ first_body → IsJson t
first_body_json t is = subst IsJson (sym is) first_body-fits.0

pub attributes_json : (t : Tree) (n : ℕ) → n < 10000 → t ≡ attributes_of n → IsJson t
attributes_json t n small is = subst IsJson (sym is) (attributes-fit n small).0

pub number_json : (n : ℕ) → n < 2 ^ 64 → IsJson (tree.Whole (pos n))
number_json n small =
    subst (λ (d : Data). (depth d ≤ 127) × (is_regular d ≡ true)) (sym (data_of-Whole (pos n))) (omega arith, lt-ltb n (2 ^ 64) small)

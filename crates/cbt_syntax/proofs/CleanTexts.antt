-- Canonical texts have no line feed, where the names in their paths have none.
use Rattle.std.proofs.Common.{◌≡◌, ◌≢◌, ℕ, pos, negsuc, zero, suc, ◌+◌, ◌/◌, ◌%◌, Bool, true, false, cond, not, ◌||◌, eqb, ltb, List, [], ◌∷◌, ◌++◌, codes, decimal, Option, Some, None, refl, sym, ap, subst, arith}
use Rattle.std.specs.List.{list_all}
use Rattle.std.specs.Char.{digit_char}
use Rattle.std.specs.Fmt.{digits, digits_onto, digit_glyph}
use Rattle.std.proofs.lemmas.Bool.{and_parts}
use Rattle.std.proofs.lemmas.Bool.Decides.{nat_tests}
use Rattle.std.proofs.lemmas.List.Elements.{All-nil, All-cons, All-head, All-tail, All-append}
use Rattle.json.specs.Print.{escape_letter, escape_byte, escape, quoted}
use Rattle.serde_json.specs.Data.{unsigned, negative, float, Data, null, boolean, number, string, array, object as object_data}
use Rattle.serde_json.specs.Written.{compact_text}
use Rattle.cbt_json.specs.Trees.{data_of}
use Rattle.cbt_lex.specs.Lines.{IsOneLine}
use Rattle.cbt_lex.specs.Names.{is_name, is_name_byte}
use Rattle.cbt_lex.proofs.NamesBack.{name_bytes}
use Rattle.cbt_subdoc.specs.declared.path.Part.{Part}
use Rattle.cbt_subdoc.specs.declared.path.Part.TheVariants.{Name, Place, Last}
use Rattle.cbt_subdoc.specs.Written.{doubled}
use Rattle.cbt_expr.specs.declared.expressions.Sign.{Sign}
use Rattle.cbt_expr.specs.declared.expressions.Sign.TheVariants.{Plus, Minus}
use Rattle.cbt_expr.specs.declared.expressions.Cmp.{Cmp}
use Rattle.cbt_expr.specs.declared.expressions.Cmp.TheVariants.{Eq, Ne, Lt, Le, Gt, Ge}
use Rattle.cbt_expr.specs.Forms.{Form, one, joined, TermForm, plain, list, object, reference, Items, no_items, item, Members, no_members, member}
use Rattle.cbt_syntax.specs.Rules.{is_scalar, IsForm, IsTerm, AreItems, AreMembers}
use Rattle.cbt_syntax.specs.Texts.{is_word, name_text, part_text, path_text, maybe_path_text, sign_text, string_text, comma, form_text, term_text, items_text, members_text, cmp_text}
use Rattle.cbt_syntax.proofs.StringsBack.{string_text-quoted}

pub one-nil : IsOneLine []
one-nil = All-nil (λ x. x ≢ 10)

pub one-cons : (b : ℕ) (bs : List ℕ) → b ≢ 10 → IsOneLine bs → IsOneLine (b ∷ bs)
one-cons b bs other rest = All-cons (λ x. x ≢ 10) b bs other rest

pub one-tail : (b : ℕ) (bs : List ℕ) → IsOneLine (b ∷ bs) → IsOneLine bs
one-tail b bs all = All-tail (λ x. x ≢ 10) b bs all

pub one-append : (a b : List ℕ) → IsOneLine a → IsOneLine b → IsOneLine (a ++ b)
one-append a b first second = All-append (λ x. x ≢ 10) a b first second

-- a text whose bytes pass a test that no line feed passes
pub one-by : (p : ℕ → Bool) → ((b : ℕ) → p b ≡ true → b ≢ 10) → (text : List ℕ) → list_all p text ≡ true → IsOneLine text
one-by p none [] all = one-nil
one-by p none (b ∷ bs) all = let parts = and_parts (p b) (list_all p bs) all in one-cons b bs (none b parts.0) (one-by p none bs parts.1)

-- the test
abbrev pub is_other : ℕ → Bool
is_other b = not (eqb b 10)

other-is : (b : ℕ) → is_other b ≡ true → b ≢ 10
other-is b e same = grind (arith, nat_tests)

pub one-fixed : (text : List ℕ) → list_all is_other text ≡ true → IsOneLine text
one-fixed text all = one-by is_other other-is text all

-- ---- names

name_byte-is : (b : ℕ) → is_name_byte b ≡ true → b ≢ 10
name_byte-is b e same = grind (arith, nat_tests)

pub one-name : (name : List ℕ) → is_name name ≡ true → IsOneLine name
one-name name is = one-by is_name_byte name_byte-is name (name_bytes name is)

-- ---- strings

letter_by : (b : ℕ) (t u v w x y : Bool) → eqb b 34 ≡ t → eqb b 92 ≡ u
    → cond (t || u) b (cond v 98 (cond w 102 (cond x 110 (cond y 114 0)))) ≢ 10
letter_by b t u v w x y e f same = grind (arith, nat_tests)

letter-is : (b : ℕ) → ltb 0 (escape_letter b) ≡ true → escape_letter b ≢ 10
letter-is b e same = grind (arith, nat_tests)

feed_has_letter : (b : ℕ) → ltb 0 (escape_letter b) ≡ false → b ≢ 10
feed_has_letter b e same = let f : ltb 0 (escape_letter b) ≡ true = ap (λ z. ltb 0 (escape_letter z)) same in cc

digit_by : (n : ℕ) (small : Bool) → cond small (48 + n) (87 + n) ≢ 10
digit_by n true same = omega arith
digit_by n false same = omega arith

escape_by : (b : ℕ) (letter low : Bool) → ltb 0 (escape_letter b) ≡ letter
    → IsOneLine (cond letter (92 ∷ escape_letter b ∷ []) (cond low (92 ∷ 117 ∷ 48 ∷ 48 ∷ digit_char (b / 16) ∷ digit_char (b % 16) ∷ []) (b ∷ [])))
escape_by b true low is = one-cons 92 (escape_letter b ∷ []) (other-is 92 refl) (one-cons (escape_letter b) [] (letter-is b is) one-nil)
escape_by b false true is =
    one-append (codes "\\u00") (digit_char (b / 16) ∷ digit_char (b % 16) ∷ []) (one-fixed (codes "\\u00") refl)
    (one-cons (digit_char (b / 16)) (digit_char (b % 16) ∷ []) (digit_by (b / 16) (ltb (b / 16) 10)) (one-cons (digit_char (b % 16)) [] (digit_by (b % 16) (ltb (b % 16) 10)) one-nil))
escape_by b false false is = one-cons b [] (feed_has_letter b is) one-nil

escape_byte-one : (b : ℕ) → IsOneLine (escape_byte b)
unfolding escape_byte
escape_byte-one b = escape_by b (ltb 0 (escape_letter b)) (ltb b 32) refl

escape-one : (s : List ℕ) → IsOneLine (escape s)
escape-one [] = one-nil
escape-one (b ∷ s) = one-append (escape_byte b) (escape s) (escape_byte-one b) (escape-one s)

quoted-one : (s : List ℕ) → IsOneLine (quoted s)
quoted-one s = one-cons 34 (escape s ++ 34 ∷ []) (other-is 34 refl) (one-append (escape s) (34 ∷ []) (escape-one s) (one-fixed (34 ∷ []) refl))

pub string-one : (s : List ℕ) → IsOneLine (string_text s)
string-one s = subst IsOneLine (sym (string_text-quoted s)) (quoted-one s)

-- ---- numbers

glyph_by : (small upper : Bool) (d : ℕ) → cond small (48 + d) (cond upper (55 + d) (87 + d)) ≢ 10
glyph_by true upper d same = omega arith
glyph_by false true d same = omega arith
glyph_by false false d same = omega arith

onto_if : (t : Bool) (a b : List ℕ) → IsOneLine a → IsOneLine b → IsOneLine (cond t a b)
onto_if true a b first second = first
onto_if false a b first second = second

onto-one : (k base : ℕ) (upper : Bool) (n : ℕ) (acc : List ℕ) → IsOneLine acc → IsOneLine (digits_onto k base upper n acc)
onto-one zero base upper n acc all = all
onto-one (suc k) base upper n acc all =
    let next = one-cons (digit_glyph upper (n % base)) acc (glyph_by (ltb (n % base) 10) upper (n % base)) all in
    onto_if (eqb (n / base) 0) (digit_glyph upper (n % base) ∷ acc) (digits_onto k base upper (n / base) (digit_glyph upper (n % base) ∷ acc)) next
    (onto-one k base upper (n / base) (digit_glyph upper (n % base) ∷ acc) next)

pub decimal-one : (n : ℕ) → IsOneLine (decimal n)
unfolding digits
decimal-one n = onto-one 64 10 false n [] one-nil

-- ---- plain terms

scalar-one : (d : Data) → is_scalar d ≡ true → IsOneLine (compact_text d)
scalar-one null is = one-fixed (codes "null") refl
scalar-one (boolean true) is = one-fixed (codes "true") refl
scalar-one (boolean false) is = one-fixed (codes "false") refl
scalar-one (number (unsigned n)) is = decimal-one n
scalar-one (number (negative (pos n))) is = absurd (cc)
scalar-one (number (negative (negsuc n))) is = one-cons 45 (decimal (suc n)) (other-is 45 refl) (decimal-one (suc n))
scalar-one (number (float x)) is = absurd (cc)
scalar-one (string s) is = quoted-one s
scalar-one (array ds) is = absurd (cc)
scalar-one (object_data ms) is = absurd (cc)

-- ---- paths

abbrev pub IsCleanPart : Part → Type 0
IsCleanPart (Name name) = IsOneLine name
IsCleanPart (Place n) = Unit {0}
IsCleanPart Last = Unit {0}

-- the names of a path have no line feed
abbrev pub AreClean : List Part → Type 0
AreClean [] = Unit {0}
AreClean (part ∷ parts) = IsCleanPart part × AreClean parts

abbrev pub IsCleanPath : Option (List Part) → Type 0
IsCleanPath None = Unit {0}
IsCleanPath (Some parts) = AreClean parts

doubled_if : (t : Bool) (b : ℕ) (rest : List ℕ) → b ≢ 10 → IsOneLine rest → IsOneLine (cond t (96 ∷ 96 ∷ rest) (b ∷ rest))
doubled_if true b rest other all = one-append (96 ∷ 96 ∷ []) rest (one-fixed (96 ∷ 96 ∷ []) refl) all
doubled_if false b rest other all = one-cons b rest other all

doubled-one : (name : List ℕ) → IsOneLine name → IsOneLine (doubled name)
doubled-one [] all = all
doubled-one (b ∷ bs) all = doubled_if (eqb b 96) b (doubled bs) (All-head (λ x. x ≢ 10) b bs all) (doubled-one bs (one-tail b bs all))

name_text-one : (name : List ℕ) → IsOneLine name → IsOneLine (name_text name)
name_text-one name all =
    onto_if (is_word name) name (codes "`" ++ (doubled name ++ codes "`")) all
    (one-append (codes "`") (doubled name ++ codes "`") (one-fixed (codes "`") refl) (one-append (doubled name) (codes "`") (doubled-one name all) (one-fixed (codes "`") refl)))

part-one : (part : Part) → IsCleanPart part → IsOneLine (part_text part)
part-one (Name name) clean = one-append (codes ".") (name_text name) (one-fixed (codes ".") refl) (name_text-one name clean)
part-one (Place n) clean = one-append (codes "[") (decimal n ++ codes "]") (one-fixed (codes "[") refl) (one-append (decimal n) (codes "]") (decimal-one n) (one-fixed (codes "]") refl))
part-one Last clean = one-fixed (codes "[-1]") refl

path-one : (parts : List Part) → AreClean parts → IsOneLine (path_text parts)
path-one [] clean = one-nil
path-one (part ∷ parts) clean = one-append (part_text part) (path_text parts) (part-one part clean.0) (path-one parts clean.1)

maybe-one : (path : Option (List Part)) → IsCleanPath path → IsOneLine (maybe_path_text path)
maybe-one None clean = one-nil
maybe-one (Some parts) clean = path-one parts clean

-- ---- forms

abbrev mutual
  -- the names in the paths of a form have no line feed
  pub IsCleanForm : Form → Type 0
  IsCleanForm (one term) = IsCleanTerm term
  IsCleanForm (joined form sign term) = IsCleanForm form × IsCleanTerm term

  pub IsCleanTerm : TermForm → Type 0
  IsCleanTerm (plain json) = Unit {0}
  IsCleanTerm (list forms) = AreCleanItems forms
  IsCleanTerm (object ms) = AreCleanMembers ms
  IsCleanTerm (reference name path) = IsCleanPath path

  pub AreCleanItems : Items → Type 0
  AreCleanItems no_items = Unit {0}
  AreCleanItems (item form forms) = IsCleanForm form × AreCleanItems forms

  pub AreCleanMembers : Members → Type 0
  AreCleanMembers no_members = Unit {0}
  AreCleanMembers (member name form ms) = IsCleanForm form × AreCleanMembers ms

sign-one : (sign : Sign) → IsOneLine (sign_text sign)
sign-one Plus = one-fixed (codes "+") refl
sign-one Minus = one-fixed (codes "-") refl

comma-one : (more : Bool) → IsOneLine (comma more)
comma-one false = one-nil
comma-one true = one-fixed (codes ",") refl

pub cmp-one : (cmp : Cmp) → IsOneLine (cmp_text cmp)
cmp-one Eq = one-fixed (codes "==") refl
cmp-one Ne = one-fixed (codes "!=") refl
cmp-one Lt = one-fixed (codes "<") refl
cmp-one Le = one-fixed (codes "<=") refl
cmp-one Gt = one-fixed (codes ">") refl
cmp-one Ge = one-fixed (codes ">=") refl

module _ (bound : List ℕ → Bool) where
  mutual
    pub form-one : (form : Form) (n : ℕ) → IsForm bound n form → IsCleanForm form → IsOneLine (form_text form)
    form-one (one term) n is clean = term-one term n is clean
    form-one (joined form sign term) n is clean =
        one-append (form_text form) (sign_text sign ++ term_text term) (form-one form n is.0 clean.0)
        (one-append (sign_text sign) (term_text term) (sign-one sign) (term-one term n is.1 clean.1))

    term-one : (term : TermForm) (n : ℕ) → IsTerm bound n term → IsCleanTerm term → IsOneLine (term_text term)
    term-one (plain json) n is clean = scalar-one (data_of json) is
    term-one (reference name path) n is clean =
        one-append (codes "@") (name ++ maybe_path_text path) (one-fixed (codes "@") refl) (one-append name (maybe_path_text path) (one-name name is.0.0) (maybe-one path clean))
    term-one (list forms) zero is clean = absurd is
    term-one (list forms) (suc n) is clean = one-append (codes "[") (items_text false forms) (one-fixed (codes "[") refl) (items-one forms false n is clean)
    term-one (object ms) zero is clean = absurd is
    term-one (object ms) (suc n) is clean = one-append (codes "{") (members_text false ms) (one-fixed (codes "{") refl) (members-one ms false n is.1 clean)

    items-one : (forms : Items) (more : Bool) (n : ℕ) → AreItems bound n forms → AreCleanItems forms → IsOneLine (items_text more forms)
    items-one no_items more n are clean = one-fixed (codes "]") refl
    items-one (item form forms) more n are clean =
        one-append (comma more) (form_text form ++ items_text true forms) (comma-one more)
        (one-append (form_text form) (items_text true forms) (form-one form n are.0 clean.0) (items-one forms true n are.1 clean.1))

    members-one : (ms : Members) (more : Bool) (n : ℕ) → AreMembers bound n ms → AreCleanMembers ms → IsOneLine (members_text more ms)
    members-one no_members more n are clean = one-fixed (codes "}") refl
    members-one (member name form ms) more n are clean =
        one-append (comma more) (string_text name ++ (codes ":" ++ (form_text form ++ members_text true ms))) (comma-one more)
        (one-append (string_text name) (codes ":" ++ (form_text form ++ members_text true ms)) (string-one name)
        (one-append (codes ":") (form_text form ++ members_text true ms) (one-fixed (codes ":") refl)
        (one-append (form_text form) (members_text true ms) (form-one form n are.0 clean.0) (members-one ms true n are.1 clean.1))))

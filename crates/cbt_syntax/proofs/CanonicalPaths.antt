-- The canonical text of a path that a reference had is the text of that path.
use Rattle.std.proofs.Common.{◌≡◌, inl, inr, ℕ, suc, ◌+◌, ◌%◌, ◌^◌, ◌<◌, ◌≤◌, Bool, true, false, cond, eqb, ltb, List, [], ◌∷◌, ◌++◌, length, take, Some, Ok, Err, refl, sym, subst, ap, ◌∙◌, arith, append_assoc, decimal, length-append}
use Rattle.std.proofs.lemmas.Bool.{and_parts, and_from}
use Rattle.std.proofs.lemmas.Bool.Decides.{nat_tests}
use Rattle.std.proofs.lemmas.Fmt.{decimal_by_steps}
use Rattle.std.specs.List.{list_all}
use Rattle.cbt_subdoc.specs.declared.path.Part.{Part}
use Rattle.cbt_subdoc.specs.declared.path.Part.TheVariants.{Name, Place, Last}
use Rattle.cbt_subdoc.specs.declared.path.PathFault.TheVariants.{Empty, TooLong, TooManyParts}
use Rattle.cbt_subdoc.specs.Paths.{is_plain, parts_of, counted, path_of}
use Rattle.cbt_subdoc.specs.PathLimits.{max_parts}
use Rattle.cbt_subdoc.specs.Written.{doubled, IsNameText, IsPartText, led, IsTailText, IsTextOf}
use Rattle.cbt_subdoc.proofs.Accepted.{written-read}
use Rattle.cbt_subdoc.proofs.PartTexts.{IsNameable}
use Rattle.cbt_syntax.specs.declared.fault.SyntaxFault.TheVariants.{Malformed}
use Rattle.cbt_syntax.specs.declared.references.Within.{Within}
use Rattle.cbt_syntax.specs.declared.references.Within.TheVariants.{Steps, Ticks, Brackets}
use Rattle.cbt_syntax.specs.References.{is_word_byte, stops, led_to, path_end, as_path, named_path, path_in}
use Rattle.cbt_syntax.specs.Texts.{is_word, name_text, part_text, path_text}
use Rattle.cbt_syntax.proofs.NamesBack.{no_close, AllNameable, all-nameable, IsPathText, path_of-text, path_in-parsed, parsed_text}

-- ---- the text of a path goes on with each byte of it

abbrev pub Runs : Within → List ℕ → Type 0
Runs within [] = Unit {0}
Runs within (b ∷ bs) = (stops within b ≡ false) × Runs (led_to within b) bs

abbrev run_len : Within → List ℕ → ℕ
run_len within [] = 0
run_len within (b ∷ bs) = cond (stops within b) 0 (suc (run_len (led_to within b) bs))

shift : (at n : ℕ) (t : Bool) → cond t at (at + 1 + n) ≡ at + cond t 0 (suc n)
shift at n true = omega arith
shift at n false = omega arith

path_end-run : (at : ℕ) (within : Within) (text : List ℕ) → path_end at within text ≡ at + run_len within text
path_end-run at within [] = omega arith
path_end-run at within (b ∷ bs) =
    ap (λ n. cond (stops within b) at n) (path_end-run (at + 1) (led_to within b) bs) ∙ shift at (run_len (led_to within b) bs) (stops within b)

runs_by : (within : Within) (b : ℕ) (bs : List ℕ) (n : ℕ) (t : Bool) → stops within b ≡ t → Runs (led_to within b) (take n bs) → Runs within (take (cond t 0 (suc n)) (b ∷ bs))
runs_by within b bs n true is runs = tt
runs_by within b bs n false is runs = (is, runs)

runs-run : (within : Within) (text : List ℕ) → Runs within (take (run_len within text) text)
runs-run within [] = tt
runs-run within (b ∷ bs) = runs_by within b bs (run_len (led_to within b) bs) (stops within b) refl (runs-run (led_to within b) bs)

pub runs-taken : (text : List ℕ) → Runs Steps (take (path_end 0 Steps text) text)
runs-taken text =
    let e : path_end 0 Steps text ≡ run_len Steps text = path_end-run 0 Steps text ∙ omega arith in
    subst (λ n. Runs Steps (take n text)) (sym e) (runs-run Steps text)

-- ---- what stands in such a text for a part is no shorter than the canonical text of the part

plain_word : (b : ℕ) → is_plain b ≡ true → stops Steps b ≡ false → is_word_byte b ≡ true
plain_word b plain goes = grind (arith, nat_tests)

plain_stays : (b : ℕ) → is_plain b ≡ true → (eqb b 96 ≡ false) × (eqb b 91 ≡ false)
plain_stays b plain = (grind (arith, nat_tests), grind (arith, nat_tests))

plain-runs : (name rest : List ℕ) → list_all is_plain name ≡ true → Runs Steps (name ++ rest) → (list_all is_word_byte name ≡ true) × Runs Steps rest
plain-runs [] rest all runs = (refl, runs)
plain-runs (b ∷ bs) rest all runs =
    let h = and_parts (is_plain b) (list_all is_plain bs) all in
    let s = plain_stays b h.0 in
    let stays : led_to Steps b ≡ Steps = simp (s.0, s.1) in
    let tail = plain-runs bs rest h.1 (subst (λ w. Runs w (bs ++ rest)) stays runs.1) in
    (and_from (is_word_byte b) (list_all is_word_byte bs) (plain_word b h.0 runs.0) tail.0, tail.1)

doubled_by : (b : ℕ) (bs rest : List ℕ) (t : Bool) → eqb b 96 ≡ t → (Runs Ticks (doubled bs ++ rest) → Runs Ticks rest)
    → Runs Ticks (cond t (96 ∷ 96 ∷ doubled bs) (b ∷ doubled bs) ++ rest) → Runs Ticks rest
doubled_by b bs rest true is tail runs = tail runs.1.1
doubled_by b bs rest false is tail runs = tail (subst (λ w. Runs w (doubled bs ++ rest)) (ap (λ t. cond t Steps Ticks) is) runs.1)

doubled-runs : (name rest : List ℕ) → Runs Ticks (doubled name ++ rest) → Runs Ticks rest
doubled-runs [] rest runs = runs
doubled-runs (b ∷ bs) rest runs = doubled_by b bs rest (eqb b 96) refl (doubled-runs bs rest) runs

twice_by : (b n : ℕ) (bs : List ℕ) (t : Bool) → n ≤ length bs → suc n ≤ length (cond t (96 ∷ 96 ∷ bs) (b ∷ bs))
twice_by b n bs true le = omega arith
twice_by b n bs false le = omega arith

doubled-long : (name : List ℕ) → length name ≤ length (doubled name)
doubled-long [] = omega arith
doubled-long (b ∷ bs) = twice_by b (length bs) (doubled bs) (eqb b 96) (doubled-long bs)

-- the canonical text of a name is no longer than the name as it is, where that is a word, and than the name in backticks
name_by : (name : List ℕ) (t : Bool) → length (cond t name (96 ∷ (doubled name ++ 96 ∷ []))) ≤ length (96 ∷ (doubled name ++ 96 ∷ []))
name_by name true = omega (arith, doubled-long name, length-append (doubled name) (96 ∷ []))
name_by name false = omega arith

digit-runs : (n : ℕ) (rest : List ℕ) → n < 10 → Runs Brackets ((48 + n) ∷ rest) → Runs Brackets rest
digit-runs n rest small runs = subst (λ w. Runs w rest) (ap (λ t. cond t Steps Brackets) (no_close n small)) runs.1

abbrev RunsOn : ℕ → List ℕ → Type 0
RunsOn n ds = (rest : List ℕ) → Runs Brackets (ds ++ rest) → Runs Brackets rest

decimal-runs : (n : ℕ) → n < 2 ^ 64 → RunsOn n (decimal n)
decimal-runs n below =
    decimal_by_steps RunsOn (λ m small rest runs. digit-runs m rest small runs)
    (λ m ds many before rest runs. digit-runs (m % 10) rest (omega arith) (before ((48 + m % 10) ∷ rest) (subst (Runs Brackets) (append_assoc ds ((48 + m % 10) ∷ []) rest) runs))) n below

-- what leads a part in the middle of a path, in a text of it and in the canonical one
abbrev Shorter : Part → List ℕ → List ℕ → Type 0
Shorter part word rest = (length (part_text part) ≤ length (led part word)) × Runs Steps rest

some_word : (name : List ℕ) → 0 < length name → list_all is_word_byte name ≡ true → is_word name ≡ true
some_word name some all = and_from (ltb 0 (length name)) (list_all is_word_byte name) (grind (arith, nat_tests)) all

name-shorter : (name word rest : List ℕ) → IsNameText name word → Runs Steps (word ++ rest) → Shorter (Name name) word rest
name-shorter name word rest (inl h) runs =
    let p = plain-runs name rest h.2 (subst (λ w. Runs Steps (w ++ rest)) h.0 runs) in
    let same : name_text name ≡ word = ap (λ t. cond t name (96 ∷ (doubled name ++ 96 ∷ []))) (some_word name h.1 p.0) ∙ sym h.0 in
    (omega (arith, ap length same), p.1)
name-shorter name word rest (inr e) runs =
    let on = subst (λ w. Runs Steps (w ++ rest)) e runs in
    let inside = subst (Runs Ticks) (append_assoc (doubled name) (96 ∷ []) rest) on.1 in
    let behind = doubled-runs name (96 ∷ rest) inside in
    (omega (arith, name_by name (is_word name), ap length e), behind.1)

part-shorter : (part : Part) (word rest : List ℕ) → IsPartText part word → Runs Steps (word ++ rest) → Shorter part word rest
part-shorter (Name name) word rest written runs = name-shorter name word rest written runs
part-shorter (Place n) word rest written runs =
    let on = subst (λ w. Runs Steps (w ++ rest)) written.1 runs in
    let inside = subst (Runs Brackets) (append_assoc (decimal n) (93 ∷ []) rest) on.1 in
    let small = written.0 in
    let behind = decimal-runs n (omega (arith, small)) (93 ∷ rest) inside in
    (omega (arith, ap length written.1), behind.1)
part-shorter Last word rest written runs =
    let on = subst (λ w. Runs Steps (w ++ rest)) written runs in
    (omega (arith, ap length written), on.1.1.1.1)

led-runs : (part : Part) (word rest : List ℕ) → IsPartText part word → Runs Steps (led part word ++ rest) → Runs Steps (word ++ rest)
led-runs (Name name) word rest written runs = runs.1
led-runs (Place n) word rest written runs = runs
led-runs Last word rest written runs = runs

tail-shorter : (parts : List Part) (text : List ℕ) → IsTailText parts text → Runs Steps text → length (path_text parts) ≤ length text
tail-shorter [] text written runs = omega arith
tail-shorter (part ∷ parts) text written runs =
    let word = written.0 in
    let rest = written.1 in
    let cut = written.2.2 in
    let s = part-shorter part word rest written.2.0 (led-runs part word rest written.2.0 (subst (Runs Steps) cut runs)) in
    let t = tail-shorter parts rest written.2.1 s.1 in
    let a = s.0 in
    omega (arith, a, t, ap length cut, length-append (led part word) rest, length-append (part_text part) (path_text parts))

-- ---- the canonical text is one of the path

word_plain : (b : ℕ) → is_word_byte b ≡ true → is_plain b ≡ true
word_plain b e = grind (arith, nat_tests)

all_plain : (name : List ℕ) → list_all is_word_byte name ≡ true → list_all is_plain name ≡ true
all_plain [] all = refl
all_plain (b ∷ bs) all =
    let h = and_parts (is_word_byte b) (list_all is_word_byte bs) all in
    and_from (is_plain b) (list_all is_plain bs) (word_plain b h.0) (all_plain bs h.1)

word_text : (name : List ℕ) (t : Bool) → is_word name ≡ t → IsNameText name (cond t name (96 ∷ (doubled name ++ 96 ∷ [])))
word_text name true is =
    let h = and_parts (ltb 0 (length name)) (list_all is_word_byte name) is in
    inl (refl, grind (arith, nat_tests), all_plain name h.1)
word_text name false is = inr refl

-- a part without a leading dot
abbrev bare_text : Part → List ℕ
bare_text (Name name) = name_text name
bare_text part = part_text part

bare-written : (part : Part) → IsNameable part → IsPartText part (bare_text part)
bare-written (Name name) small = word_text name (is_word name) refl
bare-written (Place n) small = (small, refl)
bare-written Last small = refl

led-bare : (part : Part) → part_text part ≡ led part (bare_text part)
led-bare (Name name) = refl
led-bare (Place n) = refl
led-bare Last = refl

tail-written : (parts : List Part) → AllNameable parts → IsTailText parts (path_text parts)
tail-written [] small = refl
tail-written (part ∷ parts) small =
    (bare_text part, path_text parts, (bare-written part small.0, tail-written parts small.1, ap (λ w. w ++ path_text parts) (led-bare part)))

path-written : (part : Part) (parts : List Part) → AllNameable (part ∷ parts) → IsTextOf (part ∷ parts) (bare_text part ++ path_text parts)
path-written part parts small = (bare_text part, path_text parts, (bare-written part small.0, tail-written parts small.1, refl))

-- a text of parts within the limits is that of a path
of_by : (parts : List Part) (text : List ℕ) (none long many : Bool) → none ≡ false → long ≡ false → many ≡ false → parts_of text ≡ Ok parts → ltb max_parts (length parts) ≡ many
    → cond none (Err Empty) (cond long (Err (TooLong (length text))) (counted (length text) (parts_of text))) ≡ Ok parts
of_by parts text true long many n l m e is = absurd (cc)
of_by parts text false true many n l m e is = absurd (cc)
of_by parts text false false true n l m e is = absurd (cc)
of_by parts text false false false n l m e is =
    ap (counted (length text)) e ∙ ap (λ t. cond t (Err (TooManyParts (length parts))) (Ok parts)) is

path_of-written : (parts : List Part) (text : List ℕ) → IsTextOf parts text → 0 < length text → length text ≤ 1024 → length parts ≤ 32 → path_of text ≡ Ok parts
path_of-written parts text written some short few =
    of_by parts text (eqb (length text) 0) (ltb 1024 (length text)) (ltb max_parts (length parts)) (grind (arith, nat_tests)) (grind (arith, nat_tests)) (grind (arith, nat_tests))
    (written-read text parts written) refl

-- with which byte the text of a name begins
name-begins : (name rest : List ℕ) (t : Bool) → is_word name ≡ t
    → (b : ℕ) × ((bs : List ℕ) × ((cond t name (96 ∷ (doubled name ++ 96 ∷ [])) ++ rest ≡ b ∷ bs) × (eqb b 91 ≡ false)))
name-begins [] rest true is = absurd (cc)
name-begins (b ∷ bs) rest true is =
    let h = and_parts (ltb 0 (length (b ∷ bs))) (list_all is_word_byte (b ∷ bs)) is in
    let k = and_parts (is_word_byte b) (list_all is_word_byte bs) h.1 in
    (b, (bs ++ rest, (refl, grind (arith, nat_tests))))
name-begins name rest false is = (96, ((doubled name ++ 96 ∷ []) ++ rest, (refl, refl)))

named-path : (name : List ℕ) (parts all : List Part) → path_of (name_text name ++ path_text parts) ≡ Ok all → named_path (name_text name ++ path_text parts) ≡ Ok (Some all)
named-path name parts all e =
    let b = name-begins name (path_text parts) (is_word name) refl in
    ap named_path b.1.1.0 ∙ ap (λ t. cond t (Err Malformed) (as_path (path_of (b.0 ∷ b.1.0)))) b.1.1.1
    ∙ ap (λ w. as_path (path_of w)) (sym b.1.1.0) ∙ ap as_path e

name-some : (name rest : List ℕ) → 0 < length (name_text name ++ rest)
name-some name rest = let b = name-begins name rest (is_word name) refl in omega (arith, ap length b.1.1.0)

bare-some : (part : Part) (rest : List ℕ) → 0 < length (bare_text part ++ rest)
bare-some (Name name) rest = name-some name rest
bare-some (Place n) rest = omega arith
bare-some Last rest = omega arith

in-bare : (part : Part) (parts all : List Part) → path_of (bare_text part ++ path_text parts) ≡ Ok all → path_in (path_text (part ∷ parts)) ≡ Ok (Some all)
in-bare (Name name) parts all e = named-path name parts all e
in-bare (Place n) parts all e = ap as_path e
in-bare Last parts all e = ap as_path e

bare-shorter : (part : Part) (word rest : List ℕ) (n : ℕ) → IsPartText part word → Shorter part word rest → length rest ≤ n → length (bare_text part) + length rest ≤ length word + length rest
bare-shorter (Name name) word rest n written s le = let a = s.0 in omega (arith, a)
bare-shorter (Place m) word rest n written s le = let a = s.0 in omega (arith, a)
bare-shorter Last word rest n written s le = let a = s.0 in omega (arith, a)

from-text : (parts : List Part) (text : List ℕ) → IsPathText parts text → Runs Steps text → path_in (path_text parts) ≡ Ok (Some parts)
from-text [] text is runs = absurd is.written
from-text (part ∷ parts) text is runs =
    let word = is.written.0 in
    let rest = is.written.1 in
    let cut = is.written.2.2 in
    let small = all-nameable (part ∷ parts) text is.written in
    let s = part-shorter part word rest is.written.2.0 (subst (Runs Steps) cut runs) in
    let t = tail-shorter parts rest is.written.2.1 s.1 in
    let a = bare-shorter part word rest (length rest) is.written.2.0 s (omega arith) in
    let limit = is.short in
    let short : length (bare_text part ++ path_text parts) ≤ 1024 =
    omega (arith, a, t, limit, ap length cut, length-append word rest, length-append (bare_text part) (path_text parts)) in
    in-bare part parts (part ∷ parts) (path_of-written (part ∷ parts) (bare_text part ++ path_text parts) (path-written part parts small) (bare-some part (path_text parts)) short is.few)

dot_stays : (b : ℕ) → eqb b 46 ≡ true → (eqb b 96 ≡ false) × (eqb b 91 ≡ false)
dot_stays b is = (grind (arith, nat_tests), grind (arith, nat_tests))

parsed_by : (b : ℕ) (bs : List ℕ) (t : Bool) → eqb b 46 ≡ t → Runs Steps (b ∷ bs) → Runs Steps (cond t bs (b ∷ bs))
parsed_by b bs true is runs =
    let s = dot_stays b is in
    let stays : led_to Steps b ≡ Steps = simp (s.0, s.1) in
    subst (λ w. Runs w bs) stays runs.1
parsed_by b bs false is runs = runs

parsed-runs : (text : List ℕ) → Runs Steps text → Runs Steps (parsed_text text)
parsed-runs [] runs = tt
parsed-runs (b ∷ bs) runs = parsed_by b bs (eqb b 46) refl runs

pub canonical-path : (text : List ℕ) (parts : List Part) → Runs Steps text → path_in text ≡ Ok (Some parts) → path_in (path_text parts) ≡ Ok (Some parts)
canonical-path text parts runs e = from-text parts (parsed_text text) (path_of-text parts (parsed_text text) (path_in-parsed text parts e)) (parsed-runs text runs)

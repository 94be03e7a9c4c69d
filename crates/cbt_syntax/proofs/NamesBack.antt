-- The text of a name and of a path is read as it.
use Rattle.std.proofs.Common.{◌≡◌, ℕ, ◌+◌, ◌%◌, ◌^◌, ◌<◌, ◌≤◌, Bool, true, false, cond, not, eqb, ltb, List, [], ◌∷◌, ◌++◌, length, take, drop, Option, Some, None, Result, Ok, Err, refl, subst, ap, ◌∙◌, arith, append_assoc, decimal, length-append}
use Rattle.std.proofs.lemmas.Bool.{and_parts}
use Rattle.std.proofs.lemmas.Bool.Decides.{nat_tests}
use Rattle.std.proofs.lemmas.Fmt.{decimal_by_steps}
use Rattle.std.proofs.Math.Seq.{take-append_seam, drop-append_seam}
use Rattle.std.specs.List.{prefix_len, list_all}
use Rattle.cbt_lex.specs.Names.{is_name, is_name_byte}
use Rattle.cbt_lex.proofs.NamesBack.{name_bytes}
use Rattle.cbt_subdoc.specs.declared.path.Part.{Part}
use Rattle.cbt_subdoc.specs.declared.path.Part.TheVariants.{Name, Place, Last}
use Rattle.cbt_subdoc.specs.declared.path.PathFault.{PathFault}
use Rattle.cbt_subdoc.specs.declared.path.PathFault.TheVariants.{Empty, TooLong, TooManyParts}
use Rattle.cbt_subdoc.specs.Paths.{parts_of, counted, path_of}
use Rattle.cbt_subdoc.specs.PathLimits.{max_parts}
use Rattle.cbt_subdoc.specs.Written.{doubled, IsPartText, IsTailText, IsTextOf}
use Rattle.cbt_subdoc.proofs.Grammar.{read-written}
use Rattle.cbt_subdoc.proofs.PartTexts.{IsNameable}
use Rattle.cbt_syntax.specs.declared.fault.SyntaxFault.TheVariants.{Malformed, Unbound}
use Rattle.cbt_syntax.specs.declared.references.Within.{Within}
use Rattle.cbt_syntax.specs.declared.references.Within.TheVariants.{Steps, Ticks, Brackets}
use Rattle.cbt_syntax.specs.Readings.{◌>>=◌}
use Rattle.cbt_syntax.specs.References.{is_word_byte, stops, led_to, path_end, as_path, named_path, path_in, path_at, name_of, name_at}
use Rattle.cbt_syntax.specs.Rules.{IsMaybePath}
use Rattle.cbt_syntax.specs.Texts.{is_word, name_text, part_text, path_text, maybe_path_text}
use Rattle.cbt_syntax.proofs.Ends.{Ends, name-end, path-end}

-- ---- names

pub all_counted : (p : ℕ → Bool) (name rest : List ℕ) → list_all p name ≡ true → prefix_len p rest ≡ 0 → prefix_len p (name ++ rest) ≡ length name
all_counted p [] rest all ends = ends
all_counted p (b ∷ name) rest all ends =
    let h = and_parts (p b) (list_all p name) all in
    let tail = all_counted p name rest h.1 ends in
    ap (λ t. cond t (1 + prefix_len p (name ++ rest)) 0) h.0 ∙ omega (arith, tail)

pub name_at-text : (bound : List ℕ → Bool) (name rest : List ℕ) → is_name name ≡ true → bound name ≡ true → prefix_len is_name_byte rest ≡ 0
    → name_at bound (name ++ rest) ≡ Ok (name, rest)
name_at-text bound name rest is known ends =
    ap (λ n. name_of bound n (name ++ rest)) (all_counted is_name_byte name rest (name_bytes name is) ends)
    ∙ ap (λ w. cond (not (is_name w)) (Err Malformed) (cond (bound w) (Ok (w, drop (length name) (name ++ rest))) (Err Unbound))) (take-append_seam name rest)
    ∙ ap (λ t. cond (not t) (Err Malformed) (cond (bound name) (Ok (name, drop (length name) (name ++ rest))) (Err Unbound))) is
    ∙ ap (λ t. cond t (Ok (name, drop (length name) (name ++ rest))) (Err Unbound)) known
    ∙ ap (λ w. Ok (name, w)) (drop-append_seam name rest)

-- ---- how far the text of a path goes

-- a text leads on from one place of a path's text to another
Passes : Within → Within → List ℕ → Type 0
Passes from to text = (at : ℕ) (rest : List ℕ) → path_end at from (text ++ rest) ≡ path_end (at + length text) to rest

passes-none : (within : Within) → Passes within within []
unfolding Passes
passes-none within at rest = let e : at ≡ at + 0 = omega arith in ap (λ n. path_end n within rest) e

passes-byte : (from to : Within) (b : ℕ) → stops from b ≡ false → led_to from b ≡ to → Passes from to (b ∷ [])
unfolding Passes
passes-byte from to b goes led at rest =
    ap (λ t. cond t at (path_end (at + 1) (led_to from b) rest)) goes ∙ ap (λ w. path_end (at + 1) w rest) led

passes-append : (from mid to : Within) (xs ys : List ℕ) → Passes from mid xs → Passes mid to ys → Passes from to (xs ++ ys)
unfolding Passes
passes-append from mid to xs ys first second at rest =
    let n : at + length xs + length ys ≡ at + length (xs ++ ys) = omega (arith, length-append xs ys) in
    ap (path_end at from) (append_assoc xs ys rest) ∙ first at (ys ++ rest) ∙ second (at + length xs) rest ∙ ap (λ m. path_end m to rest) n

word_goes : (b : ℕ) → is_word_byte b ≡ true → stops Steps b ≡ false
word_goes b e = grind (arith, nat_tests)

word_no_tick : (b : ℕ) → is_word_byte b ≡ true → eqb b 96 ≡ false
word_no_tick b e = grind (arith, nat_tests)

word_no_bracket : (b : ℕ) → is_word_byte b ≡ true → eqb b 91 ≡ false
word_no_bracket b e = grind (arith, nat_tests)

word_stays : (b : ℕ) → is_word_byte b ≡ true → led_to Steps b ≡ Steps
word_stays b e = simp (word_no_tick b e, word_no_bracket b e)

passes-word : (xs : List ℕ) → list_all is_word_byte xs ≡ true → Passes Steps Steps xs
passes-word [] all = passes-none Steps
passes-word (b ∷ bs) all =
    let h = and_parts (is_word_byte b) (list_all is_word_byte bs) all in
    passes-append Steps Steps Steps (b ∷ []) bs (passes-byte Steps Steps b (word_goes b h.0) (word_stays b h.0)) (passes-word bs h.1)

doubled_by : (b : ℕ) (bs : List ℕ) (tick : Bool) → eqb b 96 ≡ tick → Passes Ticks Ticks (doubled bs) → Passes Ticks Ticks (cond tick (96 ∷ 96 ∷ doubled bs) (b ∷ doubled bs))
doubled_by b bs true is tail =
    passes-append Ticks Steps Ticks (96 ∷ []) (96 ∷ doubled bs) (passes-byte Ticks Steps 96 refl refl)
    (passes-append Steps Ticks Ticks (96 ∷ []) (doubled bs) (passes-byte Steps Ticks 96 refl refl) tail)
doubled_by b bs false is tail =
    passes-append Ticks Ticks Ticks (b ∷ []) (doubled bs) (passes-byte Ticks Ticks b refl (ap (λ t. cond t Steps Ticks) is)) tail

passes-doubled : (name : List ℕ) → Passes Ticks Ticks (doubled name)
passes-doubled [] = passes-none Ticks
passes-doubled (b ∷ bs) = doubled_by b bs (eqb b 96) refl (passes-doubled bs)

passes-name : (name : List ℕ) (word : Bool) → is_word name ≡ word → Passes Steps Steps (cond word name (96 ∷ (doubled name ++ 96 ∷ [])))
passes-name name true is = passes-word name (and_parts (ltb 0 (length name)) (list_all is_word_byte name) is).1
passes-name name false is =
    passes-append Steps Ticks Steps (96 ∷ []) (doubled name ++ 96 ∷ []) (passes-byte Steps Ticks 96 refl refl)
    (passes-append Ticks Ticks Steps (doubled name) (96 ∷ []) (passes-doubled name) (passes-byte Ticks Steps 96 refl refl))

pub no_close : (n : ℕ) → n < 10 → eqb (48 + n) 93 ≡ false
no_close n small = grind (arith, nat_tests)

digit-passes : (n : ℕ) → n < 10 → Passes Brackets Brackets ((48 + n) ∷ [])
digit-passes n small = passes-byte Brackets Brackets (48 + n) refl (ap (λ t. cond t Steps Brackets) (no_close n small))

passes-decimal : (n : ℕ) → n < 2 ^ 64 → Passes Brackets Brackets (decimal n)
passes-decimal n below =
    decimal_by_steps (λ m ds. Passes Brackets Brackets ds) digit-passes
    (λ m ds many before. passes-append Brackets Brackets Brackets ds ((48 + m % 10) ∷ []) before (digit-passes (m % 10) (omega arith))) n below

passes-part : (part : Part) → IsNameable part → Passes Steps Steps (part_text part)
passes-part (Name name) small = passes-append Steps Steps Steps (46 ∷ []) (name_text name) (passes-byte Steps Steps 46 refl refl) (passes-name name (is_word name) refl)
passes-part (Place n) small =
    passes-append Steps Brackets Steps (91 ∷ []) (decimal n ++ 93 ∷ []) (passes-byte Steps Brackets 91 refl refl)
    (passes-append Brackets Brackets Steps (decimal n) (93 ∷ []) (passes-decimal n (omega (arith, small))) (passes-byte Brackets Steps 93 refl refl))
passes-part Last small =
    passes-append Steps Brackets Steps (91 ∷ []) (45 ∷ 49 ∷ 93 ∷ []) (passes-byte Steps Brackets 91 refl refl)
    (passes-append Brackets Brackets Steps (45 ∷ []) (49 ∷ 93 ∷ []) (passes-byte Brackets Brackets 45 refl refl)
    (passes-append Brackets Brackets Steps (49 ∷ []) (93 ∷ []) (passes-byte Brackets Brackets 49 refl refl) (passes-byte Brackets Steps 93 refl refl)))

abbrev pub AllNameable : List Part → Type 0
AllNameable [] = Unit {0}
AllNameable (part ∷ parts) = IsNameable part × AllNameable parts

passes-path : (parts : List Part) → AllNameable parts → Passes Steps Steps (path_text parts)
passes-path [] small = passes-none Steps
passes-path (part ∷ parts) small = passes-append Steps Steps Steps (part_text part) (path_text parts) (passes-part part small.0) (passes-path parts small.1)

pub path_end-text : (parts : List Part) (rest : List ℕ) → AllNameable parts → Ends rest → path_end 0 Steps (path_text parts ++ rest) ≡ length (path_text parts)
unfolding Passes
path_end-text parts rest small ends = passes-path parts small 0 rest ∙ path-end (0 + length (path_text parts)) rest ends ∙ omega arith

-- ---- what is read as a path has places that a text can name

part-nameable : (part : Part) (word : List ℕ) → IsPartText part word → IsNameable part
part-nameable (Name name) word written = tt
part-nameable (Place n) word written = written.0
part-nameable Last word written = tt

tail-nameable : (parts : List Part) (text : List ℕ) → IsTailText parts text → AllNameable parts
tail-nameable [] text written = tt
tail-nameable (part ∷ parts) text written = (part-nameable part written.0 written.2.0, tail-nameable parts written.1 written.2.1)

pub all-nameable : (parts : List Part) (text : List ℕ) → IsTextOf parts text → AllNameable parts
all-nameable [] text written = absurd written
all-nameable (part ∷ parts) text written = (part-nameable part written.0 written.2.0, tail-nameable parts written.1 written.2.1)

-- the text of a path is that of its parts, and keeps the limits
pub record IsPathText (parts : List Part) (text : List ℕ) : Type 0 where
  pub written : IsTextOf parts text
  pub few : length parts ≤ 32
  pub short : length text ≤ 1024

few_by : (ps parts : List Part) (many : Bool) → ltb max_parts (length ps) ≡ many → cond many (Err (TooManyParts (length ps))) (Ok ps) ≡ Ok parts
    → (ps ≡ parts) × (length parts ≤ 32)
few_by ps parts true is e = absurd (cc)
few_by ps parts false is e = let same : ps ≡ parts = cc in (same, subst (λ x. length x ≤ 32) same (grind (arith, nat_tests)))

few_parts : (len : ℕ) (r : Result (List Part) ℕ) (parts : List Part) → counted len r ≡ Ok parts → (r ≡ Ok parts) × (length parts ≤ 32)
few_parts len (Ok ps) parts e = let p = few_by ps parts (ltb max_parts (length ps)) refl e in (ap Ok p.0, p.1)
few_parts len (Err left) parts e = absurd (cc)

of_by : (parts : List Part) (text : List ℕ) (none long : Bool) → ltb 1024 (length text) ≡ long
    → cond none (Err Empty) (cond long (Err (TooLong (length text))) (counted (length text) (parts_of text))) ≡ Ok parts → IsPathText parts text
of_by parts text true long is e = absurd (cc)
of_by parts text false true is e = absurd (cc)
of_by parts text false false is e =
    let p = few_parts (length text) (parts_of text) parts e in
    record { written = read-written text parts p.0; few = p.1; short = grind (arith, nat_tests) }

pub path_of-text : (parts : List Part) (text : List ℕ) → path_of text ≡ Ok parts → IsPathText parts text
path_of-text parts text e = of_by parts text (eqb (length text) 0) (ltb 1024 (length text)) refl e

as_path-ok : (r : Result (List Part) PathFault) (parts : List Part) → as_path r ≡ Ok (Some parts) → r ≡ Ok parts
as_path-ok (Ok ps) parts e = cc
as_path-ok (Err fault) parts e = absurd (cc)

-- the text that a path is parsed from: without a leading dot
abbrev pub parsed_text : List ℕ → List ℕ
parsed_text [] = []
parsed_text (b ∷ bs) = cond (eqb b 46) bs (b ∷ bs)

named_cond : (bracket : Bool) (text : List ℕ) (parts : List Part) → cond bracket (Err Malformed) (as_path (path_of text)) ≡ Ok (Some parts) → path_of text ≡ Ok parts
named_cond true text parts e = absurd (cc)
named_cond false text parts e = as_path-ok (path_of text) parts e

named_by : (text : List ℕ) (parts : List Part) → named_path text ≡ Ok (Some parts) → path_of text ≡ Ok parts
named_by [] parts e = absurd (cc)
named_by (b ∷ bs) parts e = named_cond (eqb b 91) (b ∷ bs) parts e

in_by : (dot bracket : Bool) (b : ℕ) (bs : List ℕ) (parts : List Part)
    → cond dot (named_path bs) (cond bracket (as_path (path_of (b ∷ bs))) (Err Malformed)) ≡ Ok (Some parts) → path_of (cond dot bs (b ∷ bs)) ≡ Ok parts
in_by true bracket b bs parts e = named_by bs parts e
in_by false true b bs parts e = as_path-ok (path_of (b ∷ bs)) parts e
in_by false false b bs parts e = absurd (cc)

pub path_in-parsed : (text : List ℕ) (parts : List Part) → path_in text ≡ Ok (Some parts) → path_of (parsed_text text) ≡ Ok parts
path_in-parsed [] parts e = absurd (cc)
path_in-parsed (b ∷ bs) parts e = in_by (eqb b 46) (eqb b 91) b bs parts e

pub path_at-text : (parts : List Part) (rest : List ℕ) → path_in (path_text parts) ≡ Ok (Some parts) → Ends rest → path_at (path_text parts ++ rest) ≡ Ok (Some parts, rest)
path_at-text parts rest is ends =
    let text = path_text parts ++ rest in
    let small = all-nameable parts (parsed_text (path_text parts)) (path_of-text parts (parsed_text (path_text parts)) (path_in-parsed (path_text parts) parts is)).written in
    ap (λ n. path_in (take n text) >>= (λ path. Ok (path, drop n text))) (path_end-text parts rest small ends)
    ∙ ap (λ w. path_in w >>= (λ path. Ok (path, drop (length (path_text parts)) text))) (take-append_seam (path_text parts) rest)
    ∙ ap (λ r. r >>= (λ path. Ok (path, drop (length (path_text parts)) text))) is
    ∙ ap (λ w. Ok (Some parts, w)) (drop-append_seam (path_text parts) rest)

pub maybe-path-text : (path : Option (List Part)) (rest : List ℕ) → IsMaybePath path → Ends rest → path_at (maybe_path_text path ++ rest) ≡ Ok (path, rest)
maybe-path-text None rest is ends = ap (λ n. path_in (take n rest) >>= (λ path. Ok (path, drop n rest))) (path-end 0 rest ends)
maybe-path-text (Some parts) rest is ends = path_at-text parts rest is ends

part-no-name : (part : Part) (rest : List ℕ) → prefix_len is_name_byte (part_text part ++ rest) ≡ 0
part-no-name (Name name) rest = refl
part-no-name (Place n) rest = refl
part-no-name Last rest = refl

path-no-name : (parts : List Part) (rest : List ℕ) → Ends rest → prefix_len is_name_byte (path_text parts ++ rest) ≡ 0
path-no-name [] rest ends = name-end rest ends
path-no-name (part ∷ parts) rest ends = ap (prefix_len is_name_byte) (append_assoc (part_text part) (path_text parts) rest) ∙ part-no-name part (path_text parts ++ rest)

pub maybe-path-no-name : (path : Option (List Part)) (rest : List ℕ) → Ends rest → prefix_len is_name_byte (maybe_path_text path ++ rest) ≡ 0
maybe-path-no-name None rest ends = name-end rest ends
maybe-path-no-name (Some parts) rest ends = path-no-name parts rest ends

-- What may be written as a path is read as it.
use Rattle.std.proofs.Common.{◌≡◌, ◌≢◌, inl, inr, ℕ, zero, suc, ◌+◌, ◌≤◌, ◌==◌, true, false, cond, List, [], ◌∷◌, ◌++◌, length, get_or, Ok, refl, sym, ap, ◌∙◌, subst, arith, length-append, decimal}
use Rattle.std.proofs.lemmas.Bool.{and_parts}
use Rattle.std.proofs.lemmas.Bool.Decides.{nat_tests}
use Rattle.std.specs.List.{prefix_len, list_all}
use Rattle.cbt_subdoc.specs.declared.path.Part.{Part}
use Rattle.cbt_subdoc.specs.declared.path.Part.TheVariants.{Name, Place, Last}
use Rattle.cbt_subdoc.specs.Paths.{is_plain, plain_name, quoted, quoted_name, name_at, place_at, next_at, first_at, further, led_by, part_and, parts_of}
use Rattle.cbt_subdoc.specs.Written.{IsNameText, IsPartText, led, IsTailText, IsTextOf}
use Rattle.cbt_subdoc.proofs.Leaves.{plain_word}
use Rattle.cbt_subdoc.proofs.PartTexts.{name_at-text, first_at-text}

-- a rest that does not go on with a name
record EndsName (rest : List ℕ) : Type 0 where
  pub plain : prefix_len is_plain rest ≡ 0
  pub tick : get_or rest 0 0 ≢ 96

no_tick : (b : ℕ) → is_plain b ≡ true → (b == 96) ≡ false
no_tick b plain = grind (arith, nat_tests)

no_bracket : (b : ℕ) → is_plain b ≡ true → (b == 91) ≡ false
no_bracket b plain = grind (arith, nat_tests)

all_counted : (name rest : List ℕ) → list_all is_plain name ≡ true → prefix_len is_plain rest ≡ 0 → prefix_len is_plain (name ++ rest) ≡ length name
all_counted [] rest all ends = ends
all_counted (b ∷ name) rest all ends =
    let p = and_parts (is_plain b) (list_all is_plain name) all in
    let tail = all_counted name rest p.1 ends in
    ap (λ t. cond t (1 + prefix_len is_plain (name ++ rest)) 0) p.0 ∙ omega (arith, tail)

plain_name_at : (b : ℕ) (name rest : List ℕ) → list_all is_plain (b ∷ name) ≡ true → EndsName rest → name_at (b ∷ name ++ rest) ≡ Ok (Name (b ∷ name), rest)
plain_name_at b name rest all ends =
    let plain = (and_parts (is_plain b) (list_all is_plain name) all).0 in
    ap (λ t. cond t (quoted_name (quoted (name ++ rest))) (plain_name (prefix_len is_plain (b ∷ name ++ rest)) (b ∷ name ++ rest))) (no_tick b plain)
    ∙ ap (λ n. plain_name n (b ∷ name ++ rest)) (all_counted (b ∷ name) rest all ends.plain) ∙ plain_word (b ∷ name) rest (omega arith)

name-accepted : (name word rest : List ℕ) → IsNameText name word → EndsName rest → name_at (word ++ rest) ≡ Ok (Name name, rest)
name-accepted [] word rest (inl h) ends = absurd (let some = h.1 in omega arith)
name-accepted (b ∷ name) word rest (inl h) ends = ap (λ w. name_at (w ++ rest)) h.0 ∙ plain_name_at b name rest h.2 ends
name-accepted name word rest (inr e) ends = ap (λ w. name_at (w ++ rest)) e ∙ name_at-text name rest ends.tick

first_name : (name word rest : List ℕ) → IsNameText name word → EndsName rest → first_at (word ++ rest) ≡ Ok (Name name, rest)
first_name [] word rest (inl h) ends = absurd (let some = h.1 in omega arith)
first_name (b ∷ name) word rest (inl h) ends =
    let plain = (and_parts (is_plain b) (list_all is_plain name) h.2).0 in
    ap (λ w. first_at (w ++ rest)) h.0 ∙ ap (λ t. cond t (place_at (name ++ rest)) (name_at (b ∷ name ++ rest))) (no_bracket b plain) ∙ plain_name_at b name rest h.2 ends
first_name name word rest (inr e) ends = ap (λ w. first_at (w ++ rest)) e ∙ first_at-text (Name name) rest tt ends.tick

first-accepted : (part : Part) (word rest : List ℕ) → IsPartText part word → EndsName rest → first_at (word ++ rest) ≡ Ok (part, rest)
first-accepted (Name name) word rest written ends = first_name name word rest written ends
first-accepted (Place n) word rest written ends = ap (λ w. first_at (w ++ rest)) written.1 ∙ first_at-text (Place n) rest written.0 ends.tick
first-accepted Last word rest written ends = ap (λ w. first_at (w ++ rest)) written ∙ first_at-text Last rest tt ends.tick

-- a place is read alike as a first part and as a later one
next-accepted : (part : Part) (word rest : List ℕ) → IsPartText part word → EndsName rest → next_at (led part word ++ rest) ≡ Ok (part, rest)
next-accepted (Name name) word rest written ends = name-accepted name word rest written ends
next-accepted (Place n) word rest written ends = ap (λ w. next_at (w ++ rest)) written.1 ∙ first_at-text (Place n) rest written.0 ends.tick
next-accepted Last word rest written ends = ap (λ w. next_at (w ++ rest)) written ∙ first_at-text Last rest tt ends.tick

-- what leads a part after the first
led-some : (part : Part) (word rest : List ℕ) → IsPartText part word → (b : ℕ) × ((more : List ℕ) × ((led part word ++ rest ≡ b ∷ more) × (length rest ≤ length more) × EndsName (b ∷ more)))
led-some (Name name) word rest written = (46, (word ++ rest, (refl, omega (arith, length-append word rest), record { plain = refl; tick = λ e. omega (arith, e) })))
led-some (Place n) word rest written =
    (91, ((decimal n ++ 93 ∷ []) ++ rest, (ap (λ w. w ++ rest) written.1, omega (arith, length-append (decimal n ++ 93 ∷ []) rest), record { plain = refl; tick = λ e. omega (arith, e) })))
led-some Last word rest written = (91, (45 ∷ 49 ∷ 93 ∷ rest, (ap (λ w. w ++ rest) written, omega arith, record { plain = refl; tick = λ e. omega (arith, e) })))

tail-ends : (parts : List Part) (text : List ℕ) → IsTailText parts text → EndsName text
tail-ends [] text written = subst EndsName (sym written) (record { plain = refl; tick = λ e. omega (arith, e) })
tail-ends (part ∷ parts) text written =
    let head = led-some part written.0 written.1 written.2.0 in
    subst EndsName (sym (written.2.2 ∙ head.1.1.0)) head.1.1.2

tail-accepted : (n : ℕ) (parts : List Part) (text : List ℕ) → IsTailText parts text → length text ≤ n → further n text ≡ Ok parts
tail-accepted zero [] text written enough = ap (further 0) written
tail-accepted (suc n) [] text written enough = ap (further (suc n)) written
tail-accepted zero (part ∷ parts) text written enough =
    let head = led-some part written.0 written.1 written.2.0 in
    absurd (let len = ap length (written.2.2 ∙ head.1.1.0) in omega (arith, len, enough))
tail-accepted (suc n) (part ∷ parts) text written enough =
    let word = written.0 in
    let rest = written.1 in
    let head = led-some part word rest written.2.0 in
    let cut = written.2.2 ∙ head.1.1.0 in
    let len = ap length cut in
    let short = head.1.1.1 in
    ap (further (suc n)) cut
    ∙ ap (part_and (further n)) (ap next_at (sym head.1.1.0) ∙ next-accepted part word rest written.2.0 (tail-ends parts rest written.2.1))
    ∙ ap (led_by part) (tail-accepted n parts rest written.2.1 (omega (arith, len, short, enough)))

pub written-read : (text : List ℕ) (parts : List Part) → IsTextOf parts text → parts_of text ≡ Ok parts
written-read text [] written = absurd written
written-read text (part ∷ parts) written =
    let word = written.0 in
    let rest = written.1 in
    let len = ap length written.2.2 in
    ap (part_and (further (length text))) (ap first_at written.2.2 ∙ first-accepted part word rest written.2.0 (tail-ends parts rest written.2.1))
    ∙ ap (led_by part) (tail-accepted (length text) parts rest written.2.1 (omega (arith, len, length-append word rest)))

-- The byte that a fault of a path's text names is the first at which no path goes on.
use Rattle.std.proofs.Common.{◌≡◌, ℕ, zero, suc, ◌+◌, ◌-◌, ◌<◌, ◌≤◌, ◌==◌, Bool, true, false, cond, ltb, List, [], ◌∷◌, ◌++◌, length, take, Result, Ok, Err, refl, sym, ap, ◌∙◌, subst, arith, append-nil, append_assoc, length-append}
use Rattle.std.proofs.Math.Seq.{take-append_seam, take-append-add}
use Rattle.cbt_subdoc.specs.declared.path.Part.{Part}
use Rattle.cbt_subdoc.specs.declared.path.PathFault.{PathFault}
use Rattle.cbt_subdoc.specs.declared.path.PathFault.TheVariants.{Empty, TooLong, BadAt, TooManyParts}
use Rattle.cbt_subdoc.specs.PathLimits.{max_parts}
use Rattle.cbt_subdoc.specs.Written.{GoesOn, IsFirstBad}
use Rattle.cbt_subdoc.specs.Paths.{Front, next_at, first_at, further, led_by, part_and, parts_of, counted, path_of}
use Rattle.cbt_subdoc.proofs.Accepted.{written-read}
use Rattle.cbt_subdoc.proofs.Grammar.{read-written}
use Rattle.cbt_subdoc.proofs.Shorter.{next-shorter, first-shorter}
use Rattle.cbt_subdoc.proofs.Stops.{StopsAt, first-stops, next-stops}
use Rattle.cbt_subdoc.proofs.Leaves.{Alike, Leaves, first-leaves, next-leaves}

abbrev Parts : Type 0
Parts = Result (List Part) ℕ

-- ---- the count of parts that may come does not matter where it is large enough

enough_by : (n m : ℕ) (front : Front) → ((x : Part × List ℕ) → front ≡ Ok x → further n x.1 ≡ further m x.1) → part_and (further n) front ≡ part_and (further m) front
enough_by n m (Ok x) same = ap (led_by x.0) (same x refl)
enough_by n m (Err left) same = refl

further-enough : (n m : ℕ) (text : List ℕ) → length text ≤ n → length text ≤ m → further n text ≡ further m text
further-enough zero zero [] a b = refl
further-enough zero (suc m) [] a b = refl
further-enough (suc n) zero [] a b = refl
further-enough (suc n) (suc m) [] a b = refl
further-enough zero m (c ∷ text) a b = absurd (omega (arith, a))
further-enough (suc n) zero (c ∷ text) a b = absurd (omega (arith, b))
further-enough (suc n) (suc m) (c ∷ text) a b =
    enough_by n m (next_at (c ∷ text)) (λ x e. let short = next-shorter (c ∷ text) x.1 x.0 e in further-enough n m x.1 (omega (arith, short, a)) (omega (arith, short, b)))

-- all parts of a text behind the first
abbrev tail_of : List ℕ → Parts
tail_of text = further (length text) text

tail_Ok : (text : List ℕ) (part : Part) (rest : List ℕ) → next_at text ≡ Ok (part, rest) → tail_of text ≡ led_by part (tail_of rest)
tail_Ok [] part rest e = absurd (cc)
tail_Ok (b ∷ text) part rest e =
    let short = next-shorter (b ∷ text) rest part e in
    ap (part_and (further (length text))) e ∙ ap (led_by part) (further-enough (length text) (length rest) rest (omega (arith, short)) (omega arith))

tail_Err : (text : List ℕ) (b : ℕ) (rest : List ℕ) → text ≡ b ∷ rest → (left : ℕ) → next_at text ≡ Err left → tail_of text ≡ Err left
tail_Err text b rest is left e =
    let at : next_at (b ∷ rest) ≡ Err left = subst (λ t. next_at t ≡ Err left) is e in
    ap tail_of is ∙ ap (part_and (further (length rest))) at

first_Ok : (text : List ℕ) (part : Part) (rest : List ℕ) → first_at text ≡ Ok (part, rest) → parts_of text ≡ led_by part (tail_of rest)
first_Ok text part rest e =
    let short = first-shorter text rest part e in
    ap (part_and (further (length text))) e ∙ ap (led_by part) (further-enough (length text) (length rest) rest short (omega arith))

-- ---- where all parts stop

record StopsAll (f : List ℕ → Parts) (text : List ℕ) (left : ℕ) : Type 0 where
  pub front : List ℕ
  pub tail : List ℕ
  pub cut : text ≡ front ++ tail
  pub size : length tail ≡ left
  pub goes : (rest : List ℕ) × ((parts : List Part) × (f (front ++ rest) ≡ Ok parts))
  pub never : (b : ℕ) (more rest : List ℕ) → tail ≡ b ∷ more → f (front ++ b ∷ rest) ≡ Err (length (b ∷ rest))

-- text in the midst begins alike
alike_on : (mid front : List ℕ) (b : ℕ) (more r : List ℕ) → mid ≡ front ++ b ∷ more → Alike mid (front ++ b ∷ r)
alike_on [] [] b more r cut = absurd (cc)
alike_on [] (x ∷ front) b more r cut = absurd (cc)
alike_on (c ∷ mid) [] b more r cut = cc
alike_on (c ∷ mid) (x ∷ front) b more r cut = cc

alike_front : (mid : List ℕ) (x : ℕ) (front tail r : List ℕ) → mid ≡ (x ∷ front) ++ tail → Alike mid ((x ∷ front) ++ r)
alike_front [] x front tail r cut = absurd (cc)
alike_front (c ∷ mid) x front tail r cut = cc

led_Ok : (part : Part) (r : Parts) (left : ℕ) → led_by part r ≡ Err left → r ≡ Err left
led_Ok part (Ok ps) left e = absurd (cc)
led_Ok part (Err k) left e = cc

-- bytes that go on behind a part
behind_goes : (f : List ℕ → Front) (g : List ℕ → Parts) (word mid : List ℕ) (part : Part) → ((t : List ℕ) (r : List ℕ) → f t ≡ Ok (part, r) → g t ≡ led_by part (tail_of r))
    → ((r : List ℕ) → Alike mid r → f (word ++ r) ≡ Ok (part, r)) → (front tail : List ℕ) → mid ≡ front ++ tail
    → (rest : List ℕ) × ((parts : List Part) × (tail_of (front ++ rest) ≡ Ok parts)) → (rest : List ℕ) × ((parts : List Part) × (g ((word ++ front) ++ rest) ≡ Ok parts))
behind_goes f g word mid part whole local [] tail cut goes =
    ([], (part ∷ [], ap g (append-nil (word ++ []) ∙ refl) ∙ whole (word ++ []) [] (local [] tt)))
behind_goes f g word mid part whole local (x ∷ front) tail cut goes =
    let r = (x ∷ front) ++ goes.0 in
    (goes.0, (part ∷ goes.1.0, ap g (append_assoc word (x ∷ front) goes.0) ∙ whole (word ++ r) r (local r (alike_front mid x front tail goes.0 cut)) ∙ ap (led_by part) goes.1.1))

behind : (f : List ℕ → Front) (g : List ℕ → Parts) (text mid : List ℕ) (part : Part) (left : ℕ) → ((t : List ℕ) (r : List ℕ) → f t ≡ Ok (part, r) → g t ≡ led_by part (tail_of r))
    → Leaves f text part mid → StopsAll tail_of mid left → StopsAll g text left
behind f g text mid part left whole l s = record {
  front = l.word ++ s.front;
  tail = s.tail;
  cut = l.cut ∙ ap (λ t. l.word ++ t) s.cut ∙ sym (append_assoc l.word s.front s.tail);
  size = s.size;
  goes = behind_goes f g l.word mid part whole l.local s.front s.tail s.cut s.goes;
  never = λ b more r e.
      (let mid-is : mid ≡ s.front ++ b ∷ more = s.cut ∙ ap (λ t. s.front ++ t) e in
      let t = s.front ++ b ∷ r in
      ap g (append_assoc l.word s.front (b ∷ r)) ∙ whole (l.word ++ t) t (l.local t (alike_on mid s.front b more r mid-is)) ∙ ap (led_by part) (s.never b more r e));
}

some_front : (front : List ℕ) (b : ℕ) (r : List ℕ) → (c : ℕ) × ((rest : List ℕ) × (front ++ b ∷ r ≡ c ∷ rest))
some_front [] b r = (b, (r, refl))
some_front (x ∷ front) b r = (x, (front ++ b ∷ r, refl))

tail_here : (b : ℕ) (text : List ℕ) (left : ℕ) → StopsAt next_at (b ∷ text) left → StopsAll tail_of (b ∷ text) left
tail_here b text left s = record {
  front = s.front;
  tail = s.tail;
  cut = s.cut;
  size = s.size;
  goes = (s.goes.0, (s.goes.1.0 ∷ [], tail_Ok (s.front ++ s.goes.0) s.goes.1.0 [] s.goes.1.1));
  never = λ c more r e. (let some = some_front s.front c r in tail_Err (s.front ++ c ∷ r) some.0 some.1.0 some.1.1 (length (c ∷ r)) (s.never c more r e));
}

tail_by : (n : ℕ) (b : ℕ) (text : List ℕ) (left : ℕ) (front : Front) → next_at (b ∷ text) ≡ front → length text ≤ n
    → ((mid : List ℕ) → length mid ≤ n → further n mid ≡ Err left → StopsAll tail_of mid left) → part_and (further n) front ≡ Err left → StopsAll tail_of (b ∷ text) left
tail_by n b text left (Ok x) is enough inner e =
    let short = next-shorter (b ∷ text) x.1 x.0 is in
    behind next_at tail_of (b ∷ text) x.1 x.0 left (λ t r f. tail_Ok t x.0 r f) (next-leaves (b ∷ text) x.0 x.1 is) (inner x.1 (omega (arith, short, enough)) (led_Ok x.0 (further n x.1) left e))
tail_by n b text left (Err k) is enough inner e = let same : k ≡ left = cc in tail_here b text left (next-stops (b ∷ text) left (is ∙ ap Err same))

tail-stops : (n : ℕ) (text : List ℕ) (left : ℕ) → length text ≤ n → further n text ≡ Err left → StopsAll tail_of text left
tail-stops zero [] left enough e = absurd (cc)
tail-stops (suc n) [] left enough e = absurd (cc)
tail-stops zero (b ∷ text) left enough e = absurd (omega (arith, enough))
tail-stops (suc n) (b ∷ text) left enough e = tail_by n b text left (next_at (b ∷ text)) refl (omega (arith, enough)) (λ mid few f. tail-stops n mid left few f) e

first_by : (text : List ℕ) (left : ℕ) (front : Front) → first_at text ≡ front → part_and (further (length text)) front ≡ Err left → StopsAll parts_of text left
first_by text left (Ok x) is e =
    let short = first-shorter text x.1 x.0 is in
    behind first_at parts_of text x.1 x.0 left (λ t r f. first_Ok t x.0 r f) (first-leaves text x.0 x.1 is) (tail-stops (length text) x.1 left short (led_Ok x.0 (further (length text) x.1) left e))
first_by text left (Err k) is e =
    let same : k ≡ left = cc in
    let s = first-stops text left (is ∙ ap Err same) in
    record {
      front = s.front;
      tail = s.tail;
      cut = s.cut;
      size = s.size;
      goes = (s.goes.0, (s.goes.1.0 ∷ [], first_Ok (s.front ++ s.goes.0) s.goes.1.0 [] s.goes.1.1));
      never = λ c more r f. ap (part_and (further (length (s.front ++ c ∷ r)))) (s.never c more r f);
    }

parts-stop : (text : List ℕ) (left : ℕ) → parts_of text ≡ Err left → StopsAll parts_of text left
parts-stop text left e = first_by text left (first_at text) refl e

pub left-within : (text : List ℕ) (left : ℕ) → parts_of text ≡ Err left → left ≤ length text
left-within text left e =
    let s = parts-stop text left e in
    let cut = ap length s.cut in
    let size : length s.tail ≡ left = s.size in
    omega (arith, cut, size, length-append s.front s.tail)

-- ---- so a fault names the first bad byte

after_by : (front tail : List ℕ) → 0 < length tail → ((b : ℕ) (more rest : List ℕ) → tail ≡ b ∷ more → parts_of (front ++ b ∷ rest) ≡ Err (length (b ∷ rest)))
    → ¬ (GoesOn (take (suc (length front)) (front ++ tail)))
after_by front [] some never on = absurd (omega arith)
after_by front (b ∷ more) some never on =
    let n : suc (length front) ≡ length front + 1 = omega arith in
    let begun : take (suc (length front)) (front ++ b ∷ more) ≡ front ++ b ∷ [] = ap (λ k. take k (front ++ b ∷ more)) n ∙ take-append-add front (b ∷ more) 1 in
    let whole : (take (suc (length front)) (front ++ b ∷ more)) ++ on.0 ≡ front ++ b ∷ on.0 = ap (λ t. t ++ on.0) begun ∙ append_assoc front (b ∷ []) on.0 in
    let stops = never b more on.0 refl in
    let goes = written-read _ on.1.0 on.1.1 in
    let same = ap parts_of whole in
    cc

first-bad : (text : List ℕ) (left : ℕ) → parts_of text ≡ Err left → IsFirstBad text (length text - left)
first-bad text left e =
    let s = parts-stop text left e in
    let lens = ap length s.cut in
    let size : length s.tail ≡ left = s.size in
    let at : length text - left ≡ length s.front = omega (arith, lens, size, length-append s.front s.tail) in
    let cut : text ≡ s.front ++ s.tail = s.cut in
    subst (λ n. IsFirstBad text n) (sym at)
    (record {
      within = omega (arith, lens, length-append s.front s.tail);
      before =
          subst GoesOn (sym (ap (take (length s.front)) cut ∙ take-append_seam s.front s.tail))
          (s.goes.0, (s.goes.1.0, read-written (s.front ++ s.goes.0) s.goes.1.0 s.goes.1.1));
      after = λ more. subst (λ t. ¬ (GoesOn (take (suc (length s.front)) t))) (sym cut) (after_by s.front s.tail (omega (arith, more, lens, length-append s.front s.tail)) s.never);
    })

abbrev BadOf : ℕ → List ℕ → Result (List Part) PathFault → Type 0
BadOf at text (Err (BadAt n)) = n ≡ at → IsFirstBad text at
BadOf at text _ = Unit {0}

counted_by : (at : ℕ) (text : List ℕ) (r : Parts) → parts_of text ≡ r → BadOf at text (counted (length text) r)
counted_by at text (Ok parts) is = few_by (ltb max_parts (length parts))
  where
    few_by : (t : Bool) → BadOf at text (cond t (Err (TooManyParts (length parts))) (Ok parts))
    few_by true = tt
    few_by false = tt
counted_by at text (Err left) is = λ n. subst (IsFirstBad text) n (first-bad text left is)

path_by : (at : ℕ) (text : List ℕ) (t u : Bool) → BadOf at text (cond t (Err Empty) (cond u (Err (TooLong (length text))) (counted (length text) (parts_of text))))
path_by at text true u = tt
path_by at text false true = tt
path_by at text false false = counted_by at text (parts_of text) refl

pub BadAt-first : (text : List ℕ) (at : ℕ) → path_of text ≡ Err (BadAt at) → IsFirstBad text at
BadAt-first text at e = subst (BadOf at text) e (path_by at text (length text == 0) (ltb 1024 (length text))) refl

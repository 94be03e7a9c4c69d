-- What is read of a path's text is a front of it that has bytes.
use Rattle.std.proofs.Common.{◌≡◌, ℕ, zero, suc, ◌+◌, ◌-◌, ◌*◌, ◌<◌, ◌≤◌, ◌==◌, Bool, true, false, cond, List, [], ◌∷◌, ◌++◌, length, Option, Some, None, Result, Ok, Err, refl, sym, ap, ◌∙◌, arith, append_assoc, append-nil, length-drop}
use Rattle.std.specs.List.{prefix_len}
use Rattle.std.specs.Char.{is_ascii_digit}
use Rattle.cbt_subdoc.specs.declared.path.Part.{Part}
use Rattle.cbt_subdoc.specs.declared.path.Part.TheVariants.{Place, Last}
use Rattle.cbt_subdoc.specs.Paths.{Front, closed, digits, may_follow, last_place, place_at, is_plain, plain_name, prepended, quoted, quoted_name, name_at, next_at, first_at, further, led_by, part_and}

-- what a reading leaves is no longer than this
abbrev pub LeavesAtMost : ℕ → Front → Type 0
LeavesAtMost n (Ok x) = length x.1 ≤ n
LeavesAtMost n (Err left) = Unit {0}

either : (n : ℕ) (t : Bool) (f g : Front) → LeavesAtMost n f → LeavesAtMost n g → LeavesAtMost n (cond t f g)
either n true f g first second = first
either n false f g first second = second

weaker : (n m : ℕ) (f : Front) → n ≤ m → LeavesAtMost n f → LeavesAtMost m f
weaker n m (Ok x) le few = omega arith
weaker n m (Err left) le few = tt

leaves-closed : (part : Part) (text : List ℕ) → LeavesAtMost (length text) (closed part text)
leaves-closed part [] = tt
leaves-closed part (b ∷ rest) = either _ (b == 93) _ _ (omega arith) tt

leaves-digits : (n : ℕ) (text : List ℕ) → LeavesAtMost (length text) (digits n text)
leaves-digits n [] = tt
leaves-digits n (b ∷ rest) =
    either _ (may_follow n b) _ _ (weaker _ _ (digits (n * 10 + (b - 48)) rest) (omega arith) (leaves-digits (n * 10 + (b - 48)) rest)) (leaves-closed (Place n) (b ∷ rest))

leaves-last : (text : List ℕ) → LeavesAtMost (length text) (last_place text)
leaves-last [] = tt
leaves-last (b ∷ rest) = either _ (b == 49) _ _ (weaker _ _ (closed Last rest) (omega arith) (leaves-closed Last rest)) tt

leaves-place : (text : List ℕ) → LeavesAtMost (length text) (place_at text)
leaves-place [] = tt
leaves-place (b ∷ rest) =
    either _ (b == 45) _ _ (weaker _ _ (last_place rest) (omega arith) (leaves-last rest))
    (either _ (b == 48) _ _ (weaker _ _ (closed (Place 0) rest) (omega arith) (leaves-closed (Place 0) rest))
    (either _ (is_ascii_digit b) _ _ (weaker _ _ (digits (b - 48) rest) (omega arith) (leaves-digits (b - 48) rest)) tt))

-- what a name between backticks leaves
abbrev LeavesBehind : ℕ → Option (List ℕ × List ℕ) → Type 0
LeavesBehind n None = Unit {0}
LeavesBehind n (Some x) = length x.1 ≤ n

either_name : (n : ℕ) (t : Bool) (f g : Option (List ℕ × List ℕ)) → LeavesBehind n f → LeavesBehind n g → LeavesBehind n (cond t f g)
either_name n true f g first second = first
either_name n false f g first second = second

longer : (n m b : ℕ) (o : Option (List ℕ × List ℕ)) → n ≤ m → LeavesBehind n o → LeavesBehind m (prepended b o)
longer n m b None le few = tt
longer n m b (Some x) le few = omega arith

leaves-quoted : (text : List ℕ) → LeavesBehind (length text) (quoted text)
leaves-quoted [] = tt
leaves-quoted (b ∷ []) = either_name _ (b == 96) _ _ (omega arith) tt
leaves-quoted (b ∷ c ∷ rest) =
    either_name _ (b == 96) _ _
    (either_name _ (c == 96) _ _ (longer _ _ 96 (quoted rest) (omega arith) (leaves-quoted rest)) (omega arith))
    (longer _ _ b (quoted (c ∷ rest)) (omega arith) (leaves-quoted (c ∷ rest)))

leaves-quoted_name : (n : ℕ) (o : Option (List ℕ × List ℕ)) → LeavesBehind n o → LeavesAtMost n (quoted_name o)
leaves-quoted_name n None few = tt
leaves-quoted_name n (Some x) few = few

leaves-plain : (len : ℕ) (text : List ℕ) → LeavesAtMost (length text) (plain_name len text)
leaves-plain len text = either _ (len == 0) _ _ tt (omega (arith, length-drop len text))

leaves-name : (text : List ℕ) → LeavesAtMost (length text) (name_at text)
leaves-name [] = tt
leaves-name (b ∷ rest) =
    either _ (b == 96) _ _ (weaker (length rest) _ (quoted_name (quoted rest)) (omega arith) (leaves-quoted_name _ (quoted rest) (leaves-quoted rest)))
    (leaves-plain (prefix_len is_plain (b ∷ rest)) (b ∷ rest))

-- a part after the first is led by a byte
leaves-next : (b : ℕ) (rest : List ℕ) → LeavesAtMost (length rest) (next_at (b ∷ rest))
leaves-next b rest = either _ (b == 46) _ _ (leaves-name rest) (either _ (b == 91) _ _ (leaves-place rest) tt)

at_ok : (n : ℕ) (f : Front) (x : Part × List ℕ) → f ≡ Ok x → LeavesAtMost n f → length x.1 ≤ n
at_ok n (Ok y) x e few = let same : y ≡ x = cc in omega (arith, ap (λ (z : Part × List ℕ). length z.1) same)
at_ok n (Err left) x e few = absurd (cc)

pub next-shorter : (text behind : List ℕ) (part : Part) → next_at text ≡ Ok (part, behind) → length behind < length text
next-shorter [] behind part e = absurd (cc)
next-shorter (b ∷ rest) behind part e = let few = at_ok (length rest) (next_at (b ∷ rest)) (part, behind) e (leaves-next b rest) in omega (arith, few)

pub first-shorter : (text behind : List ℕ) (part : Part) → first_at text ≡ Ok (part, behind) → length behind ≤ length text
first-shorter [] behind part e = absurd (cc)
first-shorter (b ∷ rest) behind part e =
    at_ok (length (b ∷ rest)) (first_at (b ∷ rest)) (part, behind) e
    (either _ (b == 91) _ _ (weaker _ _ (place_at rest) (omega arith) (leaves-place rest)) (leaves-name (b ∷ rest)))

-- ---- the parts of a whole text, read one after another

-- a reading with parts that were read before
abbrev pub after_parts : List Part → Result (List Part) ℕ → Result (List Part) ℕ
after_parts parts (Ok more) = Ok (parts ++ more)
after_parts parts (Err left) = Err left

-- the parts so far, and a reading of the rest with as many parts as it may need
pub record StandsBefore (whole : Result (List Part) ℕ) (parts : List Part) (rest : List ℕ) : Type 0 where
  pub most : ℕ
  pub enough : length rest ≤ most
  pub same : whole ≡ after_parts parts (further most rest)

after-led : (parts : List Part) (part : Part) (r : Result (List Part) ℕ) → after_parts parts (led_by part r) ≡ after_parts (parts ++ part ∷ []) r
after-led parts part (Ok more) = ap Ok (sym (append_assoc parts (part ∷ []) more))
after-led parts part (Err left) = refl

after-none : (r : Result (List Part) ℕ) → after_parts [] r ≡ r
after-none (Ok more) = refl
after-none (Err left) = refl

pub stands-first : (text behind : List ℕ) (part : Part) (start parts : List Part) → first_at text ≡ Ok (part, behind) → start ≡ [] → parts ≡ start ++ part ∷ []
    → StandsBefore (part_and (further (length text)) (first_at text)) parts behind
stands-first text behind part start parts e none made = record {
  most = length text;
  enough = first-shorter text behind part e;
  same =
      ap (part_and (further (length text))) e
      ∙ sym (after-none _) ∙ after-led [] part (further (length text) behind) ∙ ap (λ ps. after_parts ps (further (length text) behind)) (sym (made ∙ ap (λ s. s ++ part ∷ []) none));
}

further-next : (n : ℕ) (rest : List ℕ) → 0 < length rest → length rest ≤ n → (m : ℕ) × (n ≡ suc m) × (further n rest ≡ part_and (further m) (next_at rest))
further-next n [] some enough = absurd (omega arith)
further-next zero (b ∷ rest) some enough = absurd (omega arith)
further-next (suc m) (b ∷ rest) some enough = (m, refl, refl)

pub stands-next : (whole : Result (List Part) ℕ) (parts more : List Part) (rest behind : List ℕ) (part : Part) → StandsBefore whole parts rest → 0 < length rest
    → next_at rest ≡ Ok (part, behind) → more ≡ parts ++ part ∷ [] → StandsBefore whole more behind
stands-next whole parts more rest behind part before some e made =
    let step = further-next before.most rest some before.enough in
    let short = next-shorter rest behind part e in
    let n-is : before.most ≡ suc step.0 = step.1 in
    let enough : length rest ≤ before.most = before.enough in
    record {
      most = step.0;
      enough = omega arith;
      same =
          before.same ∙ ap (after_parts parts) (step.2 ∙ ap (part_and (further step.0)) e)
          ∙ after-led parts part (further step.0 behind) ∙ ap (λ ps. after_parts ps (further step.0 behind)) (sym made);
    }

-- a reading that stops at the next part
pub stands-stuck : (whole : Result (List Part) ℕ) (parts : List Part) (rest : List ℕ) (left : ℕ) → StandsBefore whole parts rest → 0 < length rest
    → next_at rest ≡ Err left → whole ≡ Err left
stands-stuck whole parts rest left before some e =
    let step = further-next before.most rest some before.enough in
    before.same ∙ ap (after_parts parts) (step.2 ∙ ap (part_and (further step.0)) e)

further-none : (n : ℕ) → further n [] ≡ Ok []
further-none zero = refl
further-none (suc n) = refl

-- a reading that comes to the text's end
pub stands-done : (whole : Result (List Part) ℕ) (parts : List Part) (rest : List ℕ) → StandsBefore whole parts rest → length rest ≤ 0 → whole ≡ Ok parts
stands-done whole parts [] before done = before.same ∙ ap (after_parts parts) (further-none before.most) ∙ ap Ok (append-nil parts)
stands-done whole parts (b ∷ rest) before done = absurd (omega arith)

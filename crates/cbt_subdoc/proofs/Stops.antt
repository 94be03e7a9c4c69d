-- Where the reading of a part stops: the bytes before can be gone on with, and no byte after changes it.
use Rattle.std.proofs.Common.{◌≡◌, ℕ, ◌+◌, ◌-◌, ◌*◌, ◌==◌, Bool, true, false, cond, List, [], ◌∷◌, ◌++◌, length, take, drop, Option, Some, None, Ok, Err, refl, sym, ap, ◌∙◌, subst, arith, append-nil}
use Rattle.std.proofs.lemmas.Bool.{ne_eqb}
use Rattle.std.specs.List.{prefix_len}
use Rattle.std.specs.Char.{is_ascii_digit}
use Rattle.cbt_subdoc.specs.declared.path.Part.{Part}
use Rattle.cbt_subdoc.specs.declared.path.Part.TheVariants.{Name, Place, Last}
use Rattle.cbt_subdoc.proofs.Quotes.{quoted-plain}
use Rattle.cbt_subdoc.specs.Paths.{Front, stuck, closed, digits, may_follow, last_place, place_at, is_plain, plain_name, prepended, quoted, quoted_name, name_at, next_at, first_at}

abbrev pub Reader : Type 0
Reader = List ℕ → Front

-- a text that a reader takes whole
abbrev pub IsTaken : Reader → List ℕ → Type 0
IsTaken f text = (part : Part) × (f text ≡ Ok (part, []))

-- bytes with which a text that it takes can begin
abbrev pub CanGoOn : Reader → List ℕ → Type 0
CanGoOn f front = (rest : List ℕ) × IsTaken f (front ++ rest)

-- a reader that stops with this many bytes left
pub record StopsAt (f : Reader) (text : List ℕ) (left : ℕ) : Type 0 where
  pub front : List ℕ
  pub tail : List ℕ
  pub cut : text ≡ front ++ tail
  pub size : length tail ≡ left
  pub goes : CanGoOn f front
  pub never : (b : ℕ) (more rest : List ℕ) → tail ≡ b ∷ more → f (front ++ b ∷ rest) ≡ stuck (b ∷ rest)

at_end : (f : Reader) (left : ℕ) → CanGoOn f [] → ◌≡◌ {A = Front} (Err 0) (Err left) → StopsAt f [] left
at_end f left goes e = record { front = []; tail = []; cut = refl; size = (let same : 0 ≡ left = cc in same); goes = goes; never = λ b more rest clash. absurd (cc) }

at_first : (f : Reader) (b : ℕ) (rest : List ℕ) (left : ℕ) → CanGoOn f [] → ((r : List ℕ) → f (b ∷ r) ≡ stuck (b ∷ r)) → stuck (b ∷ rest) ≡ Err left → StopsAt f (b ∷ rest) left
at_first f b rest left goes stays e = record {
  front = [];
  tail = b ∷ rest;
  cut = refl;
  size = (let same : length (b ∷ rest) ≡ left = cc in same);
  goes = goes;
  never = λ c more r first. (let same : b ≡ c = cc in subst (λ x. f (x ∷ r) ≡ stuck (x ∷ r)) same (stays r));
}

later : (f g : Reader) (b : ℕ) (text : List ℕ) (left : ℕ) → ((r : List ℕ) → f (b ∷ r) ≡ g r) → StopsAt g text left → StopsAt f (b ∷ text) left
later f g b text left step s = record {
  front = b ∷ s.front;
  tail = s.tail;
  cut = ap (λ t. b ∷ t) s.cut;
  size = s.size;
  goes = (s.goes.0, (s.goes.1.0, step (s.front ++ s.goes.0) ∙ s.goes.1.1));
  never = λ c more r first. step (s.front ++ c ∷ r) ∙ s.never c more r first;
}

as_by : (f g : Reader) (b : ℕ) (rest : List ℕ) (left : ℕ) → ((r : List ℕ) → f (b ∷ r) ≡ g (b ∷ r)) → CanGoOn f [] → (front tail : List ℕ) → b ∷ rest ≡ front ++ tail → length tail ≡ left
    → CanGoOn g front → ((c : ℕ) (more r : List ℕ) → tail ≡ c ∷ more → g (front ++ c ∷ r) ≡ stuck (c ∷ r)) → StopsAt f (b ∷ rest) left
as_by f g b rest left step goes [] tail cut size further never = record {
  front = [];
  tail = tail;
  cut = cut;
  size = size;
  goes = goes;
  never = λ c more r first. (let same : b ≡ c = cc in subst (λ x. f (x ∷ r) ≡ g (x ∷ r)) same (step r) ∙ never c more r first);
}
as_by f g b rest left step goes (x ∷ front) tail cut size further never =
    let same : b ≡ x = cc in
    let on : (r : List ℕ) → f (x ∷ r) ≡ g (x ∷ r) = subst (λ y. (r : List ℕ) → f (y ∷ r) ≡ g (y ∷ r)) same step in
    record {
      front = x ∷ front;
      tail = tail;
      cut = cut;
      size = size;
      goes = (further.0, (further.1.0, on (front ++ further.0) ∙ further.1.1));
      never = λ c more r first. on (front ++ c ∷ r) ∙ never c more r first;
    }

as_other : (f g : Reader) (b : ℕ) (rest : List ℕ) (left : ℕ) → ((r : List ℕ) → f (b ∷ r) ≡ g (b ∷ r)) → CanGoOn f [] → StopsAt g (b ∷ rest) left → StopsAt f (b ∷ rest) left
as_other f g b rest left step goes s = as_by f g b rest left step goes s.front s.tail s.cut s.size s.goes s.never

-- ---- places

closed_by : (part : Part) (b : ℕ) (rest : List ℕ) (left : ℕ) (t : Bool) → (b == 93) ≡ t → cond t (Ok (part, rest)) (stuck (b ∷ rest)) ≡ Err left → StopsAt (closed part) (b ∷ rest) left
closed_by part b rest left true is e = absurd (cc)
closed_by part b rest left false is e = at_first (closed part) b rest left (93 ∷ [], (part, refl)) (λ r. ap (λ t. cond t (Ok (part, r)) (stuck (b ∷ r))) is) e

closed-stops : (part : Part) (text : List ℕ) (left : ℕ) → closed part text ≡ Err left → StopsAt (closed part) text left
closed-stops part [] left e = at_end (closed part) left (93 ∷ [], (part, refl)) e
closed-stops part (b ∷ rest) left e = closed_by part b rest left (b == 93) refl e

digits_by : (n b : ℕ) (rest : List ℕ) (left : ℕ) (t u : Bool) → may_follow n b ≡ t → (b == 93) ≡ u
    → (digits (n * 10 + (b - 48)) rest ≡ Err left → StopsAt (digits (n * 10 + (b - 48))) rest left)
    → cond t (digits (n * 10 + (b - 48)) rest) (cond u (Ok (Place n, rest)) (stuck (b ∷ rest))) ≡ Err left → StopsAt (digits n) (b ∷ rest) left
digits_by n b rest left true u is end further e =
    later (digits n) (digits (n * 10 + (b - 48))) b rest left (λ r. ap (λ t. cond t (digits (n * 10 + (b - 48)) r) (closed (Place n) (b ∷ r))) is) (further e)
digits_by n b rest left false true is end further e = absurd (cc)
digits_by n b rest left false false is end further e =
    at_first (digits n) b rest left (93 ∷ [], (Place n, refl))
    (λ r. ap (λ t. cond t (digits (n * 10 + (b - 48)) r) (closed (Place n) (b ∷ r))) is ∙ ap (λ t. cond t (Ok (Place n, r)) (stuck (b ∷ r))) end) e

digits-stops : (n : ℕ) (text : List ℕ) (left : ℕ) → digits n text ≡ Err left → StopsAt (digits n) text left
digits-stops n [] left e = at_end (digits n) left (93 ∷ [], (Place n, refl)) e
digits-stops n (b ∷ rest) left e = digits_by n b rest left (may_follow n b) (b == 93) refl refl (digits-stops (n * 10 + (b - 48)) rest left) e

last_by : (b : ℕ) (rest : List ℕ) (left : ℕ) (t : Bool) → (b == 49) ≡ t → cond t (closed Last rest) (stuck (b ∷ rest)) ≡ Err left → StopsAt last_place (b ∷ rest) left
last_by b rest left true is e = later last_place (closed Last) b rest left (λ r. ap (λ t. cond t (closed Last r) (stuck (b ∷ r))) is) (closed-stops Last rest left e)
last_by b rest left false is e = at_first last_place b rest left (49 ∷ 93 ∷ [], (Last, refl)) (λ r. ap (λ t. cond t (closed Last r) (stuck (b ∷ r))) is) e

last-stops : (text : List ℕ) (left : ℕ) → last_place text ≡ Err left → StopsAt last_place text left
last-stops [] left e = at_end last_place left (49 ∷ 93 ∷ [], (Last, refl)) e
last-stops (b ∷ rest) left e = last_by b rest left (b == 49) refl e

-- what stands behind the opening bracket, by the tests of the first byte
abbrev pub place_cases : Bool → Bool → Bool → ℕ → List ℕ → Front
place_cases minus nought digit b rest = cond minus (last_place rest) (cond nought (closed (Place 0) rest) (cond digit (digits (b - 48) rest) (stuck (b ∷ rest))))

pub place_step : (minus nought digit : Bool) (b : ℕ) → (b == 45) ≡ minus → (b == 48) ≡ nought → is_ascii_digit b ≡ digit → (r : List ℕ) → place_at (b ∷ r) ≡ place_cases minus nought digit b r
place_step minus nought digit b m z d r =
    ap (λ t. place_cases t (b == 48) (is_ascii_digit b) b r) m ∙ ap (λ t. place_cases minus t (is_ascii_digit b) b r) z ∙ ap (λ t. place_cases minus nought t b r) d

place_by : (b : ℕ) (rest : List ℕ) (left : ℕ) (minus nought digit : Bool) → (b == 45) ≡ minus → (b == 48) ≡ nought → is_ascii_digit b ≡ digit
    → place_cases minus nought digit b rest ≡ Err left → StopsAt place_at (b ∷ rest) left
place_by b rest left true nought digit m z d e = later place_at last_place b rest left (place_step true nought digit b m z d) (last-stops rest left e)
place_by b rest left false true digit m z d e = later place_at (closed (Place 0)) b rest left (place_step false true digit b m z d) (closed-stops (Place 0) rest left e)
place_by b rest left false false true m z d e = later place_at (digits (b - 48)) b rest left (place_step false false true b m z d) (digits-stops (b - 48) rest left e)
place_by b rest left false false false m z d e = at_first place_at b rest left (48 ∷ 93 ∷ [], (Place 0, refl)) (place_step false false false b m z d) e

place-stops : (text : List ℕ) (left : ℕ) → place_at text ≡ Err left → StopsAt place_at text left
place-stops [] left e = at_end place_at left (48 ∷ 93 ∷ [], (Place 0, refl)) e
place-stops (b ∷ rest) left e = place_by b rest left (b == 45) (b == 48) (is_ascii_digit b) refl refl refl e

-- ---- names

-- a name without its closing backtick ends with one
abbrev Ended : Option (List ℕ × List ℕ) → Type 0
Ended o = (name : List ℕ) × (o ≡ Some (name, []))

ended_on : (b : ℕ) (o : Option (List ℕ × List ℕ)) → Ended o → Ended (prepended b o)
ended_on b o ended = (b ∷ ended.0, ap (prepended b) ended.1)

none_on : (b : ℕ) (o : Option (List ℕ × List ℕ)) → prepended b o ≡ None → o ≡ None
none_on b None e = refl
none_on b (Some x) e = absurd (cc)

one_by : (b : ℕ) (t : Bool) → (b == 96) ≡ t → ◌≡◌ {A = Option (List ℕ × List ℕ)} (cond t (Some ([], [])) None) None → Ended (quoted (b ∷ 96 ∷ []))
one_by b true is e = absurd (cc)
one_by b false is e = (b ∷ [], quoted-plain b (96 ∷ []) (λ z. let clash : (b == 96) ≡ true = ap (λ y. y == 96) z in cc))

two_by : (b c : ℕ) (rest : List ℕ) (t u : Bool) → (b == 96) ≡ t → (c == 96) ≡ u → (quoted rest ≡ None → Ended (quoted (rest ++ 96 ∷ []))) → (quoted (c ∷ rest) ≡ None → Ended (quoted (c ∷ rest ++ 96 ∷ [])))
    → cond t (cond u (prepended 96 (quoted rest)) (Some ([], c ∷ rest))) (prepended b (quoted (c ∷ rest))) ≡ None
    → Ended (cond t (cond u (prepended 96 (quoted (rest ++ 96 ∷ []))) (Some ([], c ∷ rest ++ 96 ∷ []))) (prepended b (quoted (c ∷ rest ++ 96 ∷ []))))
two_by b c rest true true is next inner tail e = ended_on 96 (quoted (rest ++ 96 ∷ [])) (inner (none_on 96 (quoted rest) e))
two_by b c rest true false is next inner tail e = absurd (cc)
two_by b c rest false u is next inner tail e = ended_on b (quoted (c ∷ rest ++ 96 ∷ [])) (tail (none_on b (quoted (c ∷ rest)) e))

quoted-goes : (text : List ℕ) → quoted text ≡ None → Ended (quoted (text ++ 96 ∷ []))
quoted-goes [] e = ([], refl)
quoted-goes (b ∷ []) e = one_by b (b == 96) refl e
quoted-goes (b ∷ c ∷ rest) e = two_by b c rest (b == 96) (c == 96) refl refl (quoted-goes rest) (quoted-goes (c ∷ rest)) e

abbrev pub in_backticks : Reader
in_backticks text = quoted_name (quoted text)

quoted_by : (text : List ℕ) (left : ℕ) (o : Option (List ℕ × List ℕ)) → quoted text ≡ o → quoted_name o ≡ Err left → StopsAt in_backticks text left
quoted_by text left (Some x) is e = absurd (cc)
quoted_by text left None is e =
    let ended = quoted-goes text is in record {
      front = text;
      tail = [];
      cut = sym (append-nil text);
      size = (let same : 0 ≡ left = cc in same);
      goes = (96 ∷ [], (Name ended.0, ap quoted_name ended.1));
      never = λ b more rest clash. absurd (cc);
    }

name_by : (b : ℕ) (rest : List ℕ) (left : ℕ) (t u : Bool) → (b == 96) ≡ t → is_plain b ≡ u
    → cond t (quoted_name (quoted rest)) (plain_name (cond u (1 + prefix_len is_plain rest) 0) (b ∷ rest)) ≡ Err left → StopsAt name_at (b ∷ rest) left
name_by b rest left true u is plain e =
    later name_at in_backticks b rest left (λ r. ap (λ t. cond t (quoted_name (quoted r)) (plain_name (prefix_len is_plain (b ∷ r)) (b ∷ r))) is) (quoted_by rest left (quoted rest) refl e)
name_by b rest left false true is plain e = absurd (let some : (1 + prefix_len is_plain rest == 0) ≡ false = ne_eqb (1 + prefix_len is_plain rest) 0 (λ z. omega (arith, z)) in
    let made = ap (λ t. cond t (stuck (b ∷ rest)) (Ok (Name (take (1 + prefix_len is_plain rest) (b ∷ rest)), drop (1 + prefix_len is_plain rest) (b ∷ rest)))) some in cc)
name_by b rest left false false is plain e =
    at_first name_at b rest left (97 ∷ [], (Name (97 ∷ []), refl))
    (λ r. ap (λ t. cond t (quoted_name (quoted r)) (plain_name (prefix_len is_plain (b ∷ r)) (b ∷ r))) is ∙ ap (λ t. plain_name (cond t (1 + prefix_len is_plain r) 0) (b ∷ r)) plain) e

name-stops : (text : List ℕ) (left : ℕ) → name_at text ≡ Err left → StopsAt name_at text left
name-stops [] left e = at_end name_at left (97 ∷ [], (Name (97 ∷ []), refl)) e
name-stops (b ∷ rest) left e = name_by b rest left (b == 96) (is_plain b) refl refl e

-- ---- parts

first_by : (b : ℕ) (rest : List ℕ) (left : ℕ) (t : Bool) → (b == 91) ≡ t → cond t (place_at rest) (name_at (b ∷ rest)) ≡ Err left → StopsAt first_at (b ∷ rest) left
first_by b rest left true is e = later first_at place_at b rest left (λ r. ap (λ t. cond t (place_at r) (name_at (b ∷ r))) is) (place-stops rest left e)
first_by b rest left false is e =
    as_other first_at name_at b rest left (λ r. ap (λ t. cond t (place_at r) (name_at (b ∷ r))) is) (97 ∷ [], (Name (97 ∷ []), refl)) (name-stops (b ∷ rest) left e)

pub first-stops : (text : List ℕ) (left : ℕ) → first_at text ≡ Err left → StopsAt first_at text left
first-stops [] left e = at_end first_at left (97 ∷ [], (Name (97 ∷ []), refl)) e
first-stops (b ∷ rest) left e = first_by b rest left (b == 91) refl e

next_by : (b : ℕ) (rest : List ℕ) (left : ℕ) (t u : Bool) → (b == 46) ≡ t → (b == 91) ≡ u → cond t (name_at rest) (cond u (place_at rest) (stuck (b ∷ rest))) ≡ Err left
    → StopsAt next_at (b ∷ rest) left
next_by b rest left true u dot bracket e =
    later next_at name_at b rest left (λ r. ap (λ t. cond t (name_at r) (cond (b == 91) (place_at r) (stuck (b ∷ r)))) dot) (name-stops rest left e)
next_by b rest left false true dot bracket e =
    later next_at place_at b rest left
    (λ r. ap (λ t. cond t (name_at r) (cond (b == 91) (place_at r) (stuck (b ∷ r)))) dot ∙ ap (λ t. cond t (place_at r) (stuck (b ∷ r))) bracket) (place-stops rest left e)
next_by b rest left false false dot bracket e =
    at_first next_at b rest left (91 ∷ 48 ∷ 93 ∷ [], (Place 0, refl))
    (λ r. ap (λ t. cond t (name_at r) (cond (b == 91) (place_at r) (stuck (b ∷ r)))) dot ∙ ap (λ t. cond t (place_at r) (stuck (b ∷ r))) bracket) e

pub next-stops : (text : List ℕ) (left : ℕ) → next_at text ≡ Err left → StopsAt next_at text left
next-stops [] left e = at_end next_at left (91 ∷ 48 ∷ 93 ∷ [], (Place 0, refl)) e
next-stops (b ∷ rest) left e = next_by b rest left (b == 46) (b == 91) refl refl e

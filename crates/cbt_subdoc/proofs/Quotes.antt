-- Names between backticks, read piece by piece.
use Rattle.std.proofs.Common.{◌≡◌, ◌≢◌, ℕ, suc, ◌<◌, ◌==◌, cond, List, [], ◌∷◌, ◌++◌, length, get_or, drop, Option, Some, None, refl, sym, ap, ◌∙◌, arith, append_assoc, append-nil}
use Rattle.std.proofs.lemmas.Bool.{ne_eqb}
use Rattle.cbt_subdoc.specs.Paths.{prepended, quoted}

-- a name's reading with a front of it that was read before
abbrev pub fronted : List ℕ → Option (List ℕ × List ℕ) → Option (List ℕ × List ℕ)
fronted front None = None
fronted front (Some x) = Some (front ++ x.0, x.1)

pub fronted-nil : (o : Option (List ℕ × List ℕ)) → fronted [] o ≡ o
fronted-nil None = refl
fronted-nil (Some x) = refl

pub fronted-append : (front more : List ℕ) (o : Option (List ℕ × List ℕ)) → fronted front (fronted more o) ≡ fronted (front ++ more) o
fronted-append front more None = refl
fronted-append front more (Some x) = ap (λ n. Some (n, x.1)) (sym (append_assoc front more x.0))

prepended-fronted : (b : ℕ) (front : List ℕ) (o : Option (List ℕ × List ℕ)) → prepended b (fronted front o) ≡ fronted (b ∷ front) o
prepended-fronted b front None = refl
prepended-fronted b front (Some x) = refl

fronted-one : (b : ℕ) (o : Option (List ℕ × List ℕ)) → prepended b o ≡ fronted (b ∷ []) o
fronted-one b None = refl
fronted-one b (Some x) = refl

abbrev pub HasNoBacktick : List ℕ → Type 0
HasNoBacktick text = (i : ℕ) → i < length text → get_or text i 0 ≢ 96

pub quoted-plain : (b : ℕ) (rest : List ℕ) → b ≢ 96 → quoted (b ∷ rest) ≡ prepended b (quoted rest)
quoted-plain b [] other = ap (λ t. cond t (Some ([], [])) None) (ne_eqb b 96 other)
quoted-plain b (c ∷ rest) other =
    ap (λ t. cond t (cond (c == 96) (prepended 96 (quoted rest)) (Some ([], c ∷ rest))) (prepended b (quoted (c ∷ rest)))) (ne_eqb b 96 other)

-- bytes without a backtick are of the name
pub quoted-piece : (piece rest : List ℕ) → HasNoBacktick piece → quoted (piece ++ rest) ≡ fronted piece (quoted rest)
quoted-piece [] rest none = sym (fronted-nil (quoted rest))
quoted-piece (b ∷ piece) rest none =
    quoted-plain b (piece ++ rest) (none 0 (omega arith))
    ∙ ap (prepended b) (quoted-piece piece rest (λ i l. none (suc i) (omega arith)))
    ∙ prepended-fronted b piece (quoted rest)

-- without a backtick no name ends
pub quoted-unended : (text : List ℕ) → HasNoBacktick text → quoted text ≡ None
quoted-unended [] none = refl
quoted-unended (b ∷ text) none =
    quoted-plain b text (none 0 (omega arith)) ∙ ap (prepended b) (quoted-unended text (λ i l. none (suc i) (omega arith)))

-- two backticks are one of the name
pub quoted-two : (rest : List ℕ) → quoted (96 ∷ 96 ∷ rest) ≡ fronted (96 ∷ []) (quoted rest)
quoted-two rest = fronted-one 96 (quoted rest)

-- one backtick ends it
pub quoted-end : (rest : List ℕ) → (0 < length rest → get_or rest 0 0 ≢ 96) → quoted (96 ∷ rest) ≡ Some ([], rest)
quoted-end [] other = refl
quoted-end (c ∷ rest) other = ap (λ t. cond t (prepended 96 (quoted rest)) (Some ([], c ∷ rest))) (ne_eqb c 96 (other (omega arith)))

-- ---- the steps of a reading that goes from backtick to backtick

pub begins : (text : List ℕ) → get_or text 0 0 ≡ 96 → 0 < length text
begins [] first = absurd (omega (arith, first))
begins (b ∷ rest) first = omega arith

first_cut : (text : List ℕ) → get_or text 0 0 ≡ 96 → text ≡ 96 ∷ drop 1 text
first_cut [] first = absurd (omega (arith, first))
first_cut (b ∷ rest) first = ap (λ x. x ∷ rest) first

pub step-two : (text name rest piece behind pushed more left : List ℕ) → quoted text ≡ fronted name (quoted rest) → (rest ≡ piece ++ 96 ∷ behind) × HasNoBacktick piece
    → get_or behind 0 0 ≡ 96 → pushed ≡ name ++ piece → more ≡ pushed ++ 96 ∷ [] → left ≡ drop 1 behind → quoted text ≡ fronted more (quoted left)
step-two text name rest piece behind pushed more left before cut first put put-more behind-is =
    before
    ∙ ap (fronted name) (ap quoted cut.0 ∙ quoted-piece piece (96 ∷ behind) cut.1 ∙ ap (λ b. fronted piece (quoted (96 ∷ b))) (first_cut behind first)
    ∙ ap (fronted piece) (quoted-two (drop 1 behind)))
    ∙ fronted-append name piece _ ∙ fronted-append (name ++ piece) (96 ∷ []) (quoted (drop 1 behind))
    ∙ ap (λ l. fronted ((name ++ piece) ++ 96 ∷ []) (quoted l)) (sym behind-is)
    ∙ ap (λ n. fronted n (quoted left)) (sym (put-more ∙ ap (λ n. n ++ 96 ∷ []) put))

pub step-end : (text name rest piece behind pushed : List ℕ) → quoted text ≡ fronted name (quoted rest) → (rest ≡ piece ++ 96 ∷ behind) × HasNoBacktick piece
    → get_or behind 0 0 ≢ 96 → pushed ≡ name ++ piece → quoted text ≡ Some (pushed, behind)
step-end text name rest piece behind pushed before cut other put =
    before
    ∙ ap (fronted name) (ap quoted cut.0 ∙ quoted-piece piece (96 ∷ behind) cut.1 ∙ ap (fronted piece) (quoted-end behind (λ _. other)))
    ∙ ap (λ n. Some (n, behind)) (ap (λ n. name ++ n) (append-nil piece) ∙ sym put)

pub step-none : (text name rest : List ℕ) → quoted text ≡ fronted name (quoted rest) → HasNoBacktick rest → quoted text ≡ None
step-none text name rest before none = before ∙ ap (fronted name) (quoted-unended rest none)

-- The span of the newest calls of an own list.
use Rattle.std.proofs.Common.{◌≡◌, ℕ, ◌<◌, ◌≤◌, true, false, cond, nat_lt, nat_le, ◌&&◌, inl, inr, Bool, ◌+◌, ◌==◌, suc, List, [], ◌∷◌, ◌++◌, refl, sym, ap, ◌∙◌, subst, arith}
use Rattle.std.proofs.lemmas.Bool.{eq-eqb, eqb-true}
use Rattle.std.proofs.lemmas.Grind.{common_steps}
use Rattle.std.proofs.lemmas.List.{append-nil}
use Rattle.std.proofs.lemmas.List.Elements.{filter-append}
use Rattle.cbt_model.specs.declared.events.Made.{Made}
use Rattle.cbt_book.specs.OwnLists.{Each, In, Descends, during, is_within}
use Rattle.cbt_book.specs.Spans.{IsSpan, HasEnds, oldest, past_of, span_of}
use Rattle.cbt_book.specs.Spans as spans
use Rattle.cbt_book.specs.declared.operations.Span.{Span}
use Rattle.cbt_lost.specs.Tours.{grown}
use Rattle.cbt_lost.proofs.Lists.{above, below, descends_back, descends_front, each_front, each_more, each_of, in_filter}

early : (from to place : ℕ) → place < from → (nat_le from place && nat_lt place to) ≡ false
early from to place low = grind (arith, common_steps)

late : (from to place : ℕ) → to ≤ place → (nat_le from place && nat_lt place to) ≡ false
late from to place high = grind (arith, common_steps)

inside : (from to place : ℕ) → from ≤ place → place < to → (nat_le from place && nat_lt place to) ≡ true
inside from to place low high = grind (arith, common_steps)

-- calls before a span, those in it, and those after it
during_early : (span : Span) (l : List Made) → Each (λ m _. m.answer.place < span.from) l → during span l ≡ []
during_early span [] low = refl
during_early span (m ∷ l) low = ap (λ b. cond b (m ∷ during span l) (during span l)) (early span.from span.to m.answer.place low.0) ∙ during_early span l low.1

during_inside : (span : Span) (l : List Made) → Each (λ m _. span.from ≤ m.answer.place) l → Each (λ m _. m.answer.place < span.to) l → during span l ≡ l
during_inside span [] low high = refl
during_inside span (m ∷ l) low high =
    ap (λ b. cond b (m ∷ during span l) (during span l)) (inside span.from span.to m.answer.place low.0 high.0) ∙ ap (λ k. m ∷ k) (during_inside span l low.1 high.1)

pub during_front : (span : Span) (xs l : List Made) → Each (λ m _. span.to ≤ m.answer.place) xs → during span (xs ++ l) ≡ during span l
during_front span [] l high = refl
during_front span (x ∷ xs) l high =
    ap (λ b. cond b (x ∷ during span (xs ++ l)) (during span (xs ++ l))) (late span.from span.to x.answer.place high.0) ∙ during_front span xs l high.1

-- the newest calls, where just they are in the span
during_newest : (span : Span) (calls l : List Made) → Each (λ m _. span.from ≤ m.answer.place) calls → Each (λ m _. m.answer.place < span.to) calls
    → Each (λ m _. m.answer.place < span.from) l → during span (calls ++ l) ≡ calls
during_newest span calls l low high before =
    filter-append (λ m. is_within span m.answer.place) calls l ∙ ap (λ k. k ++ during span l) (during_inside span calls low high)
    ∙ ap (λ k. calls ++ k) (during_early span l before) ∙ append-nil calls

-- the oldest of some calls
oldest_in : (m : Made) (past : List Made) → In (oldest m past) (m ∷ past)
oldest_in m [] = inl refl
oldest_in m (n ∷ past) = inr (oldest_in n past)

oldest_low : (m : Made) (past : List Made) → Descends (m ∷ past) → Each (λ n _. (oldest m past).answer.place ≤ n.answer.place) (m ∷ past)
oldest_low m [] falls = (omega arith, tt)
oldest_low m (n ∷ past) falls =
    let rest = oldest_low n past falls.1 in let low = rest.0 in let next = falls.0 n (inl refl) in (omega arith, rest)

-- the span of the newest calls begins past the older ones, and holds just these calls
span_past : (calls l : List Made) → Descends (calls ++ l) → past_of l ≤ (span_of (past_of l) calls).from
span_past [] l falls = omega arith
span_past (m ∷ past) l falls = each_of (λ n. past_of l ≤ n.answer.place) (m ∷ past) (oldest m past) (above (m ∷ past) l falls) (oldest_in m past)

span_low : (at : ℕ) (calls : List Made) → Descends calls → Each (λ m _. (span_of at calls).from ≤ m.answer.place) calls
span_low at [] falls = tt
span_low at (m ∷ past) falls = oldest_low m past falls

span_high : (at : ℕ) (calls : List Made) → Descends calls → Each (λ m _. m.answer.place < (span_of at calls).to) calls
span_high at [] falls = tt
span_high at (m ∷ past) falls = below (m ∷ past) falls

span_before : (calls l : List Made) → Descends (calls ++ l) → Each (λ m _. m.answer.place < (span_of (past_of l) calls).from) l
span_before calls l falls =
    let past = span_past calls l falls in
    each_more (λ m. m.answer.place < past_of l) (λ m. m.answer.place < (span_of (past_of l) calls).from) l (λ m low. omega arith)
    (below l (descends_back calls l falls))

pub during_span : (calls l : List Made) → Descends (calls ++ l) → during (span_of (past_of l) calls) (calls ++ l) ≡ calls
during_span calls l falls =
    let own = descends_front calls l falls in
    during_newest (span_of (past_of l) calls) calls l (span_low (past_of l) calls own) (span_high (past_of l) calls own) (span_before calls l falls)

ends_of : (at : ℕ) (calls : List Made) → HasEnds at (span_of at calls) calls
ends_of at [] = spans.without_calls refl refl
ends_of at (m ∷ past) = spans.with_calls (oldest m past) m (oldest_in m past) (inl refl) refl refl

pub span_is : (calls l : List Made) → Descends (calls ++ l) → IsSpan (calls ++ l) (past_of l) (span_of (past_of l) calls)
span_is calls l falls = record {
  follows = span_past calls l falls;
  next = during_front (record { from = past_of l; to = (span_of (past_of l) calls).from }) calls l (span_low (past_of l) calls (descends_front calls l falls))
      ∙ during_early (record { from = past_of l; to = (span_of (past_of l) calls).from }) l (below l (descends_back calls l falls));
  ends = subst (λ k. HasEnds (past_of l) (span_of (past_of l) calls) k) (sym (during_span calls l falls)) (ends_of (past_of l) calls);
}

-- all that was done since
pub during_rest : (calls l : List Made) → Descends (calls ++ l) → during (record { from = past_of l; to = past_of (calls ++ l) }) (calls ++ l) ≡ calls
during_rest calls l falls =
    during_newest (record { from = past_of l; to = past_of (calls ++ l) }) calls l (above calls l falls)
    (each_front (λ m. m.answer.place < past_of (calls ++ l)) calls l (below (calls ++ l) falls)) (below l (descends_back calls l falls))

pub span_to : (calls l : List Made) → (span_of (past_of l) calls).to ≡ past_of (calls ++ l)
span_to [] l = refl
span_to (m ∷ past) l = refl

-- a part's span
low_end : (from to place : ℕ) → (nat_le from place && nat_lt place to) ≡ true → (from ≤ place) × (place < to)
low_end from to place is = (grind (arith, common_steps), grind (arith, common_steps))

-- a span ends where it begins, or later
pub span_order : (l : List Made) (at : ℕ) (span : Span) → IsSpan l at span → span.from ≤ span.to
span_order l at span it = go it.ends
  where
    go : HasEnds at span (during span l) → span.from ≤ span.to
    go (spans.without_calls from to) = omega arith
    go (spans.with_calls first last in_first in_last from to) =
        let within = low_end span.from span.to first.answer.place (in_filter (λ m. is_within span m.answer.place) first l in_first) in
        let a = within.0 in
        let b = within.1 in
        omega arith

pub span_after : (l : List Made) (at : ℕ) (span : Span) → IsSpan l at span → at ≤ span.to
span_after l at span it = let a = it.follows in let b = span_order l at span it in omega arith

-- what is past a place is past a lower one
pub past_lower : (low at : ℕ) (xs : List Made) → low ≤ at → Each (λ m _. at ≤ m.answer.place) xs → Each (λ m _. low ≤ m.answer.place) xs
past_lower low at xs under high = each_more (λ m. at ≤ m.answer.place) (λ m. low ≤ m.answer.place) xs (λ m it. omega arith) high

pub span_on : (l : List Made) (at : ℕ) (span : Span) (xs : List Made) → IsSpan l at span → Each (λ m _. span.to ≤ m.answer.place) xs → IsSpan (xs ++ l) at span
span_on l at span xs it high = record {
  follows = it.follows;
  next = during_front (record { from = at; to = span.from }) xs l (past_lower span.from span.to xs (span_order l at span it) high) ∙ it.next;
  ends = subst (λ k. HasEnds at span k) (sym (during_front span xs l high)) it.ends;
}

abbrev pub between : ℕ → ℕ → Span
between from to = record { from = from; to = to }

same_ends : (from n place : ℕ) → from ≡ n → between from (place + 1) ≡ between n (suc place)
same_ends from n place is = let next : place + 1 ≡ suc place = omega arith in ap (λ k. between k (place + 1)) is ∙ ap (λ k. between n k) next

apart : (a b : ℕ) → a < b → (a == b) ≡ false
apart a b less = test (a == b) refl
  where
    test : (k : Bool) → (a == b) ≡ k → (a == b) ≡ false
    test true same = absurd (let e = eqb-true a b same in omega arith)
    test false is = is

-- the span of calls grows by one
pub grown_span : (span : Span) (m : Made) (calls l : List Made) → Descends (m ∷ (calls ++ l)) → span ≡ span_of (past_of l) calls → grown span m.answer.place ≡ span_of (past_of l) (m ∷ calls)
grown_span span m calls l falls is = ap (λ (s : Span). grown s m.answer.place) is ∙ by calls falls
  where
    by : (calls : List Made) → Descends (m ∷ (calls ++ l)) → grown (span_of (past_of l) calls) m.answer.place ≡ span_of (past_of l) (m ∷ calls)
    by [] falls =
        same_ends (cond (past_of l == past_of l) m.answer.place (past_of l)) m.answer.place m.answer.place
        (ap (λ b. cond b m.answer.place (past_of l)) (eq-eqb (past_of l) (past_of l) refl))
    by (x ∷ past) falls =
        let low = oldest_low x past (descends_front (x ∷ past) l falls.1) in
        let first = low.0 in
        same_ends (cond ((oldest x past).answer.place == suc x.answer.place) m.answer.place (oldest x past).answer.place) (oldest x past).answer.place m.answer.place
        (ap (λ b. cond b m.answer.place (oldest x past).answer.place) (apart (oldest x past).answer.place (suc x.answer.place) (omega arith)))

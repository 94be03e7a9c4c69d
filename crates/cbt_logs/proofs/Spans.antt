-- The span of the newest calls of an own list.
use Rattle.std.proofs.Common.{◌≡◌, ℕ, ◌<◌, ◌≤◌, true, false, cond, nat_lt, nat_le, ◌&&◌, inl, inr, List, [], ◌∷◌, ◌++◌, refl, sym, ap, ◌∙◌, subst, arith}
use Rattle.std.proofs.lemmas.Grind.{common_steps}
use Rattle.std.proofs.lemmas.List.{append-nil}
use Rattle.std.proofs.lemmas.List.Elements.{filter-append}
use Rattle.cbt_model.specs.declared.events.Made.{Made}
use Rattle.cbt_book.specs.OwnLists.{Each, In, Descends, during, is_within}
use Rattle.cbt_book.specs.Spans.{IsSpan, HasEnds, oldest, past_of, span_of}
use Rattle.cbt_book.specs.Spans as spans
use Rattle.cbt_book.specs.declared.operations.Span.{Span}
use Rattle.cbt_core.specs.Transactions.{newest_now, now_before}
use Rattle.cbt_core.proofs.logs.Calls.{each_of}
use Rattle.cbt_logs.proofs.Lists.{above, below, descends_back, descends_front, each_front, each_in, each_more}

early : (from to place : ℕ) → place < from → (nat_le from place && nat_lt place to) ≡ false
early from to place low = grind (arith, common_steps)

late : (from to place : ℕ) → to ≤ place → (nat_le from place && nat_lt place to) ≡ false
late from to place high = grind (arith, common_steps)

inside : (from to place : ℕ) → from ≤ place → place < to → (nat_le from place && nat_lt place to) ≡ true
inside from to place low high = grind (arith, common_steps)

-- calls before a span, those in it, and those after it
during_early : (span : Span) (l : List Made) → Each (λ m _. m.answer.place < span.from) l → during span l ≡ []
during_early span [] low = refl
during_early span (m ∷ l) low = ap (λ b. cond b (m ∷ during span l) (during span l)) (early span.from span.to m.answer.place low.0) ∙ during_early span l low.1

during_inside : (span : Span) (l : List Made) → Each (λ m _. span.from ≤ m.answer.place) l → Each (λ m _. m.answer.place < span.to) l → during span l ≡ l
during_inside span [] low high = refl
during_inside span (m ∷ l) low high =
    ap (λ b. cond b (m ∷ during span l) (during span l)) (inside span.from span.to m.answer.place low.0 high.0) ∙ ap (λ k. m ∷ k) (during_inside span l low.1 high.1)

pub during_front : (span : Span) (xs l : List Made) → Each (λ m _. span.to ≤ m.answer.place) xs → during span (xs ++ l) ≡ during span l
during_front span [] l high = refl
during_front span (x ∷ xs) l high =
    ap (λ b. cond b (x ∷ during span (xs ++ l)) (during span (xs ++ l))) (late span.from span.to x.answer.place high.0) ∙ during_front span xs l high.1

-- the newest calls, where just they are in the span
during_newest : (span : Span) (calls l : List Made) → Each (λ m _. span.from ≤ m.answer.place) calls → Each (λ m _. m.answer.place < span.to) calls
    → Each (λ m _. m.answer.place < span.from) l → during span (calls ++ l) ≡ calls
during_newest span calls l low high before =
    filter-append (λ m. is_within span m.answer.place) calls l ∙ ap (λ k. k ++ during span l) (during_inside span calls low high)
    ∙ ap (λ k. calls ++ k) (during_early span l before) ∙ append-nil calls

-- the oldest of some calls
oldest_in : (m : Made) (past : List Made) → In (oldest m past) (m ∷ past)
oldest_in m [] = inl refl
oldest_in m (n ∷ past) = inr (oldest_in n past)

oldest_low : (m : Made) (past : List Made) → Descends (m ∷ past) → Each (λ n _. (oldest m past).answer.place ≤ n.answer.place) (m ∷ past)
oldest_low m [] falls = (omega arith, tt)
oldest_low m (n ∷ past) falls =
    let rest = oldest_low n past falls.1 in let low = rest.0 in let next = falls.0 n (inl refl) in (omega arith, rest)

-- the span of the newest calls begins past the older ones, and holds just these calls
span_past : (calls l : List Made) → Descends (calls ++ l) → past_of l ≤ (span_of (past_of l) calls).from
span_past [] l falls = omega arith
span_past (m ∷ past) l falls = each_of (λ n. past_of l ≤ n.answer.place) (m ∷ past) (oldest m past) (above (m ∷ past) l falls) (oldest_in m past)

span_low : (at : ℕ) (calls : List Made) → Descends calls → Each (λ m _. (span_of at calls).from ≤ m.answer.place) calls
span_low at [] falls = tt
span_low at (m ∷ past) falls = oldest_low m past falls

span_high : (at : ℕ) (calls : List Made) → Descends calls → Each (λ m _. m.answer.place < (span_of at calls).to) calls
span_high at [] falls = tt
span_high at (m ∷ past) falls = below (m ∷ past) falls

span_before : (calls l : List Made) → Descends (calls ++ l) → Each (λ m _. m.answer.place < (span_of (past_of l) calls).from) l
span_before calls l falls =
    let past = span_past calls l falls in
    each_more (λ m. m.answer.place < past_of l) (λ m. m.answer.place < (span_of (past_of l) calls).from) l (λ m low. omega arith)
    (below l (descends_back calls l falls))

pub during_span : (calls l : List Made) → Descends (calls ++ l) → during (span_of (past_of l) calls) (calls ++ l) ≡ calls
during_span calls l falls =
    let own = descends_front calls l falls in
    during_newest (span_of (past_of l) calls) calls l (span_low (past_of l) calls own) (span_high (past_of l) calls own) (span_before calls l falls)

ends_of : (at : ℕ) (calls : List Made) → HasEnds at (span_of at calls) calls
ends_of at [] = spans.without_calls refl refl
ends_of at (m ∷ past) = spans.with_calls (oldest m past) m (oldest_in m past) (inl refl) refl refl

pub span_is : (calls l : List Made) → Descends (calls ++ l) → IsSpan (calls ++ l) (past_of l) (span_of (past_of l) calls)
span_is calls l falls = record {
  follows = span_past calls l falls;
  next = during_front (record { from = past_of l; to = (span_of (past_of l) calls).from }) calls l (span_low (past_of l) calls (descends_front calls l falls))
      ∙ during_early (record { from = past_of l; to = (span_of (past_of l) calls).from }) l (below l (descends_back calls l falls));
  ends = subst (λ k. HasEnds (past_of l) (span_of (past_of l) calls) k) (sym (during_span calls l falls)) (ends_of (past_of l) calls);
}

-- all that was done since
pub during_rest : (calls l : List Made) → Descends (calls ++ l) → during (record { from = past_of l; to = past_of (calls ++ l) }) (calls ++ l) ≡ calls
during_rest calls l falls =
    during_newest (record { from = past_of l; to = past_of (calls ++ l) }) calls l (above calls l falls)
    (each_front (λ m. m.answer.place < past_of (calls ++ l)) calls l (below (calls ++ l) falls)) (below l (descends_back calls l falls))

pub span_to : (calls l : List Made) → (span_of (past_of l) calls).to ≡ past_of (calls ++ l)
span_to [] l = refl
span_to (m ∷ past) l = refl

-- the newest call is the last before the next place
pub newest_is : (l : List Made) → Descends l → now_before l (past_of l) ≡ newest_now l
newest_is l falls =
    ap newest_now (during_inside (record { from = 0; to = past_of l }) l (each_in (λ m. 0 ≤ m.answer.place) l (λ m there. omega arith)) (below l falls))

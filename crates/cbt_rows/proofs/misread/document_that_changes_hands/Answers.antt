use Rattle.std.proofs.Common.{inl, inr, [], ◌∷◌, Some, refl, lit≤}
use Rattle.cbt_book.specs.Spans as spans
use Rattle.cbt_book.specs.Outcomes.{ChangesHands, once, again}
use Rattle.cbt_rows.proofs.Named.{◌▸◌}
use Rattle.cbt_rows.proofs.Never.{differ, unfailed}
use Rattle.cbt_rows.specs.Contended.{staging, committed, reads, asks}
use Rattle.cbt_rows.specs.Words.{doc_a, n}
use Rattle.cbt_rows.proofs.misread.document_that_changes_hands.Goals as goal

hands-0 : ChangesHands doc_a 1 200 (staging 2) (reads 0 2 200 ∷ [])
hands-0 = once 200 (staging 2) (reads 0 2 200) (Some (n 0)) (refl, refl)

hands-2 : ChangesHands doc_a 2 300 (staging 3) (reads 2 3 300 ∷ asks 1 2 ∷ reads 0 2 200 ∷ [])
hands-2 = again 1 200 300 (staging 2) (staging 3) (reads 2 3 300) (asks 1 2) (reads 0 2 200 ∷ []) (Some (n 0)) (
  refl,
  refl,
) (differ 300 200 refl) (inl (committed, (refl, refl), refl)) hands-0

hands-4 : ChangesHands doc_a 3 400 (staging 4) (reads 4 4 400 ∷ asks 3 3 ∷ reads 2 3 300 ∷ asks 1 2 ∷ reads 0 2 200 ∷ [])
hands-4 = again 2 300 400 (staging 3) (staging 4) (reads 4 4 400) (asks 3 3) (reads 2 3 300 ∷ asks 1 2 ∷ reads 0 2 200 ∷ []) (Some (n 0)) (
  refl,
  refl,
) (differ 400 300 refl) (inl (committed, (refl, refl), refl)) hands-2

hands-6 : ChangesHands doc_a 4 500 (staging 5) (reads 6 5 500 ∷ asks 5 4 ∷ reads 4 4 400 ∷ asks 3 3 ∷ reads 2 3 300 ∷ asks 1 2 ∷ reads 0 2 200 ∷ [])
hands-6 = again 3 400 500 (staging 4) (staging 5) (reads 6 5 500) (asks 5 4) (reads 4 4 400 ∷ asks 3 3 ∷ reads 2 3 300 ∷ asks 1 2 ∷ reads 0 2 200 ∷
    []) (Some (n 0)) (refl, refl) (differ 500 400 refl) (inl (committed, (refl, refl), refl)) hands-4

hands-8 : ChangesHands doc_a 5 600 (staging 6) (reads 8 6 600 ∷ asks 7 5 ∷ reads 6 5 500 ∷ asks 5 4 ∷ reads 4 4 400 ∷ asks 3 3 ∷ reads 2 3 300 ∷ asks
    1 2 ∷ reads 0 2 200 ∷ [])
hands-8 = again 4 500 600 (staging 5) (staging 6) (reads 8 6 600) (asks 7 5) (reads 6 5 500 ∷ asks 5 4 ∷ reads 4 4 400 ∷ asks 3 3 ∷ reads 2 3 300 ∷
    asks 1 2 ∷ reads 0 2 200 ∷ []) (Some (n 0)) (refl, refl) (differ 600 500 refl) (inl (committed, (refl, refl), refl)) hands-6

hands-10 : ChangesHands doc_a 6 700 (staging 7) (reads 10 7 700 ∷ asks 9 6 ∷ reads 8 6 600 ∷ asks 7 5 ∷ reads 6 5 500 ∷ asks 5 4 ∷ reads 4 4 400 ∷
    asks 3 3 ∷ reads 2 3 300 ∷ asks 1 2 ∷ reads 0 2 200 ∷ [])
hands-10 = again 5 600 700 (staging 6) (staging 7) (reads 10 7 700) (asks 9 6) (reads 8 6 600 ∷ asks 7 5 ∷ reads 6 5 500 ∷ asks 5 4 ∷ reads 4 4 400 ∷
    asks 3 3 ∷ reads 2 3 300 ∷ asks 1 2 ∷ reads 0 2 200 ∷ []) (Some (n 0)) (refl, refl) (differ 700 600 refl) (inl (
      committed,
      (refl, refl),
      refl,
    )) hands-8

hands-12 : ChangesHands doc_a 7 800 (staging 8) (reads 12 8 800 ∷ asks 11 7 ∷ reads 10 7 700 ∷ asks 9 6 ∷ reads 8 6 600 ∷ asks 7 5 ∷ reads 6 5 500 ∷
    asks 5 4 ∷ reads 4 4 400 ∷ asks 3 3 ∷ reads 2 3 300 ∷ asks 1 2 ∷ reads 0 2 200 ∷ [])
hands-12 = again 6 700 800 (staging 7) (staging 8) (reads 12 8 800) (asks 11 7) (reads 10 7 700 ∷ asks 9 6 ∷ reads 8 6 600 ∷ asks 7 5 ∷ reads 6 5 500
    ∷ asks 5 4 ∷ reads 4 4 400 ∷ asks 3 3 ∷ reads 2 3 300 ∷ asks 1 2 ∷ reads 0 2 200 ∷ []) (Some (n 0)) (
      refl,
      refl,
    ) (differ 800 700 refl) (inl (committed, (refl, refl), refl)) hands-10

hands-14 : ChangesHands doc_a 8 900 (staging 9) (reads 14 9 900 ∷ asks 13 8 ∷ reads 12 8 800 ∷ asks 11 7 ∷ reads 10 7 700 ∷ asks 9 6 ∷ reads 8 6 600
    ∷ asks 7 5 ∷ reads 6 5 500 ∷ asks 5 4 ∷ reads 4 4 400 ∷ asks 3 3 ∷ reads 2 3 300 ∷ asks 1 2 ∷ reads 0 2 200 ∷ [])
hands-14 = again 7 800 900 (staging 8) (staging 9) (reads 14 9 900) (asks 13 8) (reads 12 8 800 ∷ asks 11 7 ∷ reads 10 7 700 ∷ asks 9 6 ∷ reads 8 6
    600 ∷ asks 7 5 ∷ reads 6 5 500 ∷ asks 5 4 ∷ reads 4 4 400 ∷ asks 3 3 ∷ reads 2 3 300 ∷ asks 1 2 ∷ reads 0 2 200 ∷ []) (Some (n 0)) (
      refl,
      refl,
    ) (differ 900 800 refl) (inl (committed, (refl, refl), refl)) hands-12

hands-16 : ChangesHands doc_a 9 1000 (staging 10) (reads 16 10 1000 ∷ asks 15 9 ∷ reads 14 9 900 ∷ asks 13 8 ∷ reads 12 8 800 ∷ asks 11 7 ∷ reads 10
    7 700 ∷ asks 9 6 ∷ reads 8 6 600 ∷ asks 7 5 ∷ reads 6 5 500 ∷ asks 5 4 ∷ reads 4 4 400 ∷ asks 3 3 ∷ reads 2 3 300 ∷ asks 1 2 ∷ reads 0 2 200 ∷ [])
hands-16 = again 8 900 1000 (staging 9) (staging 10) (reads 16 10 1000) (asks 15 9) (reads 14 9 900 ∷ asks 13 8 ∷ reads 12 8 800 ∷ asks 11 7 ∷ reads
    10 7 700 ∷ asks 9 6 ∷ reads 8 6 600 ∷ asks 7 5 ∷ reads 6 5 500 ∷ asks 5 4 ∷ reads 4 4 400 ∷ asks 3 3 ∷ reads 2 3 300 ∷ asks 1 2 ∷ reads 0 2 200 ∷
    []) (Some (n 0)) (refl, refl) (differ 1000 900 refl) (inl (committed, (refl, refl), refl)) hands-14

pub returns : goal.returns
returns c = record {
  counted = refl;
  spanned = record {
    follows = lit≤ tt;
    next = refl;
    ends = spans.with_calls (reads 0 2 200) (reads 16 10 1000) (inr (inr (inr (inr (inr (inr (inr (inr (inr (inr (inr (inr (inr (inr (inr (inr (inl
        refl))))))))))))))))) (inl refl) refl refl;
  };
  answered = (refl, (1000, staging 10, hands-16));
  calls = record {
    only = (refl ▸ tt ▸ refl ▸ tt ▸ refl ▸ tt ▸ refl ▸ tt ▸ refl ▸ tt ▸ refl ▸ tt ▸ refl ▸ tt ▸ refl ▸ tt ▸ refl ▸ tt);
    readings = lit≤ tt;
    entries = lit≤ tt;
  };
  stands = ((λ e. tt) ▸ (λ e. tt) ▸ (λ e. tt) ▸ (λ e. tt) ▸ (λ e. tt) ▸ (λ e. tt) ▸ (λ e. tt) ▸ (λ e. tt) ▸ (λ e. tt) ▸ (λ e. tt) ▸ (λ e. tt) ▸ (λ
      e. tt) ▸ (λ e. tt) ▸ (λ e. tt) ▸ (λ e. tt) ▸ (λ e. tt) ▸ (λ e. tt) ▸ tt);
  failed = (unfailed (reads 16 10 1000) refl ▸ unfailed (asks 15 9) refl ▸ unfailed (reads 14 9 900) refl ▸ unfailed (asks 13 8) refl ▸ unfailed
      (reads 12 8 800) refl ▸ unfailed (asks 11 7) refl ▸ unfailed (reads 10 7 700) refl ▸ unfailed (asks 9 6) refl ▸ unfailed (reads 8 6 600) refl ▸
      unfailed (asks 7 5) refl ▸ unfailed (reads 6 5 500) refl ▸ unfailed (asks 5 4) refl ▸ unfailed (reads 4 4 400) refl ▸ unfailed (asks 3 3) refl ▸
      unfailed (reads 2 3 300) refl ▸ unfailed (asks 1 2) refl ▸ unfailed (reads 0 2 200) refl ▸ tt);
  in_time = (lit≤ tt ▸ lit≤ tt ▸ lit≤ tt ▸ lit≤ tt ▸ lit≤ tt ▸ lit≤ tt ▸ lit≤ tt ▸ lit≤ tt ▸ lit≤ tt ▸ lit≤ tt ▸ lit≤ tt ▸ lit≤ tt ▸ lit≤ tt ▸ lit≤
      tt ▸ lit≤ tt ▸ lit≤ tt ▸ lit≤ tt ▸ tt);
}

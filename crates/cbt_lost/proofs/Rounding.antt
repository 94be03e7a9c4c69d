-- The log of a round, by the calls that it made and those before it.
use Rattle.std.proofs.Common.{◌≡◌, ℕ, suc, ◌<◌, ◌≤◌, inl, inr, List, [], ◌∷◌, ◌++◌, append_assoc, length, length-append, filter, drop, Option, Some, None, refl, sym, ap, ◌∙◌, subst, arith}
use Rattle.std.specs.List.{range_with_len}
use Rattle.cbt_model.specs.declared.events.Made.{Made}
use Rattle.cbt_book.specs.Cleaners.{CleanerPlan, Course, Whole, Cut, EndsEarly, GoOver, PassesGo, RoundFollows, StandBehind, none}
use Rattle.cbt_book.specs.OwnLists.{Each, Descends, during}
use Rattle.cbt_book.specs.Passes.{PassesFollow, passes_end}
use Rattle.cbt_book.specs.Shares.{has_record, share_of}
use Rattle.cbt_book.specs.Spans.{IsSpan, past_of, span_of}
use Rattle.cbt_book.specs.declared.cleaners.PassLog.{PassLog}
use Rattle.cbt_book.specs.declared.cleaners.RoundLog.{RoundLog}
use Rattle.cbt_book.specs.declared.cleaners.Share.{Share}
use Rattle.cbt_book.specs.declared.operations.Span.{Span}
use Rattle.cbt_lost.specs.Rounds.{HasBeaten}
use Rattle.cbt_lost.specs.Tours.{due, records_of, told_by, IsCutOff, IsOver}
use Rattle.cbt_lost.specs.declared.tours.Tour.{Tour}
use Rattle.cbt_lost.proofs.Due.{due_all}
use Rattle.cbt_lost.proofs.Lists.{above, descends_back}
use Rattle.cbt_lost.proofs.Passing.{passes_on}
use Rattle.cbt_lost.proofs.Spanning.{during_rest, during_span, span_is}

-- places rise
pub past_rises : (xs l : List Made) → Descends (xs ++ l) → past_of l ≤ past_of (xs ++ l)
past_rises [] l falls = omega arith
past_rises (x ∷ xs) l falls = let it = (above (x ∷ xs) l falls).0 in omega arith

drop_front : (xs ys : List ℕ) (logs : List PassLog) → records_of logs ++ ys ≡ xs → drop (length logs) xs ≡ ys
drop_front xs ys logs is = ap (λ k. drop (length logs) k) (sym is) ∙ by logs
  where
    by : (logs : List PassLog) → drop (length logs) (records_of logs ++ ys) ≡ ys
    by [] = refl
    by (log ∷ logs) = by logs

length_logs : (logs : List PassLog) → length (records_of logs) ≡ length logs
length_logs [] = refl
length_logs (log ∷ logs) = ap suc (length_logs logs)

-- the calls behind the last pass, up to the end of the span
rest_is : (span : Span) (at : ℕ) (calls l : List Made) → Descends (calls ++ l) → at ≡ past_of l → span.to ≡ past_of (calls ++ l)
    → during (record { from = at; to = span.to }) (calls ++ l) ≡ calls
rest_is span at calls l falls at_is to_is =
    ap (λ n. during (record { from = n; to = span.to }) (calls ++ l)) at_is ∙ ap (λ n. during (record { from = past_of l; to = n }) (calls ++ l)) to_is ∙ during_rest calls l falls

-- all passes have ended
pub passes_whole : (atrs : ℕ) (t : Tour) (base toured : List Made) (span : Span) (share : Option Share) (course : Course) → Descends (toured ++ base) → IsOver atrs t base toured → span.to ≡ past_of (toured ++ base) → course ≡ Whole
    → PassesGo (toured ++ base) course (past_of base) (due t.share 0 atrs) (record { span = span; share = share; passes = told_by t })
passes_whole atrs t base toured span share course falls it to_is is = record {
  over = subst (λ c. GoOver c (due t.share 0 atrs) (told_by t)) (sym is) it.records;
  follow = tells.0;
  inside = let end = tells.1 in omega arith;
  behind = none (rest_is span (passes_end (past_of base) (told_by t)) [] (toured ++ base) falls tells.1 to_is);
}
  where
    tells : PassesFollow (toured ++ base) (past_of base) (told_by t) × (passes_end (past_of base) (told_by t) ≡ past_of (toured ++ base))
    tells = it.tells falls

-- or they were cut off
pub passes_cut : (atrs : ℕ) (t : Tour) (base toured : List Made) (span : Span) (share : Option Share) → Descends (toured ++ base) → IsCutOff atrs t base toured → span.to ≡ past_of (toured ++ base)
    → PassesGo (toured ++ base) Cut (past_of base) (due t.share 0 atrs) (record { span = span; share = share; passes = told_by t })
passes_cut atrs t base toured span share falls it to_is =
    subst (λ l. PassesGo l Cut (past_of base) (due t.share 0 atrs) (record { span = span; share = share; passes = told_by t })) (sym whole) (by (subst Descends whole falls) (to_is ∙ ap past_of whole))
  where
    whole : toured ++ base ≡ it.calls ++ (it.told ++ base)
    whole = ap (λ k. k ++ base) it.mine_is ∙ append_assoc it.calls it.told base

    by : Descends (it.calls ++ (it.told ++ base)) → span.to ≡ past_of (it.calls ++ (it.told ++ base))
        → PassesGo (it.calls ++ (it.told ++ base)) Cut (past_of base) (due t.share 0 atrs) (record { span = span; share = share; passes = told_by t })
    by down to =
        let tells = it.tells (descends_back it.calls (it.told ++ base) down) in
        let end = tells.1 in
        let rises = past_rises it.calls (it.told ++ base) down in
        record {
          over = (it.first ∷ it.more, it.records);
          follow = passes_on (it.told ++ base) (past_of base) (told_by t) it.calls tells.0
              (subst (λ n. Each (λ m _. n ≤ m.answer.place) it.calls) (sym end) (above it.calls (it.told ++ base) down));
          inside = omega arith;
          behind = subst (λ k. StandBehind Cut k (during (record { from = passes_end (past_of base) (told_by t); to = span.to }) (it.calls ++ (it.told ++ base))))
              (sym (drop_front (due t.share 0 atrs) (it.first ∷ it.more) (told_by t) it.records))
              (subst (λ k. StandBehind Cut (it.first ∷ it.more) k)
              (sym (rest_is span (passes_end (past_of base) (told_by t)) it.calls (it.told ++ base) down end to)) it.behind);
        }

-- a round that was cut off in its passes has a record left
pub few_passes : (atrs : ℕ) (t : Tour) (base toured : List Made) → IsCutOff atrs t base toured → length (told_by t) < length (filter (has_record t.share) (range_with_len 0 atrs))
few_passes atrs t base toured it =
    let whole = ap length (it.records ∙ due_all t.share atrs) in
    omega (arith, length-append (records_of (told_by t)) (it.first ∷ it.more), length_logs (told_by t), whole)

abbrev told_log : Span → Share → List PassLog → RoundLog
told_log span share logs = record { span = span; share = Some share; passes = logs }

-- the log of a round with passes
pub shared_round : (plan : CleanerPlan) (course : Course) (share : Share) (span : Span) (logs : List PassLog) (head toured before : List Made) → Descends ((toured ++ head) ++ before) → HasBeaten plan share head
    → span ≡ span_of (past_of before) (toured ++ head) → PassesGo (toured ++ (head ++ before)) course (past_of (head ++ before)) (due share 0 plan.atrs) (record { span = span; share = Some share; passes = logs })
    → RoundFollows plan ((toured ++ head) ++ before) course (past_of before) (record { span = span; share = Some share; passes = logs })
shared_round plan course share span logs head toured before falls it spanned go = record {
  spanned = subst (λ s. IsSpan ((toured ++ head) ++ before) (past_of before) s) (sym spanned) (span_is (toured ++ head) before falls);
  goes = inl (record {
    rows = it.rows;
    later = toured;
    beat = it.beat;
    read = it.read;
    calls = ap (λ s. during s ((toured ++ head) ++ before)) spanned ∙ during_span (toured ++ head) before falls ∙ ap (λ k. toured ++ k) it.head_is;
    reads = it.reads;
    shown = it.shown;
    beats = it.beats;
    beaten = it.beaten;
    share = ap (λ s. Some s) it.share_is;
    passes = subst (λ l. PassesGo l course (suc it.beat.answer.place) (filter (has_record (share_of it.rows plan.id it.read.answer.now)) (range_with_len 0 plan.atrs)) (told_log span share logs)) (sym (append_assoc toured head before))
        (subst (λ k. PassesGo (toured ++ (head ++ before)) course (suc it.beat.answer.place) k (told_log span share logs)) (due_all share plan.atrs ∙ ap (λ s. filter (has_record s) (range_with_len 0 plan.atrs)) it.share_is)
        (subst (λ n. PassesGo (toured ++ (head ++ before)) course n (due share 0 plan.atrs) (told_log span share logs)) (ap (λ h. past_of (h ++ before)) it.head_is) go));
  });
}

-- the log of a round that came to no share
pub early_round : (plan : CleanerPlan) (course : Course) (span : Span) (logs : List PassLog) (mine before : List Made) → Descends (mine ++ before) → logs ≡ [] → span ≡ span_of (past_of before) mine
    → EndsEarly plan course mine → RoundFollows plan (mine ++ before) course (past_of before) (record { span = span; share = None; passes = logs })
early_round plan course span logs mine before falls bare spanned early = record {
  spanned = subst (λ s. IsSpan (mine ++ before) (past_of before) s) (sym spanned) (span_is mine before falls);
  goes = inr (record {
    early = subst (λ k. EndsEarly plan course k) (sym (ap (λ s. during s (mine ++ before)) spanned ∙ during_span mine before falls)) early;
    share = refl;
    passes = bare;
  });
}

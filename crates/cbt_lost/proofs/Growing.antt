-- Rounds on an own list, as it grows.
use Rattle.std.proofs.Common.{◌≡◌, ℕ, suc, ◌≤◌, ◌⊎◌, inl, inr, Bool, true, false, List, [], ◌∷◌, ◌++◌, length, drop, refl, sym, ap, ◌∙◌, subst, arith}
use Rattle.cbt_model.specs.declared.events.Made.{Made}
use Rattle.cbt_book.specs.Cleaners.{CleanerPlan, Course, Whole, Cut, EndsEarly, PassesGo, RoundFollows, RoundsFollow, StandBehind, Shared, Unshared, course_of, rounds_end, AtLast}
use Rattle.cbt_book.specs.OwnLists.{Each}
use Rattle.cbt_book.specs.Passes.{passes_end}
use Rattle.cbt_book.specs.Spans.{IsSpan}
use Rattle.cbt_book.specs.declared.cleaners.RoundLog.{RoundLog}
use Rattle.cbt_book.specs.declared.operations.Span.{Span}
use Rattle.cbt_lost.specs.Cleaning.{AreRounds, HasTold}
use Rattle.cbt_lost.specs.Rounds.{is_over, log_of, IsRound, Stands}
use Rattle.cbt_lost.specs.declared.rounds.Round.{Round}
use Rattle.cbt_lost.proofs.Lists.{above, descends_back}
use Rattle.cbt_lost.proofs.Passing.{passes_on}
use Rattle.cbt_lost.proofs.Stepping.{stands_whole}
use Rattle.cbt_lost.proofs.Spanning.{during_front, past_lower, span_after, span_on, span_to}

module _ (plan : CleanerPlan) (l : List Made) (course : Course) (xs : List Made) where
  -- passes go over the records as they did
  go_on : (at : ℕ) (records : List ℕ) (log : RoundLog) → PassesGo l course at records log → Each (λ m _. log.span.to ≤ m.answer.place) xs → PassesGo (xs ++ l) course at records log
  go_on at records log it high = record {
    over = it.over;
    follow = passes_on l at log.passes xs it.follow (past_lower (passes_end at log.passes) log.span.to xs it.inside high);
    inside = it.inside;
    behind = subst (λ k. StandBehind course (drop (length log.passes) records) k) (sym (during_front (record { from = passes_end at log.passes; to = log.span.to }) xs l high)) it.behind;
  }

  shared_on : (log : RoundLog) → Shared plan l course log → Each (λ m _. log.span.to ≤ m.answer.place) xs → Shared plan (xs ++ l) course log
  shared_on log it high = record {
    rows = it.rows;
    later = it.later;
    beat = it.beat;
    read = it.read;
    calls = during_front log.span xs l high ∙ it.calls;
    reads = it.reads;
    shown = it.shown;
    beats = it.beats;
    beaten = it.beaten;
    share = it.share;
    passes = go_on (suc it.beat.answer.place) _ log it.passes high;
  }

  unshared_on : (log : RoundLog) → Unshared plan l course log → Each (λ m _. log.span.to ≤ m.answer.place) xs → Unshared plan (xs ++ l) course log
  unshared_on log it high =
      record { early = subst (λ k. EndsEarly plan course k) (sym (during_front log.span xs l high)) it.early; share = it.share; passes = it.passes }

  -- and so does a round
  pub round_on : (sweep : Bool) (at : ℕ) (log : RoundLog) → IsRound plan sweep l course at log → Each (λ m _. log.span.to ≤ m.answer.place) xs → IsRound plan sweep (xs ++ l) course at log
  round_on true at log it high = (span_on l at log.span xs it.0 high, it.1, go_on at _ log it.2 high)
  round_on false at log it high = record { spanned = span_on l at log.span xs it.spanned high; goes = by it.goes }
    where
      by : Shared plan l course log ⊎ Unshared plan l course log → Shared plan (xs ++ l) course log ⊎ Unshared plan (xs ++ l) course log
      by (inl shared) = inl (shared_on log shared high)
      by (inr unshared) = inr (unshared_on log unshared high)

span_in : (plan : CleanerPlan) (sweep : Bool) (l : List Made) (course : Course) (at : ℕ) (log : RoundLog) → IsRound plan sweep l course at log → IsSpan l at log.span
span_in plan true l course at log it = it.0
span_in plan false l course at log it = it.spanned

module _ (plan : CleanerPlan) (sweep : Bool) where
  rounds_low : (l : List Made) (at : ℕ) (logs : List RoundLog) → AreRounds plan sweep l at logs → at ≤ rounds_end at logs
  rounds_low l at [] all = omega arith
  rounds_low l at (log ∷ logs) all =
      let rest = rounds_low l log.span.to logs all.1 in let own = span_after l at log.span (span_in plan sweep l Whole at log all.0) in omega arith

  pub rounds_on : (l : List Made) (at : ℕ) (logs : List RoundLog) (xs : List Made) → AreRounds plan sweep l at logs → Each (λ m _. rounds_end at logs ≤ m.answer.place) xs → AreRounds plan sweep (xs ++ l) at logs
  rounds_on l at [] xs all high = tt
  rounds_on l at (log ∷ logs) xs all high = (
    round_on plan l Whole xs sweep at log all.0 (past_lower log.span.to (rounds_end log.span.to logs) xs (rounds_low l log.span.to logs all.1) high),
    rounds_on l log.span.to logs xs all.1 high,
  )

  rounds_snoc : (l : List Made) (at : ℕ) (logs : List RoundLog) (log : RoundLog) → AreRounds plan sweep l at logs → IsRound plan sweep l Whole (rounds_end at logs) log
      → AreRounds plan sweep l at (logs ++ log ∷ [])
  rounds_snoc l at [] log all last = (last, tt)
  rounds_snoc l at (next ∷ logs) log all last = (all.0, rounds_snoc l next.span.to logs log all.1 last)

pub end_snoc : (at : ℕ) (logs : List RoundLog) (log : RoundLog) → rounds_end at (logs ++ log ∷ []) ≡ log.span.to
end_snoc at [] log = refl
end_snoc at (next ∷ logs) log = end_snoc next.span.to logs log

-- one round more
pub told_more : (plan : CleanerPlan) (sweep : Bool) (before mine : List Made) (logs : List RoundLog) (round : Round) → HasTold plan sweep before logs → Stands plan sweep round before mine
    → is_over round.work ≡ true → HasTold plan sweep (mine ++ before) (logs ++ log_of round ∷ [])
told_more plan sweep before mine logs round told stands over falls =
    let old = told (descends_back mine before falls) in
    let all = rounds_on plan sweep before 0 logs mine old.0 (subst (λ n. Each (λ m _. n ≤ m.answer.place) mine) (sym old.1) (above mine before falls)) in (
      rounds_snoc plan sweep (mine ++ before) 0 logs (log_of round) all
          (subst (λ n. IsRound plan sweep (mine ++ before) Whole n (log_of round)) (sym old.1) (stands_whole plan sweep round before mine stands over falls)),
      end_snoc 0 logs (log_of round) ∙ ap (λ (s : Span). s.to) (stands.spanned falls) ∙ span_to mine before,
    )

-- ---- the log that they make

course_whole : (logs : List RoundLog) (last : RoundLog) → course_of true (logs ++ last ∷ []) ≡ Whole
course_whole [] last = refl
course_whole (log ∷ logs) last = refl

pub rounds_cut : (plan : CleanerPlan) (l : List Made) (at : ℕ) (done : List RoundLog) (last : RoundLog) → AreRounds plan false l at done → RoundFollows plan l Cut (rounds_end at done) last
    → RoundsFollow plan l true at (done ++ last ∷ [])
rounds_cut plan l at [] last all cut = (cut, tt)
rounds_cut plan l at (log ∷ done) last all cut =
    (subst (λ c. RoundFollows plan l c at log) (sym (course_whole done last)) all.0, rounds_cut plan l log.span.to done last all.1 cut)

pub rounds_whole : (plan : CleanerPlan) (l : List Made) (at : ℕ) (logs : List RoundLog) → AreRounds plan false l at logs → RoundsFollow plan l false at logs
rounds_whole plan l at [] all = tt
rounds_whole plan l at (log ∷ logs) all = (all.0, rounds_whole plan l log.span.to logs all.1)

pub at_last : (P : RoundLog → Type 0) (done : List RoundLog) (last : RoundLog) → P last → AtLast P (done ++ last ∷ [])
at_last P [] last it = it
at_last P (log ∷ []) last it = it
at_last P (log ∷ next ∷ done) last it = at_last P (next ∷ done) last it

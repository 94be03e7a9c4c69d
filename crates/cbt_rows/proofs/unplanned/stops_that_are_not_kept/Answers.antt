use Rattle.std.proofs.Common.{◌≡◌, ℕ, Bool, true, ◌≤◌, inr, List, [], ◌∷◌, ◌++◌, length, Some, refl, sym, ap, ◌∙◌, subst, lit≤, arith}
use Rattle.std.proofs.lemmas.List.{append-nil}
use Rattle.cbt_expr.specs.declared.plans.TxnPlan.{TxnPlan}
use Rattle.cbt_model.specs.declared.events.Made.{Made}
use Rattle.cbt_book.specs.Closing.{CommitHolds, IsFinished}
use Rattle.cbt_book.specs.declared.clients.AttemptEnd.TheVariants as attempt_end
use Rattle.cbt_book.specs.declared.clients.AttemptLog.{AttemptLog}
use Rattle.cbt_core.specs.Attempts.{AttemptFollows, Course, CutFollows, course_of}
use Rattle.cbt_core.specs.Clients.{FollowsPlan}
use Rattle.cbt_core.specs.Runs.{own_of}
use Rattle.cbt_core.specs.Stops.{HasCall, LastHasCall, unbegun, in_try, before_try}
use Rattle.cbt_core.specs.Transactions as transactions
use Rattle.cbt_core.specs.Walk.{AttemptTerms}
use Rattle.cbt_rows.specs.Changes.{idle, idle_book, ended_attempt, ended_client}
use Rattle.cbt_rows.specs.OneReplace as one
use Rattle.cbt_rows.specs.StopBeforeCommit as stopped
use Rattle.cbt_rows.proofs.Named.{nothing}
use Rattle.cbt_rows.proofs.Never.{no_bool, differ, filled}
use Rattle.cbt_rows.proofs.OneReplaceTrial.{own-1, its-commit, its-finish}
use Rattle.cbt_rows.proofs.unplanned.stops_that_are_not_kept.Goals as goal

idle-follows : (client atrs : ℕ) (plan : TxnPlan) (plans : List TxnPlan) → FollowsPlan client atrs (record { txns = plan ∷ plans }) [] idle
idle-follows client atrs plan plans = record {
  txns = (record { start = 0; start_is = refl; attempts = tt; few = none plan.tries; ends = transactions.unbegun refl }, tt, tt);
  whole = inr refl;
  inside = tt;
  counted = refl;
}
  where
    none : (tries : ℕ) → 0 ≤ tries
    none tries = omega arith

some-same : {x y : ℕ} → Some x ≡ Some y → x ≡ y
some-same e = cc

no_last : (earlier : List AttemptLog) (last : AttemptLog) → [] ≡ earlier ++ last ∷ [] → ⊥
no_last [] last e = cc
no_last (log ∷ earlier) last e = cc

no_call : LastHasCall 1 16 (own_of idle_book 1) 0 1 (record one.plan_1_1 { ops = [] } ∷ []) idle.txns → ⊥
no_call (unbegun none begins) = no_bool (sym begins)
no_call (in_try earlier last is has) = no_last earlier last is
no_call (before_try left time) = left.retried

-- nothing was cut off where no operation is left
none-cut : (t : AttemptTerms) (c : Course) (cut : List Made) → c.left ≡ [] → CutFollows t c cut → cut ≡ []
none-cut t c [] none follows = refl
none-cut t c (m ∷ older) none follows = absurd (filled (sym follows.left_is ∙ none))

abbrev terms : AttemptTerms
terms = transactions.attempt_terms (record { client = 1; number = 1; plan = one.plan_1_1; atrs = 16 }) 1000 1

-- the attempt has committed, and its entry was dropped
ended-by : (it : AttemptFollows terms one.made_1 0 ended_attempt) → one.m5 ∷ one.m4 ∷ one.m3 ∷ [] ≡ it.closing
ended-by it = it.rest ∙ ap (λ cut. it.closing ++ cut) (none-cut terms (course_of terms ended_attempt it.cut it.closing) it.cut refl it.cut_follows) ∙ append-nil it.closing

committed-stopped : {place : ℕ} {complete : Bool} → attempt_end.Committed place complete ≡ attempt_end.Stopped → ⊥
committed-stopped e = cc

not-ended : HasCall terms one.made_1 0 ended_attempt → ⊥
not-ended it = committed-stopped (it.unended (attempt_end.Committed 3 true) (
  record { all = refl; good = refl; keep = refl },
  subst (λ l. CommitHolds terms.id 3 l) (ended-by it.follows) its-commit,
  subst (λ l. IsFinished terms.id l true) (ended-by it.follows) its-finish,
))

only-try : (earlier : List AttemptLog) (last : AttemptLog) → ended_attempt ∷ [] ≡ earlier ++ last ∷ []
    → HasCall terms one.made_1 (transactions.attempts_end 0 earlier) last → ⊥
only-try [] last is has = not-ended (subst (λ log. HasCall terms one.made_1 0 log) (sym (same is)) has)
  where
    same : {x y : AttemptLog} → x ∷ [] ≡ y ∷ [] → x ≡ y
    same e = cc
only-try (x ∷ []) last is has = more is
  where
    more : {a b c : AttemptLog} → a ∷ [] ≡ b ∷ c ∷ [] → ⊥
    more e = cc
only-try (x ∷ y ∷ earlier) last is has = more is
  where
    more : {a b c : AttemptLog} {l : List AttemptLog} → a ∷ [] ≡ b ∷ c ∷ l → ⊥
    more e = cc

stopped-rolled : attempt_end.Stopped ≡ attempt_end.RolledBack → ⊥
stopped-rolled e = cc

stopped-lost : {place : ℕ} → attempt_end.Stopped ≡ attempt_end.EntryLost place → ⊥
stopped-lost e = cc

not-retried : transactions.IsRetried ended_attempt → ⊥
not-retried (transactions.after_answer end last) = stopped-rolled end
not-retried (transactions.after_commits end vain) = stopped-rolled end
not-retried (transactions.after_loss place end) = stopped-lost end

ended : LastHasCall 1 16 one.made_1 0 1 (one.plan_1_1 ∷ []) ended_client.txns → ⊥
ended (unbegun none begins) = filled none
ended (in_try earlier last is has) = only-try earlier last is has
ended (before_try try time) = not-retried try.retried

six : 6 ≤ 3 → ⊥
six h = omega arith

pub returns : goal.returns
returns c = record {
  idle_follows = idle-follows;
  unnamed = λ kept. nothing (kept.client 1 _ idle refl refl refl).0;
  elsewhere = λ kept. differ 4 3 refl (some-same (kept.client 1 _ stopped.client_1 refl refl refl).0);
  no_call = λ kept. no_call (kept.client 1 _ idle refl refl refl).1;
  ended = λ kept. ended (subst (λ l. LastHasCall 1 16 l 0 1 (one.plan_1_1 ∷ []) ended_client.txns) own-1 (kept.client 1 _ ended_client refl refl refl).1);
  too_many = λ kept. six (subst (λ l. length l ≤ 3) own-1 (kept.within 1 3 (lit≤ tt) refl));
}

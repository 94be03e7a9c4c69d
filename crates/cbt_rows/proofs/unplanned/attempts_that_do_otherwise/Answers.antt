use Rattle.std.proofs.Common.{◌≡◌, ℕ, ◌<◌, ◌⊎◌, inl, inr, [], refl, sym, arith}
use Rattle.cbt_book.specs.declared.clients.AttemptEnd.TheVariants as attempt_end
use Rattle.cbt_core.specs.Attempts.{HasEnded, all_answered, last_refused, cut_off, stopped, IsCut, MayRollBack, for_answer, for_time, for_plan, for_commits}
use Rattle.cbt_rows.specs.Changes.{unended_course, late_try, cut_course, first_try, whole_course}
use Rattle.cbt_rows.specs.TransactionExpires as expires
use Rattle.cbt_rows.proofs.Never.{no_bool, filled}
use Rattle.cbt_rows.proofs.unplanned.attempts_that_do_otherwise.Goals as goal

not_stopped : {p : ℕ} {b : _} → attempt_end.Committed p b ≡ attempt_end.Stopped → ⊥
not_stopped e = cc

undone-stopped : attempt_end.RolledBack ≡ attempt_end.Stopped → ⊥
undone-stopped e = cc

left_out : ¬ HasEnded unended_course
left_out (all_answered none) = filled none
left_out (last_refused last) = no_bool last
left_out (cut_off some) = some refl
left_out (stopped is) = not_stopped is

in_time : 30000 < 21001 → ⊥
in_time h = omega arith

neither : {A : Type 0} → (30000 < 21001) ⊎ ((attempt_end.RolledBack ≡ attempt_end.Stopped) × A) → ⊥
neither (inl late) = in_time late
neither (inr stop) = undone-stopped stop.0

not_cut : ¬ IsCut late_try cut_course expires.m1 []
not_cut it = neither it.why

not_back : ¬ MayRollBack first_try whole_course
not_back (for_answer last) = no_bool last
not_back (for_time late) = late
not_back (for_plan all good keep) = no_bool keep
not_back (for_commits vain) = no_bool (sym vain)

pub returns : goal.returns
returns c = record { left_out = left_out; in_time = not_cut; rolled_back = not_back }

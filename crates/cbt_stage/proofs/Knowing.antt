-- A put goes on knowing what its calls were, whatever fitting answer it gets.
use Rattle.std.proofs.Common.{◌≡◌, ℕ, zero, suc, Bool, true, false, inl, inr, List, [], ◌∷◌, Option, Some, None, refl, sym, ap, ◌∙◌, subst, arith}
use Rattle.std.proofs.lemmas.List.{append-nil}
use Rattle.std.proofs.lemmas.Option.{none-some}
use Rattle.cbt_model.specs.Fitting.{fits, fits_stage, fits_read_entry, fits_add_entry}
use Rattle.cbt_model.specs.History.{is_done}
use Rattle.cbt_model.specs.declared.entries.Entry.{Entry}
use Rattle.cbt_model.specs.declared.events.Made.{Made}
use Rattle.cbt_model.specs.declared.steps.Expect.{Expect}
use Rattle.cbt_model.specs.declared.steps.Expect.TheVariants as expect
use Rattle.cbt_model.specs.declared.steps.Reply.{Reply}
use Rattle.cbt_model.specs.declared.steps.Reply.TheVariants as reply
use Rattle.cbt_model.specs.declared.steps.Step.{Step}
use Rattle.cbt_model.specs.declared.steps.Step.TheVariants as step
use Rattle.cbt_book.specs.Outcomes.{expected, is_refusal}
use Rattle.cbt_book.specs.Shown.{ReadsEntry, added, was_there}
use Rattle.cbt_stage.specs.OpenPuts.{LeavesOpen, shown, missing, entered as told_entered}
use Rattle.cbt_stage.specs.Phases.{step_for, end_in, again, entered, first, start, after_entry, after_adding, after_staging, after}
use Rattle.cbt_stage.specs.Standing.{WasAsked, IsFree, EndsBy, Knows}
use Rattle.cbt_stage.specs.Tasks.{adds, stages}
use Rattle.cbt_stage.specs.declared.ends.PutEnd.{PutEnd}
use Rattle.cbt_stage.specs.declared.phases.Phase.{Phase}
use Rattle.cbt_stage.specs.declared.phases.Phase.TheVariants.{Asking, Adding, Staging, Ended}
use Rattle.cbt_stage.specs.declared.tasks.Task.{Task}
use Rattle.cbt_stage.proofs.Counting.{some_same, staged_ends}

-- where nobody is in the way, the put enters
enters : (o : Task) (sent : Bool) (mine : List Made) → o.sent ≡ sent → IsFree o mine → Knows o (entered sent) mine
enters o true mine is free = record { entered = inl is; free = free }
enters o false mine is free = record { unsent = is; free = free }

-- the first phase, before any call
pub starts : (o : Task) → Knows o (start o) []
starts o = by_reading o.seen.by o.seen.gone refl refl
  where
    by_reading : (by : Option (ℕ × ℕ)) (gone : Bool) → o.seen.by ≡ by → o.seen.gone ≡ gone → Knows o (first o by gone) []
    by_reading None gone by_is gone_is = enters o o.sent [] refl (λ r b waits. absurd (none-some (r, b) (sym by_is ∙ waits.staged_by)))
    by_reading (Some by) true by_is gone_is = enters o o.sent [] refl (λ r b waits. absurd (there waits.there gone_is))
      where
        there : {b : Bool} → b ≡ false → b ≡ true → ⊥
        there one two = cc
    by_reading (Some by) false by_is gone_is = record { waits = record { staged_by = by_is; there = gone_is }; shown = record {}; count = refl }

-- the entry was shown once more
again_on : (o : Task) (r by left : ℕ) (mine : List Made) (m : Made) (e : Entry) → WasAsked o r by left mine → ReadsEntry r by e m → Knows o (again r by left) (m ∷ mine)
again_on o r by zero mine m e was reads =
    let count = was.count in
    record {
      atr = r;
      waits = was.waits;
      asked = record {
        asked = m ∷ mine;
        calls_are = sym (append-nil (m ∷ mine));
        four = omega arith;
        shown = ((e, reads), was.shown);
      };
    }
again_on o r by (suc left) mine m e was reads = let count = was.count in record { waits = was.waits; shown = ((e, reads), was.shown); count = omega arith }

-- the entry of the attempt whose write waits
entry_on : (o : Task) (r by left : ℕ) (mine : List Made) (m : Made) → m.step ≡ step.ReadEntry r by → WasAsked o r by left mine
    → (answer : Reply) → m.answer.reply ≡ answer → fits_read_entry answer ≡ true → Knows o (after_entry o r by left m.answer.place answer) (m ∷ mine)
entry_on o r by left mine m is was reply.NoEntry told fit =
    enters o o.sent (m ∷ mine) refl
    (λ q b waits. inl (is ∙ ap (λ w. step.ReadEntry w.0 w.1) (some_same (sym was.waits.staged_by ∙ waits.staged_by)), told))
entry_on o r by left mine m is was (reply.Entry e) told fit = again_on o r by left mine m e was (is, told)
entry_on o r by left mine m is was reply.Failed told fit = record { newest = m; older = mine; calls_are = refl; failed = told; place_is = refl }
entry_on o r by left mine m is was _ told fit = absurd (cc)

-- the attempt's own entry
adding_on : (o : Task) (mine : List Made) (m : Made) → m.step ≡ adds o → IsFree o mine
    → (answer : Reply) → m.answer.reply ≡ answer → fits_add_entry answer ≡ true → Knows o (after_adding m.answer.place answer) (m ∷ mine)
adding_on o mine m is free (reply.Done c) told fit = record { entered = inr (inl (added o.exp c is told)); free = λ r by waits. inr (free r by waits) }
adding_on o mine m is free reply.Exists told fit = record { entered = inr (inl (was_there o.exp is told)); free = λ r by waits. inr (free r by waits) }
adding_on o mine m is free reply.Failed told fit = record { newest = m; older = mine; calls_are = refl; failed = told; place_is = refl }
adding_on o mine m is free _ told fit = absurd (cc)

-- of the answers that fit a staging those that are left are refusals
pub refuses : (e : Expect) (answer : Reply) → fits_stage e answer ≡ true → is_done answer ≡ false → (answer ≡ reply.Failed → ⊥) → is_refusal answer ≡ true
refuses e reply.Exists fit done failed = refl
refuses e reply.Absent fit done failed = refl
refuses e (reply.CasMismatch have) fit done failed = refl
refuses e reply.Failed fit done failed = absurd (failed refl)
refuses e (reply.Done c) fit done failed = absurd (cc)
refuses expect.New _ fit done failed = absurd (cc)
refuses (expect.Cas x) _ fit done failed = absurd (cc)

-- the write
staging_on : (o : Task) (mine : List Made) (m : Made) → m.step ≡ stages o
    → (answer : Reply) → m.answer.reply ≡ answer → fits_stage (expected o.seen.cas) answer ≡ true → Knows o (after_staging o m.answer.place answer) (m ∷ mine)
staging_on o mine m is (reply.Done c) told fit =
    (refl, record { newest = m; older = mine; calls_are = refl; stages_write = is; answered = (refl, ap is_done told) })
staging_on o mine m is reply.Failed told fit = record { newest = m; older = mine; calls_are = refl; failed = told; place_is = refl }
staging_on o mine m is answer told fit =
    record {
      newest = m;
      older = mine;
      calls_are = refl;
      stages_write = is;
      answered = ap is_refusal told ∙ refuses (expected o.seen.cas) answer fit refl (λ same. cc);
    }

-- a call of the phase, with a fitting answer
pub knows_on : (o : Task) (p : Phase) (mine : List Made) (m : Made) → step_for o p ≡ Some m.step → fits m.step m.answer.reply ≡ true → Knows o p mine
    → Knows o (after o p m.answer.place m.answer.reply) (m ∷ mine)
knows_on o (Asking r by left) mine m asked fit was =
    entry_on o r by left mine m (sym (some_same asked)) was m.answer.reply refl (ap (λ s. fits s m.answer.reply) (some_same asked) ∙ fit)
knows_on o Adding mine m asked fit may =
    adding_on o mine m (sym (some_same asked)) may.free m.answer.reply refl (ap (λ s. fits s m.answer.reply) (some_same asked) ∙ fit)
knows_on o Staging mine m asked fit has =
    staging_on o mine m (sym (some_same asked)) m.answer.reply refl (ap (λ s. fits s m.answer.reply) (some_same asked) ∙ fit)
knows_on o (Ended end) mine m asked fit it = absurd (none-some m.step asked)

-- a put that has ended did so by its calls
pub ends_by : (o : Task) (p : Phase) (mine : List Made) (end : PutEnd) → Knows o p mine → end_in p ≡ Some end → EndsBy o end mine
ends_by o (Asking r by left) mine end was ended = absurd (none-some end ended)
ends_by o Adding mine end may ended = absurd (none-some end ended)
ends_by o Staging mine end has ended = absurd (none-some end ended)
ends_by o (Ended last) mine end it ended = subst (λ e. EndsBy o e mine) (some_same ended) it

-- a call that did not end a put left it open
entry_open : (o : Task) (r by left : ℕ) (m : Made) → m.step ≡ step.ReadEntry r by → (answer : Reply) → m.answer.reply ≡ answer → fits_read_entry answer ≡ true
    → end_in (after_entry o r by left m.answer.place answer) ≡ None → LeavesOpen o m
entry_open o r by left m is reply.NoEntry told fit going = missing r by (is, told)
entry_open o r by left m is (reply.Entry e) told fit going = shown r by e (is, told)
entry_open o r by left m is reply.Failed told fit going = absurd (cc)
entry_open o r by left m is _ told fit going = absurd (cc)

adding_open : (o : Task) (m : Made) → m.step ≡ adds o → (answer : Reply) → m.answer.reply ≡ answer → fits_add_entry answer ≡ true
    → end_in (after_adding m.answer.place answer) ≡ None → LeavesOpen o m
adding_open o m is (reply.Done c) told fit going = told_entered (added o.exp c is told)
adding_open o m is reply.Exists told fit going = told_entered (was_there o.exp is told)
adding_open o m is reply.Failed told fit going = absurd (cc)
adding_open o m is _ told fit going = absurd (cc)

pub left_open : (o : Task) (p : Phase) (m : Made) → step_for o p ≡ Some m.step → fits m.step m.answer.reply ≡ true
    → end_in (after o p m.answer.place m.answer.reply) ≡ None → LeavesOpen o m
left_open o (Asking r by left) m asked fit going =
    entry_open o r by left m (sym (some_same asked)) m.answer.reply refl (ap (λ s. fits s m.answer.reply) (some_same asked) ∙ fit) going
left_open o Adding m asked fit going = adding_open o m (sym (some_same asked)) m.answer.reply refl (ap (λ s. fits s m.answer.reply) (some_same asked) ∙ fit) going
left_open o Staging m asked fit going = absurd (staged_ends o m.answer.place m.answer.reply going)
left_open o (Ended end) m asked fit going = absurd (none-some m.step asked)

-- a put that asks for a call has not ended
pub was_going : (o : Task) (p : Phase) (s : Step) → step_for o p ≡ Some s → end_in p ≡ None
was_going o p s asked = grind arith

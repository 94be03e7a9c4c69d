-- The calls of a put are few.
use Rattle.std.proofs.Common.{◌≡◌, ℕ, suc, ◌+◌, ◌≤◌, ◌<◌, Bool, true, false, cond, List, ◌∷◌, length, count_by, Some, None, ⊎_elim, refl, sym, ap, ◌∙◌, subst, arith}
use Rattle.std.specs.Option.{IsSome}
use Rattle.std.proofs.lemmas.List.Sums.{sum_by-cons}
use Rattle.std.proofs.lemmas.Option.{none-some}
use Rattle.cbt_model.specs.declared.events.Made.{Made}
use Rattle.cbt_model.specs.declared.steps.Reply.{Reply}
use Rattle.cbt_model.specs.declared.steps.Step.{Step}
use Rattle.cbt_book.specs.Calls.{reads_doc, reads_entry, adds_entry, writes_doc, MayWrite, WriteTerms}
use Rattle.cbt_book.specs.OwnLists.{Once}
use Rattle.cbt_stage.specs.Phases.{step_for, end_in, left_in, after, after_entry, after_adding, after_staging}
use Rattle.cbt_stage.specs.PutCalls.{PutCalls}
use Rattle.cbt_stage.specs.Standing.{IsUnder, Knows, entries_left, adds_left, HasRoom}
use Rattle.cbt_stage.specs.declared.phases.Phase.{Phase}
use Rattle.cbt_stage.specs.declared.phases.Phase.TheVariants.{Asking, Adding, Staging, Ended}
use Rattle.cbt_stage.specs.declared.tasks.Task.{Task}

pub some_same : {X : Type 0} {x y : X} → Some x ≡ Some y → x ≡ y
some_same both = cc

-- each answer leaves fewer calls
pub fewer_left : (o : Task) (p : Phase) (place : ℕ) (r : Reply) → IsSome (step_for o p) → left_in (after o p place r) < left_in p
fewer_left o p place r asked = grind arith

some_is : (o : Task) (p : Phase) (s : Step) → step_for o p ≡ Some s → IsSome (step_for o p)
some_is o p s asked = grind arith

pub few_on : (o : Task) (p : Phase) (mine : List Made) (m : Made) → step_for o p ≡ Some m.step → length mine + left_in p ≤ 6
    → length (m ∷ mine) + left_in (after o p m.answer.place m.answer.reply) ≤ 6
few_on o p mine m asked few = let fewer = fewer_left o p m.answer.place m.answer.reply (some_is o p m.step asked) in omega arith

-- no call is left exactly where none is asked for
pub none_left : (o : Task) (p : Phase) → left_in p ≡ 0 → step_for o p ≡ None
none_left o p none = grind arith

pub none_asked : (o : Task) (p : Phase) → step_for o p ≡ None → left_in p ≡ 0
none_asked o p none = grind arith

-- a test that passes counts one more, and another none
pub counts : (p : Made → Bool) (m : Made) (l : List Made) → p m ≡ true → count_by p (m ∷ l) ≡ suc (count_by p l)
counts p m l passes = sum_by-cons (λ x. cond (p x) 1 0) m l ∙ ap (λ b. cond b 1 0 + count_by p l) passes ∙ omega arith

pub counts_not : (p : Made → Bool) (m : Made) (l : List Made) → p m ≡ false → count_by p (m ∷ l) ≡ count_by p l
counts_not p m l fails = sum_by-cons (λ x. cond (p x) 1 0) m l ∙ ap (λ b. cond b 1 0 + count_by p l) fails ∙ omega arith

-- what the answer to a call leaves
entries_fewer : (o : Task) (r by left place : ℕ) (answer : Reply) → entries_left (after_entry o r by left place answer) ≤ left
entries_fewer o r by left place answer = grind arith

adds_few : (o : Task) (r by left place : ℕ) (answer : Reply) → adds_left (after_entry o r by left place answer) ≤ 1
adds_few o r by left place answer = grind arith

added_entries : (place : ℕ) (answer : Reply) → entries_left (after_adding place answer) ≡ 0
added_entries place answer = grind arith

added_adds : (place : ℕ) (answer : Reply) → adds_left (after_adding place answer) ≡ 0
added_adds place answer = grind arith

staged_entries : (o : Task) (place : ℕ) (answer : Reply) → entries_left (after_staging o place answer) ≡ 0
staged_entries o place answer = grind arith

staged_adds : (o : Task) (place : ℕ) (answer : Reply) → adds_left (after_staging o place answer) ≡ 0
staged_adds o place answer = grind arith

pub staged_ends : (o : Task) (place : ℕ) (answer : Reply) → end_in (after_staging o place answer) ≡ None → ⊥
staged_ends o place answer going = grind arith

true-false : {b : Bool} → b ≡ true → b ≡ false → ⊥
true-false one two = cc

-- a call that writes nothing is no write
unwritten_more : (m : Made) (l : List Made) → writes_doc m.step ≡ false → ¬ Once (λ n _. writes_doc n.step ≡ true) l
    → ¬ Once (λ n _. writes_doc n.step ≡ true) (m ∷ l)
unwritten_more m l other none once = ⊎_elim (λ here. true-false here other) (λ later. none later) once

-- a call of the phase keeps the room for the others
pub room_on : (t : WriteTerms) (o : Task) (p : Phase) (mine : List Made) (m : Made) → IsUnder t o → step_for o p ≡ Some m.step → Knows o p mine → HasRoom t o.doc p mine
    → HasRoom t o.doc (after o p m.answer.place m.answer.reply) (m ∷ mine)
room_on t o (Asking r by left) mine m under asked was room =
    let is = some_same asked in
    let more = counts (λ k. reads_entry k.step) m mine (ap reads_entry (sym is)) in
    let same = counts_not (λ k. adds_entry k.step) m mine (ap adds_entry (sym is)) in
    let fewer = entries_fewer o r by left m.answer.place m.answer.reply in
    let few = adds_few o r by left m.answer.place m.answer.reply in
    let entries = room.entries in
    let added = room.added in
    record {
      only = (subst (MayWrite t o.doc) is (record {}), room.only);
      unread = (ap reads_doc (sym is), room.unread);
      entries = omega arith;
      added = omega arith;
      written_last = (room.unwritten refl, room.written_last);
      unwritten = λ going. unwritten_more m mine (ap writes_doc (sym is)) (room.unwritten refl);
    }
room_on t o Adding mine m under asked may room =
    let is = some_same asked in
    let same = counts_not (λ k. reads_entry k.step) m mine (ap reads_entry (sym is)) in
    let more = counts (λ k. adds_entry k.step) m mine (ap adds_entry (sym is)) in
    let no_entries = added_entries m.answer.place m.answer.reply in
    let no_adds = added_adds m.answer.place m.answer.reply in
    let entries = room.entries in
    let added = room.added in
    record {
      only = (subst (MayWrite t o.doc) is (under.id_is, under.atr_is may.unsent, under.hold_is), room.only);
      unread = (ap reads_doc (sym is), room.unread);
      entries = omega arith;
      added = omega arith;
      written_last = (room.unwritten refl, room.written_last);
      unwritten = λ going. unwritten_more m mine (ap writes_doc (sym is)) (room.unwritten refl);
    }
room_on t o Staging mine m under asked has room =
    let is = some_same asked in
    let same = counts_not (λ k. reads_entry k.step) m mine (ap reads_entry (sym is)) in
    let none = counts_not (λ k. adds_entry k.step) m mine (ap adds_entry (sym is)) in
    let no_entries = staged_entries o m.answer.place m.answer.reply in
    let no_adds = staged_adds o m.answer.place m.answer.reply in
    let entries = room.entries in
    let added = room.added in
    record {
      only = (subst (MayWrite t o.doc) is (refl, under.id_is), room.only);
      unread = (ap reads_doc (sym is), room.unread);
      entries = omega arith;
      added = omega arith;
      written_last = (room.unwritten refl, room.written_last);
      unwritten = λ going. absurd (staged_ends o m.answer.place m.answer.reply going);
    }
room_on t o (Ended end) mine m under asked it room = absurd (none-some m.step asked)

-- the calls so far are those of a put
pub put_calls : (t : WriteTerms) (d : List ℕ) (p : Phase) (mine : List Made) → HasRoom t d p mine → PutCalls t d mine
put_calls t d p mine room =
    let entries = room.entries in
    let added = room.added in
    record {
      only = room.only;
      unread = room.unread;
      entries = omega arith;
      added = omega arith;
      written_last = room.written_last;
    }

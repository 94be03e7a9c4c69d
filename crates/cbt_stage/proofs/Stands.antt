-- A put stands for its calls before the first and after each of them.
use Rattle.std.proofs.Common.{◌≡◌, ℕ, ◌%◌, ◌≤◌, true, false, List, [], ◌∷◌, Option, Some, None, refl, arith}
use Rattle.cbt_base.specs.Ids.{fnv_1a}
use Rattle.cbt_json.specs.declared.value.Json.{Json}
use Rattle.cbt_model.specs.Fitting.{fits}
use Rattle.cbt_model.specs.declared.documents.OpKind.{OpKind}
use Rattle.cbt_model.specs.declared.events.Answer.{Answer}
use Rattle.cbt_model.specs.declared.events.Made.{Made}
use Rattle.cbt_model.specs.declared.steps.Step.{Step}
use Rattle.cbt_book.specs.Calls.{WriteTerms}
use Rattle.cbt_book.specs.ReadAt.{Reading}
use Rattle.cbt_attempt.specs.declared.attempt.Attempt.{Attempt}
use Rattle.cbt_stage.specs.Phases.{start, left_in, step_of, after}
use Rattle.cbt_stage.specs.PutCalls.{terms_of}
use Rattle.cbt_stage.specs.Standing.{IsUnder, entries_left, adds_left, StandsFor}
use Rattle.cbt_stage.specs.Tasks.{record_of, task_of}
use Rattle.cbt_stage.specs.declared.puts.Put.{Put}
use Rattle.cbt_stage.specs.declared.tasks.Task.{Task}
use Rattle.cbt_stage.proofs.Counting.{few_on, room_on}
use Rattle.cbt_stage.proofs.Knowing.{knows_on, left_open, starts, was_going}

entries_first : (o : Task) → entries_left (start o) ≤ 4
entries_first o = grind arith

adds_first : (o : Task) → adds_left (start o) ≤ 1
adds_first o = grind arith

left_first : (o : Task) → left_in (start o) ≤ 6
left_first o = grind arith

under : (a : Attempt) (d : List ℕ) (kind : OpKind) (content : Option Json) (it : Reading) → IsUnder (terms_of a) (task_of a d kind content it)
under a d kind content it = record { id_is = refl; hold_is = refl; atr_is = λ unsent. by_sent a.sent unsent }
  where
    by_sent : (sent : Option ℕ) → (task_of (record a { sent = sent }) d kind content it).sent ≡ false → record_of sent d a.atrs ≡ fnv_1a d % a.atrs
    by_sent None unsent = refl
    by_sent (Some r) unsent = absurd (cc)

pub stands_first : (a : Attempt) (d : List ℕ) (kind : OpKind) (content : Option Json) (it : Reading)
    → StandsFor (terms_of a) (record { task = task_of a d kind content it; phase = start (task_of a d kind content it) }) []
stands_first a d kind content it =
    let o = task_of a d kind content it in
    let entries = entries_first o in
    let adds = adds_first o in
    let left = left_first o in
    record {
      under = under a d kind content it;
      knows = starts o;
      room = record { only = record {}; unread = record {}; entries = omega arith; added = omega arith; written_last = record {}; unwritten = λ going once. once };
      few = omega arith;
      going = λ none. record {};
    }

pub stands_on : (t : WriteTerms) (put : Put) (mine : List Made) (s : Step) (answer : Answer) → step_of put ≡ Some s → fits s answer.reply ≡ true → StandsFor t put mine
    → StandsFor t (record { task = put.task; phase = after put.task put.phase answer.place answer.reply }) (record { step = s; answer = answer } ∷ mine)
stands_on t put mine s answer asked fit stands =
    let m : Made = record { step = s; answer = answer } in
    record {
      under = stands.under;
      knows = knows_on put.task put.phase mine m asked fit stands.knows;
      room = room_on t put.task put.phase mine m stands.under asked stands.knows stands.room;
      few = few_on put.task put.phase mine m asked stands.few;
      going = λ none. (left_open put.task put.phase m asked fit none, stands.going (was_going put.task put.phase s asked));
    }

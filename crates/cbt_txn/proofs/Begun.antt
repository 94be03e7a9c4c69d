-- The work with which an operation begins is licensed.
use Rattle.std.proofs.Common.{◌≡◌, ℕ, Bool, true, false, cond, ◌&&◌, List, [], Option, Some, None, is_some, Ok, Err, refl, ap, sym, ◌∙◌, subst, arith}
use Rattle.cbt_json.specs.declared.value.Json.{Json}
use Rattle.cbt_model.specs.declared.documents.OpKind.{OpKind}
use Rattle.cbt_model.specs.declared.events.Made.{Made}
use Rattle.cbt_book.specs.Numbers.{Identity}
use Rattle.cbt_book.specs.OwnLists.{Once}
use Rattle.cbt_book.specs.ReadAt.{Reading, IsReadAt}
use Rattle.cbt_book.specs.Shown.{adds, AddsEntry}
use Rattle.cbt_core.specs.OpAnswers.{agrees}
use Rattle.cbt_core.specs.Walk.{Request, Reads, Writes, Tests}
use Rattle.cbt_attempt.specs.OwnWrites.{noted}
use Rattle.cbt_attempt.specs.declared.attempt.Attempt.{Attempt}
use Rattle.cbt_attempt.specs.declared.own.Own.{Own}
use Rattle.cbt_read.specs.declared.phases.Phase.TheVariants.{Begun}
use Rattle.cbt_stage.specs.PutCalls.{terms_of}
use Rattle.cbt_stage.specs.Ready.{IsPart, IsReady}
use Rattle.cbt_stage.specs.Rewrites.{needs_call}
use Rattle.cbt_stage.specs.Standing as put_stands
use Rattle.cbt_stage.specs.Tasks.{record_of, task_of}
use Rattle.cbt_stage.specs.declared.puts.Put.{Put}
use Rattle.cbt_stage.specs.declared.tasks.Task.{Task}
use Rattle.cbt_txn.specs.Beginnings.{Begins}
use Rattle.cbt_txn.specs.Licensing.{GoesWell, MayWork, gets, puts, agains, Owns}
use Rattle.cbt_txn.specs.Starts.{over, over_own, over_reading, read_first, started, unstamped}
use Rattle.cbt_txn.specs.declared.operations.Work.{Work}
use Rattle.cbt_txn.specs.declared.operations.Work.TheVariants as work
use Rattle.cbt_txn.specs.declared.starts.Beginning.{Beginning}
use Rattle.cbt_txn.specs.declared.starts.Beginning.TheVariants as beginning
use Rattle.cbt_txn.specs.declared.starts.Start.TheVariants.{Calls}
use Rattle.cbt_txn.proofs.FirstCalls.{apart, no_gets, over_sent}

-- ---- which reading a put stands on

over_own_puts : (a : Attempt) (own write w : Own) (d q : List ℕ) (it : Reading) → over_own a own d write ≡ Calls (beginning.Put q w it) → ⊥
over_own_puts a own write w d q it = by (needs_call write.kind own.kind) (is_some a.sent && is_some own.cas)
  where
    by : (b c : Bool) → over_sent b c d write ≡ Calls (beginning.Put q w it) → ⊥
    by true true both = cc
    by true false both = apart both
    by false c both = apart both

over_reading_puts : (seen : Option Reading) (d q : List ℕ) (write w : Own) (it : Reading) → over_reading d write seen ≡ Calls (beginning.Put q w it)
    → (d ≡ q) × (seen ≡ Some it)
over_reading_puts None d q write w it is = absurd (cc)
over_reading_puts (Some seen) d q write w it is = by (agrees write.kind seen.value) is
  where
    by : (b : Bool) → cond b (Calls (beginning.Put d write seen)) (Calls (beginning.Read d write)) ≡ Calls (beginning.Put q w it) → (d ≡ q) × (Some seen ≡ Some it)
    by true is = (cc, cc)
    by false is = absurd (cc)

some_same : {X : Type 0} {x y : X} → Some x ≡ Some y → x ≡ y
some_same both = cc

put_seen : (a : Attempt) (r : Request) (d : List ℕ) (write : Own) (it : Reading) → started a r ≡ Calls (beginning.Put d write it) → noted a.seen d ≡ Some it
put_seen a (Reads q name) d write it is = by (noted a.writes q) is
  where
    by : (own : Option Own) → read_first q own ≡ Calls (beginning.Put d write it) → noted a.seen d ≡ Some it
    by None is = absurd (cc)
    by (Some own) is = absurd (apart is)
put_seen a (Writes q kind (Ok content)) d write it is = by (noted a.writes q) is
  where
    by : (own : Option Own) → over a q (unstamped kind content) own ≡ Calls (beginning.Put d write it) → noted a.seen d ≡ Some it
    by None is =
        let found = over_reading_puts (noted a.seen q) q d (unstamped kind content) write it is in
        ap (noted a.seen) (sym found.0) ∙ found.1
    by (Some own) is = absurd (over_own_puts a own (unstamped kind content) write q d it is)
put_seen a (Writes q kind (Err part)) d write it is = absurd (apart is)
put_seen a (Tests (Ok true)) d write it is = absurd (apart is)
put_seen a (Tests (Ok false)) d write it is = absurd (apart is)
put_seen a (Tests (Err part)) d write it is = absurd (apart is)

-- ---- what may be begun

module _ (who : Identity) (a : Attempt) (l : List Made) (owns : Owns who a l) (well : GoesWell a l) where
  read_begun : (d : List ℕ) (write : Option Own) → MayWork who a l (work.Get (record { doc = d; phase = Begun }) write)
  read_begun d write = gets (record { doc = d; phase = Begun }) write [] l well refl (record { knows = refl; bounded = no_gets d; few = omega arith })

  unsent_yet : (sent : Option ℕ) → a.sent ≡ sent → is_some sent ≡ false → ¬ Once (λ m _. adds m.step ≡ Some a.id) l
  unsent_yet None here is = owns.unsent here
  unsent_yet (Some r) here is = absurd (cc)

  entered : (d : List ℕ) (sent : Option ℕ) → a.sent ≡ sent → is_some sent ≡ true → Once (λ m _. AddsEntry (record_of sent d a.atrs) a.id m) l
  entered d None here is = absurd (cc)
  entered d (Some r) here is = well.added r here

  put_ready : (d : List ℕ) (kind : OpKind) (content : Option Json) (it : Reading) (part : List Made) → IsPart part l → IsReadAt d it part
      → IsReady who (task_of a d kind content it) l
  put_ready d kind content it part is reads = record {
    own = owns.own;
    unsent = unsent_yet a.sent refl;
    sent = entered d a.sent refl;
    undecided = owns.undecided;
    read = (part, is, reads);
  }

  pub put_begun : (d : List ℕ) (kind : OpKind) (content : Option Json) (it : Reading) (made : Put) (part : List Made) → IsPart part l → IsReadAt d it part
      → made.task ≡ task_of a d kind content it → put_stands.StandsFor (terms_of a) made [] → MayWork who a l (work.Put made)
  put_begun d kind content it made part is reads task_is stands =
      puts made [] l well refl stands (subst (λ t. IsReady who t l) (sym task_is) (put_ready d kind content it part is reads))
      (λ r sent. subst (λ t. r ≡ t.atr) (sym task_is) (sym (ap (λ o. record_of o d a.atrs) sent))) (ap (λ (t : Task). t.write.cas) task_is)

  pub work_begun : (r : Request) (b : Beginning) (w : Work) → started a r ≡ Calls b → Begins a b w → MayWork who a l w
  work_begun r (beginning.Get d) w is begins = subst (MayWork who a l) (sym begins) (read_begun d None)
  work_begun r (beginning.Read d write) w is begins = subst (MayWork who a l) (sym begins) (read_begun d (Some write))
  work_begun r (beginning.Put d write it) w is begins =
      let read = owns.read d it (put_seen a r d write it is) in
      subst (MayWork who a l) (sym begins.1)
      (put_begun d write.kind write.content it begins.0 read.0 read.1 read.2 begins.2.task_is begins.2.stands)
  work_begun r (beginning.Again d write) w is begins =
      subst (MayWork who a l) (sym begins.1) (agains begins.0 d write.kind write.content well begins.2.going begins.2.task_is)

-- An operation whose read has not ended has no answer by its calls.
use Rattle.std.proofs.Common.{◌≡◌, ◌≢◌, ℕ, suc, Bool, true, false, ⊎_elim, List, [], ◌∷◌, ◌++◌, length, Option, Some, None, sym, ap, ◌∙◌, subst, arith}
use Rattle.std.proofs.lemmas.Option.{none-some}
use Rattle.cbt_json.specs.declared.value.Json.{Json}
use Rattle.cbt_model.specs.declared.documents.OpKind.{OpKind}
use Rattle.cbt_model.specs.declared.documents.OpKind.TheVariants.{Insert}
use Rattle.cbt_model.specs.declared.events.Made.{Made}
use Rattle.cbt_model.specs.declared.steps.Reply.TheVariants as reply
use Rattle.cbt_model.specs.declared.steps.Step.{Step}
use Rattle.cbt_model.specs.declared.steps.Step.TheVariants as step
use Rattle.cbt_book.specs.Calls.{writes_doc}
use Rattle.cbt_book.specs.Outcomes.{DoneAt, EndsFailed, IsContended}
use Rattle.cbt_book.specs.OwnLists.{Each}
use Rattle.cbt_book.specs.declared.operations.OpAnswer.{OpAnswer}
use Rattle.cbt_book.specs.declared.operations.OpAnswer.TheVariants as answer
use Rattle.cbt_book.specs.declared.operations.When.{When}
use Rattle.cbt_book.specs.declared.operations.When.TheVariants as when
use Rattle.cbt_core.specs.OpAnswers.{Answered, GetAnswered, IsBlocked, IsMoved, OwnHas, ReadsAt, StagesOver, StandsOn, TakesBack, WriteAnswered, agrees_last}
use Rattle.cbt_core.specs.OpAnswers as answers
use Rattle.cbt_core.specs.Staying.{StaysAsShown}
use Rattle.cbt_core.specs.Walk.{AttemptTerms, Sofar}
use Rattle.cbt_logs.proofs.Lists.{each_back, once_back}
use Rattle.cbt_read.specs.OpenReads.{LeavesOpen}
use Rattle.cbt_read.specs.OpenReads as open_reads
use Rattle.cbt_read.specs.Phases.{end_in}
use Rattle.cbt_read.specs.Standing.{Decides, Knows}
use Rattle.cbt_read.specs.declared.phases.Phase.{Phase}
use Rattle.cbt_read.specs.declared.phases.Phase.TheVariants.{Begun, Asking, Again, Ended}
use Rattle.cbt_read.specs.declared.phases.Staged.{Staged}
use Rattle.cbt_txn.proofs.Apart.{IsOpen, TwiceAt, clash_once, doc_entry, hands_apart, hands_leave, hands_long, hands_open, open_unread}

-- ---- a read that has not ended

decides_leaves : (d : List ℕ) (it : Staged) (gone : Bool) (m : Made) → Decides it gone m → LeavesOpen d m
decides_leaves d it false m told = open_reads.committed it.stage.atr it.stage.attempt told.0 told.1 told.2
decides_leaves d it true m told = open_reads.missing it.stage.atr it.stage.attempt told

pub decides_step : (it : Staged) (gone : Bool) (m : Made) → Decides it gone m → m.step ≡ step.ReadEntry it.stage.atr it.stage.attempt
decides_step it false m told = told.1.0
decides_step it true m told = told.0

some_none : {X : Type 0} {x : X} → Some x ≡ None → ⊥
some_none both = cc

-- its calls leave it open
pub open_of : (d : List ℕ) (p : Phase) (mine : List Made) → StaysAsShown mine → Knows d p mine → end_in p ≡ None → IsOpen d mine
open_of d Begun mine stays none going = subst (λ k. IsOpen d k) (sym none) (record { leaves = tt; apart = λ x twice. twice })
open_of d (Asking staged left) mine stays shown going = hands_open d shown.readings staged.cas staged.stage mine stays shown.hands
open_of d (Again staged gone place left) mine stays was going =
    let stays_before = (subst (λ k. StaysAsShown k) was.mine_is stays).1 in
    subst (λ k. IsOpen d k) (sym was.mine_is)
    (record {
      leaves = (decides_leaves d staged gone was.asked was.decides, hands_leave d was.shown.readings staged.cas staged.stage was.before was.shown.hands);
      apart = λ x twice. ⊎_elim (λ here. doc_entry here.0.2.0 (decides_step staged gone was.asked was.decides))
          (λ (past : TwiceAt d x was.before). hands_apart d was.shown.readings staged.cas staged.stage was.before stays_before was.shown.hands x past) twice;
    })
open_of d (Ended end) mine stays it going = absurd (some_none going)

-- nor has its document changed hands too often
pub not_contended : (d : List ℕ) (p : Phase) (mine : List Made) → Knows d p mine → end_in p ≡ None → IsContended d mine → ⊥
not_contended d Begun mine none going contended =
    let long = hands_long d 9 contended.0 contended.1 mine contended.2 in
    let empty : length mine ≡ 0 = ap length none in
    absurd (omega arith)
not_contended d (Asking staged left) mine shown going contended =
    let long = hands_long d 9 contended.0 contended.1 mine contended.2 in
    let so_far = hands_long d shown.readings staged.cas staged.stage mine shown.hands in
    let count = shown.count in
    absurd (omega arith)
not_contended d (Again staged gone place left) mine was going contended =
    let long = hands_long d 9 contended.0 contended.1 mine contended.2 in
    let so_far = hands_long d was.shown.readings staged.cas staged.stage was.before was.shown.hands in
    let more : length mine ≡ suc (length was.before) = ap length was.mine_is in
    absurd (omega arith)
not_contended d (Ended end) mine it going contended = absurd (some_none going)

-- the older calls leave it open too
pub open_back : (d : List ℕ) (xs ys : List Made) → IsOpen d (xs ++ ys) → IsOpen d ys
open_back d xs ys still = record {
  leaves = each_back (λ m. LeavesOpen d m) xs ys still.leaves;
  apart = λ x twice. still.apart x (once_back _ xs ys twice);
}

-- ---- a get

failed_none : (place : ℕ) (calls : List Made) → Each (λ m _. m.answer.reply ≢ reply.Failed) calls → EndsFailed place calls → ⊥
failed_none place calls unfailed it = (subst (λ k. Each (λ m _. m.answer.reply ≢ reply.Failed) k) it.calls_are unfailed).0 it.failed

pub get_open : (so : Sofar) (d : List ℕ) (calls : List Made) → so.own d ≡ None → IsOpen d calls → (IsContended d calls → ⊥)
    → Each (λ m _. m.answer.reply ≢ reply.Failed) calls → (a : OpAnswer) → GetAnswered so d calls a → ⊥
get_open so d calls none still few unfailed (answer.Value value when.Own) it = none-some it.0 (sym none ∙ it.1)
get_open so d calls none still few unfailed (answer.Value value (when.At moment)) it = open_unread d it.it calls still it.read
get_open so d calls none still few unfailed answer.Contended it = few it.1
get_open so d calls none still few unfailed (answer.CallFailed place) it = failed_none place calls unfailed it
get_open so d calls none still few unfailed _ it = absurd it

-- ---- a write that has no own write, and wrote nothing so far

stages_writes : (t : AttemptTerms) (l : List Made) (so : Sofar) (d : List ℕ) (kind : OpKind) (content : Option Json) (calls : List Made) (base : When) (s : Step)
    → StagesOver t l so d kind content calls base s → writes_doc s ≡ true
stages_writes t l so d kind content calls base s (answers.over_reading it stage none stands base_is carries is) = ap writes_doc is
stages_writes t l so d kind content calls base s (answers.over_own w x stage own restaged cas base_is carries is) = ap writes_doc is

true-false : {b : Bool} → b ≡ true → b ≡ false → ⊥
true-false one two = cc

pub record WritesNothing (t : AttemptTerms) (l : List Made) (so : Sofar) (d : List ℕ) (kind : OpKind) (calls : List Made) : Type 0 where
  pub none : so.own d ≡ None
  pub unwritten : Each (λ m _. writes_doc m.step ≡ false) calls
  pub unfailed : Each (λ m _. m.answer.reply ≢ reply.Failed) calls
  pub unfound : (value : Json) (moment : ℕ) → kind ≡ Insert → ReadsAt so d (Some value) moment calls → ⊥
  pub found : (moment : ℕ) → kind ≢ Insert → ReadsAt so d None moment calls → ⊥
  pub free : (by : ℕ) → IsBlocked l so d kind by calls → ⊥
  pub few : IsContended d calls → ⊥

module _ (t : AttemptTerms) (l : List Made) (so : Sofar) (d : List ℕ) (kind : OpKind) (content : Option Json) (calls : List Made) (it : WritesNothing t l so d kind calls) where
  unowned : (value : Option Json) → OwnHas so d value → ⊥
  unowned value own = none-some own.0 (sym it.none ∙ own.1)

  untaken : (s : Step) → TakesBack l so d kind s → ⊥
  untaken s back = none-some back.own (sym it.none ∙ back.own_is)

  unstaged : (base : When) (m : Made) → writes_doc m.step ≡ false → StagesOver t l so d kind content calls base m.step → ⊥
  unstaged base m not stages = true-false (stages_writes t l so d kind content calls base m.step stages) not

  unmoved : IsMoved t l so d kind content calls → ⊥
  unmoved moved =
      let first = subst (λ k. Each (λ m _. writes_doc m.step ≡ false) k) moved.calls_are it.unwritten in
      ⊎_elim (λ stages. unstaged stages.0 moved.newest first.0 stages.1) (λ back. untaken moved.newest.step back) moved.writes

  pub write_open : (a : OpAnswer) → WriteAnswered t l so d kind content calls a → ⊥
  write_open (answer.Staged place base) once_so =
      clash_once (λ m. writes_doc m.step ≡ false) (λ m _. DoneAt place m × StagesOver t l so d kind content calls base m.step) calls
      (λ m past not done. unstaged base m not done.1) it.unwritten once_so
  write_open (answer.Unstaged place) once_so =
      clash_once (λ m. writes_doc m.step ≡ false) (λ m _. DoneAt place m × TakesBack l so d kind m.step) calls
      (λ m past not done. untaken m.step done.1) it.unwritten once_so
  write_open (answer.DocExists when.Own) own = unowned (Some own.1.0) own.1.1
  write_open (answer.DocExists (when.At moment)) read = it.unfound read.1.0 moment read.0 read.1.1
  write_open (answer.DocNotFound when.Own) own = unowned None own.1
  write_open (answer.DocNotFound (when.At moment)) read = it.found moment read.0 read.1
  write_open (answer.Blocked by) blocked = it.free by blocked
  write_open answer.Moved moved = unmoved moved
  write_open answer.Contended contended = it.few contended.1
  write_open (answer.CallFailed place) failed = failed_none place calls it.unfailed failed
  write_open _ other = absurd other

-- ---- a write that reads its document

pub unserved_on : (l : List Made) (so : Sofar) (d : List ℕ) (kind : OpKind) (it : _) (calls : List Made) → agrees_last kind (so.read d) ≡ false → IsOpen d calls
    → StandsOn l so d kind it calls → ⊥
unserved_on l so d kind it calls unserved still (answers.on_earlier last read agreed at value moment) =
    true-false (ap (agrees_last kind) read ∙ agreed) unserved
unserved_on l so d kind it calls unserved still (answers.on_own not read agreed) = open_unread d it calls still read

leaves_unwritten : (d : List ℕ) (m : Made) → LeavesOpen d m → writes_doc m.step ≡ false
leaves_unwritten d m (open_reads.staged x body stage reads) = ap writes_doc reads.0
leaves_unwritten d m (open_reads.committed r a e reads is) = ap writes_doc reads.0
leaves_unwritten d m (open_reads.missing r a finds) = ap writes_doc finds.0

pub each_so : (P Q : Made → Type 0) (l : List Made) → ((m : Made) → P m → Q m) → Each (λ m _. P m) l → Each (λ m _. Q m) l
each_so P Q [] more all = tt
each_so P Q (m ∷ l) more all = (more m all.0, each_so P Q l more all.1)

pub open_unwritten : (d : List ℕ) (calls : List Made) → IsOpen d calls → Each (λ m _. writes_doc m.step ≡ false) calls
open_unwritten d calls still = each_so (λ m. LeavesOpen d m) (λ m. writes_doc m.step ≡ false) calls (λ m leaves. leaves_unwritten d m leaves) still.leaves

pub reads_nothing : (t : AttemptTerms) (l : List Made) (so : Sofar) (d : List ℕ) (kind : OpKind) (calls : List Made) → so.own d ≡ None
    → agrees_last kind (so.read d) ≡ false → IsOpen d calls → (IsContended d calls → ⊥) → Each (λ m _. m.answer.reply ≢ reply.Failed) calls
    → WritesNothing t l so d kind calls
reads_nothing t l so d kind calls none unserved still few unfailed = record {
  none = none;
  unwritten = open_unwritten d calls still;
  unfailed = unfailed;
  unfound = λ value moment is read. open_unread d read.it calls still read.read;
  found = λ moment not read. open_unread d read.it calls still read.read;
  free = λ by blocked.
      unserved_on l so d kind blocked.it blocked.older unserved (open_back d blocked.asks.asked blocked.older (subst (λ k. IsOpen d k) blocked.asks.calls_are still))
      blocked.stands;
  few = few;
}

-- An operation whose put, or whose write over an own write, has not ended has no answer by its calls.
use Rattle.std.proofs.Common.{◌≡◌, ◌≢◌, ℕ, suc, ◌+◌, ◌≤◌, ◌⊎◌, Bool, true, false, inl, inr, ⊎_elim, List, [], ◌∷◌, ◌++◌, length, count_by, Option, Some, None, refl, sym, ap, ◌∙◌, subst, arith}
use Rattle.std.proofs.lemmas.Option.{none-some}
use Rattle.cbt_json.specs.declared.value.Json.{Json}
use Rattle.cbt_expr.specs.declared.plans.Op.{Op}
use Rattle.cbt_model.specs.declared.documents.OpKind.{OpKind}
use Rattle.cbt_model.specs.declared.documents.OpKind.TheVariants.{Insert, Replace, Remove}
use Rattle.cbt_model.specs.declared.entries.Entry.{Entry}
use Rattle.cbt_model.specs.declared.events.Made.{Made}
use Rattle.cbt_model.specs.declared.steps.Reply.TheVariants as reply
use Rattle.cbt_model.specs.declared.steps.Step.{Step}
use Rattle.cbt_model.specs.declared.steps.Step.TheVariants as step
use Rattle.cbt_book.specs.Calls.{GetCalls, MayGet, reads_doc, reads_entry, writes_doc}
use Rattle.cbt_book.specs.Outcomes.{IsContended}
use Rattle.cbt_book.specs.OwnLists.{Each, Once}
use Rattle.cbt_book.specs.ReadAt.{Reading, IsReadAt}
use Rattle.cbt_book.specs.ReadAt as read_at
use Rattle.cbt_book.specs.Shown.{FindsNoEntry, ReadsEntry}
use Rattle.cbt_book.specs.declared.operations.OpAnswer.{OpAnswer}
use Rattle.cbt_book.specs.declared.operations.OpAnswer.TheVariants as answer
use Rattle.cbt_book.specs.declared.operations.When.TheVariants as when
use Rattle.cbt_core.specs.OpAnswers.{IsBlocked, IsMoved, OwnHas, ReadsAt, StandsOn, WriteAnswered, agrees, agrees_last}
use Rattle.cbt_core.specs.OpAnswers as answers
use Rattle.cbt_core.specs.Staying.{StaysAsShown}
use Rattle.cbt_core.specs.Walk.{AttemptTerms, OwnWrite, Sofar}
use Rattle.cbt_logs.specs.Operating.{sofar}
use Rattle.cbt_logs.proofs.Lists.{each_front, each_join, once_more}
use Rattle.cbt_read.specs.declared.ends.GetEnd.TheVariants as get_end
use Rattle.cbt_stage.specs.OpenPuts as open_puts
use Rattle.cbt_stage.specs.OpenPuts.{LeavesOpen}
use Rattle.cbt_stage.specs.Phases as put_phases
use Rattle.cbt_stage.specs.Rewrites.{needs_call}
use Rattle.cbt_stage.specs.Standing as put
use Rattle.cbt_stage.specs.Standing.{Knows, Waits, entries_left}
use Rattle.cbt_stage.specs.declared.phases.Phase.{Phase}
use Rattle.cbt_stage.specs.declared.phases.Phase.TheVariants.{Asking, Adding, Staging, Ended}
use Rattle.cbt_stage.specs.declared.puts.Put.{Put}
use Rattle.cbt_stage.specs.declared.tasks.Task.{Task}
use Rattle.cbt_stage.proofs.Counting.{counts, counts_not}
use Rattle.cbt_txn.specs.Following.{EndsRead, PutsOn, is_whole}
use Rattle.cbt_txn.specs.declared.operations.Operations.{Operations}
use Rattle.cbt_txn.proofs.Apart.{IsOpen, hands_long, hands_open, missing_entry, newest_of, once_before, open_unread, stays_back}
use Rattle.cbt_txn.proofs.GetsOpen.{WritesNothing, each_so, open_back, unserved_on}
use Rattle.cbt_txn.proofs.ReadOnce.{read_once, still}

true-false : {b : Bool} → b ≡ true → b ≡ false → ⊥
true-false one two = cc

some_none : {X : Type 0} {x : X} → Some x ≡ None → ⊥
some_none both = cc

-- ---- lists

-- two ways to part one list
parted : (xs ys front bs : List Made) → xs ++ ys ≡ front ++ bs → ((more : List Made) × (xs ≡ front ++ more)) ⊎ ((m : Made) × (more : List Made) × (front ≡ xs ++ m ∷ more) × (ys ≡ m ∷ more ++ bs))
parted [] ys [] bs is = inl ([], refl)
parted [] ys (a ∷ front) bs is = inr (a, front, refl, is)
parted (x ∷ xs) ys [] bs is = inl (x ∷ xs, refl)
parted (x ∷ xs) ys (a ∷ front) bs is =
    ⊎_elim (λ it. inl (it.0, ap (λ k. x ∷ k) it.1 ∙ ap (λ k. k ∷ front ++ it.0) (first is)))
    (λ it. inr (it.0, it.1, ap (λ k. a ∷ k) it.2 ∙ ap (λ k. k ∷ xs ++ it.0 ∷ it.1) (sym (first is)), it.3)) (parted xs ys front bs (rest is))
  where
    first : {p q : Made} {ps qs : List Made} → p ∷ ps ≡ q ∷ qs → p ≡ q
    first both = cc

    rest : {p q : Made} {ps qs : List Made} → p ∷ ps ≡ q ∷ qs → ps ≡ qs
    rest both = cc

-- whatever is read is read by a reading of a document
doc_read : (d : List ℕ) (it : Reading) (l : List Made) → IsReadAt d it l → Once (λ m _. reads_doc m.step ≡ true) l
doc_read d it l (read_at.absent value cas by gone met) = once_more _ (λ m _. reads_doc m.step ≡ true) l (λ m past is. ap reads_doc is.1.0) met
doc_read d it l (read_at.unstaged x cas by gone met) = once_more _ (λ m _. reads_doc m.step ≡ true) l (λ m past is. ap reads_doc is.1.0) met
doc_read d it l (read_at.uncommitted x stage e cas by gone state met) =
    once_before _ (λ m _. reads_doc m.step ≡ true) l (λ m past is. once_more _ (λ m _. reads_doc m.step ≡ true) past (λ n earlier reads. ap reads_doc reads.1.0) is.1) met
doc_read d it l (read_at.committed x stage e cas by gone value state met) = once_more _ (λ m _. reads_doc m.step ≡ true) l (λ m past is. ap reads_doc is.0.2.0) met
doc_read d it l (read_at.dead x stage cas by gone met) = once_more _ (λ m _. reads_doc m.step ≡ true) l (λ m past is. ap reads_doc is.1.1.0) met

-- ---- a put that has not ended

leaves_unwritten : (o : Task) (m : Made) → LeavesOpen o m → writes_doc m.step ≡ false
leaves_unwritten o m (open_puts.shown r by e reads) = ap writes_doc reads.0
leaves_unwritten o m (open_puts.missing r by finds) = ap writes_doc finds.0
leaves_unwritten o m (open_puts.entered adds) = by adds
  where
    by : Rattle.cbt_book.specs.Shown.AddsEntry o.atr o.attempt m → writes_doc m.step ≡ false
    by (Rattle.cbt_book.specs.Shown.added exp c is told) = ap writes_doc is
    by (Rattle.cbt_book.specs.Shown.was_there exp is told) = ap writes_doc is

gets_unwritten : (d : List ℕ) (s : Step) → MayGet d s → writes_doc s ≡ false
gets_unwritten d (step.ReadDoc q) may = refl
gets_unwritten d (step.ReadEntry r a) may = refl
gets_unwritten d _ may = absurd may

-- four shown entries, counted
shown_four : (r by : ℕ) (asked more : List Made) → Each (λ m _. (e : Entry) × ReadsEntry r by e m) asked
    → count_by (λ m. reads_entry m.step) (asked ++ more) ≡ length asked + count_by (λ m. reads_entry m.step) more
shown_four r by [] more shown = none_more (count_by (λ m. reads_entry m.step) more)
  where
    none_more : (n : ℕ) → n ≡ 0 + n
    none_more n = omega arith
shown_four r by (m ∷ asked) more shown =
    counts (λ k. reads_entry k.step) m (asked ++ more) (ap reads_entry shown.0.1.0) ∙ ap (λ n. suc n) (shown_four r by asked more shown.1)
    ∙ added (length asked) (count_by (λ m. reads_entry m.step) more)
  where
    added : (n k : ℕ) → suc (n + k) ≡ suc n + k
    added n k = omega arith

missing_behind : (r by : ℕ) (asked more : List Made) → Each (λ m _. (e : Entry) × ReadsEntry r by e m) asked → Once (λ m _. FindsNoEntry r by m) (asked ++ more)
    → Once (λ m _. FindsNoEntry r by m) more
missing_behind r by [] more shown met = met
missing_behind r by (m ∷ asked) more shown met =
    ⊎_elim (λ (here : FindsNoEntry r by m). absurd (missing_entry here.1 shown.0.1.1))
    (λ (past : Once (λ m _. FindsNoEntry r by m) (asked ++ more)). missing_behind r by asked more shown.1 past) met

missing_counts : (r by : ℕ) (l : List Made) → Once (λ m _. FindsNoEntry r by m) l → 1 ≤ count_by (λ m. reads_entry m.step) l
missing_counts r by [] met = absurd met
missing_counts r by (m ∷ l) met =
    ⊎_elim (λ (here : FindsNoEntry r by m). let more = counts (λ k. reads_entry k.step) m l (ap reads_entry here.0) in omega arith)
    (λ (past : Once (λ m _. FindsNoEntry r by m) l). let before = missing_counts r by l past in by_test (reads_entry m.step) refl before) met
  where
    by_test : (b : Bool) → reads_entry m.step ≡ b → 1 ≤ count_by (λ m. reads_entry m.step) l → 1 ≤ count_by (λ m. reads_entry m.step) (m ∷ l)
    by_test true is before = let more = counts (λ k. reads_entry k.step) m l is in omega arith
    by_test false is before = let same = counts_not (λ k. reads_entry k.step) m l is in omega arith

-- a put does not see an entry four times without an end
asked_four : (o : Task) (p : Phase) (mine : List Made) → Knows o p mine → put_phases.end_in p ≡ None → count_by (λ m. reads_entry m.step) mine + entries_left p ≤ 4
    → Each (λ m _. (r by : ℕ) → m.step ≡ step.ReadEntry r by → Waits o r by) mine → (r by : ℕ) (asked more : List Made) → mine ≡ asked ++ more → length asked ≡ 4
    → Each (λ m _. (e : Entry) × ReadsEntry r by e m) asked → ⊥
asked_four o p mine knows going few asks r by asked more mine_is four shown = by_phase p knows going few
  where
    count : count_by (λ m. reads_entry m.step) mine ≡ length asked + count_by (λ m. reads_entry m.step) more
    count = ap (λ k. count_by (λ m. reads_entry m.step) k) mine_is ∙ shown_four r by asked more shown

    waits : Waits o r by
    waits = first asked four shown (each_front (λ m. (r by : ℕ) → m.step ≡ step.ReadEntry r by → Waits o r by) asked more
        (subst (λ k. Each (λ m _. (r by : ℕ) → m.step ≡ step.ReadEntry r by → Waits o r by) k) mine_is asks))
      where
        first : (l : List Made) → length l ≡ 4 → Each (λ m _. (e : Entry) × ReadsEntry r by e m) l
            → Each (λ m _. (r by : ℕ) → m.step ≡ step.ReadEntry r by → Waits o r by) l → Waits o r by
        first [] long shows so = absurd (omega arith)
        first (m ∷ l) long shows so = so.0 r by shows.0.1.0

    free_not : put.IsFree o mine → count_by (λ m. reads_entry m.step) mine + 0 ≤ 4 → ⊥
    free_not free room =
        let one = missing_counts r by more (missing_behind r by asked more shown (subst (λ k. Once (λ m _. FindsNoEntry r by m) k) mine_is (free r by waits))) in
        let sum = count in
        absurd (omega arith)

    by_phase : (p : Phase) → Knows o p mine → put_phases.end_in p ≡ None → count_by (λ m. reads_entry m.step) mine + entries_left p ≤ 4 → ⊥
    by_phase (Asking q b left) was open_yet room = let sum = count in absurd (omega arith)
    by_phase Adding may open_yet room = free_not may.free room
    by_phase Staging entered open_yet room = free_not entered.free room
    by_phase (Ended end) ends open_yet room = absurd (some_none open_yet)

module _ (t : AttemptTerms) (c : Operations) (older : List Made) (it : Put) (mine reads : List Made) (o : Op) (on : PutsOn t c older it mine reads o)
    (none : (sofar t c.logs).own it.task.doc ≡ None) (going : put_phases.end_of it ≡ None) (stays : StaysAsShown (mine ++ reads))
    (unfailed : Each (λ m _. m.answer.reply ≢ reply.Failed) (mine ++ reads)) where
  abbrev so : Sofar
  so = sofar t c.logs

  abbrev d : List ℕ
  d = it.task.doc

  abbrev kind : OpKind
  kind = it.task.write.kind

  abbrev l : List Made
  l = (mine ++ reads) ++ older

  unread : Each (λ m _. reads_doc m.step ≡ false) mine
  unread = on.stands.room.unread

  unwritten : Each (λ m _. writes_doc m.step ≡ false) (mine ++ reads)
  unwritten =
      each_join (λ m. writes_doc m.step ≡ false) mine reads
      (each_so (λ m. LeavesOpen it.task m) (λ m. writes_doc m.step ≡ false) mine (λ m leaves. leaves_unwritten it.task m leaves) (on.stands.going going))
      (⊎_elim (λ (empty : reads ≡ []). subst (λ k. Each (λ m _. writes_doc m.step ≡ false) k) (sym empty) tt)
      (λ (gets : GetCalls d reads × (agrees_last kind (so.read d) ≡ false)).
      each_so (λ m. MayGet d m.step) (λ m. writes_doc m.step ≡ false) reads (λ m may. gets_unwritten d m.step may) gets.0.only) on.reads_are)

  no_reads : reads ≡ [] → (it_read : Reading) → IsReadAt d it_read (mine ++ reads) → ⊥
  no_reads empty seen read = absurd (never mine unread (subst (λ k. Once (λ m _. reads_doc m.step ≡ true) (mine ++ k)) empty (doc_read d seen (mine ++ reads) read)))
    where
      never : (xs : List Made) → Each (λ m _. reads_doc m.step ≡ false) xs → Once (λ m _. reads_doc m.step ≡ true) (xs ++ []) → ⊥
      never [] each met = met
      never (x ∷ xs) each met =
          ⊎_elim (λ (here : reads_doc x.step ≡ true). true-false here each.0) (λ (past : Once (λ m _. reads_doc m.step ≡ true) (xs ++ [])). never xs each.1 past) met

  -- what was read for the put agrees with the write
  module _ (last : EndsRead d (get_end.Value it.task.seen) reads) where
    unserved : agrees_last kind (so.read d) ≡ false
    unserved = ⊎_elim (λ (empty : reads ≡ []). absurd (cons_none (sym last.calls_are ∙ empty))) (λ gets. gets.1) on.reads_are
      where
        cons_none : {m : Made} {k : List Made} → m ∷ k ≡ [] → ⊥
        cons_none both = cc

    seen_read : IsReadAt d it.task.seen reads × (agrees kind it.task.seen.value ≡ true)
    seen_read = by on.stands_on
      where
        by : StandsOn (reads ++ older) so d kind it.task.seen reads → IsReadAt d it.task.seen reads × (agrees kind it.task.seen.value ≡ true)
        by (answers.on_earlier before read agreed at value moment) = absurd (true-false (ap (agrees_last kind) read ∙ agreed) unserved)
        by (answers.on_own not read agreed) = (read, agreed)

    agreed_value : (other : Reading) → IsReadAt d other (mine ++ reads) → agrees kind other.value ≡ true
    agreed_value other read = ap (agrees kind) (sym (read_once it.task mine reads last stays unread on.asked_for other read)) ∙ seen_read.1

  insert_some : (value : Json) (k : OpKind) → k ≡ Insert → agrees k (Some value) ≡ true → ⊥
  insert_some value Insert is agreed = cc
  insert_some value Replace is agreed = cc
  insert_some value Remove is agreed = cc

  other_none : (k : OpKind) → k ≢ Insert → agrees k None ≡ true → ⊥
  other_none Insert not agreed = not refl
  other_none Replace not agreed = cc
  other_none Remove not agreed = cc

  found_value : (value : Option Json) (moment : ℕ) → ReadsAt so d value moment (mine ++ reads) → agrees kind value ≡ true
  found_value value moment read =
      ⊎_elim (λ (empty : reads ≡ []). absurd (no_reads empty read.it read.read))
      (λ last. ap (agrees kind) (sym read.value_is) ∙ agreed_value last read.it read.read) on.read_last

  unblocked : (by : ℕ) → IsBlocked l so d kind by (mine ++ reads) → ⊥
  unblocked by blocked =
      ⊎_elim (λ front. asked_four it.task it.phase mine on.stands.knows going on.stands.room.entries on.asked_for blocked.atr by blocked.asks.asked front.0 front.1
      blocked.asks.four blocked.asks.shown)
      (λ back. ⊎_elim (λ (empty : reads ≡ []). cons_none (sym back.3 ∙ empty))
      (λ (last : EndsRead d (get_end.Value it.task.seen) reads).
      unserved_on l so d kind blocked.it blocked.older (unserved last)
      (open_back d back.1 blocked.older (subst (λ k. IsOpen d k) (rest_is (sym last.calls_are ∙ back.3))
      (still it.task mine reads last stays unread on.asked_for))) blocked.stands) on.read_last)
      (parted mine reads blocked.asks.asked blocked.older blocked.asks.calls_are)
    where
      cons_none : {m : Made} {k : List Made} → m ∷ k ≡ [] → ⊥
      cons_none both = cc

      rest_is : {p q : Made} {ps qs : List Made} → p ∷ ps ≡ q ∷ qs → ps ≡ qs
      rest_is both = cc

  uncontended : IsContended d (mine ++ reads) → ⊥
  uncontended contended = by mine refl
    where
      first : {p q : Made} {ps qs : List Made} → p ∷ ps ≡ q ∷ qs → p ≡ q
      first both = cc

      by : (xs : List Made) → mine ≡ xs → ⊥
      by [] is =
          let here : IsContended d reads = subst (λ k. IsContended d (k ++ reads)) is contended in
          ⊎_elim (λ (empty : reads ≡ []).
          let long = hands_long d 9 here.0 here.1 reads here.2 in
          let short : length reads ≡ 0 = ap length empty in
          absurd (omega arith))
          (λ (last : EndsRead d (get_end.Value it.task.seen) reads).
          open_unread d it.task.seen reads (hands_open d 9 here.0 here.1 reads (stays_back mine reads stays) here.2) (seen_read last).0) on.read_last
      by (x ∷ xs) is =
          let head = newest_of d 9 contended.0 contended.1 (mine ++ reads) contended.2 in
          let same : x ≡ head.newest = first (ap (λ k. k ++ reads) (sym is) ∙ head.l_is) in
          true-false (ap (λ (m : Made). reads_doc m.step) same ∙ ap reads_doc head.reads.0) (subst (λ k. Each (λ m _. reads_doc m.step ≡ false) k) is unread).0

  pub puts_nothing : WritesNothing t l so d kind (mine ++ reads)
  puts_nothing = record {
    none = none;
    unwritten = unwritten;
    unfailed = unfailed;
    unfound = λ value moment is read. insert_some value kind is (found_value (Some value) moment read);
    found = λ moment not read. other_none kind not (found_value None moment read);
    free = λ by blocked. unblocked by blocked;
    few = uncontended;
  }

-- ---- a write over an own write, that has made no call

module _ (t : AttemptTerms) (l : List Made) (so : Sofar) (d : List ℕ) (kind : OpKind) (content : Option Json) (own : OwnWrite) (own_is : so.own d ≡ Some own)
    (needed : needs_call kind own.kind ≡ true) (whole : is_whole own.kind own.content ≡ true) where
  some_same : {X : Type 0} {x y : X} → Some x ≡ Some y → x ≡ y
  some_same both = cc

  holds_none : so.own d ≡ None → ⊥
  holds_none none = none-some own (sym none ∙ own_is)

  has : (value : Option Json) → OwnHas so d value → own.content ≡ value
  has value it = ap (λ (k : OwnWrite). k.content) (some_same (sym own_is ∙ it.1)) ∙ it.2

  inserts_over : (k : OpKind) (value : Json) → needs_call Insert k ≡ true → is_whole k (Some value) ≡ true → ⊥
  inserts_over Insert value need is = cc
  inserts_over Replace value need is = cc
  inserts_over Remove value need is = cc

  others_over : (k mine : OpKind) → mine ≢ Insert → needs_call mine k ≡ true → is_whole k None ≡ true → ⊥
  others_over k Insert not need is = not refl
  others_over Insert Replace not need is = cc
  others_over Replace Replace not need is = cc
  others_over Remove Replace not need is = cc
  others_over Insert Remove not need is = cc
  others_over Replace Remove not need is = cc
  others_over Remove Remove not need is = cc

  none_cons : {m : Made} {k : List Made} → [] ≡ m ∷ k → ⊥
  none_cons both = cc

  pub again_open : (a : OpAnswer) → WriteAnswered t l so d kind content [] a → ⊥
  again_open (answer.Staged place base) met = met
  again_open (answer.Unstaged place) met = met
  again_open (answer.DocExists when.Own) it =
      inserts_over own.kind it.1.0 (subst (λ k. needs_call k own.kind ≡ true) it.0 needed) (subst (λ k. is_whole own.kind k ≡ true) (has (Some it.1.0) it.1.1) whole)
  again_open (answer.DocExists (when.At moment)) it = holds_none it.1.1.own_none
  again_open (answer.DocNotFound when.Own) it = others_over own.kind kind it.0 needed (subst (λ k. is_whole own.kind k ≡ true) (has None it.1) whole)
  again_open (answer.DocNotFound (when.At moment)) it = holds_none it.1.own_none
  again_open (answer.Blocked by) it = holds_none it.own_none
  again_open answer.Moved it = none_cons it.calls_are
  again_open answer.Contended it = holds_none it.0
  again_open (answer.CallFailed place) it = none_cons it.calls_are
  again_open _ it = absurd it

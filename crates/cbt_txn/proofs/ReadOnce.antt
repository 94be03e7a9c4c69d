-- A read that ended with a value has read no other: by its calls, and by those of the put that stands on it.
use Rattle.std.proofs.Common.{◌≡◌, ◌≢◌, ℕ, ◌==◌, ◌⊎◌, Bool, true, false, if◌then◌else◌, inl, inr, ⊎_elim, List, [], ◌∷◌, ◌++◌, Option, Some, None, refl, sym, ap, ◌∙◌, subst}
use Rattle.std.proofs.lemmas.Bool.{eqb-true, eq-eqb}
use Rattle.std.proofs.lemmas.Option.{none-some}
use Rattle.cbt_json.specs.declared.value.Json.{Json}
use Rattle.cbt_model.specs.declared.documents.Stage.{Stage}
use Rattle.cbt_model.specs.declared.entries.Entry.{Entry}
use Rattle.cbt_model.specs.declared.entries.EntryState.{EntryState}
use Rattle.cbt_model.specs.declared.entries.EntryState.TheVariants.{Pending, Committed, Aborted}
use Rattle.cbt_model.specs.declared.events.Made.{Made}
use Rattle.cbt_model.specs.declared.steps.Reply.{Reply}
use Rattle.cbt_model.specs.declared.steps.Reply.TheVariants as reply
use Rattle.cbt_model.specs.declared.steps.Step.{Step}
use Rattle.cbt_model.specs.declared.steps.Step.TheVariants as step
use Rattle.cbt_book.specs.Calls.{reads_doc}
use Rattle.cbt_book.specs.Outcomes.{ChangesHands, once, again}
use Rattle.cbt_book.specs.OwnLists.{Once, Each}
use Rattle.cbt_book.specs.ReadAt.{Reading, IsReadAt}
use Rattle.cbt_book.specs.ReadAt as read_at
use Rattle.cbt_book.specs.Shown.{ReadsDoc, FindsNoDoc, ReadsEntry, FindsNoEntry}
use Rattle.cbt_core.specs.Staying.{AgreesWith, ReadsAtCas, ShowsStagingOf, StaysAsShown}
use Rattle.cbt_logs.proofs.Lists.{once_back, once_more}
use Rattle.cbt_read.specs.OpenReads.{LeavesOpen}
use Rattle.cbt_read.specs.Phases.{after, after_entry, after_reading, after_second, ask, confirmed, decided, end_in, one_fewer, step_for, uncommitted as uncommitted_reading}
use Rattle.cbt_read.specs.Standing.{Decides, Knows, WasDecided, WasShown}
use Rattle.cbt_read.specs.declared.ends.GetEnd.TheVariants.{Value}
use Rattle.cbt_read.specs.declared.phases.Phase.{Phase}
use Rattle.cbt_read.specs.declared.phases.Phase.TheVariants.{Begun, Asking, Again, Ended}
use Rattle.cbt_read.specs.declared.phases.Staged.{Staged}
use Rattle.cbt_stage.specs.Standing.{Waits}
use Rattle.cbt_stage.specs.declared.tasks.Task.{Task}
use Rattle.cbt_txn.specs.Following.{EndsRead}
use Rattle.cbt_txn.proofs.Apart.{IsOpen, Newest, TwiceAt, absent_doc, clash_once, doc_entry, leaves_committed, leaves_present, leaves_staged, missing_entry, newest_of, once_before, same_cas, stays_back, twice_committed, twice_dead}
use Rattle.cbt_txn.proofs.GetsOpen.{open_of}

some_same : {X : Type 0} {x y : X} → Some x ≡ Some y → x ≡ y
some_same both = cc

same_value : {x y : Reading} → Ended (Value x) ≡ Ended (Value y) → x ≡ y
same_value both = cc

same_body : {r : Reply} {x y : ℕ} {body other : Option Json} {stage was : Option Stage} → r ≡ reply.Doc x body stage → r ≡ reply.Doc y other was → body ≡ other
same_body one two = cc

same_stage : {r : Reply} {x y : ℕ} {body other : Option Json} {stage was : Option Stage} → r ≡ reply.Doc x body stage → r ≡ reply.Doc y other was → stage ≡ was
same_stage one two = cc

same_record : {s : Step} {q b r a : ℕ} → s ≡ step.ReadEntry q b → s ≡ step.ReadEntry r a → q ≡ r
same_record one two = cc

same_attempt : {s : Step} {q b r a : ℕ} → s ≡ step.ReadEntry q b → s ≡ step.ReadEntry r a → b ≡ a
same_attempt one two = cc

true-false : {b : Bool} → b ≡ true → b ≡ false → ⊥
true-false one two = cc

-- what newer calls do not meet is met by the older ones
pub past_front : (A : Made → Type 0) (P : Made → List Made → Type 0) (xs l : List Made) → ((m : Made) (past : List Made) → A m → P m past → ⊥) → Each (λ m _. A m) xs
    → Once P (xs ++ l) → Once P l
past_front A P [] l apart each met = met
past_front A P (m ∷ xs) l apart each met =
    ⊎_elim (λ (here : P m (xs ++ l)). absurd (apart m (xs ++ l) each.0 here)) (λ (past : Once P (xs ++ l)). past_front A P xs l apart each.1 past) met

-- ---- how a read ended with a value

pub data Ending (d : List ℕ) (seen : Reading) (newest : Made) (older : List Made) : Type 0 where
  absent : FindsNoDoc d newest → seen.value ≡ None → seen.by ≡ None → Ending d seen newest older
  bare : (x : ℕ) (body : Option Json) → ReadsDoc d x body None newest → (Once (λ k _. ReadsAtCas d x k) older → ⊥) → seen.value ≡ body → seen.by ≡ None
      → Ending d seen newest older
  waiting : (staged : Staged) (left : ℕ) (e : Entry) → WasShown d staged left older → ReadsEntry staged.stage.atr staged.stage.attempt e newest
      → seen ≡ uncommitted_reading staged → Ending d seen newest older
  kept : (staged : Staged) (left : ℕ) (asked : Made) (before : List Made) (body : Option Json) (other : Option Stage) (e : Entry) → older ≡ asked ∷ before
      → WasShown d staged left before → ReadsDoc d staged.cas body other newest → ReadsEntry staged.stage.atr staged.stage.attempt e asked → e.state ≡ Committed
      → seen.value ≡ staged.stage.content → seen.by ≡ Some (staged.stage.atr, staged.stage.attempt) → Ending d seen newest older
  dead : (staged : Staged) (left : ℕ) (asked : Made) (before : List Made) (body : Option Json) (other : Option Stage) → older ≡ asked ∷ before
      → WasShown d staged left before → ReadsDoc d staged.cas body other newest → FindsNoEntry staged.stage.atr staged.stage.attempt asked
      → seen.value ≡ body → seen.gone ≡ true → Ending d seen newest older

module _ (d : List ℕ) (seen : Reading) (newest : Made) (older : List Made) where
  asks_never : (it : Staged) (left : Option ℕ) → ask it left ≡ Ended (Value seen) → ⊥
  asks_never it None is = cc
  asks_never it (Some left) is = cc

  by_reading : (left : Option ℕ) → newest.step ≡ step.ReadDoc d → ((x : ℕ) → ReadsAtCas d x newest → Once (λ k _. ReadsAtCas d x k) older → ⊥)
      → (r : Reply) → newest.answer.reply ≡ r → after_reading newest.answer.place r left ≡ Ended (Value seen) → Ending d seen newest older
  by_reading left is apart reply.Absent told ended =
      absent (is, told) (ap (λ (k : Reading). k.value) (sym (same_value ended))) (ap (λ (k : Reading). k.by) (sym (same_value ended)))
  by_reading left is apart (reply.Doc x body None) told ended =
      bare x body (is, told) (apart x (body, None, (is, told))) (ap (λ (k : Reading). k.value) (sym (same_value ended)))
      (ap (λ (k : Reading). k.by) (sym (same_value ended)))
  by_reading left is apart (reply.Doc x body (Some stage)) told ended =
      absurd (asks_never (record { cas = x; body = body; stage = stage; place = newest.answer.place }) left ended)
  by_reading left is apart _ told ended = absurd (cc)

  by_state : (it : Staged) (left : ℕ) (e : Entry) → WasShown d it left older → ReadsEntry it.stage.atr it.stage.attempt e newest → (s : EntryState) → e.state ≡ s
      → decided it left newest.answer.place s ≡ Ended (Value seen) → Ending d seen newest older
  by_state it left e shown reads Committed is ended = absurd (cc)
  by_state it left e shown reads Pending is ended = waiting it left e shown reads (sym (same_value ended))
  by_state it left e shown reads Aborted is ended = waiting it left e shown reads (sym (same_value ended))

  by_entry : (it : Staged) (left : ℕ) → WasShown d it left older → newest.step ≡ step.ReadEntry it.stage.atr it.stage.attempt → (r : Reply) → newest.answer.reply ≡ r
      → after_entry it left newest.answer.place r ≡ Ended (Value seen) → Ending d seen newest older
  by_entry it left shown is (reply.Entry e) told ended = by_state it left e shown (is, told) e.state refl ended
  by_entry it left shown is reply.NoEntry told ended = absurd (cc)
  by_entry it left shown is _ told ended = absurd (cc)

  module _ (agrees : AgreesWith older newest) where
    -- a second reading at another CAS than the one before
    moved_on : (it : Staged) (left : ℕ) (asked : Made) (before : List Made) → older ≡ asked ∷ before → WasShown d it left before
        → asked.step ≡ step.ReadEntry it.stage.atr it.stage.attempt → (x : ℕ) → x ≢ it.cas → ReadsAtCas d x newest → Once (λ k _. ReadsAtCas d x k) older → ⊥
    moved_on it left asked before older_is shown is x differs reads met =
        ⊎_elim (λ (here : ReadsAtCas d x asked). doc_entry here.2.0 is)
        (λ (past : Once (λ k _. ReadsAtCas d x k) before).
        ⊎_elim (λ (here : ReadsAtCas d x shown.newest). differs (same_cas here.2.1 shown.shows.1))
        (λ (deep : Once (λ k _. ReadsAtCas d x k) shown.older).
        agrees.left d x it.cas reads (λ same. differs (sym same))
        (subst (λ l. Once (λ n before. ReadsAtCas d it.cas n × Once (λ k _. ReadsAtCas d x k) before) l) (sym older_is)
        (inr (subst (λ l. Once (λ n before. ReadsAtCas d it.cas n × Once (λ k _. ReadsAtCas d x k) before) l) (sym shown.mine_is)
        (inl ((it.body, Some it.stage, shown.shows), deep))))))
        (subst (λ l. Once (λ k _. ReadsAtCas d x k) l) shown.mine_is past))
        (subst (λ l. Once (λ k _. ReadsAtCas d x k) l) older_is met)

    by_gone : (it : Staged) (gone : Bool) (left place : ℕ) → (was : WasDecided d it gone place left older) → (body : Option Json) (other : Option Stage)
        → ReadsDoc d it.cas body other newest → confirmed it gone place newest.answer.place body ≡ Ended (Value seen) → Ending d seen newest older
    by_gone it false left place was body other reads ended =
        kept it left was.asked was.before body other was.decides.0 was.mine_is was.shown reads was.decides.1 was.decides.2
        (ap (λ (k : Reading). k.value) (sym (same_value ended))) (ap (λ (k : Reading). k.by) (sym (same_value ended)))
    by_gone it true left place was body other reads ended =
        dead it left was.asked was.before body other was.mine_is was.shown reads was.decides (ap (λ (k : Reading). k.value) (sym (same_value ended)))
        (ap (λ (k : Reading). k.gone) (sym (same_value ended)))

    by_second : (it : Staged) (gone : Bool) (left place : ℕ) → (was : WasDecided d it gone place left older) → was.asked.step ≡ step.ReadEntry it.stage.atr it.stage.attempt
        → newest.step ≡ step.ReadDoc d → (r : Reply) → newest.answer.reply ≡ r → after_second it gone place left newest.answer.place r ≡ Ended (Value seen)
        → Ending d seen newest older
    by_second it gone left place was asked_is is (reply.Doc x body other) told ended = by_test (x == it.cas) refl ended
      where
        differ : (x == it.cas) ≡ false → (y : ℕ) → ReadsAtCas d y newest → y ≢ it.cas
        differ not y reads same = true-false (eq-eqb x it.cas (same_cas told reads.2.1 ∙ same)) not

        by_test : (b : Bool) → (x == it.cas) ≡ b
            → (if b then confirmed it gone place newest.answer.place body else after_reading newest.answer.place (reply.Doc x body other) (one_fewer left)) ≡ Ended (Value seen)
            → Ending d seen newest older
        by_test true same ends = by_gone it gone left place was body other (is, told ∙ ap (λ y. reply.Doc y body other) (eqb-true x it.cas same)) ends
        by_test false not ends =
            by_reading (one_fewer left) is (λ y reads. moved_on it left was.asked was.before was.mine_is was.shown asked_is y (differ not y reads) reads)
            (reply.Doc x body other) told ends
    by_second it gone left place was asked_is is reply.Absent told ended =
        by_reading (one_fewer left) is (λ y reads. absurd (absent_doc told reads.2.1)) reply.Absent told ended
    by_second it gone left place was asked_is is _ told ended = absurd (cc)

    decides_step : (it : Staged) (gone : Bool) (m : Made) → Decides it gone m → m.step ≡ step.ReadEntry it.stage.atr it.stage.attempt
    decides_step it false m told = told.1.0
    decides_step it true m told = told.0

    pub ending : (p : Phase) → Knows d p older → step_for d p ≡ Some newest.step → after p newest.answer.place newest.answer.reply ≡ Ended (Value seen)
        → Ending d seen newest older
    ending Begun none asked ended =
        by_reading (Some 7) (sym (some_same asked)) (λ x reads met. subst (λ l. Once (λ k _. ReadsAtCas d x k) l) none met) newest.answer.reply refl ended
    ending (Asking it left) shown asked ended = by_entry it left shown (sym (some_same asked)) newest.answer.reply refl ended
    ending (Again it gone place left) was asked ended =
        by_second it gone left place was (decides_step it gone was.asked was.decides) (sym (some_same asked)) newest.answer.reply refl ended
    ending (Ended end) it asked ended = absurd (none-some newest.step asked)

-- ---- nothing else was read

-- a staging that was shown before the newest was settled: its entry was shown committed, or not there
settled : (d : List ℕ) (n x y : ℕ) (old stage : Stage) (value : Option Json) (moment : ℕ) (l : List Made) → ChangesHands d n x old l → (first : Made) (rest : List Made)
    → l ≡ first ∷ rest → Once (λ k _. (k.answer.place ≡ moment) × ReadsDoc d y value (Some stage) k) rest
    → ((f : Entry) × (f.state ≡ Committed) × Once (λ k _. ReadsEntry stage.atr stage.attempt f k) l)
    ⊎ Once (λ k before. FindsNoEntry stage.atr stage.attempt k × Once (λ j _. ShowsStagingOf stage.atr stage.attempt j) before) l
settled d n x y old stage value moment l (once z held m body read) first rest l_is met = absurd (subst (λ k. Once (λ j _. (j.answer.place ≡ moment) × ReadsDoc d y value (Some stage) j) k) (sym (tail_is l_is)) met)
  where
    tail_is : m ∷ [] ≡ first ∷ rest → [] ≡ rest
    tail_is both = cc
settled d n x y old stage value moment l (again k z w held now m asked older body read apart told hands) first rest l_is met =
    ⊎_elim (λ (here : (asked.answer.place ≡ moment) × ReadsDoc d y value (Some stage) asked). absurd (doc_entry here.1.0 (asked_step told)))
    (λ (past : Once (λ k _. (k.answer.place ≡ moment) × ReadsDoc d y value (Some stage) k) older).
    ⊎_elim (λ (here : (head.newest.answer.place ≡ moment) × ReadsDoc d y value (Some stage) head.newest). at_head here.1)
    (λ (deep : Once (λ k _. (k.answer.place ≡ moment) × ReadsDoc d y value (Some stage) k) head.older).
    longer (settled d k z y held stage value moment older hands head.newest head.older head.l_is deep))
    (subst (λ l. Once (λ k _. (k.answer.place ≡ moment) × ReadsDoc d y value (Some stage) k) l) head.l_is past))
    (subst (λ l. Once (λ k _. (k.answer.place ≡ moment) × ReadsDoc d y value (Some stage) k) l) (sym (tail_is l_is)) met)
  where
    tail_is : m ∷ asked ∷ older ≡ first ∷ rest → asked ∷ older ≡ rest
    tail_is both = cc

    asked_step : ((e : Entry) × ReadsEntry held.atr held.attempt e asked × (e.state ≡ Committed)) ⊎ FindsNoEntry held.atr held.attempt asked
        → asked.step ≡ step.ReadEntry held.atr held.attempt
    asked_step it = ⊎_elim (λ shown. shown.1.0) (λ none. none.0) it

    head : Newest d z held older
    head = newest_of d k z held older hands

    longer : ((f : Entry) × (f.state ≡ Committed) × Once (λ k _. ReadsEntry stage.atr stage.attempt f k) older)
        ⊎ Once (λ k before. FindsNoEntry stage.atr stage.attempt k × Once (λ j _. ShowsStagingOf stage.atr stage.attempt j) before) older
        → ((f : Entry) × (f.state ≡ Committed) × Once (λ k _. ReadsEntry stage.atr stage.attempt f k) (m ∷ asked ∷ older))
        ⊎ Once (λ k before. FindsNoEntry stage.atr stage.attempt k × Once (λ j _. ShowsStagingOf stage.atr stage.attempt j) before) (m ∷ asked ∷ older)
    longer it = ⊎_elim (λ shown. inl (shown.0, shown.1, inr (inr shown.2))) (λ none. inr (inr (inr none))) it

    of_held : stage ≡ held → ((f : Entry) × (f.state ≡ Committed) × Once (λ k _. ReadsEntry stage.atr stage.attempt f k) (m ∷ asked ∷ older))
        ⊎ Once (λ k before. FindsNoEntry stage.atr stage.attempt k × Once (λ j _. ShowsStagingOf stage.atr stage.attempt j) before) (m ∷ asked ∷ older)
    of_held same =
        subst (λ s. ((f : Entry) × (f.state ≡ Committed) × Once (λ k _. ReadsEntry s.atr s.attempt f k) (m ∷ asked ∷ older))
        ⊎ Once (λ k before. FindsNoEntry s.atr s.attempt k × Once (λ j _. ShowsStagingOf s.atr s.attempt j) before) (m ∷ asked ∷ older)) (sym same)
        (⊎_elim (λ it. inl (it.0, it.2, inr (inl it.1)))
        (λ none. inr (inr (inl (
          none,
          subst (λ l. Once (λ j _. ShowsStagingOf held.atr held.attempt j) l) (sym head.l_is)
              (inl (d, z, head.body, held, head.reads, refl, refl)),
        )))) told)

    at_head : ReadsDoc d y value (Some stage) head.newest → ((f : Entry) × (f.state ≡ Committed) × Once (λ k _. ReadsEntry stage.atr stage.attempt f k) (m ∷ asked ∷ older))
        ⊎ Once (λ k before. FindsNoEntry stage.atr stage.attempt k × Once (λ j _. ShowsStagingOf stage.atr stage.attempt j) before) (m ∷ asked ∷ older)
    at_head reads = of_held (some_same (same_stage reads.1 head.reads.1))

-- a later call shows the entry of this attempt, and it is not committed: then it was neither committed nor gone before
later_pending : (r a : ℕ) (e : Entry) (m : Made) (past : List Made) → AgreesWith past m → ReadsEntry r a e m → e.state ≢ Committed → (f : Entry) → f.state ≡ Committed
    → Once (λ k _. ReadsEntry r a f k) past → ⊥
later_pending r a e m past agrees reads not f committed shown = not (agrees.decided r a e f reads shown (pending_not committed) ∙ committed)
  where
    pending_not : {s : EntryState} → s ≡ Committed → s ≡ Pending → ⊥
    pending_not one two = cc

module _ (o : Task) (mine reads : List Made) (last : EndsRead o.doc (Value o.seen) reads) (stays : StaysAsShown (mine ++ reads))
    (unread : Each (λ m _. reads_doc m.step ≡ false) mine) (asked_for : Each (λ m _. (r by : ℕ) → m.step ≡ step.ReadEntry r by → Waits o r by) mine) where
  abbrev newest : Made
  newest = last.newest

  abbrev older : List Made
  older = last.older

  abbrev d : List ℕ
  d = o.doc

  stays_all : StaysAsShown (mine ++ newest ∷ older)
  stays_all = subst (λ k. StaysAsShown (mine ++ k)) last.calls_are stays

  stays_reads : StaysAsShown (newest ∷ older)
  stays_reads = stays_back mine (newest ∷ older) stays_all

  going : (p : Phase) → step_for d p ≡ Some newest.step → end_in p ≡ None
  going Begun asked = refl
  going (Asking staged left) asked = refl
  going (Again staged gone place left) asked = refl
  going (Ended end) asked = absurd (none-some newest.step asked)

  pub still : IsOpen d older
  still = open_of d last.phase older stays_reads.1 last.knows (going last.phase last.asked)

  pub how : Ending d o.seen newest older
  how = ending d o.seen newest older stays_reads.0 last.phase last.knows last.asked last.ended

  not_doc : {s : Step} {q : List ℕ} → reads_doc s ≡ false → s ≡ step.ReadDoc q → ⊥
  not_doc not is = true-false (ap reads_doc is) not

  -- a reading that found no document
  when_absent : FindsNoDoc d newest → o.seen.value ≡ None
  when_absent none = by how
    where
      by : Ending d o.seen newest older → o.seen.value ≡ None
      by (absent finds value by_none) = value
      by (bare x body reads apart value by_none) = absurd (absent_doc none.1 reads.1)
      by (waiting staged left e shown reads seen_is) = absurd (doc_entry none.0 reads.0)
      by (kept staged left asked before body other e older_is shown reads entry state value by_some) = absurd (absent_doc none.1 reads.1)
      by (dead staged left asked before body other older_is shown reads entry value gone) = absurd (absent_doc none.1 reads.1)

  -- one that showed it without a staging
  when_bare : (x : ℕ) (value : Option Json) → ReadsDoc d x value None newest → o.seen.value ≡ value
  when_bare x value shows = by how
    where
      staged_before : (staged : Staged) (left : ℕ) (asked : Made) (before : List Made) (body : Option Json) (other : Option Stage) → older ≡ asked ∷ before
          → WasShown d staged left before → ReadsDoc d staged.cas body other newest → Some staged.stage ≡ other
      staged_before staged left asked before body other older_is shown reads =
          (stays_reads.0.same d staged.cas body staged.body other (Some staged.stage) reads
          (subst (λ l. Once (λ n _. ReadsDoc d staged.cas staged.body (Some staged.stage) n) l) (sym older_is)
          (inr (subst (λ l. Once (λ n _. ReadsDoc d staged.cas staged.body (Some staged.stage) n) l) (sym shown.mine_is) (inl shown.shows))))).1

      by : Ending d o.seen newest older → o.seen.value ≡ value
      by (absent finds none by_none) = absurd (absent_doc finds.1 shows.1)
      by (bare y body reads apart value_is by_none) = value_is ∙ same_body reads.1 shows.1
      by (waiting staged left e shown reads seen_is) = absurd (doc_entry shows.0 reads.0)
      by (kept staged left asked before body other e older_is shown reads entry state value_is by_some) =
          absurd (none-some staged.stage (sym (staged_before staged left asked before body other older_is shown reads ∙ same_stage reads.1 shows.1)))
      by (dead staged left asked before body other older_is shown reads entry value_is gone) = value_is ∙ same_body reads.1 shows.1

  -- ---- an entry that was not committed

  -- the staging whose entry was shown so is the newest
  module _ (x : ℕ) (stage : Stage) (value : Option Json) (moment : ℕ) where
    older_value : (staged : Staged) (left : ℕ) → WasShown d staged left older
        → ((f : Entry) → f.state ≡ Committed → Once (λ k _. ReadsEntry stage.atr stage.attempt f k) older → ⊥)
        → (Once (λ k before. FindsNoEntry stage.atr stage.attempt k × Once (λ j _. ShowsStagingOf stage.atr stage.attempt j) before) older → ⊥)
        → Once (λ k _. (k.answer.place ≡ moment) × ReadsDoc d x value (Some stage) k) older → staged.body ≡ value
    older_value staged left shown uncommitted there met =
        ⊎_elim (λ (here : (shown.newest.answer.place ≡ moment) × ReadsDoc d x value (Some stage) shown.newest). same_body shown.shows.1 here.1.1)
        (λ (deep : Once (λ k _. (k.answer.place ≡ moment) × ReadsDoc d x value (Some stage) k) shown.older).
        absurd (⊎_elim (λ it. uncommitted it.0 it.1 it.2) (λ none. there none)
        (settled d shown.readings staged.cas x staged.stage stage value moment older shown.hands shown.newest shown.older shown.mine_is deep)))
        (subst (λ l. Once (λ k _. (k.answer.place ≡ moment) × ReadsDoc d x value (Some stage) k) l) shown.mine_is met)

    -- it was shown by the newest call of the read
    when_entry : (e : Entry) → ReadsEntry stage.atr stage.attempt e newest → e.state ≢ Committed
        → Once (λ k _. (k.answer.place ≡ moment) × ReadsDoc d x value (Some stage) k) older → o.seen.value ≡ value
    when_entry e reads not met = by how
      where
        by : Ending d o.seen newest older → o.seen.value ≡ value
        by (absent finds none by_none) = absurd (doc_entry finds.0 reads.0)
        by (bare y body shows apart value_is by_none) = absurd (doc_entry shows.0 reads.0)
        by (waiting staged left f shown shows seen_is) =
            ap (λ (k : Reading). k.value) seen_is
            ∙ older_value staged left shown (λ g committed there. later_pending stage.atr stage.attempt e newest older stays_reads.0 reads not g committed there)
            (λ gone. stays_reads.0.gone stage.atr stage.attempt e reads gone) met
        by (kept staged left asked before body other f older_is shown shows entry state value_is by_some) = absurd (doc_entry shows.0 reads.0)
        by (dead staged left asked before body other older_is shown shows entry value_is gone) = absurd (doc_entry shows.0 reads.0)

    -- or by one of the put
    when_asked : (m : Made) (past : List Made) → AgreesWith (past ++ newest ∷ older) m → Waits o stage.atr stage.attempt → (e : Entry) → ReadsEntry stage.atr stage.attempt e m
        → e.state ≢ Committed → Once (λ k _. (k.answer.place ≡ moment) × ReadsDoc d x value (Some stage) k) (newest ∷ older) → o.seen.value ≡ value
    when_asked m past agrees waits e reads not met = by how
      where
        behind : (f : Entry) → f.state ≡ Committed → Once (λ k _. ReadsEntry stage.atr stage.attempt f k) older → ⊥
        behind f committed there = later_pending stage.atr stage.attempt e m (past ++ newest ∷ older) agrees reads not f committed (once_back _ past (newest ∷ older) (inr there))

        by : Ending d o.seen newest older → o.seen.value ≡ value
        by (absent finds none by_none) = absurd (none-some (stage.atr, stage.attempt) (sym by_none ∙ waits.staged_by))
        by (bare y body shows apart value_is by_none) = absurd (none-some (stage.atr, stage.attempt) (sym by_none ∙ waits.staged_by))
        by (waiting staged left f shown shows seen_is) =
            ⊎_elim (λ (here : (newest.answer.place ≡ moment) × ReadsDoc d x value (Some stage) newest). absurd (doc_entry here.1.0 shows.0))
            (λ (past_read : Once (λ k _. (k.answer.place ≡ moment) × ReadsDoc d x value (Some stage) k) older).
            ap (λ (k : Reading). k.value) seen_is
            ∙ older_value staged left shown behind
            (λ gone. agrees.gone stage.atr stage.attempt e reads (once_back _ past (newest ∷ older) (inr gone))) past_read) met
        by (kept staged left asked before body other f older_is shown shows entry state value_is by_some) =
            let both = pair_same (staged.stage.atr, staged.stage.attempt) (stage.atr, stage.attempt) (some_same (sym by_some ∙ waits.staged_by)) in
            absurd (behind f state (subst (λ l. Once (λ k _. ReadsEntry stage.atr stage.attempt f k) l) (sym older_is)
            (inl (subst (λ r. ReadsEntry r stage.attempt f asked) both.0 (subst (λ a. ReadsEntry staged.stage.atr a f asked) both.1 entry)))))
          where
            pair_same : (p q : ℕ × ℕ) → p ≡ q → (p.0 ≡ q.0) × (p.1 ≡ q.1)
            pair_same p q both = (ap (λ k. k.0) both, ap (λ k. k.1) both)
        by (dead staged left asked before body other older_is shown shows entry value_is gone) = absurd (true-false gone waits.there)

    when_uncommitted : (xs : List Made) → StaysAsShown (xs ++ newest ∷ older) → Each (λ m _. reads_doc m.step ≡ false) xs
        → Each (λ m _. (r by : ℕ) → m.step ≡ step.ReadEntry r by → Waits o r by) xs → (e : Entry) → e.state ≢ Committed
        → Once (λ m before. ReadsEntry stage.atr stage.attempt e m × Once (λ k _. (k.answer.place ≡ moment) × ReadsDoc d x value (Some stage) k) before) (xs ++ newest ∷ older)
        → o.seen.value ≡ value
    when_uncommitted [] agrees nots asks e not met =
        ⊎_elim (λ (here : ReadsEntry stage.atr stage.attempt e newest × Once (λ k _. (k.answer.place ≡ moment) × ReadsDoc d x value (Some stage) k) older).
        when_entry e here.0 not here.1)
        (λ (past : Once (λ m before. ReadsEntry stage.atr stage.attempt e m × Once (λ k _. (k.answer.place ≡ moment) × ReadsDoc d x value (Some stage) k) before) older).
        absurd (clash_once (λ m. LeavesOpen d m)
        (λ m before. ReadsEntry stage.atr stage.attempt e m × Once (λ k _. (k.answer.place ≡ moment) × ReadsDoc d x value (Some stage) k) before) older
        (λ m before leaves is. not (leaves_committed d stage.atr stage.attempt e m leaves is.0)) still.leaves past)) met
    when_uncommitted (m ∷ xs) agrees nots asks e not met =
        ⊎_elim (λ (here : ReadsEntry stage.atr stage.attempt e m × Once (λ k _. (k.answer.place ≡ moment) × ReadsDoc d x value (Some stage) k) (xs ++ newest ∷ older)).
        when_asked m xs agrees.0 (asks.0 stage.atr stage.attempt here.0.0) e here.0 not
        (past_front (λ n. reads_doc n.step ≡ false) (λ k _. (k.answer.place ≡ moment) × ReadsDoc d x value (Some stage) k) xs (newest ∷ older)
        (λ n past no is. not_doc no is.1.0) nots.1 here.1))
        (λ (past : Once (λ m before. ReadsEntry stage.atr stage.attempt e m × Once (λ k _. (k.answer.place ≡ moment) × ReadsDoc d x value (Some stage) k) before)
        (xs ++ newest ∷ older)). when_uncommitted xs agrees.1 nots.1 asks.1 e not past) met

  -- ---- two readings at one CAS

  -- of those before the last, none stands behind the newest
  deep_none : (staged : Staged) (left : ℕ) (asked : Made) (before : List Made) → older ≡ asked ∷ before → WasShown d staged left before → (Q : Made → Type 0) (stage : Stage)
      → Once (λ n earlier. Q n × Once (λ k _. (body : Option Json) × ReadsDoc d staged.cas body (Some stage) k) earlier) before → ⊥
  deep_none staged left asked before older_is shown Q stage met =
      (subst (λ l. IsOpen d l) older_is still).apart staged.cas
      (inr (subst (λ l. TwiceAt d staged.cas l) (sym shown.mine_is)
      (inl ((staged.body, Some staged.stage, shown.shows), rest))))
    where
      to_rest : (Q shown.newest × Once (λ k _. (body : Option Json) × ReadsDoc d staged.cas body (Some stage) k) shown.older)
          ⊎ Once (λ n earlier. Q n × Once (λ k _. (body : Option Json) × ReadsDoc d staged.cas body (Some stage) k) earlier) shown.older
          → Once (λ k _. ReadsAtCas d staged.cas k) shown.older
      to_rest it =
          ⊎_elim (λ here. once_more _ (λ k _. ReadsAtCas d staged.cas k) shown.older (λ k past reads. (reads.0, Some stage, reads.1)) here.1)
          (λ deep. once_before _ (λ k _. ReadsAtCas d staged.cas k) shown.older
          (λ n earlier is. once_more _ (λ k _. ReadsAtCas d staged.cas k) earlier (λ k past reads. (reads.0, Some stage, reads.1)) is.1) deep) it

      rest : Once (λ k _. ReadsAtCas d staged.cas k) shown.older
      rest = to_rest (subst (λ l. Once (λ n earlier. Q n × Once (λ k _. (body : Option Json) × ReadsDoc d staged.cas body (Some stage) k) earlier) l) shown.mine_is met)

  -- the staging that stands right behind the newest entry
  first_stage : (staged : Staged) (left : ℕ) (asked : Made) (before : List Made) → older ≡ asked ∷ before → WasShown d staged left before → (stage : Stage)
      → Once (λ k _. (body : Option Json) × ReadsDoc d staged.cas body (Some stage) k) before → staged.stage ≡ stage
  first_stage staged left asked before older_is shown stage met =
      ⊎_elim (λ (here : (body : Option Json) × ReadsDoc d staged.cas body (Some stage) shown.newest). some_same (same_stage shown.shows.1 here.1.1))
      (λ (deep : Once (λ k _. (body : Option Json) × ReadsDoc d staged.cas body (Some stage) k) shown.older).
      absurd ((subst (λ l. IsOpen d l) older_is still).apart staged.cas
      (inr (subst (λ l. TwiceAt d staged.cas l) (sym shown.mine_is)
      (inl (
        (staged.body, Some staged.stage, shown.shows),
        once_more _ (λ k _. ReadsAtCas d staged.cas k) shown.older (λ k past reads. (reads.0, Some stage, reads.1)) deep,
      ))))))
      (subst (λ l. Once (λ k _. (body : Option Json) × ReadsDoc d staged.cas body (Some stage) k) l) shown.mine_is met)

  when_committed : (x : ℕ) (stage : Stage) (e : Entry) (moment : ℕ) → ReadsAtCas d x newest
      → Once (λ n earlier. (n.answer.place ≡ moment) × ReadsEntry stage.atr stage.attempt e n
      × Once (λ k _. (body : Option Json) × ReadsDoc d x body (Some stage) k) earlier) older → o.seen.value ≡ stage.content
  when_committed x stage e moment reads met = by how
    where
      at_x : Once (λ k _. ReadsAtCas d x k) older
      at_x = once_before _ (λ k _. ReadsAtCas d x k) older
          (λ n earlier is. once_more _ (λ k _. ReadsAtCas d x k) earlier (λ k past shows. (shows.0, Some stage, shows.1)) is.2) met

      second : (staged : Staged) (left : ℕ) (asked : Made) (before : List Made) → older ≡ asked ∷ before → WasShown d staged left before → x ≡ staged.cas
          → ReadsEntry stage.atr stage.attempt e asked × (staged.stage ≡ stage)
      second staged left asked before older_is shown same =
          ⊎_elim (λ here. (here.1, first_stage staged left asked before older_is shown stage here.2))
          (λ deep. absurd (deep_none staged left asked before older_is shown (λ n. (n.answer.place ≡ moment) × ReadsEntry stage.atr stage.attempt e n) stage
          (once_more _ _ before (λ n earlier is. ((is.0, is.1), is.2)) deep)))
          (subst (λ l. Once (λ n earlier. (n.answer.place ≡ moment) × ReadsEntry stage.atr stage.attempt e n
          × Once (λ k _. (body : Option Json) × ReadsDoc d staged.cas body (Some stage) k) earlier) l) older_is
          (subst (λ y. Once (λ n earlier. (n.answer.place ≡ moment) × ReadsEntry stage.atr stage.attempt e n
          × Once (λ k _. (body : Option Json) × ReadsDoc d y body (Some stage) k) earlier) older) same met))

      by : Ending d o.seen newest older → o.seen.value ≡ stage.content
      by (absent finds none by_none) = absurd (absent_doc finds.1 reads.2.1)
      by (bare y body shows apart value_is by_none) = absurd (apart (subst (λ z. Once (λ k _. ReadsAtCas d z k) older) (same_cas reads.2.1 shows.1) at_x))
      by (waiting staged left f shown shows seen_is) = absurd (doc_entry reads.2.0 shows.0)
      by (kept staged left asked before body other f older_is shown shows entry state value_is by_some) =
          value_is ∙ ap (λ (k : Stage). k.content) (second staged left asked before older_is shown (same_cas reads.2.1 shows.1)).1
      by (dead staged left asked before body other older_is shown shows entry value_is gone) =
          absurd (missing_entry entry.1 (second staged left asked before older_is shown (same_cas reads.2.1 shows.1)).0.1)

  when_dead : (x : ℕ) (stage : Stage) (value : Option Json) → ((other : Option Stage) × ReadsDoc d x value other newest)
      → Once (λ n earlier. FindsNoEntry stage.atr stage.attempt n × Once (λ k _. (body : Option Json) × ReadsDoc d x body (Some stage) k) earlier) older → o.seen.value ≡ value
  when_dead x stage value reads met = by how
    where
      at_x : Once (λ k _. ReadsAtCas d x k) older
      at_x = once_before _ (λ k _. ReadsAtCas d x k) older
          (λ n earlier is. once_more _ (λ k _. ReadsAtCas d x k) earlier (λ k past shows. (shows.0, Some stage, shows.1)) is.1) met

      none_there : (staged : Staged) (left : ℕ) (asked : Made) (before : List Made) → older ≡ asked ∷ before → WasShown d staged left before → x ≡ staged.cas
          → FindsNoEntry stage.atr stage.attempt asked
      none_there staged left asked before older_is shown same =
          ⊎_elim (λ here. here.0)
          (λ deep. absurd (deep_none staged left asked before older_is shown (λ n. FindsNoEntry stage.atr stage.attempt n) stage deep))
          (subst (λ l. Once (λ n earlier. FindsNoEntry stage.atr stage.attempt n × Once (λ k _. (body : Option Json) × ReadsDoc d staged.cas body (Some stage) k) earlier) l) older_is
          (subst (λ y. Once (λ n earlier. FindsNoEntry stage.atr stage.attempt n × Once (λ k _. (body : Option Json) × ReadsDoc d y body (Some stage) k) earlier) older) same met))

      by : Ending d o.seen newest older → o.seen.value ≡ value
      by (absent finds none by_none) = absurd (absent_doc finds.1 reads.1.1)
      by (bare y body shows apart value_is by_none) = absurd (apart (subst (λ z. Once (λ k _. ReadsAtCas d z k) older) (same_cas reads.1.1 shows.1) at_x))
      by (waiting staged left f shown shows seen_is) = absurd (doc_entry reads.1.0 shows.0)
      by (kept staged left asked before body other f older_is shown shows entry state value_is by_some) =
          absurd (missing_entry (none_there staged left asked before older_is shown (same_cas reads.1.1 shows.1)).1 entry.1)
      by (dead staged left asked before body other older_is shown shows entry value_is gone) = value_is ∙ same_body shows.1 reads.1.1

  -- ---- whatever the calls read has the value that the read ended with

  in_reads : (P : Made → List Made → Type 0) → ((m : Made) (past : List Made) → reads_doc m.step ≡ false → P m past → ⊥) → Once P (mine ++ newest ∷ older) → Once P (newest ∷ older)
  in_reads P apart met = past_front (λ m. reads_doc m.step ≡ false) P mine (newest ∷ older) apart unread met

  value_in : (it : Reading) → IsReadAt d it (mine ++ newest ∷ older) → o.seen.value ≡ it.value
  value_in it (read_at.absent value cas by gone met) =
      ⊎_elim (λ here. when_absent here.1 ∙ sym value)
      (λ past. absurd (clash_once (λ m. LeavesOpen d m) (λ m _. (m.answer.place ≡ it.moment) × FindsNoDoc d m) older (λ m p leaves is. leaves_present d m leaves is.1) still.leaves past))
      (in_reads (λ m _. (m.answer.place ≡ it.moment) × FindsNoDoc d m) (λ m past not is. not_doc not is.1.0) met)
  value_in it (read_at.unstaged x cas by gone met) =
      ⊎_elim (λ here. when_bare x it.value here.1)
      (λ past. absurd (clash_once (λ m. LeavesOpen d m) (λ m _. (m.answer.place ≡ it.moment) × ReadsDoc d x it.value None m) older
      (λ m p leaves is. leaves_staged d x it.value m leaves is.1) still.leaves past))
      (in_reads (λ m _. (m.answer.place ≡ it.moment) × ReadsDoc d x it.value None m) (λ m past not is. not_doc not is.1.0) met)
  value_in it (read_at.uncommitted x stage e cas by gone state met) = when_uncommitted x stage it.value it.moment mine stays_all unread asked_for e state met
  value_in it (read_at.committed x stage e cas by gone value state met) =
      ⊎_elim (λ here. when_committed x stage e it.moment here.0 here.1 ∙ sym value)
      (λ past. absurd (still.apart x (twice_committed d x stage e it.moment older past)))
      (in_reads _ (λ m past not is. not_doc not is.0.2.0) met)
  value_in it (read_at.dead x stage cas by gone met) =
      ⊎_elim (λ here. when_dead x stage it.value here.1 here.2)
      (λ past. absurd (still.apart x (twice_dead d x stage it.value it.moment older past)))
      (in_reads _ (λ m past not is. not_doc not is.1.1.0) met)

  pub read_once : (it : Reading) → IsReadAt d it (mine ++ reads) → o.seen.value ≡ it.value
  read_once it read = value_in it (subst (λ k. IsReadAt d it (mine ++ k)) last.calls_are read)

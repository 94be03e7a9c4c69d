-- A read goes on knowing what its calls were, whatever fitting answer it gets.
use Rattle.std.proofs.Common.{◌≡◌, ◌≢◌, ℕ, zero, suc, ◌+◌, ◌==◌, Bool, true, false, if◌then◌else◌, ◌⊎◌, inl, inr, List, [], ◌∷◌, Option, Some, None, refl, sym, ap, ◌∙◌, subst, arith}
use Rattle.std.proofs.lemmas.Bool.{eqb-true, eq-eqb}
use Rattle.std.proofs.lemmas.Option.{none-some}
use Rattle.cbt_json.specs.declared.value.Json.{Json}
use Rattle.cbt_model.specs.Fitting.{fits, fits_read_doc, fits_read_entry}
use Rattle.cbt_model.specs.declared.documents.Stage.{Stage}
use Rattle.cbt_model.specs.declared.entries.Entry.{Entry}
use Rattle.cbt_model.specs.declared.entries.EntryState.{EntryState}
use Rattle.cbt_model.specs.declared.entries.EntryState.TheVariants.{Pending, Committed, Aborted}
use Rattle.cbt_model.specs.declared.events.Made.{Made}
use Rattle.cbt_model.specs.declared.steps.Reply.{Reply}
use Rattle.cbt_model.specs.declared.steps.Reply.TheVariants as reply
use Rattle.cbt_model.specs.declared.steps.Step.TheVariants as step
use Rattle.cbt_book.specs.OwnLists.{Once}
use Rattle.cbt_book.specs.Outcomes.{ChangesHands, once, again}
use Rattle.cbt_book.specs.ReadAt.{absent, unstaged, uncommitted, committed, dead}
use Rattle.cbt_book.specs.Shown.{ReadsDoc, ReadsEntry, FindsNoEntry}
use Rattle.cbt_read.specs.OpenReads.{LeavesOpen, staged, committed as told_committed, missing}
use Rattle.cbt_read.specs.Phases.{step_for, end_in, ask, after_reading, decided, after_entry, confirmed, one_fewer, after_second, after}
use Rattle.cbt_read.specs.Standing.{WasShown, Decides, WasDecided, EndsBy, Knows}
use Rattle.cbt_read.specs.declared.phases.Phase.{Phase}
use Rattle.cbt_read.specs.declared.phases.Phase.TheVariants.{Begun, Asking, Again, Ended}
use Rattle.cbt_read.specs.declared.phases.Staged.{Staged}
use Rattle.cbt_read.specs.declared.ends.GetEnd.{GetEnd}

pub some_same : {X : Type 0} {x y : X} → Some x ≡ Some y → x ≡ y
some_same both = cc

-- a reading that stands for itself; what is known where it shows the document staged is left to the caller
read_on : (d : List ℕ) (mine : List Made) (m : Made) (left : Option ℕ) → m.step ≡ step.ReadDoc d
    → ((x : ℕ) (body : Option Json) (stage : Stage) → m.answer.reply ≡ reply.Doc x body (Some stage)
    → Knows d (ask (record { cas = x; body = body; stage = stage; place = m.answer.place }) left) (m ∷ mine))
    → (r : Reply) → m.answer.reply ≡ r → fits_read_doc r ≡ true → Knows d (after_reading m.answer.place r left) (m ∷ mine)
read_on d mine m left is shown reply.Absent told fit = absent refl refl refl refl (inl (refl, (is, told)))
read_on d mine m left is shown (reply.Doc x body None) told fit = unstaged x refl refl refl (inl (refl, (is, told)))
read_on d mine m left is shown (reply.Doc x body (Some stage)) told fit = shown x body stage told
read_on d mine m left is shown reply.Failed told fit = record { newest = m; older = mine; calls_are = refl; failed = told; place_is = refl }
read_on d mine m left is shown _ told fit = absurd (cc)

-- the first reading
first_on : (d : List ℕ) (m : Made) → m.step ≡ step.ReadDoc d → fits_read_doc m.answer.reply ≡ true
    → Knows d (after_reading m.answer.place m.answer.reply (Some 7)) (m ∷ [])
first_on d m is fit =
    read_on d [] m (Some 7) is
    (λ x body stage told. record {
      readings = 1;
      count = refl;
      hands = once x stage m body (is, told);
      newest = m;
      older = [];
      mine_is = refl;
      shows = (is, told);
      place_is = refl;
    }) m.answer.reply refl fit

-- the staged reading, as an earlier call
shown_once : (d : List ℕ) (it : Staged) (left : ℕ) (mine : List Made) → WasShown d it left mine
    → Once (λ n _. (n.answer.place ≡ it.place) × ReadsDoc d it.cas it.body (Some it.stage) n) mine
shown_once d it left mine shown =
    subst (λ l. Once (λ n _. (n.answer.place ≡ it.place) × ReadsDoc d it.cas it.body (Some it.stage) n) l) (sym shown.mine_is) (inl (shown.place_is, shown.shows))

shown_some : (d : List ℕ) (it : Staged) (left : ℕ) (mine : List Made) → WasShown d it left mine
    → Once (λ n _. (body : Option Json) × ReadsDoc d it.cas body (Some it.stage) n) mine
shown_some d it left mine shown =
    subst (λ l. Once (λ n _. (body : Option Json) × ReadsDoc d it.cas body (Some it.stage) n) l) (sym shown.mine_is) (inl (it.body, shown.shows))

-- the entry of the staging
entry_on : (d : List ℕ) (it : Staged) (left : ℕ) (mine : List Made) (m : Made) → m.step ≡ step.ReadEntry it.stage.atr it.stage.attempt → WasShown d it left mine
    → (r : Reply) → m.answer.reply ≡ r → fits_read_entry r ≡ true → Knows d (after_entry it left m.answer.place r) (m ∷ mine)
entry_on d it left mine m is shown reply.NoEntry told fit = record { asked = m; before = mine; mine_is = refl; place_is = refl; decides = (is, told); shown = shown }
entry_on d it left mine m is shown (reply.Entry e) told fit = in_state e.state refl
  where
    in_state : (s : EntryState) → e.state ≡ s → Knows d (decided it left m.answer.place s) (m ∷ mine)
    in_state Committed state = record { asked = m; before = mine; mine_is = refl; place_is = refl; decides = (e, (is, told), state); shown = shown }
    in_state Pending state = uncommitted it.cas it.stage e refl refl refl (λ same. cc) (inl ((is, told), shown_once d it left mine shown))
    in_state Aborted state = uncommitted it.cas it.stage e refl refl refl (λ same. cc) (inl ((is, told), shown_once d it left mine shown))
entry_on d it left mine m is shown reply.Failed told fit = record { newest = m; older = mine; calls_are = refl; failed = told; place_is = refl }
entry_on d it left mine m is shown _ told fit = absurd (cc)

-- the document has not changed: its entry decides
confirmed_on : (d : List ℕ) (it : Staged) (gone : Bool) (place left : ℕ) (mine : List Made) (m : Made) (body : Option Json) (other : Option Stage) → m.step ≡ step.ReadDoc d
    → m.answer.reply ≡ reply.Doc it.cas body other → WasDecided d it gone place left mine → Knows d (confirmed it gone place m.answer.place body) (m ∷ mine)
confirmed_on d it false place left mine m body other is told was =
    let told_by = was.decides in
    committed it.cas it.stage told_by.0 refl refl refl refl told_by.2
    (inl (
      (body, other, (is, told)),
      subst (λ l. Once (λ n earlier. (n.answer.place ≡ place) × ReadsEntry it.stage.atr it.stage.attempt told_by.0 n
          × Once (λ k _. (old : Option Json) × ReadsDoc d it.cas old (Some it.stage) k) earlier) l) (sym was.mine_is)
          (inl (was.place_is, told_by.1, shown_some d it left was.before was.shown)),
    ))
confirmed_on d it true place left mine m body other is told was =
    dead it.cas it.stage refl refl refl
    (inl (
      refl,
      (other, (is, told)),
      subst (λ l. Once (λ n earlier. FindsNoEntry it.stage.atr it.stage.attempt n
          × Once (λ k _. (old : Option Json) × ReadsDoc d it.cas old (Some it.stage) k) earlier) l) (sym was.mine_is)
          (inl (was.decides, shown_some d it left was.before was.shown)),
    ))

-- the call about the entry, as a change of hands asks for it
settled : (it : Staged) (gone : Bool) (m : Made) → Decides it gone m
    → ((e : Entry) × ReadsEntry it.stage.atr it.stage.attempt e m × (e.state ≡ Committed)) ⊎ FindsNoEntry it.stage.atr it.stage.attempt m
settled it false m decides = inl decides
settled it true m decides = inr decides

-- the document has changed, and is staged again
changed_on : (d : List ℕ) (it : Staged) (gone : Bool) (place left : ℕ) (mine : List Made) (m : Made) → m.step ≡ step.ReadDoc d → WasDecided d it gone place left mine
    → (x : ℕ) (body : Option Json) (stage : Stage) → m.answer.reply ≡ reply.Doc x body (Some stage) → x ≢ it.cas
    → Knows d (ask (record { cas = x; body = body; stage = stage; place = m.answer.place }) (one_fewer left)) (m ∷ mine)
changed_on d it gone place left mine m is was x body stage told apart = go left was.shown.count
  where
    hands : (n : ℕ) → was.shown.readings ≡ n → ChangesHands d (suc n) x stage (m ∷ mine)
    hands n count =
        subst (λ l. ChangesHands d (suc n) x stage (m ∷ l)) (sym was.mine_is)
        (again n it.cas x it.stage stage m was.asked was.before body (is, told) apart (settled it gone was.asked was.decides)
        (subst (λ k. ChangesHands d k it.cas it.stage was.before) count was.shown.hands))

    eight : (n : ℕ) → n + 0 ≡ 8 → n ≡ 8
    eight n sum = omega arith

    one_more : (n k : ℕ) → n + suc k ≡ 8 → suc n + k ≡ 8
    one_more n k sum = omega arith

    go : (k : ℕ) → was.shown.readings + k ≡ 8 → Knows d (ask (record { cas = x; body = body; stage = stage; place = m.answer.place }) (one_fewer k)) (m ∷ mine)
    go zero sum = (x, stage, hands 8 (eight was.shown.readings sum))
    go (suc k) sum = record {
      readings = suc was.shown.readings;
      count = one_more was.shown.readings k sum;
      hands = hands was.shown.readings refl;
      newest = m;
      older = mine;
      mine_is = refl;
      shows = (is, told);
      place_is = refl;
    }

-- the second reading
second_on : (d : List ℕ) (it : Staged) (gone : Bool) (place left : ℕ) (mine : List Made) (m : Made) → m.step ≡ step.ReadDoc d → WasDecided d it gone place left mine
    → (r : Reply) → m.answer.reply ≡ r → fits_read_doc r ≡ true → Knows d (after_second it gone place left m.answer.place r) (m ∷ mine)
second_on d it gone place left mine m is was (reply.Doc x body other) told fit = by_test (x == it.cas) refl
  where
    same_cas : (y : ℕ) (b : Option Json) (stage : Stage) → m.answer.reply ≡ reply.Doc y b (Some stage) → x ≡ y
    same_cas y b stage shows = cc

    by_test : (same : Bool) → (x == it.cas) ≡ same
        → Knows d (if same then confirmed it gone place m.answer.place body else after_reading m.answer.place (reply.Doc x body other) (one_fewer left)) (m ∷ mine)
    by_test true same = confirmed_on d it gone place left mine m body other is (told ∙ ap (λ y. reply.Doc y body other) (eqb-true x it.cas same)) was
    by_test false differs =
        read_on d mine m (one_fewer left) is
        (λ y b stage shows. changed_on d it gone place left mine m is was y b stage shows (λ y_is. differ (eq-eqb x it.cas (same_cas y b stage shows ∙ y_is)) differs))
        (reply.Doc x body other) told fit
      where
        differ : (x == it.cas) ≡ true → (x == it.cas) ≡ false → ⊥
        differ same apart = cc
second_on d it gone place left mine m is was reply.Absent told fit = read_on d mine m (one_fewer left) is (λ y b stage shows. absurd (cc)) reply.Absent told fit
second_on d it gone place left mine m is was reply.Failed told fit = read_on d mine m (one_fewer left) is (λ y b stage shows. absurd (cc)) reply.Failed told fit
second_on d it gone place left mine m is was _ told fit = absurd (cc)

-- a call of the phase, with a fitting answer
pub knows_on : (d : List ℕ) (p : Phase) (mine : List Made) (m : Made) → step_for d p ≡ Some m.step → fits m.step m.answer.reply ≡ true → Knows d p mine
    → Knows d (after p m.answer.place m.answer.reply) (m ∷ mine)
knows_on d Begun mine m asked fit none =
    subst (λ l. Knows d (after_reading m.answer.place m.answer.reply (Some 7)) (m ∷ l)) (sym none)
    (first_on d m (sym (some_same asked)) (ap (λ s. fits s m.answer.reply) (some_same asked) ∙ fit))
knows_on d (Asking it left) mine m asked fit shown =
    entry_on d it left mine m (sym (some_same asked)) shown m.answer.reply refl (ap (λ s. fits s m.answer.reply) (some_same asked) ∙ fit)
knows_on d (Again it gone place left) mine m asked fit was =
    second_on d it gone place left mine m (sym (some_same asked)) was m.answer.reply refl (ap (λ s. fits s m.answer.reply) (some_same asked) ∙ fit)
knows_on d (Ended end) mine m asked fit it = absurd (none-some m.step asked)

decides_open : (d : List ℕ) (it : Staged) (gone : Bool) (m : Made) → Decides it gone m → LeavesOpen d m
decides_open d it false m decides = told_committed it.stage.atr it.stage.attempt decides.0 decides.1 decides.2
decides_open d it true m decides = missing it.stage.atr it.stage.attempt decides

-- a read that has not ended was left open by its newest call
pub left_open : (d : List ℕ) (p : Phase) (newest : Made) (older : List Made) → Knows d p (newest ∷ older) → end_in p ≡ None → LeavesOpen d newest
left_open d Begun newest older none going = absurd (cc)
left_open d (Asking it left) newest older shown going =
    staged it.cas it.body it.stage (subst (λ (m : Made). ReadsDoc d it.cas it.body (Some it.stage) m) (same shown.newest shown.older shown.mine_is) shown.shows)
  where
    same : (m : Made) (l : List Made) → newest ∷ older ≡ m ∷ l → m ≡ newest
    same m l is = cc
left_open d (Again it gone place left) newest older was going =
    decides_open d it gone newest (subst (λ (m : Made). Decides it gone m) (same was.asked was.before was.mine_is) was.decides)
  where
    same : (m : Made) (l : List Made) → newest ∷ older ≡ m ∷ l → m ≡ newest
    same m l is = cc
left_open d (Ended end) newest older it going = absurd (cc)

-- a read that has ended did so by its calls
pub ends_by : (d : List ℕ) (p : Phase) (mine : List Made) (end : GetEnd) → Knows d p mine → end_in p ≡ Some end → EndsBy d end mine
ends_by d Begun mine end none ended = absurd (none-some end ended)
ends_by d (Asking it left) mine end shown ended = absurd (none-some end ended)
ends_by d (Again it gone place left) mine end was ended = absurd (none-some end ended)
ends_by d (Ended last) mine end it ended = subst (λ e. EndsBy d e mine) (some_same ended) it

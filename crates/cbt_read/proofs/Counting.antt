-- The calls of a read are few for the stagings that it met.
use Rattle.std.proofs.Common.{◌≡◌, ◌≢◌, ℕ, suc, ◌+◌, ◌≤◌, ◌<◌, ◌==◌, Bool, true, false, not, cond, ◌⊎◌, ⊎_elim, List, [], ◌∷◌, length, count_by, Some, None, refl, sym, ap, ◌∙◌, subst, arith}
use Rattle.std.specs.List.{filter_map, cons_option}
use Rattle.std.proofs.lemmas.Bool.{eqb-true}
use Rattle.std.proofs.lemmas.List.Sums.{sum_by-cons}
use Rattle.std.proofs.lemmas.Option.{none-some}
use Rattle.cbt_model.specs.declared.documents.Stage.{Stage}
use Rattle.cbt_model.specs.declared.entries.Entry.{Entry}
use Rattle.cbt_model.specs.declared.entries.EntryState.TheVariants.{Committed}
use Rattle.cbt_model.specs.declared.events.Made.{Made}
use Rattle.cbt_model.specs.declared.steps.Reply.{Reply}
use Rattle.cbt_model.specs.declared.steps.Reply.TheVariants as reply
use Rattle.cbt_model.specs.declared.steps.Step.{Step}
use Rattle.cbt_model.specs.declared.steps.Step.TheVariants as step
use Rattle.cbt_book.specs.Calls.{reads_doc, reads_entry, shown_cas, is_cas, is_met_anew, count_met, doc_reply, stagings_met, MayGet, GetCalls}
use Rattle.cbt_book.specs.OwnLists.{Each}
use Rattle.cbt_book.specs.Outcomes.{ChangesHands, once, again}
use Rattle.cbt_book.specs.Shown.{ReadsEntry, FindsNoEntry}
use Rattle.cbt_read.specs.Phases.{step_for, left_in, after}
use Rattle.cbt_read.specs.Standing.{Decides, Knows}
use Rattle.cbt_read.specs.declared.phases.Phase.{Phase}
use Rattle.cbt_read.specs.declared.phases.Phase.TheVariants.{Begun, Asking, Again, Ended}
use Rattle.cbt_read.specs.declared.phases.Staged.{Staged}
use Rattle.cbt_read.proofs.Knowing.{some_same}

abbrev readings : List Made → ℕ
readings l = count_by (λ m. reads_doc m.step) l

abbrev entries : List Made → ℕ
entries l = count_by (λ m. reads_entry m.step) l

abbrev replies : List Made → List Reply
replies l = filter_map doc_reply l

-- a test that passes counts one more, and another none
counts : (p : Made → Bool) (m : Made) (l : List Made) → p m ≡ true → count_by p (m ∷ l) ≡ suc (count_by p l)
counts p m l passes = sum_by-cons (λ x. cond (p x) 1 0) m l ∙ ap (λ b. cond b 1 0 + count_by p l) passes ∙ omega arith

counts_not : (p : Made → Bool) (m : Made) (l : List Made) → p m ≡ false → count_by p (m ∷ l) ≡ count_by p l
counts_not p m l fails = sum_by-cons (λ x. cond (p x) 1 0) m l ∙ ap (λ b. cond b 1 0 + count_by p l) fails ∙ omega arith

-- a reading of the document adds its answer to those that are looked through
reply_more : (m : Made) (l : List Made) → reads_doc m.step ≡ true → replies (m ∷ l) ≡ m.answer.reply ∷ replies l
reply_more m l reads = ap (λ b. cons_option (cond b (Some m.answer.reply) None) (replies l)) reads

reply_same : (m : Made) (l : List Made) → reads_doc m.step ≡ false → replies (m ∷ l) ≡ replies l
reply_same m l other = ap (λ b. cons_option (cond b (Some m.answer.reply) None) (replies l)) other

-- a further reading meets no fewer stagings
met_more : (m : Made) (l : List Made) → reads_doc m.step ≡ true → stagings_met l ≤ stagings_met (m ∷ l)
met_more m l reads = subst (λ rs. count_met (replies l) ≤ count_met rs) (sym (reply_more m l reads)) (omega arith)

met_same : (m : Made) (l : List Made) → reads_doc m.step ≡ false → stagings_met (m ∷ l) ≡ stagings_met l
met_same m l other = ap count_met (reply_same m l other)

-- what the calls of a document that changes hands come to
record Tally (d : List ℕ) (n x : ℕ) (l : List Made) : Type 0 where
  pub only : Each (λ m _. MayGet d m.step) l
  pub docs : readings l ≡ n
  pub asks : suc (entries l) ≡ n
  pub met : stagings_met l ≡ n
  pub newest : Reply
  pub before : List Reply
  pub replies_are : replies l ≡ newest ∷ before
  pub shows : shown_cas newest ≡ Some x

-- the answer about the entry is of a call that reads one
entry_step : (old : Stage) (m : Made) → ((e : Entry) × ReadsEntry old.atr old.attempt e m × (e.state ≡ Committed)) ⊎ FindsNoEntry old.atr old.attempt m
    → m.step ≡ step.ReadEntry old.atr old.attempt
entry_step old m told = ⊎_elim (λ it. it.1.0) (λ it. it.0) told

met_anew : (x y : ℕ) (r : Reply) (rs : List Reply) → shown_cas r ≡ Some x → y ≢ x → is_met_anew (Some y) (r ∷ rs) ≡ true
met_anew x y r rs shows apart = ap (λ o. not (is_cas y o)) shows ∙ differ (x == y) refl
  where
    differ : (b : Bool) → (x == y) ≡ b → not b ≡ true
    differ true same = absurd (apart (sym (eqb-true x y same)))
    differ false other = refl

tally : (d : List ℕ) (n x : ℕ) (stage : Stage) (l : List Made) → ChangesHands d n x stage l → Tally d n x l
tally d n x stage l (once y held m body read) =
    let reads : reads_doc m.step ≡ true = ap reads_doc read.0 in
    let not_asks : reads_entry m.step ≡ false = ap reads_entry read.0 in
    record {
      only = (subst (MayGet d) (sym read.0) refl, record {});
      docs = counts (λ k. reads_doc k.step) m [] reads;
      asks = ap (λ k. suc k) (counts_not (λ k. reads_entry k.step) m [] not_asks);
      met = ap count_met (reply_more m [] reads) ∙ ap (λ r. count_met (r ∷ [])) read.1;
      newest = m.answer.reply;
      before = [];
      replies_are = reply_more m [] reads;
      shows = ap shown_cas read.1;
    }
tally d n x stage l (again k w y old held m asked older body read apart told hands) =
    let it = tally d k w old older hands in
    let is_entry = entry_step old asked told in
    let reads : reads_doc m.step ≡ true = ap reads_doc read.0 in
    let not_asks : reads_entry m.step ≡ false = ap reads_entry read.0 in
    let asks : reads_entry asked.step ≡ true = ap reads_entry is_entry in
    let not_reads : reads_doc asked.step ≡ false = ap reads_doc is_entry in
    let behind : replies (asked ∷ older) ≡ it.newest ∷ it.before = reply_same asked older not_reads ∙ it.replies_are in
    record {
      only = (subst (MayGet d) (sym read.0) refl, (subst (MayGet d) (sym is_entry) (record {}), it.only));
      docs = counts (λ c. reads_doc c.step) m (asked ∷ older) reads ∙ ap (λ c. suc c) (counts_not (λ c. reads_doc c.step) asked older not_reads ∙ it.docs);
      asks = ap (λ c. suc c) (counts_not (λ c. reads_entry c.step) m (asked ∷ older) not_asks ∙ counts (λ c. reads_entry c.step) asked older asks ∙ it.asks);
      met = ap count_met (reply_more m (asked ∷ older) reads ∙ ap (λ r. r ∷ replies (asked ∷ older)) read.1 ∙ ap (λ rs. reply.Doc y body (Some held) ∷ rs) behind)
          ∙ one_anew (is_met_anew (Some y) (it.newest ∷ it.before)) (it.newest ∷ it.before) (met_anew w y it.newest it.before it.shows apart)
          ∙ ap (λ rs. suc (count_met rs)) (sym it.replies_are) ∙ ap (λ c. suc c) it.met;
      newest = m.answer.reply;
      before = replies (asked ∷ older);
      replies_are = reply_more m (asked ∷ older) reads;
      shows = ap shown_cas read.1;
    }
  where
    one_anew : (b : Bool) (rs : List Reply) → b ≡ true → cond b 1 0 + count_met rs ≡ suc (count_met rs)
    one_anew b rs is = ap (λ c. cond c 1 0 + count_met rs) is ∙ omega arith

-- one call more, of a read that made so many
doc_more : (d : List ℕ) (n : ℕ) (m : Made) (l : List Made) → m.step ≡ step.ReadDoc d → Each (λ k _. MayGet d k.step) l → readings l ≤ n → entries l ≤ n → n ≤ stagings_met l
    → GetCalls d (m ∷ l)
doc_more d n m l is only docs asks met =
    let reads : reads_doc m.step ≡ true = ap reads_doc is in
    let more = counts (λ k. reads_doc k.step) m l reads in
    let same = counts_not (λ k. reads_entry k.step) m l (ap reads_entry is) in
    let wider = met_more m l reads in
    record {
      only = (subst (MayGet d) (sym is) refl, only);
      readings = omega arith;
      entries = omega arith;
    }

entry_more : (d : List ℕ) (r a n : ℕ) (m : Made) (l : List Made) → m.step ≡ step.ReadEntry r a → Each (λ k _. MayGet d k.step) l → readings l ≤ n → suc (entries l) ≤ n
    → n ≤ stagings_met l → GetCalls d (m ∷ l)
entry_more d r a n m l is only docs asks met =
    let same = counts_not (λ k. reads_doc k.step) m l (ap reads_doc is) in
    let more = counts (λ k. reads_entry k.step) m l (ap reads_entry is) in
    let kept = met_same m l (ap reads_doc is) in
    record {
      only = (subst (MayGet d) (sym is) (record {}), only);
      readings = omega arith;
      entries = omega arith;
    }

decides_step : (it : Staged) (gone : Bool) (m : Made) → Decides it gone m → m.step ≡ step.ReadEntry it.stage.atr it.stage.attempt
decides_step it false m decides = decides.1.0
decides_step it true m decides = decides.0

-- a call of the phase keeps the calls few
pub bounded_on : (d : List ℕ) (p : Phase) (mine : List Made) (m : Made) → step_for d p ≡ Some m.step → Knows d p mine → GetCalls d (m ∷ mine)
bounded_on d Begun mine m asked none =
    subst (λ l. GetCalls d (m ∷ l)) (sym none) (doc_more d 0 m [] (sym (some_same asked)) (record {}) (omega arith) (omega arith) (omega arith))
bounded_on d (Asking it left) mine m asked shown =
    let so_far = tally d shown.readings it.cas it.stage mine shown.hands in
    entry_more d it.stage.atr it.stage.attempt shown.readings m mine (sym (some_same asked)) so_far.only (omega arith) (omega arith) (omega arith)
bounded_on d (Again it gone place left) mine m asked was =
    let so_far = tally d was.shown.readings it.cas it.stage was.before was.shown.hands in
    let is_entry = decides_step it gone was.asked was.decides in
    let same = counts_not (λ k. reads_doc k.step) was.asked was.before (ap reads_doc is_entry) in
    let more = counts (λ k. reads_entry k.step) was.asked was.before (ap reads_entry is_entry) in
    let kept = met_same was.asked was.before (ap reads_doc is_entry) in
    subst (λ l. GetCalls d (m ∷ l)) (sym was.mine_is)
    (doc_more d was.shown.readings m (was.asked ∷ was.before) (sym (some_same asked)) (subst (MayGet d) (sym is_entry) (record {}), so_far.only) (omega arith) (omega arith) (omega arith))
bounded_on d (Ended end) mine m asked it = absurd (none-some m.step asked)

-- each answer leaves fewer calls
pub fewer_left : (d : List ℕ) (p : Phase) (s : Step) (place : ℕ) (r : Reply) → step_for d p ≡ Some s → left_in (after p place r) < left_in p
fewer_left d p s place r asked = grind arith

pub few_on : (d : List ℕ) (p : Phase) (mine : List Made) (m : Made) → step_for d p ≡ Some m.step → length mine + left_in p ≤ 17
    → length (m ∷ mine) + left_in (after p m.answer.place m.answer.reply) ≤ 17
few_on d p mine m asked few = let fewer = fewer_left d p m.step m.answer.place m.answer.reply asked in omega arith

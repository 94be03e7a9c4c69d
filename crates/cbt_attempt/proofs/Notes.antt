-- What an attempt notes of its own writes goes on holding as its client's own list grows, and licenses a commit and an abort.
use Rattle.std.proofs.Common.{◌≡◌, ◌≢◌, ℕ, Bool, true, false, ◌⊎◌, inl, inr, ⊎_elim, List, [], ◌∷◌, Option, Some, None, refl, ap, sym, ◌∙◌, subst}
use Rattle.std.proofs.lemmas.Option.{none-some}
use Rattle.std.proofs.lemmas.Slice.Eq.{bytes_eq-Decides}
use Rattle.std.specs.Str.{bytes_eq}
use Rattle.cbt_model.specs.History.{is_done}
use Rattle.cbt_model.specs.declared.documents.OpKind.{OpKind}
use Rattle.cbt_model.specs.declared.documents.Stage.{Stage}
use Rattle.cbt_model.specs.declared.entries.Lists.{Lists}
use Rattle.cbt_model.specs.declared.events.Made.{Made}
use Rattle.cbt_model.specs.declared.steps.Expect.{Expect}
use Rattle.cbt_model.specs.declared.steps.Reply.{Reply}
use Rattle.cbt_model.specs.declared.steps.Reply.TheVariants as reply
use Rattle.cbt_model.specs.declared.steps.Step.TheVariants as step
use Rattle.cbt_book.specs.Licence.{IsListed, WasStaged, StagesFor, MayHaveStaged, WritesFor, WritesInVain, CommitsUnsettled, MayCommit, MayAbort}
use Rattle.cbt_book.specs.Licence as licence
use Rattle.cbt_book.specs.Outcomes.{is_refusal}
use Rattle.cbt_book.specs.OwnLists.{Once, Kept}
use Rattle.cbt_book.specs.Shown.{StagesAt, ShowsStaged, AddsEntry, aborts}
use Rattle.cbt_book.specs.Shown as shown
use Rattle.cbt_attempt.specs.Notes.{stage_of, NotesWrites, NotesAll, HasStaged, IsNoStaging, IsQuiet}
use Rattle.cbt_attempt.specs.OwnWrites.{NamesByKind, SetsNote}
use Rattle.cbt_attempt.specs.declared.own.Own.{Own}

some_same : {X : Type 0} {x y : X} → Some x ≡ Some y → x ≡ y
some_same both = cc

true-false : {b : Bool} → b ≡ true → b ≡ false → ⊥
true-false one two = cc

-- what was so of a step and not undone since was so of it
kept_once : (P U Q : Made → List Made → Type 0) (l : List Made) → ((m : Made) (past : List Made) → P m past → Q m past) → Kept P U l → Once Q l
kept_once P U Q [] weaker kept = absurd kept
kept_once P U Q (m ∷ l) weaker kept = ⊎_elim (λ here. inl (weaker m l here)) (λ later. inr (kept_once P U Q l weaker later.1)) kept

kept_weaker : (P Q U : Made → List Made → Type 0) (l : List Made) → ((m : Made) (past : List Made) → P m past → Q m past) → Kept P U l → Kept Q U l
kept_weaker P Q U [] weaker kept = absurd kept
kept_weaker P Q U (m ∷ l) weaker kept = ⊎_elim (λ here. inl (weaker m l here)) (λ later. inr (later.0, kept_weaker P Q U l weaker later.1)) kept

-- documents are told apart
data Which (d q : List ℕ) : Type 0 where
  that_one : q ≡ d → Which d q
  another : q ≢ d → Which d q

which : (d q : List ℕ) → Which d q
which d q = by (bytes_eq q d) (bytes_eq-Decides q d)
  where
    by : (b : Bool) → ((b ≡ true → q ≡ d) × (q ≡ d → b ≡ true)) → Which d q
    by true tells = that_one (tells.0 refl)
    by false tells = another (λ is. true-false (tells.1 is) refl)

-- the parts of steps
stage_doc : (d q : List ℕ) (e f : Expect) (s t : Stage) → step.Stage d e s ≡ step.Stage q f t → q ≡ d
stage_doc d q e f s t both = cc

stage_stage : (d q : List ℕ) (e f : Expect) (s t : Stage) → step.Stage d e s ≡ step.Stage q f t → t ≡ s
stage_stage d q e f s t both = cc

stage_unstick : (d q : List ℕ) (e : Expect) (s : Stage) (x : ℕ) → step.Stage d e s ≡ step.Unstick q x → ⊥
stage_unstick d q e s x both = cc

unstick_doc : (d q : List ℕ) (x y : ℕ) → step.Unstick d x ≡ step.Unstick q y → q ≡ d
unstick_doc d q x y both = cc

adds_step : (r a : ℕ) (m : Made) → AddsEntry r a m → (exp : ℕ) × (m.step ≡ step.AddEntry r a exp)
adds_step r a m (shown.added exp c is answer) = (exp, is)
adds_step r a m (shown.was_there exp is answer) = (exp, is)

quiet_add : (a r : ℕ) (m : Made) → AddsEntry r a m → IsQuiet a m.step
quiet_add a r m it = let sent = adds_step r a m it in subst (λ s. IsQuiet a s) (sym sent.1) tt

module _ (a : ℕ) where
  -- a quiet call writes nothing for the attempt
  quiet_writes : (m : Made) (d : List ℕ) (l : List Made) → IsQuiet a m.step → ¬ WritesFor a d m l
  quiet_writes m d l quiet (licence.stages k it) = subst (λ s. IsQuiet a s) it.2 quiet it.3
  quiet_writes m d l quiet (licence.unsticks_own x is was) = subst (λ s. IsQuiet a s) is quiet

  no_staging : (m : Made) (k : OpKind) (d : List ℕ) → IsNoStaging a m.step → ¬ StagesFor a k d m
  no_staging m k d none it = subst (λ s. IsNoStaging a s) it.2 none it.3

  -- what a staging writes for the attempt
  stages_here : (d q : List ℕ) (e : Expect) (stage : Stage) (k : OpKind) (m : Made) → m.step ≡ step.Stage d e stage → StagesFor a k q m → (q ≡ d) × (stage.kind ≡ k)
  stages_here d q e stage k m is it =
      let both = sym is ∙ it.2 in
      (stage_doc d q e it.0 stage it.1 both, ap (λ (s : Stage). s.kind) (sym (stage_stage d q e it.0 stage it.1 both)) ∙ it.4)

  stage_writes : (d q : List ℕ) (e : Expect) (stage : Stage) (m : Made) (l : List Made) → m.step ≡ step.Stage d e stage → WritesFor a q m l → q ≡ d
  stage_writes d q e stage m l is (licence.stages k it) = (stages_here d q e stage k m is it).0
  stage_writes d q e stage m l is (licence.unsticks_own x its was) = absurd (stage_unstick d q e stage x (sym is ∙ its))

  -- what an unstick does
  unstick_stages : (d q : List ℕ) (x : ℕ) (k : OpKind) (m : Made) → m.step ≡ step.Unstick d x → ¬ StagesFor a k q m
  unstick_stages d q x k m is it = stage_unstick q d it.0 it.1 x (sym it.2 ∙ is)

  unstick_writes : (d q : List ℕ) (x : ℕ) (m : Made) (l : List Made) → m.step ≡ step.Unstick d x → WritesFor a q m l → q ≡ d
  unstick_writes d q x m l is (licence.stages k it) = absurd (unstick_stages d q x k m is it)
  unstick_writes d q x m l is (licence.unsticks_own y its was) = unstick_doc d q x y (sym is ∙ its)

  -- a refused call is no staging that may stand
  refused_stages : (d : List ℕ) (m : Made) → is_refusal m.answer.reply ≡ true → ¬ MayHaveStaged a d m
  refused_stages d m refused it = by m.answer.reply refused it.1
    where
      by : (p : Reply) → is_refusal p ≡ true → (is_done p ≡ true) ⊎ (p ≡ reply.Failed) → ⊥
      by p is stands = ⊎_elim (λ done. not_done p is done) (λ failed. true-false is (ap is_refusal failed)) stands
        where
          not_done : (p : Reply) → is_refusal p ≡ true → is_done p ≡ true → ⊥
          not_done (reply.Done c) is done = true-false is refl
          not_done _ is done = true-false done refl

abbrev TakenOff : List ℕ → Made → Type 0
TakenOff d m = (x : ℕ) × (m.step ≡ step.Unstick d x) × (is_done m.answer.reply ≡ true)

module _ (a r : ℕ) (own : List ℕ → Option Own) (l : List Made) where
  -- nothing is noted, and nothing was staged
  pub writes_begin : ((d : List ℕ) → own d ≡ None) → ¬ HasStaged a l → NotesWrites a r own l
  writes_begin none unstaged = record {
    staged = λ d w x at cas. absurd (none-some w (sym (none d) ∙ at));
    listed = λ d kept. absurd (unstaged (kept_once (λ m _. MayHaveStaged a d m) (λ m _. TakenOff d m) (λ m _. (k : OpKind) × (q : List ℕ) × StagesFor a k q m) l
        (λ m past it. (it.0.0, d, it.0.1)) kept));
  }

  -- no last write of a document is a staging
  none_last : ¬ HasStaged a l → (k : OpKind) (d : List ℕ) → ¬ Kept (λ m _. StagesFor a k d m) (WritesFor a d) l
  none_last unstaged k d kept =
      unstaged (kept_once (λ m _. StagesFor a k d m) (WritesFor a d) (λ m _. (j : OpKind) × (q : List ℕ) × StagesFor a j q m) l (λ m past it. (k, d, it)) kept)

  pub all_begin : ((d : List ℕ) → own d ≡ None) → ¬ HasStaged a l → ¬ Once (λ m _. AddsEntry r a m) l → NotesAll a r own l
  all_begin none unstaged unentered = record {
    known = λ d w at. absurd (none-some w (sym (none d) ∙ at));
    last = λ d w x at cas. absurd (none-some w (sym (none d) ∙ at));
    only = λ k d kept. absurd (none_last unstaged k d kept);
    fine = λ once. absurd (unentered once);
  }

  module _ (m : Made) where
    -- a call that does not write for the attempt keeps what is noted
    pub writes_kept : ((d : List ℕ) → ¬ MayHaveStaged a d m) → NotesWrites a r own l → NotesWrites a r own (m ∷ l)
    writes_kept none notes = record {
      staged = λ d w x at cas. inr (none d, notes.staged d w x at cas);
      listed = λ d kept. ⊎_elim (λ here. absurd (none d here)) (λ later. notes.listed d later.1) kept;
    }

    pub all_kept : ((d : List ℕ) → ¬ WritesFor a d m l) → NotesAll a r own l → NotesAll a r own (m ∷ l)
    all_kept none notes = record {
      known = notes.known;
      last = λ d w x at cas. inr (none d, notes.last d w x at cas);
      only = λ k d kept. ⊎_elim (λ here. absurd (none d (licence.stages k here))) (λ later. notes.only k d later.1) kept;
      fine = λ once. ⊎_elim (λ here. inl here) (λ later. inr (λ vain. none vain.0.0 vain.0.1, notes.fine later)) once;
    }

    pub writes_unstaged : IsNoStaging a m.step → NotesWrites a r own l → NotesWrites a r own (m ∷ l)
    writes_unstaged none notes = writes_kept (λ d it. no_staging a m it.0.0 d none it.0.1) notes

    pub all_quiet : IsQuiet a m.step → NotesAll a r own l → NotesAll a r own (m ∷ l)
    all_quiet quiet notes = all_kept (λ d. quiet_writes a m d l quiet) notes

    pub all_entered : AddsEntry r a m → ((d : List ℕ) → own d ≡ None) → ¬ HasStaged a l → NotesAll a r own (m ∷ l)
    all_entered entered none unstaged = record {
      known = λ d w at. absurd (none-some w (sym (none d) ∙ at));
      last = λ d w x at cas. absurd (none-some w (sym (none d) ∙ at));
      only = λ k d kept.
          ⊎_elim (λ here. absurd (quiet_writes a m d l (quiet_add a r m entered) (licence.stages k here))) (λ later. absurd (none_last unstaged k d later.1)) kept;
      fine = λ once. inl entered;
    }

    pub writes_refused : is_refusal m.answer.reply ≡ true → NotesWrites a r own l → NotesWrites a r own (m ∷ l)
    writes_refused refused notes = writes_kept (λ d. refused_stages a d m refused) notes

    module _ (new : List ℕ → Option Own) (d : List ℕ) (v : Option Own) (noted : SetsNote own new d v) where
      -- what is noted of the document itself, and of another
      here_is : (q : List ℕ) (w : Own) → q ≡ d → new q ≡ Some w → v ≡ Some w
      here_is q w is at = sym noted.here ∙ sym (ap new is) ∙ at

      writes_set : ((w : Own) (x : ℕ) → v ≡ Some w → w.cas ≡ Some x → StagesAt d x (stage_of a r w) m) → ((q : List ℕ) → q ≢ d → ¬ MayHaveStaged a q m)
          → (Kept (λ m _. MayHaveStaged a d m) (λ m _. TakenOff d m) (m ∷ l) → (w : Own) × (v ≡ Some w)) → NotesWrites a r own l → NotesWrites a r new (m ∷ l)
      writes_set staged others listed notes = record { staged = λ q w x at cas. stands q w x at cas (which d q); listed = λ q kept. names q kept (which d q) }
        where
          stands : (q : List ℕ) (w : Own) (x : ℕ) → new q ≡ Some w → w.cas ≡ Some x → Which d q
              → Kept (λ m _. StagesAt q x (stage_of a r w) m) (λ m _. MayHaveStaged a q m) (m ∷ l)
          stands q w x at cas (that_one is) = inl (subst (λ p. StagesAt p x (stage_of a r w) m) (sym is) (staged w x (here_is q w is at) cas))
          stands q w x at cas (another apart) = inr (others q apart, notes.staged q w x (sym (noted.others q apart) ∙ at) cas)

          names : (q : List ℕ) → Kept (λ m _. MayHaveStaged a q m) (λ m _. TakenOff q m) (m ∷ l) → Which d q → (w : Own) × (new q ≡ Some w)
          names q kept (that_one is) =
              let it = listed (subst (λ p. Kept (λ m _. MayHaveStaged a p m) (λ m _. TakenOff p m) (m ∷ l)) is kept) in
              (it.0, ap new is ∙ noted.here ∙ it.1)
          names q kept (another apart) =
              ⊎_elim (λ here. absurd (others q apart here)) (λ later. let it = notes.listed q later.1 in (it.0, noted.others q apart ∙ it.1)) kept

      all_set : ((w : Own) → v ≡ Some w → (x : ℕ) × (w.cas ≡ Some x)) → ((w : Own) (x : ℕ) → v ≡ Some w → w.cas ≡ Some x → StagesAt d x (stage_of a r w) m)
          → ((k : OpKind) → Kept (λ m _. StagesFor a k d m) (WritesFor a d) (m ∷ l) → (w : Own) × (v ≡ Some w) × (w.kind ≡ k))
          → ((q : List ℕ) → q ≢ d → ¬ WritesFor a q m l) → is_done m.answer.reply ≡ true → NotesAll a r own l → NotesAll a r new (m ∷ l)
      all_set known staged only others done notes = record {
        known = λ q w at. has_cas q w at (which d q);
        last = λ q w x at cas. stands q w x at cas (which d q);
        only = λ k q kept. names k q kept (which d q);
        fine = λ once. ⊎_elim (λ here. inl here) (λ later. inr (λ vain. true-false done vain.1, notes.fine later)) once;
      }
        where
          has_cas : (q : List ℕ) (w : Own) → new q ≡ Some w → Which d q → (x : ℕ) × (w.cas ≡ Some x)
          has_cas q w at (that_one is) = known w (here_is q w is at)
          has_cas q w at (another apart) = notes.known q w (sym (noted.others q apart) ∙ at)

          stands : (q : List ℕ) (w : Own) (x : ℕ) → new q ≡ Some w → w.cas ≡ Some x → Which d q
              → Kept (λ m _. StagesAt q x (stage_of a r w) m) (WritesFor a q) (m ∷ l)
          stands q w x at cas (that_one is) = inl (subst (λ p. StagesAt p x (stage_of a r w) m) (sym is) (staged w x (here_is q w is at) cas))
          stands q w x at cas (another apart) = inr (others q apart, notes.last q w x (sym (noted.others q apart) ∙ at) cas)

          names : (k : OpKind) (q : List ℕ) → Kept (λ m _. StagesFor a k q m) (WritesFor a q) (m ∷ l) → Which d q → (w : Own) × (new q ≡ Some w) × (w.kind ≡ k)
          names k q kept (that_one is) =
              let it = only k (subst (λ p. Kept (λ m _. StagesFor a k p m) (WritesFor a p) (m ∷ l)) is kept) in
              (it.0, ap new is ∙ noted.here ∙ it.1, it.2)
          names k q kept (another apart) =
              ⊎_elim (λ here. absurd (others q apart (licence.stages k here)))
              (λ later. let it = notes.only k q later.1 in (it.0, noted.others q apart ∙ it.1, it.2)) kept

    module _ (new : List ℕ → Option Own) (d : List ℕ) (e : Expect) (w : Own) (noted : SetsNote own new d (Some w)) where
      -- a staging took effect, and is the own write with its CAS
      stands_so : (x : ℕ) → m.step ≡ step.Stage d e (stage_of a r w) → m.answer.reply ≡ reply.Done x → w.cas ≡ Some x
          → (o : Own) (y : ℕ) → Some w ≡ Some o → o.cas ≡ Some y → StagesAt d y (stage_of a r o) m
      stands_so x is answer cas o y same its =
          let own_is : w ≡ o = some_same same in
          let cas_is : x ≡ y = some_same (sym cas ∙ ap (λ (u : Own). u.cas) own_is ∙ its) in
          (e, is ∙ ap (λ u. step.Stage d e (stage_of a r u)) own_is, answer ∙ ap (λ z. reply.Done z) cas_is)

      pub writes_staged : (x : ℕ) → m.step ≡ step.Stage d e (stage_of a r w) → m.answer.reply ≡ reply.Done x → w.cas ≡ Some x → NotesWrites a r own l
          → NotesWrites a r new (m ∷ l)
      writes_staged x is answer cas notes =
          writes_set new d (Some w) noted (stands_so x is answer cas)
          (λ q apart it. apart (stages_here a d q e (stage_of a r w) it.0.0 m is it.0.1).0) (λ kept. (w, refl)) notes

      pub all_staged : (x : ℕ) → m.step ≡ step.Stage d e (stage_of a r w) → m.answer.reply ≡ reply.Done x → w.cas ≡ Some x → NotesAll a r own l
          → NotesAll a r new (m ∷ l)
      all_staged x is answer cas notes =
          all_set new d (Some w) noted (λ o same. (x, ap (λ (u : Own). u.cas) (sym (some_same same)) ∙ cas)) (stands_so x is answer cas)
          (λ k kept. ⊎_elim (λ here. (w, refl, (stages_here a d d e (stage_of a r w) k m is here).1))
          (λ later. absurd (later.0 (licence.stages w.kind (e, stage_of a r w, is, refl, refl)))) kept)
          (λ q apart it. apart (stage_writes a d q e (stage_of a r w) m l is it)) (ap is_done answer) notes

    module _ (new : List ℕ → Option Own) (d : List ℕ) (w : Own) (noted : SetsNote own new d (Some w)) where
      -- nothing is known of what a failed call did
      unknown : w.cas ≡ None → (o : Own) (x : ℕ) → Some w ≡ Some o → o.cas ≡ Some x → StagesAt d x (stage_of a r o) m
      unknown none o x same cas = absurd (none-some x (sym none ∙ ap (λ (u : Own). u.cas) (some_same same) ∙ cas))

      pub writes_failed : (e : Expect) (stage : Stage) → m.step ≡ step.Stage d e stage → w.cas ≡ None → NotesWrites a r own l → NotesWrites a r new (m ∷ l)
      writes_failed e stage is none notes =
          writes_set new d (Some w) noted (unknown none) (λ q apart it. apart (stages_here a d q e stage it.0.0 m is it.0.1).0) (λ kept. (w, refl)) notes

      pub writes_unstick_failed : (x : ℕ) → m.step ≡ step.Unstick d x → w.cas ≡ None → NotesWrites a r own l → NotesWrites a r new (m ∷ l)
      writes_unstick_failed x is none notes =
          writes_set new d (Some w) noted (unknown none) (λ q apart it. unstick_stages a d q x it.0.0 m is it.0.1) (λ kept. (w, refl)) notes

    module _ (new : List ℕ → Option Own) (d : List ℕ) (x : ℕ) (is : m.step ≡ step.Unstick d x) (done : is_done m.answer.reply ≡ true)
        (noted : SetsNote own new d None) where
      -- an own write was taken back
      pub writes_taken_back : NotesWrites a r own l → NotesWrites a r new (m ∷ l)
      writes_taken_back notes =
          writes_set new d None noted (λ w y none cas. absurd (none-some w none)) (λ q apart it. unstick_stages a d q x it.0.0 m is it.0.1)
          (λ kept. ⊎_elim (λ here. absurd (unstick_stages a d d x here.0.0 m is here.0.1)) (λ later. absurd (later.0 (x, is, done))) kept) notes

      pub all_taken_back : (w : Own) → own d ≡ Some w → w.cas ≡ Some x → NotesAll a r own l → NotesAll a r new (m ∷ l)
      all_taken_back w at cas notes =
          all_set new d None noted (λ o none. absurd (none-some o none)) (λ o y none its. absurd (none-some o none))
          (λ k kept. ⊎_elim (λ here. absurd (unstick_stages a d d x k m is here)) (λ later. absurd (later.0 (licence.unsticks_own x is was))) kept)
          (λ q apart it. apart (unstick_writes a d q x m l is it)) done notes
        where
          was : WasStaged a d x l
          was =
              kept_once (λ n _. StagesAt d x (stage_of a r w) n) (WritesFor a d) (λ n _. (stage : Stage) × (stage.attempt ≡ a) × ShowsStaged d x stage n) l
              (λ n past staged. (stage_of a r w, refl, shown.by_stage staged)) (notes.last d w x at cas)

  module _ (lists : Lists) (named : NamesByKind own lists) (unaborted : ¬ Once (λ m _. aborts m.step ≡ Some a) l) (unsettled : CommitsUnsettled l r a) where
    pub commit_licensed : NotesAll a r own l → Once (λ m _. AddsEntry r a m) l → MayCommit l r a lists
    commit_licensed notes added = record {
      written = notes.fine added;
      unaborted = unaborted;
      named = λ k d. (λ it. last_write k d ((named k d).0 it), λ kept. (named k d).1 (notes.only k d kept));
      again = unsettled;
    }
      where
        last_write : (k : OpKind) (d : List ℕ) → ((w : Own) × (own d ≡ Some w) × (w.kind ≡ k)) → Kept (λ m _. StagesFor a k d m) (WritesFor a d) l
        last_write k d it =
            let has = notes.known d it.0 it.1 in
            kept_weaker (λ n _. StagesAt d has.0 (stage_of a r it.0) n) (λ n _. StagesFor a k d n) (WritesFor a d) l
            (λ n past staged. (staged.0, stage_of a r it.0, staged.1, refl, it.2)) (notes.last d it.0 has.0 it.1 has.1)

    pub abort_licensed : NotesWrites a r own l → Once (λ m _. (exp : ℕ) × (m.step ≡ step.AddEntry r a exp)) l → MayAbort l r a lists
    abort_licensed notes sent = record {
      sent = sent;
      first = unaborted;
      named = λ d kept. let it = notes.listed d kept in (it.0.kind, (named it.0.kind d).1 (it.0, it.1, refl));
      after_commits = unsettled;
    }

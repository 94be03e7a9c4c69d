-- What a licence needs, as tests of the steps before.
use Rattle.std.proofs.Common.{◌≡◌, ℕ, Bool, true, false, ◌==◌, ◌&&◌, ◌||◌, not, if◌then◌else◌, ◌⊎◌, inl, inr, List, [], ◌∷◌, Option, Some, None, refl, sym, ap, ◌∙◌, subst, arith}
use Rattle.std.proofs.lemmas.Bool.Decides.{nat_tests}
use Rattle.std.specs.List.{list_any}
use Rattle.cbt_json.specs.declared.value.Json.{Json}
use Rattle.cbt_model.specs.View.{IsExpired}
use Rattle.cbt_model.specs.declared.documents.Stage.{Stage}
use Rattle.cbt_model.specs.declared.entries.Entry.{Entry}
use Rattle.cbt_model.specs.declared.entries.EntryState.TheVariants.{Pending, Committed, Aborted}
use Rattle.cbt_model.specs.declared.entries.EntryState.{EntryState}
use Rattle.cbt_model.specs.declared.entries.Lists.{Lists}
use Rattle.cbt_model.specs.declared.events.Made.{Made}
use Rattle.cbt_model.specs.declared.steps.Expect.TheVariants as expect
use Rattle.cbt_model.specs.declared.steps.Reply.TheVariants as reply
use Rattle.cbt_model.specs.declared.steps.Reply.{Reply}
use Rattle.cbt_model.specs.declared.steps.Step.TheVariants as step
use Rattle.cbt_model.specs.declared.steps.Step.{Step}
use Rattle.cbt_book.specs.Licence.{MayStand, on_nothing, on_unstaged, on_own, on_dead, MayEvict, MayDrop, MayResolve, ShowsDecided, IsDue, of_own, of_shown, MayUnstick, before_decision, after_abort, IsListed, Unstages, publishes, deletes, unsticks, Clears, unstaged, absent, free, of_another, elsewhere, moved_on, moved_from_own}
use Rattle.cbt_book.specs.OwnLists.{Once, Kept, In}
use Rattle.cbt_book.specs.Passes.{is_expired}
use Rattle.cbt_book.specs.Shown.{decides, ShowsStaged, by_read, by_stage, ReadsDoc, StagesAt, FindsNoEntry, ReadsRecord, ShowsEntry, alone, in_record, ShowsCommitted, committed_entry, own_commit, ShowsAborted, aborted_entry, own_abort, refused_abort}
use Rattle.cbt_rows.proofs.Never.{no_bool, never, same-number, is_number, is_document, is_document-same}

-- whether an answer shows a document at CAS x without a staging, or is that of a change at x, or finds no entry
abbrev pub frees : ℕ → Reply → Bool
frees x (reply.Doc y body None) = y == x
frees x (reply.Done y) = y == x
frees x reply.NoEntry = true
frees x _ = false

frees-unstaged : (d : List ℕ) (x : ℕ) (body : Option Json) (m : Made) → ReadsDoc d x body None m → frees x m.answer.reply ≡ true
frees-unstaged d x body m h = ap (frees x) h.1 ∙ same-number x

frees-staged : (d : List ℕ) (x : ℕ) (stage : Stage) (m : Made) → StagesAt d x stage m → frees x m.answer.reply ≡ true
frees-staged d x stage m (e, is, done) = ap (frees x) done ∙ same-number x

frees-missing : (x r a : ℕ) (m : Made) → FindsNoEntry r a m → frees x m.answer.reply ≡ true
frees-missing x r a m h = ap (frees x) h.1

cas-same : {x y : ℕ} → expect.Cas x ≡ expect.Cas y → x ≡ y
cas-same e = cc

cas-new : {x : ℕ} → expect.Cas x ≡ expect.New → ⊥
cas-new e = cc

-- a staging stands over no CAS that none of the answers before has shown free
pub no_stand : (past : List Made) (d : List ℕ) (a x : ℕ) → list_any (λ m. frees x m.answer.reply) past ≡ false → ¬ MayStand past d a (expect.Cas x)
no_stand past d a x none (on_nothing e) = cas-new e
no_stand past d a x none (on_unstaged y e h) =
    never (λ m _. (body : Option Json) × ReadsDoc d y body None m) (λ m. frees x m.answer.reply)
    (λ m before p. subst (λ z. frees z m.answer.reply ≡ true) (sym (cas-same e)) (frees-unstaged d y p.0 m p.1)) past none h
no_stand past d a x none (on_own y e h) =
    never (λ m _. (stage : Stage) × (stage.attempt ≡ a) × StagesAt d y stage m) (λ m. frees x m.answer.reply)
    (λ m before p. subst (λ z. frees z m.answer.reply ≡ true) (sym (cas-same e)) (frees-staged d y p.0 m p.2)) past none h
no_stand past d a x none (on_dead y stage e h) =
    never (λ m before. FindsNoEntry stage.atr stage.attempt m × Once (λ n _. (body : Option Json) × ReadsDoc d y body (Some stage) n) before) (λ m. frees x m.answer.reply)
    (λ m before p. frees-missing x stage.atr stage.attempt m p.0) past none h

-- whether an entry is decided
abbrev pub is_decided : EntryState → Bool
is_decided Pending = false
is_decided Committed = true
is_decided Aborted = true

abbrev pub decided_entries : List (ℕ × Entry) → Bool
decided_entries es = list_any (λ e. is_decided e.1.state) es

-- whether a step may show that an attempt is decided: an entry that is, or an own commit or abort that was answered Done or Decided
abbrev pub decides_by : Step → Reply → Bool
decides_by (step.ReadEntry r a) (reply.Entry e) = is_decided e.state
decides_by (step.ReadAtr r) (reply.Entries es) = decided_entries es
decides_by (step.Commit r a lists) (reply.Done c) = true
decides_by (step.Abort r a lists) (reply.Done c) = true
decides_by (step.Abort r a lists) reply.Decided = true
decides_by _ _ = false

abbrev pub shows_decision : Made → Bool
shows_decision m = decides_by m.step m.answer.reply

or_right : (b : Bool) {c : Bool} → c ≡ true → (b || c) ≡ true
or_right true e = refl
or_right false e = e

in-decided : (es : List (ℕ × Entry)) (a : ℕ) (e : Entry) → In (a, e) es → is_decided e.state ≡ true → decided_entries es ≡ true
in-decided [] a e h is = absurd h
in-decided (x ∷ es) a e (inl p) is = ap (λ (q : ℕ × Entry). is_decided q.1.state || decided_entries es) (sym p) ∙ ap (λ b. b || decided_entries es) is
in-decided (x ∷ es) a e (inr h) is = or_right (is_decided x.1.state) (in-decided es a e h is)

shows-entry : (r a : ℕ) (e : Entry) (m : Made) → ShowsEntry r a e m → is_decided e.state ≡ true → shows_decision m ≡ true
shows-entry r a e m (alone h) is = rw h.0 (rw h.1 is)
shows-entry r a e m (in_record es h there) is = rw h.0 (rw h.1 (in-decided es a e there is))

pub shows-committed : (r a : ℕ) (lists : Lists) (m : Made) → ShowsCommitted r a lists m → shows_decision m ≡ true
shows-committed r a lists m (committed_entry e h is same) = shows-entry r a e m h (ap is_decided is)
shows-committed r a lists m (own_commit c is done) = rw is (rw done refl)

pub shows-aborted : (r a : ℕ) (lists : Lists) (m : Made) → ShowsAborted r a lists m → shows_decision m ≡ true
shows-aborted r a lists m (aborted_entry e h is same) = shows-entry r a e m h (ap is_decided is)
shows-aborted r a lists m (own_abort c is done) = rw is (rw done refl)
shows-aborted r a lists m (refused_abort is answer) = rw is (rw answer refl)

pub shows-decided : (r a : ℕ) (lists : Lists) (m : Made) → ShowsDecided r a lists m → shows_decision m ≡ true
shows-decided r a lists m (inl h) = shows-committed r a lists m h
shows-decided r a lists m (inr h) = shows-aborted r a lists m h

-- whether an answer shows a record with an expired entry
abbrev pub shows_expired : ℕ → Reply → Bool
shows_expired now (reply.Entries es) = list_any (λ e. is_expired now e.1) es
shows_expired now _ = false

is_late : (now : ℕ) (e : Entry) → IsExpired e now → is_expired now e ≡ true
is_late now e late = grind (arith, nat_tests)

some_expired : (now a : ℕ) (e : Entry) (es : List (ℕ × Entry)) → In (a, e) es → IsExpired e now → list_any (λ z. is_expired now z.1) es ≡ true
some_expired now a e [] h late = absurd h
some_expired now a e (x ∷ es) (inl p) late =
    ap (λ (q : ℕ × Entry). is_expired now q.1 || list_any (λ z. is_expired now z.1) es) (sym p) ∙ ap (λ b. b || list_any (λ z. is_expired now z.1) es) (is_late now e late)
some_expired now a e (x ∷ es) (inr h) late = or_right (is_expired now x.1) (some_expired now a e es h late)

-- an entry may not be evicted where no answer before showed an expired one
pub no_eviction : (past : List Made) (r a : ℕ) → list_any (λ m. shows_expired m.answer.now m.answer.reply) past ≡ false → ¬ MayEvict past r a
no_eviction past r a none = never
    (λ m _. (entries : List (ℕ × Entry)) × (e : Entry) × ReadsRecord r entries m × In (a, e) entries × IsExpired e m.answer.now)
    (λ m. shows_expired m.answer.now m.answer.reply) (λ m before h. ap (shows_expired m.answer.now) h.2.1 ∙ some_expired m.answer.now a h.1 h.0 h.3 h.4) past none

-- the document that a step reads or changes
abbrev pub about : Step → Option (List ℕ)
about (step.ReadDoc d) = Some d
about (step.Stage d e stage) = Some d
about (step.Publish d x body) = Some d
about (step.Delete d x) = Some d
about (step.Unstick d x) = Some d
about _ = None

-- whether no step on this document stands behind one that shows a decision
abbrev pub none_cleared : List ℕ → List Made → Bool
none_cleared d [] = true
none_cleared d (m ∷ before) = not (is_document d (about m.step) && list_any shows_decision before) && none_cleared d before

about-unstages : (d : List ℕ) (x : ℕ) (st : Step) → Unstages d x st → about st ≡ Some d
about-unstages d x st (publishes body is) = ap about is
about-unstages d x st (deletes is) = ap about is
about-unstages d x st (unsticks is) = ap about is

about-clears : (a : ℕ) (showing : Made) (d : List ℕ) (m : Made) (before : List Made) → Clears a showing d m before → about m.step ≡ Some d
about-clears a showing d m before (unstaged x is done was) = about-unstages d x m.step is
about-clears a showing d m before (absent h) = ap about h.0
about-clears a showing d m before (free x body h) = ap about h.0
about-clears a showing d m before (of_another x body stage h ne) = ap about h.0
about-clears a showing d m before (elsewhere r x shown body stage is h ne) = ap about h.0
about-clears a showing d m before (moved_on x have is refused h) = about-unstages d x m.step is
about-clears a showing d m before (moved_from_own x have is refused h) = about-unstages d x m.step is

in-shown : (showing : Made) (l : List Made) → shows_decision showing ≡ true → In showing l → list_any shows_decision l ≡ true
in-shown showing [] is h = absurd h
in-shown showing (m ∷ l) is (inl e) = ap (λ z. shows_decision z || list_any shows_decision l) (sym e) ∙ ap (λ b. b || list_any shows_decision l) is
in-shown showing (m ∷ l) is (inr h) = or_right (shows_decision m) (in-shown showing l is h)

split : {b c : Bool} → (b && c) ≡ true → (b ≡ true) × (c ≡ true)
split {b = true} {c = true} e = (refl, refl)
split {b = true} {c = false} e = absurd (no_bool (sym e))
split {b = false} {c = true} e = absurd (no_bool (sym e))
split {b = false} {c = false} e = absurd (no_bool (sym e))

both : {b c : Bool} → b ≡ true → c ≡ true → not (b && c) ≡ true → ⊥
both {b = true} {c = true} p q e = no_bool (sym e)
both {b = true} {c = false} p q e = no_bool (sym q)
both {b = false} {c = true} p q e = no_bool (sym p)
both {b = false} {c = false} p q e = no_bool (sym p)

pub not_cleared : (a : ℕ) (showing : Made) (d : List ℕ) (past : List Made) → shows_decision showing ≡ true → none_cleared d past ≡ true
    → ¬ Once (λ m before. In showing before × Clears a showing d m before) past
not_cleared a showing d [] is none h = h
not_cleared a showing d (m ∷ before) is none (inl (there, clears)) =
    both (is_document-same d (about m.step) (about-clears a showing d m before clears)) (in-shown showing before is there) (split none).0
not_cleared a showing d (m ∷ before) is none (inr h) = not_cleared a showing d before is (split none).1 h

-- an entry may not be dropped while a document that is due has not been cleared since the decision was shown
pub no_drop : (past : List Made) (r a : ℕ) (d : List ℕ) → none_cleared d past ≡ true → ((shown due : Lists) → IsDue past a shown due → IsListed d due) → ¬ MayDrop past r a
no_drop past r a d none due may = not_cleared a may.showing d past (shows-decided r a may.shown may.showing may.decided) none (may.cleared d (due may.shown may.due may.due_is))

-- nor where no decision was shown
pub no_decision : (past : List Made) (r a : ℕ) → list_any shows_decision past ≡ false → ¬ MayDrop past r a
no_decision past r a none may = no_bool (sym (in-shown may.showing past (shows-decided r a may.shown may.showing may.decided) may.earlier) ∙ none)

-- a staging may not be made the body where no decision was shown
pub no_resolving : (past : List Made) (d : List ℕ) (x : ℕ) (content : Option Json) → list_any shows_decision past ≡ false → ¬ MayResolve past d x content
no_resolving past d x content none may =
    never (λ m _. (lists : Lists) × ShowsCommitted may.stage.atr may.stage.attempt lists m) shows_decision
    (λ m before h. shows-committed may.stage.atr may.stage.attempt h.0 m h.1) past none may.committed

-- whether an answer shows a document at this CAS
abbrev pub shows_cas : ℕ → Reply → Bool
shows_cas x (reply.Doc y body stage) = y == x
shows_cas x (reply.Done y) = y == x
shows_cas x _ = false

shows-staged : (d : List ℕ) (x : ℕ) (stage : Stage) (m : Made) → ShowsStaged d x stage m → shows_cas x m.answer.reply ≡ true
shows-staged d x stage m (by_read body h) = ap (shows_cas x) h.1 ∙ same-number x
shows-staged d x stage m (by_stage (e, is, done)) = ap (shows_cas x) done ∙ same-number x

-- nor over a CAS that no answer showed
pub no_resolving_at : (past : List Made) (d : List ℕ) (x : ℕ) (content : Option Json) → list_any (λ m. shows_cas x m.answer.reply) past ≡ false → ¬ MayResolve past d x content
no_resolving_at past d x content none may =
    never (λ m _. ShowsStaged d x may.stage m) (λ m. shows_cas x m.answer.reply) (λ m before h. shows-staged d x may.stage m h) past none may.staged

abbrev pub is_aborted : EntryState → Bool
is_aborted Pending = false
is_aborted Committed = false
is_aborted Aborted = true

abbrev pub aborted_entries : List (ℕ × Entry) → Bool
aborted_entries es = list_any (λ e. is_aborted e.1.state) es

-- whether a step may show that an attempt is aborted
abbrev pub aborts_by : Step → Reply → Bool
aborts_by (step.ReadEntry r a) (reply.Entry e) = is_aborted e.state
aborts_by (step.ReadAtr r) (reply.Entries es) = aborted_entries es
aborts_by (step.Abort r a lists) (reply.Done c) = true
aborts_by (step.Abort r a lists) reply.Decided = true
aborts_by _ _ = false

abbrev pub shows_abort : Made → Bool
shows_abort m = aborts_by m.step m.answer.reply

in-aborted : (es : List (ℕ × Entry)) (a : ℕ) (e : Entry) → In (a, e) es → is_aborted e.state ≡ true → aborted_entries es ≡ true
in-aborted [] a e h is = absurd h
in-aborted (x ∷ es) a e (inl p) is = ap (λ (q : ℕ × Entry). is_aborted q.1.state || aborted_entries es) (sym p) ∙ ap (λ b. b || aborted_entries es) is
in-aborted (x ∷ es) a e (inr h) is = or_right (is_aborted x.1.state) (in-aborted es a e h is)

abort-entry : (r a : ℕ) (e : Entry) (m : Made) → ShowsEntry r a e m → is_aborted e.state ≡ true → shows_abort m ≡ true
abort-entry r a e m (alone h) is = rw h.0 (rw h.1 is)
abort-entry r a e m (in_record es h there) is = rw h.0 (rw h.1 (in-aborted es a e there is))

shows-abort : (r a : ℕ) (lists : Lists) (m : Made) → ShowsAborted r a lists m → shows_abort m ≡ true
shows-abort r a lists m (aborted_entry e h is same) = abort-entry r a e m h (ap is_aborted is)
shows-abort r a lists m (own_abort c is done) = rw is (rw done refl)
shows-abort r a lists m (refused_abort is answer) = rw is (rw answer refl)

-- whether a step staged something for another attempt, at this CAS
abbrev pub other_at : ℕ → ℕ → Step → Reply → Bool
other_at a x (step.Stage d e stage) (reply.Done y) = y == x && not (stage.attempt == a)
other_at a x _ _ = false

abbrev pub stages_of_another : ℕ → ℕ → Made → Bool
stages_of_another a x m = other_at a x m.step m.answer.reply

one_attempt : (a b x : ℕ) → (x == x && not (b == a)) ≡ false → b ≡ a
one_attempt a b x e = grind (arith, nat_tests)

same_attempt : (a x : ℕ) (d : List ℕ) (stage : Stage) (m : Made) → stages_of_another a x m ≡ false → StagesAt d x stage m → stage.attempt ≡ a
same_attempt a x d stage m is (e, at, done) = one_attempt a stage.attempt x (sym (ap (λ st. other_at a x st m.answer.reply) at ∙ ap (other_at a x (step.Stage d e stage)) done) ∙ is)

or_left : (b c : Bool) → (b || c) ≡ false → b ≡ false
or_left true c e = e
or_left false c e = refl

or_rest : (b c : Bool) → (b || c) ≡ false → c ≡ false
or_rest true c e = absurd (no_bool e)
or_rest false c e = e

-- an owner does not take back what stands at a CAS that only its own staging had, once it has decided its attempt
pub no_unsticking : (past : List Made) (d : List ℕ) (x a : ℕ) → list_any (λ m. stages_of_another a x m) past ≡ false → list_any shows_abort past ≡ false
    → Once (λ m _. decides m.step ≡ Some a) past → ¬ MayUnstick past d x
no_unsticking past d x a own none decided (before_decision stage h undecided) =
    undecided (subst (λ z. Once (λ m _. decides m.step ≡ Some z) past) (sym (whose past own h)) decided)
  where
    whose : (l : List Made) → list_any (λ m. stages_of_another a x m) l ≡ false → Once (λ m _. StagesAt d x stage m) l → stage.attempt ≡ a
    whose [] own h = absurd h
    whose (m ∷ l) own (inl here) = same_attempt a x d stage m (or_left (stages_of_another a x m) (list_any (λ m. stages_of_another a x m) l) own) here
    whose (m ∷ l) own (inr h) = whose l (or_rest (stages_of_another a x m) (list_any (λ m. stages_of_another a x m) l) own) h
no_unsticking past d x a own none decided (after_abort stage h aborted) =
    never (λ m _. (lists : Lists) × ShowsAborted stage.atr stage.attempt lists m) shows_abort (λ m before p. shows-abort stage.atr stage.attempt p.0 m p.1) past none aborted

-- the lists of a commit or an abort
abbrev pub step_lists : Step → Option Lists
step_lists (step.Commit r a lists) = Some lists
step_lists (step.Abort r a lists) = Some lists
step_lists _ = None

-- the lists of the last commit or abort of attempt a
abbrev pub own_lists : ℕ → List Made → Option Lists
own_lists a [] = None
own_lists a (m ∷ past) = if is_number a (decides m.step) then step_lists m.step else own_lists a past

some-lists : {x y : Lists} → Some x ≡ Some y → x ≡ y
some-lists e = cc

number-is : (a b : ℕ) → (b == a) ≡ true → b ≡ a
number-is a b e = grind (arith, nat_tests)

is_number-only : (a : ℕ) (o : Option ℕ) → is_number a o ≡ true → o ≡ Some a
is_number-only a None e = absurd (no_bool (sym e))
is_number-only a (Some b) e = ap (λ x. Some x) (number-is a b e)

-- what is due are the lists of the last own commit or abort, where there is one
pub due_lists : (past : List Made) (a : ℕ) (shown due lists : Lists) (P : Lists → Type 0) → own_lists a past ≡ Some lists → Once (λ m _. decides m.step ≡ Some a) past → P lists
    → IsDue past a shown due → P due
due_lists past a shown due lists P own decided holds (of_shown none same) = absurd (none decided)
due_lists past a shown due lists P own decided holds (of_own h) = subst P (some-lists (sym own ∙ last past h)) holds
  where
    keep : (m : Made) (rest : Option Lists) → (r : ℕ) × ((m.step ≡ step.Commit r a due) ⊎ (m.step ≡ step.Abort r a due)) → (if is_number a (decides m.step) then step_lists m.step else rest) ≡ Some due
    keep m rest (r, inl e) = rw e (rw (same-number a) refl)
    keep m rest (r, inr e) = rw e (rw (same-number a) refl)

    pass : (b : Bool) (o rest : Option Lists) → b ≡ false → (if b then o else rest) ≡ rest
    pass b o rest e = rw e refl

    off : (m : Made) → ¬ (decides m.step ≡ Some a) → is_number a (decides m.step) ≡ false
    off m ne = go (is_number a (decides m.step)) refl
      where
        go : (b : Bool) → is_number a (decides m.step) ≡ b → is_number a (decides m.step) ≡ false
        go true at = absurd (ne (is_number-only a (decides m.step) at))
        go false at = at

    last : (l : List Made) → Kept (λ m _. (r : ℕ) × ((m.step ≡ step.Commit r a due) ⊎ (m.step ≡ step.Abort r a due))) (λ m _. decides m.step ≡ Some a) l → own_lists a l ≡ Some due
    last [] k = absurd k
    last (m ∷ l) (inl k) = keep m (own_lists a l) k
    last (m ∷ l) (inr (ne, k)) = pass (is_number a (decides m.step)) (step_lists m.step) (own_lists a l) (off m ne) ∙ last l k

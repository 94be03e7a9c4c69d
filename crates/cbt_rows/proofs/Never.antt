-- That something is not so of a written list, by a test that computes.
use Rattle.std.proofs.Common.{◌≡◌, ◌≢◌, ℕ, Bool, true, false, ◌==◌, ◌⊎◌, inl, inr, ◌||◌, not, ◌≤◌, List, [], ◌∷◌, Option, Some, None, refl, sym, ap, ◌∙◌, arith}
use Rattle.std.proofs.lemmas.Grind.{common_steps}
use Rattle.std.specs.List.{list_any}
use Rattle.std.specs.Ordering.{is_eq}
use Rattle.std.specs.Prelude.{is_some, count_by, ◌&&◌}
use Rattle.cbt_json.specs.declared.value.Json.{Json}
use Rattle.cbt_model.proofs.Orders.{doc_order, key_itself}
use Rattle.cbt_model.specs.History.{is_done, commits}
use Rattle.cbt_model.specs.Keys.{doc_cmp}
use Rattle.cbt_model.specs.Table.{touches_doc}
use Rattle.cbt_model.specs.declared.documents.OpKind.TheVariants.{Insert, Replace}
use Rattle.cbt_model.specs.declared.documents.Stage.{Stage}
use Rattle.cbt_model.specs.declared.entries.Entry.{Entry}
use Rattle.cbt_model.specs.declared.entries.EntryState.TheVariants.{Pending, Committed}
use Rattle.cbt_model.specs.declared.entries.EntryState.{EntryState}
use Rattle.cbt_model.specs.declared.events.Fate.TheVariants.{Plain, Lost}
use Rattle.cbt_model.specs.declared.events.Made.{Made}
use Rattle.cbt_model.specs.declared.steps.Reply.TheVariants as reply
use Rattle.cbt_model.specs.declared.steps.Reply.{Reply}
use Rattle.cbt_model.specs.declared.steps.Step.TheVariants as step
use Rattle.cbt_model.specs.declared.steps.Step.{Step}
use Rattle.cbt_book.specs.Cleaners.{Whole, Cut}
use Rattle.cbt_book.specs.Licence.{WasStaged, WritesFor, stages, unsticks_own, WritesInVain, CommitsUnsettled}
use Rattle.cbt_book.specs.OwnLists.{Once}
use Rattle.cbt_book.specs.Shown.{ReadsDoc, FindsNoEntry, ReadsEntry, AddsEntry, added, was_there, adds}
use Rattle.cbt_book.specs.Closing.{Settles, ThirdInVain, resolves, drops}
use Rattle.cbt_book.specs.Calls.{writes_doc, reads_doc, reads_entry}

pub no_bool : true ≡ false → ⊥
no_bool e = cc

-- a property with a test that is false of each step is never so
pub never : (P : Made → List Made → Type 0) (test : Made → Bool) → ((m : Made) (past : List Made) → P m past → test m ≡ true)
    → (l : List Made) → list_any test l ≡ false → ¬ Once P l
never P test tells [] none h = h
never P test tells (m ∷ past) none h = go (test m) refl (λ rest. never P test tells past rest) h
  where
    go : (b : Bool) → test m ≡ b → (list_any test past ≡ false → ¬ Once P past) → P m past ⊎ Once P past → ⊥
    go true at later h = no_bool (sym (ap (λ b. b || list_any test past) at) ∙ none)
    go false at later (inl here) = no_bool (sym (tells m past here) ∙ at)
    go false at later (inr before) = later (sym (ap (λ b. b || list_any test past) at) ∙ none) before

-- whether a number is this one
abbrev pub is_number : ℕ → Option ℕ → Bool
is_number a None = false
is_number a (Some b) = b == a

pub same-number : (a : ℕ) → (a == a) ≡ true
same-number a = grind (arith, common_steps)

is_number-same : (a : ℕ) (o : Option ℕ) → o ≡ Some a → is_number a o ≡ true
is_number-same a o e = ap (is_number a) e ∙ same-number a

-- no step of the list is of attempt a, in this sense
pub never_of : (f : Step → Option ℕ) (a : ℕ) (l : List Made) → list_any (λ m. is_number a (f m.step)) l ≡ false → ¬ Once (λ m _. f m.step ≡ Some a) l
never_of f a = never (λ m _. f m.step ≡ Some a) (λ m. is_number a (f m.step)) (λ m past e. is_number-same a (f m.step) e)

pub none_settled : (past : List Made) (r a : ℕ) → list_any (λ m. is_number a (commits m.step)) past ≡ false → CommitsUnsettled past r a
none_settled past r a none = record {
  unanswered = never (λ m _. (commits m.step ≡ Some a) × (m.answer.reply ≢ reply.Failed) × (m.answer.reply ≢ reply.Decided)) (λ m. is_number a (commits m.step))
      (λ m before p. is_number-same a (commits m.step) p.0) past none;
  read = λ h. absurd (never_of commits a past none h);
}

-- whether a document is this one
abbrev pub is_document : List ℕ → Option (List ℕ) → Bool
is_document d None = false
is_document d (Some q) = is_eq (doc_cmp q d)

pub is_document-same : (d : List ℕ) (o : Option (List ℕ)) → o ≡ Some d → is_document d o ≡ true
is_document-same d o e = ap (is_document d) e ∙ key_itself doc_order d

touches-writes : (a : ℕ) (d : List ℕ) (m : Made) (past : List Made) → WritesFor a d m past → touches_doc m.step ≡ Some d
touches-writes a d m past (stages k (e, stage, is, of, kind)) = ap touches_doc is
touches-writes a d m past (unsticks_own x is was) = ap touches_doc is

-- a step on another document, or on none, is no write of this one
pub elsewhere : (a : ℕ) (d : List ℕ) (m : Made) (past : List Made) → is_document d (touches_doc m.step) ≡ false → ¬ WritesFor a d m past
elsewhere a d m past none h = no_bool (sym (is_document-same d (touches_doc m.step) (touches-writes a d m past h)) ∙ none)

pub some-none : {A : Type 0} (x : A) → Some x ≡ None → ⊥
some-none x e = cc

-- a step on no document writes none
pub not_vain : (a : ℕ) (m : Made) (past : List Made) → touches_doc m.step ≡ None → ¬ WritesInVain a m past
not_vain a m past none ((d, h), in_vain) = some-none d (sym (touches-writes a d m past h) ∙ none)

-- a step that was answered Done writes nothing in vain
pub done : (a : ℕ) (m : Made) (past : List Made) → is_done m.answer.reply ≡ true → ¬ WritesInVain a m past
done a m past is (h, in_vain) = no_bool (sym is ∙ in_vain)

-- this step is not of attempt a, in this sense
pub not_of : (f : Step → Option ℕ) (a : ℕ) (m : Made) → is_number a (f m.step) ≡ false → ¬ (f m.step ≡ Some a)
not_of f a m is e = no_bool (sym (is_number-same a (f m.step) e) ∙ is)

-- two numbers differ by their test
pub differ : (a b : ℕ) → (a == b) ≡ false → a ≡ b → ⊥
differ a b is e = no_bool (sym (ap (λ x. x == b) e ∙ same-number b) ∙ is)

-- no step of the list writes a document
pub never_writes : (l : List Made) → list_any (λ m. writes_doc m.step) l ≡ false → ¬ Once (λ m _. writes_doc m.step ≡ true) l
never_writes = never (λ m _. writes_doc m.step ≡ true) (λ m. writes_doc m.step) (λ m past e. e)

-- a reply that leaves its caller in doubt
abbrev pub is_doubtful : Reply → Bool
is_doubtful reply.Failed = true
is_doubtful reply.Decided = true
is_doubtful _ = false

-- whether a step is a reading of an entry that shows it
abbrev pub shows_entry : Reply → Bool
shows_entry (reply.Entry e) = true
shows_entry _ = false

abbrev pub reads_shown : Made → Bool
reads_shown m = reads_entry m.step && shows_entry m.answer.reply

-- whether a reply tells that the call failed
abbrev pub is_failed : Reply → Bool
is_failed reply.Failed = true
is_failed _ = false

-- a call that did not fail did not fail
pub unfailed : {A : Type 0} (m : Made) → is_failed m.answer.reply ≡ false → m.answer.reply ≡ reply.Failed → A
unfailed m is e = absurd (no_bool (sym (ap is_failed e) ∙ is))

-- no step of the list has made this document's staging its body
pub never_resolved : (d : List ℕ) (l : List Made) → list_any (λ m. is_document d (resolves m.step)) l ≡ false → ¬ Once (λ m _. resolves m.step ≡ Some d) l
never_resolved d = never (λ m _. resolves m.step ≡ Some d) (λ m. is_document d (resolves m.step)) (λ m past e. is_document-same d (resolves m.step) e)

abbrev pub read_doc : Step → Option (List ℕ)
read_doc (step.ReadDoc d) = Some d
read_doc _ = None

-- no step of the list has read this document
pub never_read : (d : List ℕ) (l : List Made) → list_any (λ m. is_document d (read_doc m.step)) l ≡ false → ¬ Once (λ m _. m.step ≡ step.ReadDoc d) l
never_read d = never (λ m _. m.step ≡ step.ReadDoc d) (λ m. is_document d (read_doc m.step)) (λ m past e. is_document-same d (read_doc m.step) (ap read_doc e))

-- neither a commit nor a reading of an entry
pub not_settling : (a : ℕ) (m : Made) → is_number a (commits m.step) ≡ false → reads_entry m.step ≡ false → ¬ Settles a m
not_settling a m no_commit no_reading (inl e) = not_of commits a m no_commit e
not_settling a m no_commit no_reading (inr (r, e)) = no_bool (sym (ap reads_entry e) ∙ no_reading)

count-more : (p : Made → Bool) (m : Made) (l : List Made) → count_by p l ≤ count_by p (m ∷ l)
count-more p m l = go (p m) refl
  where
    go : (b : Bool) → p m ≡ b → count_by p l ≤ count_by p (m ∷ l)
    go true at = grind (arith, common_steps, at)
    go false at = grind (arith, common_steps, at)

-- where there are fewer than three commits no third one was in vain
pub not_third : (a : ℕ) (l : List Made) → count_by (λ m. is_some (commits m.step)) l ≤ 2 → ¬ ThirdInVain a l
not_third a [] few h = h
not_third a (m ∷ l) few (inl (r, shown, three, rest)) = too_many (count_by (λ m. is_some (commits m.step)) l) (count_by (λ m. is_some (commits m.step)) (m ∷ l)) three (count-more (λ m. is_some (commits m.step)) m l) few
  where
    too_many : (x y : ℕ) → x ≡ 3 → x ≤ y → y ≤ 2 → ⊥
    too_many x y e p q = omega arith
not_third a (m ∷ l) few (inr h) = not_third a l (within (count_by (λ m. is_some (commits m.step)) l) (count_by (λ m. is_some (commits m.step)) (m ∷ l)) (count-more (λ m. is_some (commits m.step)) m l) few) h
  where
    within : (x y : ℕ) → x ≤ y → y ≤ 2 → x ≤ 2
    within x y p q = omega arith

-- a pending entry is not committed
pub different : Pending ≡ Committed → ⊥
different e = cc

-- a list with a first is not empty
pub filled : {A : Type 0} {x : A} {xs : List A} → x ∷ xs ≡ [] → ⊥
filled e = cc

-- a step that is no addition of an entry adds none
pub no_entry_added : (m : Made) (r a : ℕ) → is_number a (adds m.step) ≡ false → ¬ AddsEntry r a m
no_entry_added m r a is (added exp c at done) = no_bool (sym (is_number-same a (adds m.step) (ap adds at)) ∙ is)
no_entry_added m r a is (was_there exp at done) = no_bool (sym (is_number-same a (adds m.step) (ap adds at)) ∙ is)

-- a step that is no reading of an entry reads none
pub no_entry_read : (m : Made) (r a : ℕ) (e : Entry) → reads_entry m.step ≡ false → ¬ ReadsEntry r a e m
no_entry_read m r a e is h = no_bool (sym (ap reads_entry h.0) ∙ is)

-- documents that differ by their order
pub other_doc : (d q : List ℕ) → is_eq (doc_cmp d q) ≡ false → d ≡ q → ⊥
other_doc d q is e = no_bool (sym (ap (λ x. is_eq (doc_cmp x q)) e ∙ key_itself doc_order q) ∙ is)

-- a step that is no reading of a document reads none
pub no_doc_read : (m : Made) (d : List ℕ) (x : ℕ) (body : Option Json) (stage : Option Stage) → reads_doc m.step ≡ false → ¬ ReadsDoc d x body stage m
no_doc_read m d x body stage is h = no_bool (sym (ap reads_doc h.0) ∙ is)

-- a step that is no reading of an entry finds none missing
pub no_entry_missed : (m : Made) (r a : ℕ) → reads_entry m.step ≡ false → ¬ FindsNoEntry r a m
no_entry_missed m r a is h = no_bool (sym (ap reads_entry h.0) ∙ is)

-- a step that is no drop drops nothing
pub no_drop_sent : (m : Made) (r a : ℕ) (guarded : Bool) → is_number a (drops m.step) ≡ false → ¬ (m.step ≡ step.DropEntry r a guarded)
no_drop_sent m r a guarded is h = no_bool (sym (is_number-same a (drops m.step) (ap drops h)) ∙ is)

abbrev pub state_shown : Reply → Option EntryState
state_shown (reply.Entry e) = Some e.state
state_shown _ = None

some-state : {x y : EntryState} → Some x ≡ Some y → x ≡ y
some-state e = cc

-- the state of the entry that a reading shows
pub shown_state : (m : Made) (r a : ℕ) (e : Entry) (state : EntryState) → state_shown m.answer.reply ≡ Some state → ReadsEntry r a e m → e.state ≡ state
shown_state m r a e state is h = some-state (sym (ap state_shown h.1) ∙ is)

-- a plain event is not lost
pub plain_lost : Plain ≡ Lost → ⊥
plain_lost e = cc

-- whether a step stages a document
abbrev pub stages_any : Step → Bool
stages_any (step.Stage d e stage) = true
stages_any _ = false

pub unsticks_own_pf : {a : ℕ} {d : List ℕ} {m : Made} {past : List Made} (x : ℕ) → m.step ≡ step.Unstick d x → WasStaged a d x past → WritesFor a d m past
unsticks_own_pf x is was = unsticks_own x is was

-- each commit of attempt a was left in doubt
pub never_answered : (a : ℕ) (l : List Made) → list_any (λ m. is_number a (commits m.step) && not (is_doubtful m.answer.reply)) l ≡ false
    → ¬ Once (λ m _. (commits m.step ≡ Some a) × (m.answer.reply ≢ reply.Failed) × (m.answer.reply ≢ reply.Decided)) l
never_answered a = never (λ m _. (commits m.step ≡ Some a) × (m.answer.reply ≢ reply.Failed) × (m.answer.reply ≢ reply.Decided))
    (λ m. is_number a (commits m.step) && not (is_doubtful m.answer.reply)) (λ m past h. told (is_number a (commits m.step)) m.answer.reply (is_number-same a (commits m.step) h.0) h.1 h.2)
  where
    told : (b : Bool) (r : Reply) → b ≡ true → r ≢ reply.Failed → r ≢ reply.Decided → (b && not (is_doubtful r)) ≡ true
    told b reply.Failed is ne nd = absurd (ne refl)
    told b reply.Decided is ne nd = absurd (nd refl)
    told b (reply.Doc c body stage) is ne nd = rw is refl
    told b reply.Absent is ne nd = rw is refl
    told b (reply.Done c) is ne nd = rw is refl
    told b (reply.CasMismatch c) is ne nd = rw is refl
    told b reply.Exists is ne nd = rw is refl
    told b (reply.Entry e) is ne nd = rw is refl
    told b reply.NoEntry is ne nd = rw is refl
    told b (reply.Entries es) is ne nd = rw is refl
    told b (reply.Clients rows) is ne nd = rw is refl

abbrev pub unstick_doc : Step → Option (List ℕ)
unstick_doc (step.Unstick d x) = Some d
unstick_doc _ = None

-- no step of the list has unstuck this document
pub never_unstuck : (d : List ℕ) (l : List Made) → list_any (λ m. is_document d (unstick_doc m.step)) l ≡ false → ¬ Once (λ m _. (x : ℕ) × (m.step ≡ step.Unstick d x)) l
never_unstuck d = never (λ m _. (x : ℕ) × (m.step ≡ step.Unstick d x)) (λ m. is_document d (unstick_doc m.step)) (λ m past h. is_document-same d (unstick_doc m.step) (ap unstick_doc h.1))

-- a replacement is no insert
pub not_insert : Replace ≡ Insert → ⊥
not_insert e = cc

-- a round that was cut off is not whole
pub whole_cut : Whole ≡ Cut → ⊥
whole_cut e = cc

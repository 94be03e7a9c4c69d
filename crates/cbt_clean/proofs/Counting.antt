-- How many calls a pass makes for what its answers list.
use Rattle.std.proofs.Common.{◌≡◌, ◌≢◌, true, false, Bool, ℕ, ◌+◌, ◌-◌, ◌*◌, ◌≤◌, ◌<◌, cond, List, [], ◌∷◌, ◌++◌, length, filter, slice_get, Option, Some, None, refl, sym, ap, ◌∙◌, subst, arith, length-append}
use Rattle.std.proofs.lemmas.List.Sums.{sum_by-cons}
use Rattle.std.proofs.lemmas.Option.{none-some, slice_get_within}
use Rattle.std.specs.List.{sum_by}
use Rattle.cbt_json.specs.declared.value.Json.{Json}
use Rattle.cbt_model.specs.declared.entries.Entry.{Entry}
use Rattle.cbt_model.specs.declared.entries.EntryState.{EntryState}
use Rattle.cbt_model.specs.declared.entries.EntryState.TheVariants.{Pending, Committed, Aborted}
use Rattle.cbt_model.specs.declared.entries.Lists.{Lists}
use Rattle.cbt_model.specs.declared.events.Made.{Made}
use Rattle.cbt_model.specs.declared.steps.Reply.{Reply}
use Rattle.cbt_model.specs.declared.steps.Reply.TheVariants as reply
use Rattle.cbt_model.specs.declared.steps.Step.{Step}
use Rattle.cbt_model.specs.declared.steps.Step.TheVariants as step
use Rattle.cbt_book.specs.Passes.{is_expired, expired_in, is_about_doc, calls_for, docs_due, PassCalls}
use Rattle.cbt_clean.proofs.Keeping.{Keeps, kept}
use Rattle.cbt_clean.proofs.Knowing.{State, Passed, keeps_passed, passed}
use Rattle.cbt_clean.proofs.Moves.{IsAt, Moves, reads_record, finds_off, finds_staged, takes, drops, evicts, finds_decided, leaves, finds_none, reads_entry, fails}
use Rattle.cbt_clean.specs.Phases.{docs_of, publish, take_off, clearing_step, taking_step, step_for, treat_in, treat, go_on, next, with_entry, due_for, due_after, due_evicting, due_in, due_by}
use Rattle.cbt_clean.specs.Staging.{Staging}
use Rattle.cbt_clean.specs.Standing.{Runs}
use Rattle.cbt_clean.specs.declared.covers.Cover.{Cover}
use Rattle.cbt_clean.specs.declared.phases.Phase.{Phase}
use Rattle.cbt_clean.specs.declared.phases.Phase.TheVariants.{Begun, Clearing, Taking, Evicting, Asking, Ended}

some_same : {X : Type 0} {x y : X} → Some x ≡ Some y → x ≡ y
some_same both = cc

-- what a call counts: one on a document, and k on an entry
abbrev pub cost : ℕ → Step → ℕ
cost k s = cond (is_about_doc s) 1 k

-- the documents of lists, and the calls for them
calls_listed : (lists : Lists) → calls_for lists ≡ 2 * length (docs_of lists)
calls_listed lists =
    let front = length-append lists.ins (lists.rep ++ lists.rem) in
    let back = length-append lists.rep lists.rem in
    omega arith

due_more : (k : ℕ) (x : ℕ × Entry) (waiting : List (ℕ × Entry)) → due_after k (x ∷ waiting) ≡ due_for k x.1 + due_after k waiting
due_more k x waiting = sum_by-cons (λ (y : ℕ × Entry). due_for k y.1) x waiting

-- from the first document on a pass makes two calls for each, and one for the entry
clearing_due : (k : ℕ) (c : Cover) → due_in k (Clearing c 0) ≤ k + (due_after k c.waiting + calls_for c.entry.lists)
clearing_due k c = at_most (length (docs_of c.entry.lists)) (calls_for c.entry.lists) (due_after k c.waiting) (calls_listed c.entry.lists)
  where
    at_most : (n f w : ℕ) → f ≡ 2 * n → (2 * (n - 0) + k) + w ≤ k + (w + f)
    at_most n f w is = omega arith

-- an attempt is treated by the state of its entry
treated_due : (k : ℕ) (c : Cover) (state : EntryState) → due_in k (treat_in state c false) ≤ due_for k c.entry + due_after k c.waiting
treated_due k c Pending = omega arith
treated_due k c Committed = let most = clearing_due k c in omega arith
treated_due k c Aborted = let most = clearing_due k c in omega arith

next_due : (k : ℕ) (covered : List ℕ) (waiting : List (ℕ × Entry)) → due_in k (go_on covered waiting) ≤ due_after k waiting
next_due k covered [] = omega arith
next_due k covered (x ∷ waiting) =
    subst (λ n. due_in k (go_on covered (x ∷ waiting)) ≤ n) (sym (due_more k x waiting))
    (treated_due k (record { covered = covered; attempt = x.0; entry = x.1; waiting = waiting }) x.1.state)

-- an entry that was read for itself adds what it lists
read_due : (k : ℕ) (c : Cover) (state : EntryState) → due_in k (treat_in state c true) ≤ k + (due_after k c.waiting + calls_for c.entry.lists)
read_due k c Pending = omega arith
read_due k c Committed = clearing_due k c
read_due k c Aborted = clearing_due k c

cost_take_off : (k : ℕ) (state : EntryState) (d : List ℕ) (s : Staging) → cost k (take_off state d s) ≡ 1
cost_take_off k Committed d s = by s.content
  where
    by : (o : Option Json) → cost k (publish d s.cas o) ≡ 1
    by None = refl
    by (Some body) = refl
cost_take_off k Pending d s = refl
cost_take_off k Aborted d s = refl

-- the call that a phase asks for is among those that it leads to
asked_due : (k : ℕ) (r : ℕ) (p : Phase) (s : Step) → p ≢ Begun → step_for r p ≡ Some s → cost k s ≤ due_in k p
asked_due k r Begun s reads asked = absurd (reads refl)
asked_due k r (Clearing c at) s reads asked = by (slice_get (docs_of c.entry.lists) at) refl (some_same asked)
  where
    reading : (n d : ℕ) → at < n → 1 ≤ (2 * (n - at) + k) + d
    reading n d within = omega arith

    drop : (n d : ℕ) → k ≤ (2 * (n - at) + k) + d
    drop n d = omega arith

    by : (o : Option (List ℕ)) → IsAt c at o → clearing_step r c o ≡ s → cost k s ≤ (2 * (length (docs_of c.entry.lists) - at) + k) + due_after k c.waiting
    by None past is = subst (λ u. cost k u ≤ (2 * (length (docs_of c.entry.lists) - at) + k) + due_after k c.waiting) is (drop (length (docs_of c.entry.lists)) (due_after k c.waiting))
    by (Some d) here is =
        subst (λ u. cost k u ≤ (2 * (length (docs_of c.entry.lists) - at) + k) + due_after k c.waiting) is
        (reading (length (docs_of c.entry.lists)) (due_after k c.waiting) (slice_get_within (docs_of c.entry.lists) at d here))
asked_due k r (Taking c at t) s reads asked = by (slice_get (docs_of c.entry.lists) at) refl asked
  where
    taking : (n d : ℕ) → at < n → 1 ≤ ((2 * (n - at) - 1) + k) + d
    taking n d within = omega arith

    by : (o : Option (List ℕ)) → IsAt c at o → taking_step c.entry.state t o ≡ Some s → cost k s ≤ ((2 * (length (docs_of c.entry.lists) - at) - 1) + k) + due_after k c.waiting
    by None past is = absurd (none-some s is)
    by (Some d) here is =
        subst (λ n. n ≤ ((2 * (length (docs_of c.entry.lists) - at) - 1) + k) + due_after k c.waiting) (sym (cost_take_off k c.entry.state d t) ∙ ap (cost k) (some_same is))
        (taking (length (docs_of c.entry.lists)) (due_after k c.waiting) (slice_get_within (docs_of c.entry.lists) at d here))
asked_due k r (Evicting c again) s reads asked = subst (λ u. cost k u ≤ due_evicting k again + due_after k c.waiting) (some_same asked) (by again (due_after k c.waiting))
  where
    by : (b : Bool) (d : ℕ) → k ≤ due_evicting k b + d
    by false d = omega arith
    by true d = omega arith
asked_due k r (Asking c) s reads asked = subst (λ u. cost k u ≤ 2 * k + due_after k c.waiting) (some_same asked) (at_most (due_after k c.waiting))
  where
    at_most : (d : ℕ) → k ≤ 2 * k + d
    at_most d = omega arith
asked_due k r (Ended end) s reads asked = absurd (none-some s asked)

module _ (k r : ℕ) (m : Made) where
  -- a call that goes on to the next attempt
  to_next : (c : Cover) (before : ℕ) → cost k m.step + due_after k c.waiting ≤ before → cost k m.step + due_in k (next c) ≤ before + due_by k m.answer.reply m.answer.now
  to_next c before few = let after_it = next_due k c.covered c.waiting in omega arith

  pub due_on : (p q : Phase) → Moves r m p q → p ≢ Begun → cost k m.step + due_in k q ≤ due_in k p + due_by k m.answer.reply m.answer.now
  due_on _ _ (reads_record entries reads rise) begins = absurd (begins refl)
  due_on _ _ (finds_off c at d here is off) begins =
      subst (λ u. cost k u + due_in k (Clearing c (at + 1)) ≤ due_in k (Clearing c at) + due_by k m.answer.reply m.answer.now) (sym is)
      (less (length (docs_of c.entry.lists)) (due_after k c.waiting) (due_by k m.answer.reply m.answer.now) (slice_get_within (docs_of c.entry.lists) at d here))
    where
      less : (n w b : ℕ) → at < n → 1 + ((2 * (n - (at + 1)) + k) + w) ≤ ((2 * (n - at) + k) + w) + b
      less n w b within = omega arith
  due_on _ _ (finds_staged c at x d body stage here reads record_is attempt_is) begins =
      subst (λ u. cost k u + due_in k (Taking c at (record { cas = x; content = stage.content })) ≤ due_in k (Clearing c at) + due_by k m.answer.reply m.answer.now) (sym reads.0)
      (less (length (docs_of c.entry.lists)) (due_after k c.waiting) (due_by k m.answer.reply m.answer.now) (slice_get_within (docs_of c.entry.lists) at d here))
    where
      less : (n w b : ℕ) → at < n → 1 + (((2 * (n - at) - 1) + k) + w) ≤ ((2 * (n - at) + k) + w) + b
      less n w b within = omega arith
  due_on _ _ (takes c at d s here is off) begins =
      subst (λ n. n + due_in k (Clearing c (at + 1)) ≤ due_in k (Taking c at s) + due_by k m.answer.reply m.answer.now) (sym (ap (cost k) is ∙ cost_take_off k c.entry.state d s))
      (less (length (docs_of c.entry.lists)) (due_after k c.waiting) (due_by k m.answer.reply m.answer.now) (slice_get_within (docs_of c.entry.lists) at d here))
    where
      less : (n w b : ℕ) → at < n → 1 + ((2 * (n - (at + 1)) + k) + w) ≤ ((((2 * (n - at)) - 1) + k) + w) + b
      less n w b within = omega arith
  due_on _ _ (drops c at past is gone) begins =
      to_next c (due_in k (Clearing c at)) (subst (λ u. cost k u + due_after k c.waiting ≤ due_in k (Clearing c at)) (sym is) (less (length (docs_of c.entry.lists)) (due_after k c.waiting)))
    where
      less : (n w : ℕ) → k + w ≤ (2 * (n - at) + k) + w
      less n w = omega arith
  due_on _ _ (evicts c again is gone) begins =
      to_next c (due_in k (Evicting c again)) (subst (λ u. cost k u + due_after k c.waiting ≤ due_in k (Evicting c again)) (sym is) (less again (due_after k c.waiting)))
    where
      less : (b : Bool) (w : ℕ) → k + w ≤ due_evicting k b + w
      less false w = omega arith
      less true w = omega arith
  due_on _ _ (finds_decided c is told) begins =
      subst (λ u. cost k u + due_in k (Asking c) ≤ due_in k (Evicting c false) + due_by k m.answer.reply m.answer.now) (sym is) (less (due_after k c.waiting) (due_by k m.answer.reply m.answer.now))
    where
      less : (w b : ℕ) → k + (2 * k + w) ≤ (3 * k + w) + b
      less w b = omega arith
  due_on _ _ (leaves c is told) begins =
      to_next c (due_in k (Evicting c true)) (subst (λ u. cost k u + due_after k c.waiting ≤ due_in k (Evicting c true)) (sym is) (less (due_after k c.waiting)))
    where
      less : (w : ℕ) → k + w ≤ k + w
      less w = omega arith
  due_on _ _ (finds_none c finds) begins =
      to_next c (due_in k (Asking c)) (subst (λ u. cost k u + due_after k c.waiting ≤ due_in k (Asking c)) (sym finds.0) (less (due_after k c.waiting)))
    where
      less : (w : ℕ) → k + w ≤ 2 * k + w
      less w = omega arith
  due_on _ _ (reads_entry c e reads) begins =
      subst (λ u. cost k u + due_in k (treat (with_entry c e) true) ≤ due_in k (Asking c) + due_by k m.answer.reply m.answer.now) (sym reads.0)
      (subst (λ a. k + due_in k (treat (with_entry c e) true) ≤ due_in k (Asking c) + due_by k a m.answer.now) (sym reads.1)
      (less (due_after k c.waiting) (calls_for e.lists) (due_in k (treat (with_entry c e) true)) (read_due k (with_entry c e) e.state)))
    where
      less : (w f t : ℕ) → t ≤ k + (w + f) → k + t ≤ (2 * k + w) + f
      less w f t few = omega arith
  due_on p _ (fails _ asked failed) begins = less (cost k m.step) (due_in k p) (due_by k m.answer.reply m.answer.now) (asked_due k r p m.step begins asked)
    where
      less : (a b d : ℕ) → a ≤ b → a + 0 ≤ b + d
      less a b d few = omega arith

  pub due_first : (q : Phase) → Moves r m Begun q → due_in k q ≤ due_by k m.answer.reply m.answer.now
  due_first q (reads_record entries reads rise) =
      subst (λ a. due_in k q ≤ due_by k a m.answer.now) (sym reads.1) (next_due k (expired_in entries m.answer.now) (filter (λ e. is_expired m.answer.now e.1) entries))
  due_first q (fails _ asked failed) = omega arith

-- the calls behind the reading of the record and those that the phase leads to are no more than follow from the answers
abbrev Counted : ℕ → Phase → Made → List Made → Type 0
Counted k p first later = sum_by (λ m. cost k m.step) later + due_in k p ≤ sum_by (λ m. due_by k m.answer.reply m.answer.now) (later ++ first ∷ [])

counted_first : (k r : ℕ) (m : Made) (q : Phase) → Moves r m Begun q → Counted k q m []
counted_first k r m q moved =
    let few = due_first k r m q moved in
    let one = sum_by-cons (λ (n : Made). due_by k n.answer.reply n.answer.now) m [] in
    omega arith

counted_on : (k r : ℕ) (first : Made) (later : List Made) (m : Made) (p q : Phase) → Moves r m p q → p ≢ Begun → Counted k p first later → Counted k q first (m ∷ later)
counted_on k r first later m p q moved begins before =
    let few = due_on k r m p q moved begins in
    let calls = sum_by-cons (λ (n : Made). cost k n.step) m later in
    let due = sum_by-cons (λ (n : Made). due_by k n.answer.reply n.answer.now) m (later ++ first ∷ []) in
    omega arith

-- such a pass has read its record
begins_none : (r : ℕ) (p : Phase) (first : Made) (later : List Made) → Passed r p first later → p ≢ Begun
begins_none r p first later it is = subst (λ q. State r first later q) is it.state

keeps_counted : (k r : ℕ) → Keeps r (λ p first later. Passed r p first later × Counted k p first later)
keeps_counted k r = record {
  first = λ m q moved. ((keeps_passed r).first m q moved, counted_first k r m q moved);
  later = λ first later m p q moved asked it.
      ((keeps_passed r).later first later m p q moved asked it.0, counted_on k r first later m p q moved (begins_none r p first later it.0) it.1);
}

counted : (k r : ℕ) (p : Phase) (first : Made) (later : List Made) → Runs r p (later ++ first ∷ []) → Counted k p first later
counted k r p first later run = (kept r (λ q m l. Passed r q m l × Counted k q m l) (keeps_counted k r) p first later run).1

same_sums : {X : Type 0} (f g : X → ℕ) → ((x : X) → f x ≡ g x) → (l : List X) → sum_by f l ≡ sum_by g l
same_sums {X = X} f g same [] = refl
same_sums {X = X} f g same (x ∷ l) =
    let one = sum_by-cons f x l in
    let two = sum_by-cons g x l in
    let head = same x in
    let rest = same_sums f g same l in
    omega arith

-- where calls on entries count nothing, just those on documents follow
docs_by : (a : Reply) (now : ℕ) → due_by 0 a now ≡ docs_due a now
docs_by (reply.Entries entries) now = same_sums (λ (x : ℕ × Entry). due_for 0 x.1) (λ (x : ℕ × Entry). calls_for x.1.lists) (λ x. nothing (calls_for x.1.lists)) (filter (λ e. is_expired now e.1) entries)
  where
    nothing : (n : ℕ) → 3 * 0 + n ≡ n
    nothing n = omega arith
docs_by (reply.Entry e) now = refl
docs_by _ now = refl

same_either : (b : Bool) (n : ℕ) → cond b n n ≡ n
same_either true n = refl
same_either false n = refl

each_one : (l : List Made) → sum_by (λ m. cost 1 m.step) l ≡ length l
each_one [] = refl
each_one (m ∷ l) =
    let one = sum_by-cons (λ (n : Made). cost 1 n.step) m l in
    let head = same_either (is_about_doc m.step) 1 in
    let rest = each_one l in
    omega arith

-- the calls of a pass are those of a pass
pub pass_calls : (r : ℕ) (p : Phase) (first : Made) (later : List Made) → Runs r p (later ++ first ∷ []) → PassCalls r first later
pass_calls r p first later run =
    let it = passed r p first later run in
    let few = counted 0 r p first later run in
    let due = same_sums (λ m. due_by 0 m.answer.reply m.answer.now) (λ m. docs_due m.answer.reply m.answer.now) (λ m. docs_by m.answer.reply m.answer.now) (later ++ first ∷ []) in
    record { reads = it.reads; only = it.only; documents = omega arith }

-- a reading of the record alone is one call of a pass
pub first_calls : (r : ℕ) (first : Made) → first.step ≡ step.ReadAtr r → PassCalls r first []
first_calls r first reads = record { reads = reads; only = tt; documents = omega arith }

pub few_calls : (r : ℕ) (p : Phase) (first : Made) (later : List Made) → Runs r p (later ++ first ∷ [])
    → length later + due_in 1 p ≤ sum_by (λ m. due_by 1 m.answer.reply m.answer.now) (later ++ first ∷ [])
few_calls r p first later run = let few = counted 1 r p first later run in let all = each_one later in omega arith

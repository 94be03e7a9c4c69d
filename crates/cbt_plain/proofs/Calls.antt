-- What a call, a mark and a beginning leave of the facts that a node keeps.
use Rattle.std.proofs.Common.{◌≡◌, ◌≢◌, ℕ, suc, ◌+◌, ◌-◌, ◌^◌, ◌<◌, ◌≤◌, Bool, true, false, cond, nat_eq, nat_le, List, [], ◌∷◌, ◌++◌, length, Option, Some, None, refl, sym, ap, ◌∙◌, subst, arith, slice_get, if◌then◌else◌}
use Rattle.std.proofs.lemmas.Bool.{eqb-true, le-leb}
use Rattle.std.proofs.lemmas.Grind.{common_steps}
use Rattle.cbt_base.specs.Clock.{clock_of, held, ReadsNext}
use Rattle.cbt_model.specs.Faults.{fate_of}
use Rattle.cbt_model.specs.Fitting.{step_fits}
use Rattle.cbt_model.specs.History.{after, happens, outcome, reply_at}
use Rattle.cbt_model.specs.Legal.{Terms, AreReadings, KeepsTerms, calls_below, one_of, ahead_at, line_due}
use Rattle.cbt_model.specs.declared.events.Event.{Event}
use Rattle.cbt_model.specs.declared.events.Mark.{Mark}
use Rattle.cbt_model.specs.declared.states.State.{State}
use Rattle.cbt_model.specs.declared.steps.Reply.{Reply}
use Rattle.cbt_model.proofs.Longer.{after-whole, reply_at-next, calls_below-next, length-next, get-last}
use Rattle.cbt_model.proofs.Terms.{readings-next, keeps-next, keeps-none}
use Rattle.cbt_plain.specs.Counts.{count_of}
use Rattle.cbt_plain.specs.Readings.{ReadsBy, waiting}

-- the state after a call
pub stands-next : (s0 s s' : State) (h h' : List Event) (e : Event) → h' ≡ h ++ e ∷ [] → s ≡ after s0 h (length h) → s' ≡ happens s e
    → s' ≡ after s0 h' (length h')
stands-next s0 s s' h h' e grown stood moved =
    moved ∙ ap (λ x. happens x e) stood ∙ sym (after-whole s0 h e) ∙ ap (λ x. after s0 x (length x)) (sym grown)

-- what a call is answered
pub reply-next : (s0 s : State) (h h' : List Event) (e : Event) (r : Reply) → h' ≡ h ++ e ∷ [] → s ≡ after s0 h (length h) → r ≡ (outcome s e).reply
    → reply_at s0 h' (length h) ≡ Some r
reply-next s0 s h h' e r grown stood told =
    ap (λ x. reply_at s0 x (length h)) grown ∙ reply_at-next s0 h e ∙ ap (λ x. Some (outcome x e).reply) (sym stood) ∙ ap (λ x. Some x) (sym told)

-- the event that was put in last
pub last-there : (h h' : List Event) (e : Event) (place : ℕ) → h' ≡ h ++ e ∷ [] → place ≡ length h → slice_get h' place ≡ Some e
last-there h h' e place grown at = ap (λ l. slice_get l place) grown ∙ ap (λ i. slice_get (h ++ e ∷ []) i) at ∙ get-last h e

pub last-is : (h h' : List Event) (e x : Event) (place : ℕ) → h' ≡ h ++ e ∷ [] → place ≡ length h → slice_get h' place ≡ Some x → x ≡ e
last-is h h' e x place grown at there = let both : Some x ≡ Some e = sym there ∙ last-there h h' e place grown at in cc

eq-same : (m n : ℕ) → n ≡ m → nat_eq m n ≡ true
eq-same m n e = grind (arith, common_steps)

eq-false : (m n : ℕ) → nat_eq m n ≡ false → n ≢ m
eq-false m n t same = let clash : true ≡ false = sym (eq-same m n same) ∙ t in cc

-- the counts after a call
pub counted-next : (calls mid calls' : List (ℕ × ℕ)) (h h' : List Event) (e : Event) (number : ℕ) → h' ≡ h ++ e ∷ []
    → ((a : ℕ) → count_of calls a ≡ calls_below h a (length h)) → number ≡ count_of calls e.actor + 1
    → ((a : ℕ) → count_of mid a ≡ count_of calls a) → count_of calls' e.actor ≡ number → ((a : ℕ) → a ≢ e.actor → count_of calls' a ≡ count_of mid a)
    → (a : ℕ) → count_of calls' a ≡ calls_below h' a (length h')
counted-next calls mid calls' h h' e number grown before is same own others a = choice (nat_eq e.actor a) refl
  where
    grown-count : calls_below h' a (length h') ≡ calls_below h a (length h) + one_of a (Some e)
    grown-count = ap (λ x. calls_below x a (length x)) grown ∙ ap (λ n. calls_below (h ++ e ∷ []) a n) (length-next h e) ∙ calls_below-next h e a

    choice : (b : Bool) → nat_eq e.actor a ≡ b → count_of calls' a ≡ calls_below h' a (length h')
    choice true t =
        let here : e.actor ≡ a = eqb-true e.actor a t in
        let one : one_of a (Some e) ≡ 1 = ap (λ b. cond b 1 0) t in
        let left : count_of calls' a ≡ number = ap (λ x. count_of calls' x) (sym here) ∙ own in
        let old : count_of calls e.actor ≡ calls_below h a (length h) = before e.actor ∙ ap (λ x. calls_below h x (length h)) here in
        left ∙ is ∙ ap (λ n. n + 1) old ∙ ap (λ n. calls_below h a (length h) + n) (sym one) ∙ sym grown-count
    choice false t =
        let none : one_of a (Some e) ≡ 0 = ap (λ b. cond b 1 0) t in
        let plus : calls_below h a (length h) ≡ calls_below h a (length h) + 0 = omega arith in
        others a (eq-false e.actor a t) ∙ same a ∙ before a ∙ plus ∙ ap (λ n. calls_below h a (length h) + n) (sym none) ∙ sym grown-count

-- a sum of held numbers, held
pub held-sum : (a b x y : ℕ) → x ≡ held a → y ≡ held b → held (x + y) ≡ held (a + b)
held-sum a b x y e f = ap (λ z. held (z + y)) e ∙ ap (λ z. held (held a + z)) f ∙ whole
  where
    whole : held (held a + held b) ≡ held (a + b)
    whole = omega arith

-- the terms after a call
pub kept-next : (terms : Terms) (h h' : List Event) (marks : List Mark) (e : Event) → h' ≡ h ++ e ∷ [] → KeepsTerms terms h marks
    → e.fate ≡ fate_of terms.faults e.actor (calls_below h e.actor (length h) + 1) → step_fits e.step ≡ true
    → ((line : ℕ × ℕ) → terms.line ≡ Some line → e.reading ≡ held (line_due line (length h) + ahead_at marks (length h)))
    → KeepsTerms terms h' marks
kept-next terms h h' marks e grown before fate fit reading =
    let one : calls_below h e.actor (length h) + 1 ≡ suc (calls_below h e.actor (length h)) = omega arith in
    subst (λ x. KeepsTerms terms x marks) (sym grown) (keeps-next terms h marks e before (fate ∙ ap (λ n. fate_of terms.faults e.actor n) one) fit reading)

-- the marks at a place at or behind a new one
pub ahead_at-more : (marks : List Mark) (m : Mark) (i : ℕ) → m.place ≤ i → ahead_at (marks ++ m ∷ []) i ≡ ahead_at marks i + m.ms
ahead_at-more [] m i low = ap (λ b. cond b m.ms 0 + 0) (le-leb m.place i low) ∙ sums m.ms
  where
    sums : (n : ℕ) → n + 0 ≡ 0 + n
    sums n = omega arith
ahead_at-more (n ∷ marks) m i low =
    ap (λ k. (if nat_le n.place i then n.ms else 0) + k) (ahead_at-more marks m i low) ∙ assoc (if nat_le n.place i then n.ms else 0) (ahead_at marks i) m.ms
  where
    assoc : (a b c : ℕ) → a + (b + c) ≡ a + b + c
    assoc a b c = omega arith

-- a mark at the end
pub marked-next : (marks marks' : List Mark) (m : Mark) (ahead ahead' n : ℕ) → marks' ≡ marks ++ m ∷ [] → m.place ≡ n → ahead' ≡ held (ahead + m.ms)
    → ((i : ℕ) → n ≤ i → ahead ≡ held (ahead_at marks i)) → m.ms < 2 ^ 64 → (i : ℕ) → n ≤ i → ahead' ≡ held (ahead_at marks' i)
marked-next marks marks' m ahead ahead' n grown place moved before fits i low =
    moved ∙ held-sum (ahead_at marks i) m.ms ahead m.ms (before i low) held-ms
    ∙ ap (λ k. held k) (sym (ahead_at-more marks m i (omega arith))) ∙ ap (λ x. held (ahead_at x i)) (sym grown)
  where
    held-ms : m.ms ≡ held m.ms
    held-ms = omega arith

-- a node that has no history yet
pub kept-none : (terms : Terms) (h : List Event) (marks : List Mark) → h ≡ [] → marks ≡ [] → KeepsTerms terms h marks
kept-none terms h marks no-events no-marks =
    subst (λ x. KeepsTerms terms x marks) (sym no-events) (subst (λ x. KeepsTerms terms [] x) (sym no-marks) (keeps-none terms))

-- the clock of an opening leaves room for all events
pub opening-bound : clock_of (2 ^ 43 - 1) + 2 ^ 32 ≤ 2 ^ 63
unfolding clock_of
opening-bound = omega arith

-- the readings after a call that took effect in the history: the one that waited is used
pub reads-next : (due due' : (ℕ → ℕ) → Type 0) (taken : Option ℕ) (h h' : List Event) (marks : List Mark) (e : Event) (raw ahead : ℕ) (f : ℕ → ℕ)
    → h' ≡ h ++ e ∷ [] → ReadsBy due taken h marks f → f (length h) ≡ raw → due' (λ k. f (length h + 1 + k))
    → e.reading ≡ held (raw + ahead) → ahead ≡ held (ahead_at marks (length h)) → raw ≡ held raw
    → ReadsBy due' None h' marks f
reads-next due due' taken h h' marks e raw ahead f grown before first rest reading marked small = record {
  so_far = subst (λ x. AreReadings f x marks) (sym grown) (readings-next f h marks e before.so_far
      (reading ∙ held-sum raw (ahead_at marks (length h)) raw ahead small marked ∙ ap (λ n. held (n + ahead_at marks (length h))) (sym first)));
  next = λ r none. absurd (cc);
  rest = subst due' (λ i. λ k. f (shift k i)) rest;
}
  where
    shift : (k : ℕ) → length h + 1 + k ≡ length h' + 0 + k
    shift k = let e1 : length h' ≡ suc (length h) = ap (λ x. length x) grown ∙ length-next h e in omega arith

-- the reading that is used is the one that was due, and the rest is due behind it
pub due-next : {C : Type 0} (due : C → (ℕ → ℕ) → Type 0) (clock clock' : C) (taken : Option ℕ) (raw n : ℕ) (f : ℕ → ℕ)
    → ((r : ℕ) → taken ≡ Some r → f n ≡ r) → due clock (λ k. f (n + waiting taken + k))
    → ((r : ℕ) → taken ≡ Some r → (raw ≡ r) × (clock' ≡ clock))
    → (taken ≡ None → (g : ℕ → ℕ) → due clock g → ReadsNext g raw (due clock'))
    → (f n ≡ raw) × due clock' (λ k. f (n + 1 + k))
due-next due clock clock' None raw n f next rest again fresh =
    let it = fresh refl (λ k. f (n + 0 + k)) rest in
    (ap f (zero-more n) ∙ it.first, subst (due clock') (λ i. λ k. f (one-more n k i)) it.rest)
  where
    zero-more : (n : ℕ) → n ≡ n + 0 + 0
    zero-more n = omega arith

    one-more : (n k : ℕ) → n + 0 + (k + 1) ≡ n + 1 + k
    one-more n k = omega arith
due-next due clock clock' (Some r) raw n f next rest again fresh =
    let it = again r refl in
    (next r refl ∙ sym it.0, subst (λ x. due x (λ k. f (n + 1 + k))) (sym it.1) rest)

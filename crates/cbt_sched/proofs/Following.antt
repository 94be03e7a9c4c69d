-- Items of an order, as they are followed.
use Rattle.std.proofs.Common.{◌≡◌, ◌≢◌, ℕ, ◌≤◌, ◌⊎◌, ⊎_elim, min, Bool, true, false, List, [], ◌∷◌, ◌++◌, append_assoc, length, Option, Some, None, refl, sym, ap, ◌∙◌, subst, arith, replicate}
use Rattle.std.proofs.lemmas.List.{append-nil}
use Rattle.cbt_model.specs.declared.events.Item.{Item}
use Rattle.cbt_model.specs.declared.events.Item.TheVariants as item
use Rattle.cbt_model.specs.declared.events.Mark.{Mark}
use Rattle.cbt_sched.specs.Driving.{Agrees, Follows, Visits}
use Rattle.cbt_sched.specs.Turns.{AddsMarks, AreAmong, none, taken, missed, after_items, item_calls, item_marks, left_after, marks_of}
use Rattle.cbt_sched.proofs.Agreeing.{visit-agrees, visit-made, visit-within}

among-itself : (marks : List Mark) → AreAmong marks marks
among-itself [] = none
among-itself (m ∷ marks) = taken m marks marks (among-itself marks)

no-more : {X : Type 0} (xs ys : List X) → ys ≡ xs → ys ≡ xs ++ []
no-more xs ys same = same ∙ sym (append-nil xs)

-- no mark is due, and none is added
adds-none : (refused : Bool) (old new : List Mark) → new ≡ old → AddsMarks refused [] old new
adds-none refused old new same = record { added = []; grown = no-more old new same; among = none; all = λ fine. refl }

-- calls of one actor
module _ (actor : ℕ) (refused : Bool) (marks marks' : List Mark) (old new : List ℕ) (asking asking' : ℕ → Bool)
    (others : (b : ℕ) → b ≢ actor → asking' b ≡ asking b)
    (unmarked : marks' ≡ marks) (n : ℕ → ℕ) (agreed : Agrees new asking' n) where
  follows-some : (k : ℕ) → Visits actor (Some k) old new (asking actor) (asking' actor)
      → Follows (item.Calls actor k ∷ []) refused marks marks' old new asking asking' n
  follows-some k visit = record {
    agreed = visit-agrees actor (Some k) old new asking asking' visit others n agreed;
    calls = visit.added ∙ ap (λ j. old ++ replicate j actor) (cut visit.calls (left_after n old actor) (visit.within k refl)
        (visit-within actor (Some k) old new asking asking' visit others n agreed)
        (visit-made actor (Some k) old new asking asking' visit others n agreed));
    marks = adds-none refused marks marks' unmarked;
  }
    where
      cut : (j left : ℕ) → j ≤ k → j ≤ left → (j ≡ left) ⊎ (Some k ≡ Some j) → j ≡ min k left
      cut j left within least made =
          ⊎_elim (λ (all : j ≡ left). omega arith) (λ (full : Some k ≡ Some j). (let same : k ≡ j = cc in omega arith)) made

  follows-each : Visits actor None old new (asking actor) (asking' actor)
      → Follows (item.All actor ∷ []) refused marks marks' old new asking asking' n
  follows-each visit = record {
    agreed = visit-agrees actor None old new asking asking' visit others n agreed;
    calls = visit.added ∙ ap (λ j. old ++ replicate j actor) (⊎_elim (λ (all : visit.calls ≡ left_after n old actor). all)
        (λ (full : None ≡ Some visit.calls). absurd (cc)) (visit-made actor None old new asking asking' visit others n agreed));
    marks = adds-none refused marks marks' unmarked;
  }

  pub follows-calls : (it : Item) (k : ℕ) → it ≡ item.Calls actor k → Visits actor (Some k) old new (asking actor) (asking' actor)
      → Follows (it ∷ []) refused marks marks' old new asking asking' n
  follows-calls it k is visit = subst (λ x. Follows (x ∷ []) refused marks marks' old new asking asking' n) (sym is) (follows-some k visit)

  pub follows-all : (it : Item) → it ≡ item.All actor → Visits actor None old new (asking actor) (asking' actor)
      → Follows (it ∷ []) refused marks marks' old new asking asking' n
  follows-all it is visit = subst (λ x. Follows (x ∷ []) refused marks marks' old new asking asking' n) (sym is) (follows-each visit)

-- the actor of whom an item asks calls, and up to how many, where it says so
abbrev pub asked_of : Item → Option (ℕ × Option ℕ)
asked_of (item.Calls actor k) = Some (actor, Some k)
asked_of (item.All actor) = Some (actor, None)
asked_of (item.Ahead ms) = None

some-same : {X : Type 0} (x y : X) → Some x ≡ Some y → x ≡ y
some-same x y same = cc

pub follows-asked : (it : Item) (asked : ℕ × Option ℕ) → asked_of it ≡ Some asked
    → (refused : Bool) (marks marks' : List Mark) (old new : List ℕ) (asking asking' : ℕ → Bool) → ((b : ℕ) → b ≢ asked.0 → asking' b ≡ asking b)
    → marks' ≡ marks → (n : ℕ → ℕ) → Agrees new asking' n → Visits asked.0 asked.1 old new (asking asked.0) (asking' asked.0)
    → Follows (it ∷ []) refused marks marks' old new asking asking' n
follows-asked (item.Calls actor k) asked is refused marks marks' old new asking asking' others unmarked n agreed visit =
    let same = some-same (actor, Some k) asked is in
    follows-calls asked.0 refused marks marks' old new asking asking' others unmarked n agreed (item.Calls actor k) k
    (ap (λ p. item.Calls p.0 k) same)
    (subst (λ limit. Visits asked.0 limit old new (asking asked.0) (asking' asked.0)) (sym (ap (λ p. p.1) same)) visit)
follows-asked (item.All actor) asked is refused marks marks' old new asking asking' others unmarked n agreed visit =
    let same = some-same (actor, None) asked is in
    follows-all asked.0 refused marks marks' old new asking asking' others unmarked n agreed (item.All actor) (ap (λ p. item.All p.0) same)
    (subst (λ limit. Visits asked.0 limit old new (asking asked.0) (asking' asked.0)) (sym (ap (λ p. p.1) same)) visit)
follows-asked (item.Ahead ms) asked is refused marks marks' old new asking asking' others unmarked n agreed visit = absurd (cc)

-- the clock was moved ahead
module _ (it : Item) (ms : ℕ) (is : it ≡ item.Ahead ms) (marks marks' : List Mark)
    (old new : List ℕ) (same : new ≡ old) (asking : ℕ → Bool) (n : ℕ → ℕ) (agreed : Agrees new asking n) where
  due-one : marks_of n (it ∷ []) old ≡ record { place = length old; ms = ms } ∷ []
  due-one = ap (λ x. marks_of n (x ∷ []) old) is

  no-calls : new ≡ after_items n (it ∷ []) old
  no-calls = same ∙ sym (append-nil old) ∙ sym (ap (λ x. after_items n (x ∷ []) old) is)

  follows-marked : (refused : Bool) → AddsMarks refused (record { place = length old; ms = ms } ∷ []) marks marks'
      → Follows (it ∷ []) refused marks marks' old new asking asking n
  follows-marked refused adds = record {
    agreed = subst (λ calls. Agrees calls asking n) same agreed;
    calls = no-calls;
    marks = subst (λ due. AddsMarks refused due marks marks') (sym due-one) adds;
  }

  pub follows-ahead : (refused : Bool) (place : ℕ) → place ≡ length old → marks' ≡ marks ++ record { place = place; ms = ms } ∷ []
      → Follows (it ∷ []) refused marks marks' old new asking asking n
  follows-ahead refused place at marked = follows-marked refused (record {
    added = record { place = length old; ms = ms } ∷ [];
    grown = marked ∙ ap (λ p. marks ++ record { place = p; ms = ms } ∷ []) at;
    among = among-itself (record { place = length old; ms = ms } ∷ []);
    all = λ fine. refl;
  })

  -- or there was no memory for its mark
  pub follows-missed : marks' ≡ marks → Follows (it ∷ []) true marks marks' old new asking asking n
  follows-missed unmarked = follows-marked true (record {
    added = [];
    grown = no-more marks marks' unmarked;
    among = missed (record { place = length old; ms = ms }) [] [] none;
    all = λ fine. absurd (cc);
  })

-- no item was followed yet
pub follows-none : (refused : Bool) (marks : List Mark) (calls : List ℕ) (asking : ℕ → Bool) (n : ℕ → ℕ) → Agrees calls asking n
    → Follows [] refused marks marks calls calls asking asking n
follows-none refused marks calls asking n agreed = record { agreed = agreed; calls = refl; marks = adds-none refused marks marks refl }

-- items one after another
after_items-append : (n : ℕ → ℕ) (xs ys : List Item) (calls : List ℕ) → after_items n (xs ++ ys) calls ≡ after_items n ys (after_items n xs calls)
after_items-append n [] ys calls = refl
after_items-append n (x ∷ xs) ys calls = after_items-append n xs ys (calls ++ item_calls (left_after n calls) x)

marks_of-append : (n : ℕ → ℕ) (xs ys : List Item) (calls : List ℕ)
    → marks_of n (xs ++ ys) calls ≡ marks_of n xs calls ++ marks_of n ys (after_items n xs calls)
marks_of-append n [] ys calls = refl
marks_of-append n (x ∷ xs) ys calls =
    ap (λ ms. item_marks (length calls) x ++ ms) (marks_of-append n xs ys (calls ++ item_calls (left_after n calls) x))
    ∙ sym (append_assoc (item_marks (length calls) x) (marks_of n xs (calls ++ item_calls (left_after n calls) x)) _)

among-append : (some all : List Mark) → AreAmong some all → (some' all' : List Mark) → AreAmong some' all' → AreAmong (some ++ some') (all ++ all')
among-append _ _ none some' all' more = more
among-append _ _ (taken m some all rest) some' all' more = taken m (some ++ some') (all ++ all') (among-append some all rest some' all' more)
among-append _ _ (missed m some all rest) some' all' more = missed m (some ++ some') (all ++ all') (among-append some all rest some' all' more)

pub adds-further : (refused refused' : Bool) (due due' old mid new : List Mark) → (refused' ≡ false → refused ≡ false)
    → AddsMarks refused due old mid → AddsMarks refused' due' mid new → AddsMarks refused' (due ++ due') old new
adds-further refused refused' due due' old mid new sticky first then = record {
  added = first.added ++ then.added;
  grown = then.grown ∙ ap (λ ms. ms ++ then.added) first.grown ∙ append_assoc old first.added then.added;
  among = among-append first.added due first.among then.added due' then.among;
  all = λ fine. ap (λ ms. ms ++ then.added) (first.all (sticky fine)) ∙ ap (λ ms. due ++ ms) (then.all fine);
}

pub follows-further : (xs ys : List Item) (refused refused' : Bool) (m0 m1 m2 : List Mark)
    (old mid new : List ℕ) (before between after : ℕ → Bool) (n : ℕ → ℕ)
    → (refused' ≡ false → refused ≡ false) → Follows xs refused m0 m1 old mid before between n → Follows ys refused' m1 m2 mid new between after n
    → Follows (xs ++ ys) refused' m0 m2 old new before after n
follows-further xs ys refused refused' m0 m1 m2 old mid new before between after n sticky first then = record {
  agreed = first.agreed;
  calls = then.calls ∙ ap (after_items n ys) first.calls ∙ sym (after_items-append n xs ys old);
  marks = subst (λ due. AddsMarks refused' due m0 m2)
      (sym (marks_of-append n xs ys old ∙ ap (λ calls. marks_of n xs old ++ marks_of n ys calls) (sym first.calls)))
      (adds-further refused refused' (marks_of n xs old) (marks_of n ys mid) m0 m1 m2 sticky first.marks then.marks);
}

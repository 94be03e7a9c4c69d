-- Lists of documents against the writes of an own list, and what is so of each event.
use Rattle.std.proofs.Common.{◌≡◌, ◌≢◌, ℕ, zero, suc, true, false, ◌==◌, inl, inr, List, [], ◌∷◌, Option, Some, None, refl, sym, ◌∙◌, subst, slice_get, arith, ◌⊎◌, ap, Bool, cond}
use Rattle.std.proofs.lemmas.Grind.{common_steps}
use Rattle.std.specs.List.{list_any}
use Rattle.std.specs.Ordering.{is_eq}
use Rattle.std.specs.Prelude.{◌↔◌, option_and_then}
use Rattle.cbt_base.specs.Keyed.{at_key}
use Rattle.cbt_expr.specs.declared.plans.ClientPlan.{ClientPlan}
use Rattle.cbt_expr.specs.declared.plans.TxnPlan.{TxnPlan}
use Rattle.cbt_model.proofs.Orders.{id_order, key_cases}
use Rattle.cbt_model.specs.History.{own, own_more, is_done}
use Rattle.cbt_model.specs.Keys.{doc_cmp}
use Rattle.cbt_model.specs.declared.documents.DocState.{DocState}
use Rattle.cbt_model.specs.declared.documents.OpKind.TheVariants.{Insert, Replace, Remove}
use Rattle.cbt_model.specs.declared.documents.OpKind.{OpKind}
use Rattle.cbt_model.specs.declared.documents.Stage.{Stage}
use Rattle.cbt_model.specs.declared.entries.Lists.{Lists}
use Rattle.cbt_model.specs.declared.events.Event.{Event}
use Rattle.cbt_model.specs.declared.events.Made.{Made}
use Rattle.cbt_model.specs.declared.states.State.{State}
use Rattle.cbt_model.specs.declared.steps.Expect.{Expect}
use Rattle.cbt_model.specs.declared.steps.Step.TheVariants as step
use Rattle.cbt_model.specs.declared.steps.Step.{Step}
use Rattle.cbt_book.specs.Licence.{WritesFor, StagesFor, MayHaveStaged, listed, IsListed}
use Rattle.cbt_book.specs.OwnLists.{Once, Kept, Each, In}
use Rattle.cbt_core.specs.WriteSets.{numbered, plan_at}
use Rattle.cbt_rows.proofs.Never.{no_bool, is_failed, stages_any, never}

infixr 3 ◌▸◌
-- what is so of the first, and of the rest
pub ◌▸◌ : {A B : Type 0} → A → B → A × B
x ▸ y = (x, y)

infixr 3 ◌▹◌
-- not so of the newest, and so before
pub ◌▹◌ : {A B C : Type 0} → A → B → C ⊎ (A × B)
x ▹ y = inr (x, y)

-- by whether a number is this one
pub by_number : (P : ℕ → Type 0) (k : ℕ) → P k → (actor : ℕ) → (actor ≢ k → P actor) → P actor
by_number P k here actor other = elim (key_cases id_order actor k) [ inl h ↦ subst P (sym h.1) here | inr h ↦ other h.1 ]

-- P is so of each of a list, with its number
abbrev pub AllCounted : {X : Type 0} → (ℕ → X → Type 0) → ℕ → List X → Type 0
AllCounted P i [] = Unit {0}
AllCounted P i (x ∷ xs) = P i x × AllCounted P (suc i) xs

-- P is so of each of a list
abbrev pub AllIn : {X : Type 0} → (X → Type 0) → List X → Type 0
AllIn P [] = Unit {0}
AllIn P (x ∷ xs) = P x × AllIn P xs

pub all_in : {X : Type 0} (P : X → Type 0) (xs : List X) → AllIn P xs → (x : X) → In x xs → P x
all_in P [] all x h = absurd h
all_in P (y ∷ ys) all x (inl e) = subst P (sym e) all.0
all_in P (y ∷ ys) all x (inr h) = all_in P ys all.1 x h

-- P is so of each document of the lists, under its kind
abbrev pub AllNamed : (OpKind → List ℕ → Type 0) → Lists → Type 0
AllNamed P lists = AllIn (P Insert) lists.ins × AllIn (P Replace) lists.rep × AllIn (P Remove) lists.rem

pub all_named : (P : OpKind → List ℕ → Type 0) (lists : Lists) → AllNamed P lists → (k : OpKind) (d : List ℕ) → In d (listed k lists) → P k d
all_named P lists all Insert d h = all_in (P Insert) lists.ins all.0 d h
all_named P lists all Replace d h = all_in (P Replace) lists.rep all.1 d h
all_named P lists all Remove d h = all_in (P Remove) lists.rem all.2 d h

pub all_listed : (P : List ℕ → Type 0) (lists : Lists) → AllNamed (λ k d. P d) lists → (d : List ℕ) → IsListed d lists → P d
all_listed P lists all d (k, h) = all_named (λ k d. P d) lists all k d h

-- a staging of attempt a is listed under its kind
abbrev pub IsNamed : ℕ → Lists → Step → Type 0
IsNamed a lists (step.Stage d e stage) = stage.attempt ≡ a → In d (listed stage.kind lists)
IsNamed a lists _ = Unit {0}

named-here : (a : ℕ) (lists : Lists) (k : OpKind) (d : List ℕ) (m : Made) → IsNamed a lists m.step → StagesFor a k d m → In d (listed k lists)
named-here a lists k d m is (e, stage, at, of, kind) =
    subst (λ q. In d (listed q lists)) kind (let h : IsNamed a lists (step.Stage d e stage) = subst (IsNamed a lists) at is in h of)

pub named-kept : (a : ℕ) (lists : Lists) (l : List Made) → Each (λ m _. IsNamed a lists m.step) l
    → (k : OpKind) (d : List ℕ) → Kept (λ m _. StagesFor a k d m) (WritesFor a d) l → In d (listed k lists)
named-kept a lists [] all k d h = absurd h
named-kept a lists (m ∷ past) all k d (inl here) = named-here a lists k d m all.0 here
named-kept a lists (m ∷ past) all k d (inr before) = named-kept a lists past all.1 k d before.1

-- the lists name exactly what was staged last
pub named : (a : ℕ) (lists : Lists) (l : List Made) → AllNamed (λ k d. Kept (λ m _. StagesFor a k d m) (WritesFor a d) l) lists
    → Each (λ m _. IsNamed a lists m.step) l → (k : OpKind) (d : List ℕ) → In d (listed k lists) ↔ Kept (λ m _. StagesFor a k d m) (WritesFor a d) l
named a lists l forth back k d = (all_named (λ k d. Kept (λ m _. StagesFor a k d m) (WritesFor a d) l) lists forth k d, named-kept a lists l back k d)

-- a staging that may be in its document is listed
abbrev pub IsNamedOrRefused : ℕ → Lists → Made → Type 0
IsNamedOrRefused a lists m = IsNamed a lists m.step ⊎ ((is_done m.answer.reply ≡ false) × (is_failed m.answer.reply ≡ false))

named-maybe : (a : ℕ) (lists : Lists) (d : List ℕ) (m : Made) → IsNamedOrRefused a lists m → MayHaveStaged a d m → IsListed d lists
named-maybe a lists d m (inl is) ((k, here), may) = (k, named-here a lists k d m is here)
named-maybe a lists d m (inr refused) (here, inl is) = absurd (no_bool (sym is ∙ refused.0))
named-maybe a lists d m (inr refused) (here, inr is) = absurd (no_bool (sym (ap is_failed is) ∙ refused.1))

pub named-abort : (a : ℕ) (lists : Lists) (U : List ℕ → Made → List Made → Type 0) (l : List Made) → Each (λ m _. IsNamedOrRefused a lists m) l
    → (d : List ℕ) → Kept (λ m _. MayHaveStaged a d m) (U d) l → IsListed d lists
named-abort a lists U [] all d h = absurd h
named-abort a lists U (m ∷ past) all d (inl here) = named-maybe a lists d m all.0 here
named-abort a lists U (m ∷ past) all d (inr before) = named-abort a lists U past all.1 d before.1

nothing_named : (k : OpKind) (d : List ℕ) → In d (listed k (record { ins = []; rep = []; rem = [] })) → ⊥
nothing_named Insert d h = h
nothing_named Replace d h = h
nothing_named Remove d h = h

-- what was staged and then taken back is not listed, where nothing else was staged before
pub taken_back : (a : ℕ) (d : List ℕ) (unstick staging : Made) (past : List Made) (stage : Stage) (e : Expect) → staging.step ≡ step.Stage d e stage → stage.attempt ≡ a
    → list_any (λ m. stages_any m.step) past ≡ false → WritesFor a d unstick (staging ∷ past) → stages_any unstick.step ≡ false → (k : OpKind) (q : List ℕ)
    → In q (listed k (record { ins = []; rep = []; rem = [] })) ↔ Kept (λ m _. StagesFor a k q m) (WritesFor a q) (unstick ∷ staging ∷ past)
taken_back a d unstick staging past stage e is of none back quiet k q = ((λ h. absurd (nothing_named k q h)), kept)
  where
    stage_doc : Step → Option (List ℕ)
    stage_doc (step.Stage d e stage) = Some d
    stage_doc _ = None

    same-doc : {d q : List ℕ} {e f : Expect} {s t : Stage} → step.Stage d e s ≡ step.Stage q f t → d ≡ q
    same-doc e = cc

    any : (m : Made) → StagesFor a k q m → stages_any m.step ≡ true
    any m (f, s, at, of, kind) = ap stages_any at

    once-kept : (l : List Made) → Kept (λ m _. StagesFor a k q m) (WritesFor a q) l → Once (λ m _. StagesFor a k q m) l
    once-kept [] h = h
    once-kept (m ∷ l) (inl h) = inl h
    once-kept (m ∷ l) (inr h) = inr (once-kept l h.1)

    kept : Kept (λ m _. StagesFor a k q m) (WritesFor a q) (unstick ∷ staging ∷ past) → In q (listed k (record { ins = []; rep = []; rem = [] }))
    kept (inl here) = absurd (no_bool (sym (any unstick here) ∙ quiet))
    kept (inr (fine, inl (f, s, at, of, kind))) = absurd (fine (subst (λ x. WritesFor a x unstick (staging ∷ past)) (same-doc (sym is ∙ at)) back))
    kept (inr (fine, inr h)) = absurd (never (λ m _. StagesFor a k q m) (λ m. stages_any m.step) (λ m before. any m) past none (once-kept past h.1))

-- P is so of each event, from this place on
abbrev pub AllFrom : (ℕ → Event → Type 0) → ℕ → List Event → Type 0
AllFrom P i [] = Unit {0}
AllFrom P i (e ∷ es) = P i e × AllFrom P (suc i) es

some-same : {A : Type 0} {x y : A} → Some x ≡ Some y → x ≡ y
some-same e = cc

pub nothing : {A : Type 0} {x : A} → None ≡ Some x → ⊥
nothing e = cc

pub all_from : (P : ℕ → Event → Type 0) (h : List Event) → AllFrom P 0 h → (i : ℕ) (e : Event) → slice_get h i ≡ Some e → P i e
all_from P [] all i e is = absurd (nothing is)
all_from P (x ∷ xs) all zero e is = subst (P 0) (some-same is) all.0
all_from P (x ∷ xs) all (suc i) e is = all_from (λ j. P (suc j)) xs (shift P 0 xs all.1) i e is
  where
    shift : (P : ℕ → Event → Type 0) (i : ℕ) (xs : List Event) → AllFrom P (suc i) xs → AllFrom (λ j. P (suc j)) i xs
    shift P i [] all = tt
    shift P i (x ∷ xs) all = (all.0, shift P (suc i) xs all.1)

-- an actor without events has made nothing
pub own-none : (s0 : State) (h : List Event) (actor : ℕ) → ((i : ℕ) (e : Event) → slice_get h i ≡ Some e → (e.actor == actor) ≡ false) → (i : ℕ) → own s0 h actor i ≡ []
own-none s0 h actor none zero = refl
own-none s0 h actor none (suc i) = go (slice_get h i) refl ∙ own-none s0 h actor none i
  where
    go : (o : Option Event) → slice_get h i ≡ o → own_more s0 h actor i o (own s0 h actor i) ≡ own s0 h actor i
    go None at = refl
    go (Some e) at = rw (none i e at) refl

-- P is so of the n-th of a list
pub all_numbered : {X : Type 0} (P : ℕ → X → Type 0) (xs : List X) → AllCounted P 1 xs → (i : ℕ) (x : X) → numbered xs i ≡ Some x → P i x
all_numbered P xs all zero x is = absurd (nothing is)
all_numbered P xs all (suc i) x is = go P xs i (all) is
  where
    shift : {X : Type 0} (P : ℕ → X → Type 0) (i : ℕ) (xs : List X) → AllCounted P (suc i) xs → AllCounted (λ j. P (suc j)) i xs
    shift P i [] all = tt
    shift P i (x ∷ xs) all = (all.0, shift P (suc i) xs all.1)

    go : {X : Type 0} (P : ℕ → X → Type 0) (xs : List X) (i : ℕ) {x : X} → AllCounted P 1 xs → slice_get xs i ≡ Some x → P (suc i) x
    go P [] i all is = absurd (nothing is)
    go P (y ∷ ys) zero all is = subst (P 1) (some-same is) all.0
    go P (y ∷ ys) (suc i) all is = go (λ j. P (suc j)) ys i (shift P 1 ys all.1) is

-- P is so of each two with the same number
abbrev pub AllBoth : {X Y : Type 0} → (ℕ → X → Y → Type 0) → ℕ → List X → List Y → Type 0
AllBoth P i (x ∷ xs) (y ∷ ys) = P i x y × AllBoth P (suc i) xs ys
AllBoth P i _ _ = Unit {0}

pub both_numbered : {X Y : Type 0} (P : ℕ → X → Y → Type 0) (xs : List X) (ys : List Y) → AllBoth P 1 xs ys
    → (i : ℕ) (x : X) (y : Y) → numbered xs i ≡ Some x → numbered ys i ≡ Some y → P i x y
both_numbered P xs ys all zero x y is at = absurd (nothing is)
both_numbered P xs ys all (suc i) x y is at = go P xs ys i all is at
  where
    shift : {X Y : Type 0} (P : ℕ → X → Y → Type 0) (i : ℕ) (xs : List X) (ys : List Y) → AllBoth P (suc i) xs ys → AllBoth (λ j. P (suc j)) i xs ys
    shift P i [] ys all = tt
    shift P i (x ∷ xs) [] all = tt
    shift P i (x ∷ xs) (y ∷ ys) all = (all.0, shift P (suc i) xs ys all.1)

    go : {X Y : Type 0} (P : ℕ → X → Y → Type 0) (xs : List X) (ys : List Y) (i : ℕ) {x : X} {y : Y} → AllBoth P 1 xs ys
        → slice_get xs i ≡ Some x → slice_get ys i ≡ Some y → P (suc i) x y
    go P [] ys i all is at = absurd (nothing is)
    go P (x ∷ xs) [] i all is at = absurd (nothing at)
    go P (x ∷ xs) (y ∷ ys) zero {x = v} {y = w} all is at = subst (λ q. P 1 q w) (some-same is) (subst (P 1 x) (some-same at) all.0)
    go P (x ∷ xs) (y ∷ ys) (suc i) all is at = go (λ j. P (suc j)) xs ys i (shift P 1 xs ys all.1) is at

-- P is so of each transaction's plan
pub all_planned : (P : TxnPlan → Type 0) (plans : List ClientPlan) → AllIn (λ c. AllIn P c.txns) plans → (n k : ℕ) (plan : TxnPlan) → plan_at plans n k ≡ Some plan → P plan
all_planned P plans all n k plan is = go (numbered plans n) refl is
  where
    there : {X : Type 0} (Q : X → Type 0) (xs : List X) → AllIn Q xs → (i : ℕ) (x : X) → numbered xs i ≡ Some x → Q x
    there Q xs all zero x is = absurd (nothing is)
    there Q [] all (suc i) x is = absurd (nothing is)
    there Q (y ∷ ys) all (suc zero) x is = subst Q (some-same is) all.0
    there Q (y ∷ ys) all (suc (suc i)) x is = there Q ys all.1 (suc i) x is

    go : (o : Option ClientPlan) → numbered plans n ≡ o → option_and_then (λ p. numbered p.txns k) o ≡ Some plan → P plan
    go None at is = absurd (nothing is)
    go (Some c) at is = there P c.txns (there (λ c. AllIn P c.txns) plans all n c at) k plan is

-- there is one value
pub one_value : {X : Type 0} (P : X → Type 0) (x : X) → P x → (y : X) → Some x ≡ Some y → P y
one_value P x is y e = subst P (some-same e) is

same-number : (a : ℕ) → (a == a) ≡ true
same-number a = grind (arith, common_steps)

-- another number
pub not_me : (k actor : ℕ) → actor ≢ k → (k == actor) ≡ false
not_me k actor ne = grind (arith, common_steps)

-- what is so of each document of a list is so of what is found in it
pub found-all : (P : DocState → Type 0) (docs : List (List ℕ × DocState)) → AllIn (λ e. P e.1) docs → (d : List ℕ) (x : DocState) → at_key doc_cmp docs d ≡ Some x → P x
found-all P [] all d x is = absurd (nothing is)
found-all P (e ∷ docs) all d x is = go (is_eq (doc_cmp d e.0)) is (λ rest. found-all P docs all.1 d x rest)
  where
    go : (b : Bool) → cond b (Some e.1) (at_key doc_cmp docs d) ≡ Some x → (at_key doc_cmp docs d ≡ Some x → P x) → P x
    go true here later = subst P (some-same here) all.0
    go false there later = later there

-- The numbers of a client's attempts: calls of earlier tries and transactions do not name a later one.
use Rattle.std.proofs.Common.{◌≡◌, ◌≢◌, ℕ, suc, ◌<◌, ◌≤◌, ◌^◌, ◌⊎◌, inl, inr, ⊎_elim, List, [], ◌∷◌, Some, refl, sym, ap, ◌∙◌, subst, arith}
use Rattle.std.proofs.lemmas.Option.{none-some}
use Rattle.cbt_base.specs.Ids.{attempt_number}
use Rattle.cbt_model.specs.declared.documents.OpKind.{OpKind}
use Rattle.cbt_model.specs.declared.events.Answer.{Answer}
use Rattle.cbt_model.specs.declared.events.Made.{Made}
use Rattle.cbt_model.specs.declared.steps.Step.{Step}
use Rattle.cbt_model.specs.declared.steps.Step.TheVariants as step
use Rattle.cbt_book.specs.Licence.{StagesFor}
use Rattle.cbt_book.specs.Numbers.{Identity, txn_of, try_of}
use Rattle.cbt_book.specs.OwnLists.{Each, Once}
use Rattle.cbt_book.specs.Shown.{adds, decides}
use Rattle.cbt_core.proofs.logs.Find.{decodes}
use Rattle.cbt_logs.proofs.Lists.{each_more}
use Rattle.cbt_txn.specs.Closings.{IsNewTo, NamesOnly}
use Rattle.cbt_txn.specs.Transactions.{AreEarlier, IsEarlier}

-- an earlier try, or a try of an earlier transaction, has another number
earlier_differs : (client txn try_no n k : ℕ) → txn < 2 ^ 16 → try_no < 2 ^ 32 → n < 2 ^ 16 → k < 2 ^ 32 → (txn < n) ⊎ ((txn ≡ n) × (try_no < k))
    → attempt_number client txn try_no ≢ attempt_number client n k
earlier_differs client txn try_no n k txn_small try_small n_small k_small earlier same =
    let one = decodes client txn try_no txn_small try_small in
    let two = decodes client n k n_small k_small in
    let same_txn : txn ≡ n = sym one.txn_is ∙ ap txn_of same ∙ two.txn_is in
    let same_try : try_no ≡ k = sym one.try_is ∙ ap try_of same ∙ two.try_is in
    ⊎_elim (λ (lower : txn < n). omega arith) (λ (lower : (txn ≡ n) × (try_no < k)). omega (arith, lower.1)) earlier

some_same : {x y : ℕ} → Some x ≡ Some y → x ≡ y
some_same both = cc

-- what a step that names one attempt adds or decides is that one's
adds_only : (a b : ℕ) (s : Step) → NamesOnly a s → adds s ≡ Some b → b ≡ a
adds_only a b (step.AddEntry r c exp) names is = some_same (sym is) ∙ names
adds_only a b (step.ReadDoc d) names is = absurd (none-some b is)
adds_only a b (step.Stage d e stage) names is = absurd (none-some b is)
adds_only a b (step.Unstick d x) names is = absurd (none-some b is)
adds_only a b (step.Publish d x body) names is = absurd (none-some b is)
adds_only a b (step.Delete d x) names is = absurd (none-some b is)
adds_only a b (step.ReadEntry r c) names is = absurd (none-some b is)
adds_only a b (step.Commit r c lists) names is = absurd (none-some b is)
adds_only a b (step.Abort r c lists) names is = absurd (none-some b is)
adds_only a b (step.DropEntry r c guarded) names is = absurd (none-some b is)
adds_only a b (step.ReadAtr r) names is = absurd (none-some b is)
adds_only a b step.ReadClients names is = absurd (none-some b is)
adds_only a b (step.Beat me expires num_atrs gone) names is = absurd (none-some b is)

decides_only : (a b : ℕ) (s : Step) → NamesOnly a s → decides s ≡ Some b → b ≡ a
decides_only a b (step.Commit r c lists) names is = some_same (sym is) ∙ names
decides_only a b (step.Abort r c lists) names is = some_same (sym is) ∙ names
decides_only a b (step.AddEntry r c exp) names is = absurd (none-some b is)
decides_only a b (step.ReadDoc d) names is = absurd (none-some b is)
decides_only a b (step.Stage d e stage) names is = absurd (none-some b is)
decides_only a b (step.Unstick d x) names is = absurd (none-some b is)
decides_only a b (step.Publish d x body) names is = absurd (none-some b is)
decides_only a b (step.Delete d x) names is = absurd (none-some b is)
decides_only a b (step.ReadEntry r c) names is = absurd (none-some b is)
decides_only a b (step.DropEntry r c guarded) names is = absurd (none-some b is)
decides_only a b (step.ReadAtr r) names is = absurd (none-some b is)
decides_only a b step.ReadClients names is = absurd (none-some b is)
decides_only a b (step.Beat me expires num_atrs gone) names is = absurd (none-some b is)

-- and so is what it stages
stages_only : (a b : ℕ) (k : OpKind) (d : List ℕ) (m : Made) → NamesOnly a m.step → StagesFor b k d m → b ≡ a
stages_only a b k d m names staged = sym staged.3 ∙ subst (λ s. NamesOnly a s) staged.2 names

-- what is so of no call of a list
never : (P : Made → Type 0) (l : List Made) → Each (λ m _. ¬ P m) l → ¬ Once (λ m _. P m) l
never P [] none once = once
never P (m ∷ l) none once = ⊎_elim none.0 (never P l none.1) once

-- the calls of earlier tries and transactions do not name this try
pub is_new_to : (who : Identity) (client n k : ℕ) (l : List Made) → who.number ≡ client → client < 2 ^ 32 → n < 2 ^ 16 → k < 2 ^ 32
    → AreEarlier client n k l → IsNewTo who (attempt_number client n k) l
is_new_to who client n k l is client_small n_small k_small earlier = record {
  own = (decodes client n k n_small k_small).client_is ∙ sym is;
  unsent = never (λ m. adds m.step ≡ Some this) l
      (each_more Before (λ m. adds m.step ≢ Some this) l (λ m it adding. other m it (adds_only (of m it) this m.step it.names adding)) earlier);
  unstaged = never (λ m. (kind : OpKind) × (d : List ℕ) × StagesFor this kind d m) l
      (each_more Before (λ m. ¬ ((kind : OpKind) × (d : List ℕ) × StagesFor this kind d m)) l
      (λ m it staging. other m it (stages_only (of m it) this staging.0 staging.1 m it.names staging.2)) earlier);
  undecided = never (λ m. decides m.step ≡ Some this) l
      (each_more Before (λ m. decides m.step ≢ Some this) l (λ m it deciding. other m it (decides_only (of m it) this m.step it.names deciding)) earlier);
}
  where
    this : ℕ
    this = attempt_number client n k

    Before : Made → Type 0
    Before m = IsEarlier client n k m.step

    of : (m : Made) → Before m → ℕ
    of m it = attempt_number client it.txn it.try_of

    other : (m : Made) (it : Before m) → this ≢ of m it
    other m it same = earlier_differs client it.txn it.try_of n k it.small.0 it.small.1 n_small k_small it.earlier (sym same)

-- what comes before a try comes before each later one
pub earlier_try : (client n k j : ℕ) (l : List Made) → AreEarlier client n k l → k ≤ j → AreEarlier client n j l
earlier_try client n k j l earlier later =
    each_more (λ m. IsEarlier client n k m.step) (λ m. IsEarlier client n j m.step) l
    (λ m it. record {
      txn = it.txn;
      try_of = it.try_of;
      names = it.names;
      small = it.small;
      earlier = ⊎_elim (λ (lower : it.txn < n). inl lower) (λ (lower : (it.txn ≡ n) × (it.try_of < k)). inr (lower.0, omega (arith, lower.1))) it.earlier;
    }) earlier

-- and before each try of the next transaction
pub earlier_txn : (client n k j : ℕ) (l : List Made) → AreEarlier client n k l → AreEarlier client (suc n) j l
earlier_txn client n k j l earlier =
    each_more (λ m. IsEarlier client n k m.step) (λ m. IsEarlier client (suc n) j m.step) l
    (λ m it. record {
      txn = it.txn;
      try_of = it.try_of;
      names = it.names;
      small = it.small;
      earlier = inl (⊎_elim (λ (lower : it.txn < n). omega arith) (λ (lower : (it.txn ≡ n) × (it.try_of < k)). omega (arith, lower.0)) it.earlier);
    }) earlier

-- a call that names this try is one more of those before the next
pub earlier_on : (client n k : ℕ) (l : List Made) (s : Step) (answer : Answer) → n < 2 ^ 16 → k < 2 ^ 32 → NamesOnly (attempt_number client n k) s
    → AreEarlier client n (suc k) l → AreEarlier client n (suc k) (record { step = s; answer = answer } ∷ l)
earlier_on client n k l s answer n_small k_small names earlier =
    (record { txn = n; try_of = k; names = names; small = (n_small, k_small); earlier = inr (refl, omega arith) }, earlier)

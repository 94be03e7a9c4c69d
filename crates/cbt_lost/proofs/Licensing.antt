-- Each call that a cleaner asks for is a cleaner's, and licensed by its whole own list.
use Rattle.std.proofs.Common.{◌≡◌, ℕ, ◌<◌, ◌≤◌, nat_le, nat_lt, inl, if◌then◌else◌, Bool, true, false, List, ◌++◌, append_assoc, length, Option, Some, None, refl, sym, ap, ◌∙◌, subst, arith}
use Rattle.std.proofs.lemmas.Grind.{common_steps}
use Rattle.std.specs.List.Sorted.{IsStrictlyIncreasing}
use Rattle.cbt_model.specs.declared.entries.ClientRow.{ClientRow}
use Rattle.cbt_model.specs.declared.events.Made.{Made}
use Rattle.cbt_model.specs.declared.steps.Reply.TheVariants as reply
use Rattle.cbt_model.specs.declared.steps.Step.{Step}
use Rattle.cbt_model.specs.declared.steps.Step.TheVariants as step
use Rattle.cbt_book.specs.Licence.{MayBeat, MayTake}
use Rattle.cbt_book.specs.Numbers.{Identity}
use Rattle.cbt_book.specs.OwnLists.{Each, In, Once}
use Rattle.cbt_book.specs.Shares.{inactive}
use Rattle.cbt_book.specs.Shown.{adds, decides}
use Rattle.cbt_clean.proofs.Cleaning.{asked_cleans}
use Rattle.cbt_clean.proofs.Licensed.{licensed}
use Rattle.cbt_clean.specs.Ready.{cleans}
use Rattle.cbt_lost.specs.Cleaning.{is_cleaners, step_now, IsUnderWay, StandsFor}
use Rattle.cbt_lost.specs.Rounds.{beat_step, plan_of, round_step, work_step, ComesTo}
use Rattle.cbt_lost.specs.Tours.{GoesWith, step_in}
use Rattle.cbt_lost.specs.declared.cleaners.Cleaner.{Cleaner}
use Rattle.cbt_lost.specs.declared.rounds.Terms.{Terms}
use Rattle.cbt_lost.specs.declared.rounds.Work.{Work}
use Rattle.cbt_lost.specs.declared.rounds.Work.TheVariants.{Reading, Beating, Touring, Over}
use Rattle.cbt_lost.specs.declared.tours.Under.{Under}
use Rattle.cbt_lost.proofs.Inactive.{in_take, rising}
use Rattle.cbt_lost.proofs.Lists.{each_back, each_more}

some_same : {a b : Step} → Some a ≡ Some b → a ≡ b
some_same is = cc

-- ---- the calls of a cleaner

pub adds_none : (s : Step) → is_cleaners s ≡ true → adds s ≡ None
adds_none step.ReadClients is = refl
adds_none (step.Beat me expires num_atrs gone) is = refl
adds_none (step.ReadDoc d) is = refl
adds_none (step.Stage d e stage) is = refl
adds_none (step.Publish d x body) is = refl
adds_none (step.Delete d x) is = refl
adds_none (step.Unstick d x) is = refl
adds_none (step.ReadEntry r a) is = refl
adds_none (step.AddEntry r a exp) is = cc
adds_none (step.Commit r a lists) is = cc
adds_none (step.Abort r a lists) is = cc
adds_none (step.DropEntry r a guarded) is = refl
adds_none (step.ReadAtr r) is = refl

decides_none : (s : Step) → is_cleaners s ≡ true → decides s ≡ None
decides_none step.ReadClients is = refl
decides_none (step.Beat me expires num_atrs gone) is = refl
decides_none (step.ReadDoc d) is = refl
decides_none (step.Stage d e stage) is = refl
decides_none (step.Publish d x body) is = refl
decides_none (step.Delete d x) is = refl
decides_none (step.Unstick d x) is = refl
decides_none (step.ReadEntry r a) is = refl
decides_none (step.AddEntry r a exp) is = cc
decides_none (step.Commit r a lists) is = cc
decides_none (step.Abort r a lists) is = cc
decides_none (step.DropEntry r a guarded) is = refl
decides_none (step.ReadAtr r) is = refl

cleans_is : (s : Step) → cleans s ≡ true → is_cleaners s ≡ true
cleans_is (step.ReadDoc d) is = refl
cleans_is (step.Publish d x body) is = refl
cleans_is (step.Delete d x) is = refl
cleans_is (step.Unstick d x) is = refl
cleans_is (step.ReadEntry r a) is = refl
cleans_is (step.DropEntry r a guarded) is = refl
cleans_is (step.ReadAtr r) is = refl
cleans_is _ is = cc

-- the row that is asked for, which removes few others
beat_asked : (terms : Terms) (gone : List ℕ) (s : Step) → beat_step terms gone ≡ Some s → (s ≡ step.Beat terms.id terms.lapse terms.atrs gone) × (length gone ≤ 12)
beat_asked terms gone s asked = by (nat_le (length gone) 12) refl asked
  where
    few : nat_le (length gone) 12 ≡ true → length gone ≤ 12
    few is = grind (arith, common_steps)

    by : (b : Bool) → nat_le (length gone) 12 ≡ b → (if b then Some (step.Beat terms.id terms.lapse terms.atrs gone) else None) ≡ Some s
        → (s ≡ step.Beat terms.id terms.lapse terms.atrs gone) × (length gone ≤ 12)
    by true is it = (sym (some_same it), few is)
    by false is it = cc

pub work_cleans : (terms : Terms) (work : Work) (s : Step) → work_step terms work ≡ Some s → is_cleaners s ≡ true
work_cleans terms Reading s asked = subst (λ k. is_cleaners k ≡ true) (some_same asked) refl
work_cleans terms (Beating share gone) s asked = subst (λ k. is_cleaners k ≡ true) (sym (beat_asked terms gone s asked).0) refl
work_cleans terms (Touring t) s asked = by t.under asked
  where
    by : (under : Option Under) → step_in under ≡ Some s → is_cleaners s ≡ true
    by None asked = cc
    by (Some u) asked = cleans_is s (asked_cleans u.pass.atr u.pass.phase s asked)
work_cleans terms Over s asked = cc

-- ---- their licence

module _ (who : Identity) (terms : Terms) (rounds : ℕ) (stop : Option ℕ) (sweep : Bool) (own : who.cleaner ≡ terms.id) where
  work_licensed : (work : Work) (before mine : List Made) (s : Step) → ComesTo (plan_of terms rounds stop) sweep work before mine → Each (λ m _. is_cleaners m.step ≡ true) (mine ++ before)
      → work_step terms work ≡ Some s → MayTake who (mine ++ before) s
  work_licensed Reading before mine s comes kept asked = subst (λ k. MayTake who (mine ++ before) k) (some_same asked) tt
  work_licensed (Beating share gone) before mine s comes kept asked =
      let is = beat_asked terms gone s asked in subst (λ k. MayTake who (mine ++ before) k) (sym is.0) (may is.1)
    where
      may : length gone ≤ 12 → MayBeat who (mine ++ before) terms.id gone
      may few =
          let it = comes.1 in
          record {
            own = sym own;
            few = few;
            rising = subst IsStrictlyIncreasing (sym it.gone_is) (rising it.rows terms.id it.read.answer.now it.rise);
            read = subst (λ k. Once (λ m _. (rows : List (ℕ × ClientRow)) × (m.step ≡ step.ReadClients) × (m.answer.reply ≡ reply.Clients rows)
                × ((id : ℕ) → In id gone → In id (inactive rows terms.id m.answer.now))) (k ++ before)) (sym it.mine_is)
                (inl (it.rows, it.reads, it.shown, λ id there. in_take id 12 (inactive it.rows terms.id it.read.answer.now) (subst (λ k. In id k) it.gone_is there)));
          }
  work_licensed (Touring t) before mine s comes kept asked = by t.under comes.goes asked
    where
      by : (under : Option Under) → GoesWith terms.atrs t (comes.head ++ before) comes.toured under → step_in under ≡ Some s → MayTake who (mine ++ before) s
      by None goes asked = cc
      by (Some u) goes asked =
          let is : mine ++ before ≡ goes.calls ++ (goes.told ++ (comes.head ++ before)) =
          ap (λ k. k ++ before) comes.mine_is ∙ append_assoc comes.toured comes.head before ∙ ap (λ k. k ++ (comes.head ++ before)) goes.mine_is
          ∙ append_assoc goes.calls goes.told (comes.head ++ before) in
          let clean = each_back (λ m. is_cleaners m.step ≡ true) goes.calls (goes.told ++ (comes.head ++ before)) (subst (λ k. Each (λ m _. is_cleaners m.step ≡ true) k) is kept) in
          let ready = each_more (λ m. is_cleaners m.step ≡ true) (λ m. decides m.step ≡ None) (goes.told ++ (comes.head ++ before)) (λ m it. decides_none m.step it) clean in
          subst (λ k. MayTake who k s) (sym is) (licensed who u.pass.atr (goes.told ++ (comes.head ++ before)) ready u.pass.phase goes.calls s goes.stands asked)
  work_licensed Over before mine s comes kept asked = cc

-- why a cleaner asks for a call
pub asks : (c : Cleaner) (s : Step) → step_now c ≡ Some s → (c.stopped ≡ false) × (c.at < length c.logs) × (round_step c.terms c.round ≡ Some s)
asks c s asked = by c.stopped (nat_lt c.at (length c.logs)) refl refl asked
  where
    under : nat_lt c.at (length c.logs) ≡ true → c.at < length c.logs
    under is = grind (arith, common_steps)

    by : (stopped more : Bool) → c.stopped ≡ stopped → nat_lt c.at (length c.logs) ≡ more
        → (if stopped then None else (if more then round_step c.terms c.round else None)) ≡ Some s → (c.stopped ≡ false) × (c.at < length c.logs) × (round_step c.terms c.round ≡ Some s)
    by true more is left asked = cc
    by false false is left asked = cc
    by false true is left asked = (is, under left, asked)

pub asked_cleans_so : (c : Cleaner) (s : Step) → step_now c ≡ Some s → is_cleaners s ≡ true
asked_cleans_so c s asked = work_cleans c.terms c.round.work s (asks c s asked).2

pub asked_licensed : (who : Identity) (c : Cleaner) (l : List Made) (s : Step) → who.cleaner ≡ c.terms.id → StandsFor c l → step_now c ≡ Some s → MayTake who l s
asked_licensed who c l s own stands asked =
    let why = asks c s asked in
    let it = stands.comes None in
    let way = subst (λ b. IsUnderWay (plan_of c.terms (length c.logs) None) c.terms.sweep b c.round it.before it.mine) why.0 (it.way why.1) in
    subst (λ k. MayTake who k s) (sym it.l_is)
    (work_licensed who c.terms (length c.logs) None c.terms.sweep own c.round.work it.before it.mine s way.0.comes (subst (λ k. Each (λ m _. is_cleaners m.step ≡ true) k) it.l_is stands.kept) why.2)

-- How a cleaner comes from one call to the next.
use Rattle.std.proofs.Common.{◌≡◌, ℕ, ◌+◌, ◌<◌, ◌≤◌, ◌^◌, ◌&&◌, nat_lt, if◌then◌else◌, Bool, true, false, List, [], ◌∷◌, ◌++◌, length, take, Option, Some, refl, sym, ap, ◌∙◌, subst, arith}
use Rattle.std.proofs.lemmas.Bool.{lt-ltb}
use Rattle.std.proofs.lemmas.List.{length-set, take_more_set}
use Rattle.cbt_model.specs.declared.events.Made.{Made}
use Rattle.cbt_book.specs.Cleaners.{CleanerPlan}
use Rattle.cbt_book.specs.Spans.{past_of}
use Rattle.cbt_book.specs.declared.cleaners.RoundLog.{RoundLog}
use Rattle.cbt_lost.specs.Cleaning.{next_round, settled, step_now, told, Comes, HasTold, IsUnderWay, StandsFor}
use Rattle.cbt_lost.specs.Rounds.{is_over, log_of, plan_of, IsCut, Stands}
use Rattle.cbt_lost.specs.declared.cleaners.Cleaner.{Cleaner}
use Rattle.cbt_lost.specs.declared.rounds.Round.{Round}
use Rattle.cbt_lost.specs.declared.rounds.Terms.{Terms}
use Rattle.cbt_lost.proofs.Growing.{told_more}
use Rattle.cbt_lost.proofs.Licensing.{asked_cleans_so, asked_licensed, asks}
use Rattle.cbt_lost.proofs.Spanning.{between}
use Rattle.cbt_lost.proofs.Telling.{way_cut}

-- it is stopped
pub comes_stopped : (plan : CleanerPlan) (c : Cleaner) (l : List Made) → Comes plan c l → Comes plan (record c { stopped = true }) l
comes_stopped plan c l it = record {
  before = it.before;
  mine = it.mine;
  l_is = it.l_is;
  told_so = it.told_so;
  way = λ under. way_cut plan c.terms.sweep c.stopped c.round it.before it.mine (it.way under);
  done = it.done;
}

pub stands_stopped : (c : Cleaner) (l : List Made) → StandsFor c l → StandsFor (record c { stopped = true }) l
stands_stopped c l it = record {
  counted = it.counted;
  few = λ is. cc;
  within = it.within;
  once = it.once;
  kept = it.kept;
  licensed = it.licensed;
  comes = λ stop. comes_stopped (plan_of c.terms (length c.logs) stop) c l (it.comes stop);
}

-- the number of its calls is another
pub comes_counted : (plan : CleanerPlan) (c : Cleaner) (calls : ℕ) (l : List Made) → Comes plan c l → Comes plan (record c { calls = calls }) l
comes_counted plan c calls l it =
    record { before = it.before; mine = it.mine; l_is = it.l_is; told_so = it.told_so; way = it.way; done = it.done }

-- the next round is to begin
next_stands : (plan : CleanerPlan) (past : ℕ) (l : List Made) → past ≡ past_of l → Stands plan false (next_round past) l []
next_stands plan past l is = record { spanned = λ falls. ap (λ n. between n n) is; bare = refl; comes = (refl, refl) }

-- the round under way has taken an answer in, or has just begun
module _ (plan : CleanerPlan) (c : Cleaner) (before mine : List Made) (past : ℕ) (told_so : HasTold plan c.terms.sweep before (take c.at c.logs))
    (stands : Stands plan c.terms.sweep c.round before mine) (going : c.stopped ≡ false) (under : c.at < length c.logs) (once : c.terms.sweep ≡ true → length c.logs ≡ 1)
    (past_is : past ≡ past_of (mine ++ before)) where
  goes_on : is_over c.round.work ≡ false → Comes plan c (mine ++ before)
  goes_on is = record {
    before = before;
    mine = mine;
    l_is = refl;
    told_so = told_so;
    way = λ under. subst (λ b. IsUnderWay plan c.terms.sweep b c.round before mine) (sym going) (stands, is);
    done = λ all. absurd (omega arith);
  }

  single : c.at + 1 < length c.logs → (b : Bool) → c.terms.sweep ≡ b → c.terms.sweep ≡ false
  single more true is = absurd (let one = once is in omega arith)
  single more false is = is

  next_begins : is_over c.round.work ≡ true → Comes plan (told past c) (mine ++ before)
  next_begins is = record {
    before = mine ++ before;
    mine = [];
    l_is = refl;
    told_so = subst (λ k. HasTold plan c.terms.sweep (mine ++ before) k) (sym (take_more_set c.logs c.at (log_of c.round) under))
        (told_more plan c.terms.sweep before mine (take c.at c.logs) c.round told_so stands is);
    way = λ more.
        subst (λ b. IsUnderWay plan c.terms.sweep b (next_round past) (mine ++ before) []) (sym going) (
          subst (λ b. Stands plan b (next_round past) (mine ++ before) []) (sym (single (let same = length-set c.logs c.at (log_of c.round) in omega arith) c.terms.sweep refl))
              (next_stands plan past (mine ++ before) past_is),
          refl,
        );
    done = λ all. refl;
  }

  pub comes_settled : Comes plan (settled past c) (mine ++ before)
  comes_settled = subst (λ b. Comes plan (if is_over c.round.work && b then told past c else c) (mine ++ before)) (sym (lt-ltb c.at (length c.logs) under)) (by (is_over c.round.work) refl)
    where
      by : (b : Bool) → is_over c.round.work ≡ b → Comes plan (if b && true then told past c else c) (mine ++ before)
      by true is = next_begins is
      by false is = goes_on is

-- the round takes an answer in
module _ (c : Cleaner) (l : List Made) (m : Made) (round : Round) (stop : Option ℕ) (stands : StandsFor c l) (asked : step_now c ≡ Some m.step) where
  abbrev plan : CleanerPlan
  plan = plan_of c.terms (length c.logs) stop

  pub answered : ((before mine : List Made) → Stands plan c.terms.sweep c.round before mine → Stands plan c.terms.sweep round before (m ∷ mine))
      → Comes plan (settled (m.answer.place + 1) (record c { round = round })) (m ∷ l)
  answered goes =
      let why = asks c m.step asked in
      let it = stands.comes stop in
      let way = subst (λ b. IsUnderWay plan c.terms.sweep b c.round it.before it.mine) why.0 (it.way why.1) in
      subst (λ k. Comes plan (settled (m.answer.place + 1) (record c { round = round })) k) (ap (λ k. m ∷ k) (sym it.l_is))
      (comes_settled plan (record c { round = round }) it.before (m ∷ it.mine) (m.answer.place + 1) it.told_so (goes it.before it.mine way.0) why.0 why.1 stands.once (omega arith))

  pub cut_off : ((before mine : List Made) → Stands plan c.terms.sweep c.round before mine → IsCut plan c.terms.sweep round before (m ∷ mine))
      → Comes plan (record c { round = round; stopped = true }) (m ∷ l)
  cut_off cut =
      let why = asks c m.step asked in
      let it = stands.comes stop in
      let way = subst (λ b. IsUnderWay plan c.terms.sweep b c.round it.before it.mine) why.0 (it.way why.1) in
      record {
        before = it.before;
        mine = m ∷ it.mine;
        l_is = ap (λ k. m ∷ k) it.l_is;
        told_so = it.told_so;
        way = λ under. cut it.before it.mine way.0;
        done = λ all. absurd (let under = why.1 in omega arith);
      }

-- its own list has one call more
pub stands_more : (c new : Cleaner) (l : List Made) (m : Made) → StandsFor c l → step_now c ≡ Some m.step → new.terms ≡ c.terms → length new.logs ≡ length c.logs → new.at ≤ length new.logs
    → new.calls ≡ c.calls + 1 → (new.stopped ≡ false → new.calls < 2 ^ 62) → ((stop : Option ℕ) → Comes (plan_of c.terms (length c.logs) stop) new (m ∷ l)) → StandsFor new (m ∷ l)
stands_more c new l m stands asked terms long within calls few comes = record {
  counted = counted;
  few = λ is. subst (λ n. n < 2 ^ 62) counted (few is);
  within = within;
  once = λ is. long ∙ stands.once (sym (ap (λ t. t.sweep) terms) ∙ is);
  kept = (asked_cleans_so c m.step asked, stands.kept);
  licensed = λ who is. let own = is ∙ ap (λ t. t.id) terms in (asked_licensed who c l m.step own stands asked, stands.licensed who own);
  comes = λ stop. subst (λ n. Comes (plan_of new.terms n stop) new (m ∷ l)) (sym long) (subst (λ t. Comes (plan_of t (length c.logs) stop) new (m ∷ l)) (sym terms) (comes stop));
}
  where
    counted : new.calls ≡ length (m ∷ l)
    counted = let count = stands.counted in omega arith

-- a sweep begins
module _ (terms : Terms) (logs : List RoundLog) (round : Round) (single : terms.sweep ≡ true) (long : length logs ≡ 1)
    (stands : (rounds : ℕ) (stop : Option ℕ) → Stands (plan_of terms rounds stop) terms.sweep round [] []) where
  abbrev begun : Cleaner
  begun = record { terms = terms; logs = logs; at = 0; round = round; calls = 0; stopped = false }

  stands_by : (b : Bool) → ((stop : Option ℕ) → Comes (plan_of terms (length logs) stop) (if b then told 0 begun else begun) []) → StandsFor (if b then told 0 begun else begun) []
  stands_by true comes =
      let same = length-set logs 0 (log_of round) in
      record {
        counted = refl;
        few = λ is. omega arith;
        within = omega arith;
        once = λ is. same ∙ long;
        kept = tt;
        licensed = λ who is. tt;
        comes = λ stop. subst (λ n. Comes (plan_of terms n stop) (told 0 begun) []) (sym same) (comes stop);
      }
  stands_by false comes =
      record { counted = refl; few = λ is. omega arith; within = omega arith; once = λ is. long; kept = tt; licensed = λ who is. tt; comes = comes }

  pub sweep_stands : StandsFor (settled 0 begun) []
  sweep_stands =
      stands_by (is_over round.work && nat_lt 0 (length logs))
      (λ stop. comes_settled (plan_of terms (length logs) stop) begun [] [] 0 (λ falls. (tt, refl)) (stands (length logs) stop) refl (omega arith) (λ is. long) refl)

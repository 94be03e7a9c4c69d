-- What a cleaner tells in its log, and how it comes from one call to the next.
use Rattle.std.proofs.Common.{◌≡◌, ◌≢◌, ℕ, suc, ◌+◌, ◌<◌, ◌≤◌, ◌⊎◌, ◌↔◌, nat_lt, nat_le, is_some, inl, inr, if◌then◌else◌, Bool, true, false, List, [], ◌∷◌, ◌++◌, length, take, slice_set, Option, Some, None, refl, sym, ap, ◌∙◌, subst, arith}
use Rattle.std.proofs.lemmas.Grind.{common_steps}
use Rattle.std.proofs.lemmas.List.{length-take, take_all, take_more_set, length-take-le}
use Rattle.cbt_model.specs.declared.events.Made.{Made}
use Rattle.cbt_model.specs.declared.steps.Step.TheVariants as step
use Rattle.cbt_book.specs.Cleaners.{CleanerPlan, Cut, CleanerFollows, SweepFollows, CallsKept, HasNext, AtLast, rounds_end, RoundsFollow}
use Rattle.cbt_book.specs.OwnLists.{Each, Descends}
use Rattle.cbt_book.specs.Shares.{inactive}
use Rattle.cbt_book.specs.Shown.{adds}
use Rattle.cbt_book.specs.Spans.{past_of}
use Rattle.cbt_book.specs.declared.cleaners.CleanerLog.{CleanerLog}
use Rattle.cbt_book.specs.declared.cleaners.RoundLog.{RoundLog}
use Rattle.cbt_book.specs.declared.operations.Span.{Span}
use Rattle.cbt_clean.proofs.Ending.{goes_on_asking}
use Rattle.cbt_lost.specs.Cleaning.{cleaner_log_of, has_ended, is_cleaners, rounds_told, step_now, AreRounds, Comes, IsUnderWay, StandsFor}
use Rattle.cbt_lost.specs.Rounds.{is_over, log_of, plan_of, round_step, work_step, ComesTo, IsCut, IsRound, MayCall}
use Rattle.cbt_lost.specs.declared.cleaners.Cleaner.{Cleaner}
use Rattle.cbt_lost.specs.Tours.{step_in, GoesWith}
use Rattle.cbt_lost.specs.declared.rounds.Round.{Round}
use Rattle.cbt_lost.specs.declared.rounds.Terms.{Terms}
use Rattle.cbt_lost.specs.declared.rounds.Work.{Work}
use Rattle.cbt_lost.specs.declared.rounds.Work.TheVariants.{Reading, Beating, Touring, Over}
use Rattle.cbt_lost.specs.declared.tours.Under.{Under}
use Rattle.cbt_lost.proofs.Growing.{at_last, end_snoc, rounds_cut, rounds_on, rounds_whole}
use Rattle.cbt_lost.proofs.Licensing.{adds_none}
use Rattle.cbt_lost.proofs.Lists.{above, below, descends_back, each_more}
use Rattle.cbt_lost.proofs.Stepping.{stands_cut}
use Rattle.cbt_lost.proofs.Spanning.{span_to}

pub less : (a b : ℕ) → nat_lt a b ≡ true → a < b
less a b is = grind (arith, common_steps)

pub not_less : (a b : ℕ) → nat_lt a b ≡ false → b ≤ a
not_less a b is = grind (arith, common_steps)

-- the round under way, whether it goes on or was cut off, may be told as one that was cut off
pub way_cut : (plan : CleanerPlan) (sweep stopped : Bool) (round : Round) (before mine : List Made) → IsUnderWay plan sweep stopped round before mine → IsCut plan sweep round before mine
way_cut plan sweep false round before mine it = stands_cut plan sweep round before mine it.0 it.1
way_cut plan sweep true round before mine it = it

-- the rounds that have ended, and the one under way as it is cut off
record Cuts (plan : CleanerPlan) (sweep : Bool) (at : ℕ) (l : List Made) (rounds : List RoundLog) : Type 0 where
  pub done : List RoundLog
  pub last : RoundLog
  pub rounds_are : rounds ≡ done ++ last ∷ []
  pub long : length done ≡ at
  pub whole : AreRounds plan sweep l 0 done
  pub cut : IsRound plan sweep l Cut (rounds_end 0 done) last
  pub next : MayCall plan sweep l last
  pub ends : last.span.to ≡ past_of l

cuts : (plan : CleanerPlan) (c : Cleaner) (l : List Made) → Comes plan c l → c.at < length c.logs → Descends l
    → Cuts plan c.terms.sweep c.at l (take (c.at + 1) (slice_set c.logs c.at (log_of c.round)))
cuts plan c l comes under falls =
    subst (λ k. Cuts plan c.terms.sweep c.at k (take (c.at + 1) (slice_set c.logs c.at (log_of c.round)))) (sym comes.l_is) (by (subst Descends comes.l_is falls))
  where
    by : Descends (comes.mine ++ comes.before) → Cuts plan c.terms.sweep c.at (comes.mine ++ comes.before) (take (c.at + 1) (slice_set c.logs c.at (log_of c.round)))
    by down =
        let old = comes.told_so (descends_back comes.mine comes.before down) in
        let cut = way_cut plan c.terms.sweep c.stopped c.round comes.before comes.mine (comes.way under) down in
        record {
          done = take c.at c.logs;
          last = log_of c.round;
          rounds_are = take_more_set c.logs c.at (log_of c.round) under;
          long = length-take-le c.at c.logs (omega arith);
          whole = rounds_on plan c.terms.sweep comes.before 0 (take c.at c.logs) comes.mine old.0
              (subst (λ n. Each (λ m _. n ≤ m.answer.place) comes.mine) (sym old.1) (above comes.mine comes.before down));
          cut = subst (λ n. IsRound plan c.terms.sweep (comes.mine ++ comes.before) Cut n (log_of c.round)) (sym old.1) cut.cut;
          next = cut.next;
          ends = ap (λ (s : Span). s.to) cut.spanned ∙ span_to comes.mine comes.before;
        }

-- all rounds have ended
ends_all : (plan : CleanerPlan) (c : Cleaner) (l : List Made) → Comes plan c l → length c.logs ≤ c.at → Descends l
    → AreRounds plan c.terms.sweep l 0 c.logs × (rounds_end 0 c.logs ≡ past_of l)
ends_all plan c l comes all falls =
    let l_is : l ≡ comes.before = comes.l_is ∙ ap (λ k. k ++ comes.before) (comes.done all) in
    let it = comes.told_so (subst Descends l_is falls) in
    let logs = take_all c.at c.logs all in (
      subst (λ k. AreRounds plan c.terms.sweep k 0 c.logs) (sym l_is) (subst (λ k. AreRounds plan c.terms.sweep comes.before 0 k) logs it.0),
      ap (λ k. rounds_end 0 k) (sym logs) ∙ it.1 ∙ ap past_of (sym l_is),
    )

-- the log of a cleaner with these rounds
abbrev pub log_with : Cleaner → List RoundLog → ℕ → CleanerLog
log_with c rounds count = record { id = c.terms.id; rounds = rounds; stopped = nat_lt c.at count; calls = c.calls }

-- it is this one
pub log_is : (c : Cleaner) (rounds : List RoundLog) (count : ℕ) → rounds ≡ rounds_told c.logs c.at c.round → count ≡ length c.logs → cleaner_log_of c ≡ log_with c rounds count
log_is c rounds count is counted = sym (ap (λ k. log_with c k count) is ∙ ap (λ n. log_with c (rounds_told c.logs c.at c.round) n) counted)

-- the log of a cleaner that has a round left, or has none
abbrev log_at : Bool → Cleaner → CleanerLog
log_at b c = record { id = c.terms.id; rounds = if b then take (c.at + 1) (slice_set c.logs c.at (log_of c.round)) else c.logs; stopped = b; calls = c.calls }

kept : (c : Cleaner) (l : List Made) (log : CleanerLog) → StandsFor c l → Descends l → log.calls ≡ c.calls → rounds_end 0 log.rounds ≡ past_of l → CallsKept l log
kept c l log stands falls calls ends = record {
  inside = subst (λ n. Each (λ m _. m.answer.place < n) l) (sym ends) (below l falls);
  counted = calls ∙ stands.counted;
  adds_none = each_more (λ m. is_cleaners m.step ≡ true) (λ m. adds m.step ≡ None) l (λ m is. adds_none m.step is) stands.kept;
}

last_ends : (plan : CleanerPlan) (sweep : Bool) (at : ℕ) (l : List Made) (rounds : List RoundLog) → Cuts plan sweep at l rounds → rounds_end 0 rounds ≡ past_of l
last_ends plan sweep at l rounds it = ap (λ k. rounds_end 0 k) it.rounds_are ∙ end_snoc 0 it.done it.last ∙ it.ends

some_more : (done : List RoundLog) (last : RoundLog) → length (done ++ last ∷ []) ≡ suc (length done)
some_more [] last = refl
some_more (log ∷ done) last = ap suc (some_more done last)

module _ (c : Cleaner) (l : List Made) (stop : Option ℕ) (stands : StandsFor c l) (falls : Descends l) where
  abbrev plan : CleanerPlan
  plan = plan_of c.terms (length c.logs) stop

  abbrev told : List RoundLog
  told = take (c.at + 1) (slice_set c.logs c.at (log_of c.round))

  module _ (single : c.terms.sweep ≡ false) where
    cut_follows : c.at < length c.logs → CleanerFollows plan l (log_at true c)
    cut_follows under =
        let it = subst (λ b. Cuts plan b c.at l told) single (cuts plan c l (stands.comes stop) under falls) in
        record {
          id = refl;
          kept = kept c l (log_at true c) stands falls refl (last_ends plan false c.at l told it);
          rounds = subst (λ k. RoundsFollow plan l true 0 k) (sym it.rounds_are) (rounds_cut plan l 0 it.done it.last it.whole it.cut);
          at_most = let long = it.long in let count = ap length it.rounds_are ∙ some_more it.done it.last in omega arith;
          whole = λ is. cc;
          stopped = λ here is. subst (λ k. AtLast (HasNext plan l) k) (sym it.rounds_are) (at_last (HasNext plan l) it.done it.last it.next);
        }

    whole_follows : length c.logs ≤ c.at → CleanerFollows plan l (log_at false c)
    whole_follows all =
        let it = ends_all plan c l (stands.comes stop) all falls in
        record {
          id = refl;
          kept = kept c l (log_at false c) stands falls refl it.1;
          rounds = rounds_whole plan l 0 c.logs (subst (λ b. AreRounds plan b l 0 c.logs) single it.0);
          at_most = omega arith;
          whole = λ is. refl;
          stopped = λ here is. cc;
        }

    pub cleaner_follows : CleanerFollows plan l (cleaner_log_of c)
    cleaner_follows = by (nat_lt c.at (length c.logs)) refl
      where
        by : (b : Bool) → nat_lt c.at (length c.logs) ≡ b → CleanerFollows plan l (log_at b c)
        by true is = cut_follows (less c.at (length c.logs) is)
        by false is = whole_follows (not_less c.at (length c.logs) is)

    -- where it was cut off it had a call to make
    pub cleaner_asks : (cleaner_log_of c).stopped ≡ true → AtLast (HasNext plan l) (cleaner_log_of c).rounds
    cleaner_asks = by (nat_lt c.at (length c.logs)) refl
      where
        by : (b : Bool) → nat_lt c.at (length c.logs) ≡ b → b ≡ true → AtLast (HasNext plan l) (log_at b c).rounds
        by true is told =
            let it = subst (λ b. Cuts plan b c.at l (take (c.at + 1) (slice_set c.logs c.at (log_of c.round)))) single (cuts plan c l (stands.comes stop) (less c.at (length c.logs) is) falls) in
            subst (λ k. AtLast (HasNext plan l) k) (sym it.rounds_are) (at_last (HasNext plan l) it.done it.last it.next)
        by false is told = cc

  module _ (single : c.terms.sweep ≡ true) where
    one : (logs : List RoundLog) → length logs ≡ 1 → (log : RoundLog) × (logs ≡ log ∷ [])
    one [] is = absurd (omega arith)
    one (log ∷ []) is = (log, refl)
    one (log ∷ next ∷ logs) is = absurd (omega arith)

    no_done : (done : List RoundLog) → length done ≡ 0 → done ≡ []
    no_done [] is = refl
    no_done (log ∷ done) is = absurd (omega arith)

    cut_sweeps : c.at < length c.logs → SweepFollows plan l (log_at true c)
    cut_sweeps under =
        let it = subst (λ b. Cuts plan b c.at l told) single (cuts plan c l (stands.comes stop) under falls) in
        let once : length c.logs ≡ 1 = stands.once single in
        let long = it.long in
        let none : it.done ≡ [] = no_done it.done (omega arith) in
        let cut = subst (λ k. IsRound plan true l Cut (rounds_end 0 k) it.last) none it.cut in
        record {
          id = refl;
          kept = kept c l (log_at true c) stands falls refl (last_ends plan true c.at l told it);
          round = it.last;
          one = it.rounds_are ∙ ap (λ k. k ++ it.last ∷ []) none;
          spanned = cut.0;
          share = cut.1;
          passes = cut.2;
        }

    whole_sweeps : length c.logs ≤ c.at → SweepFollows plan l (log_at false c)
    whole_sweeps all =
        let it = ends_all plan c l (stands.comes stop) all falls in
        let logs = one c.logs (stands.once single) in
        let whole = subst (λ k. AreRounds plan true l 0 k) logs.1 (subst (λ b. AreRounds plan b l 0 c.logs) single it.0) in
        record {
          id = refl;
          kept = kept c l (log_at false c) stands falls refl it.1;
          round = logs.0;
          one = logs.1;
          spanned = whole.0.0;
          share = whole.0.1;
          passes = whole.0.2;
        }

    pub sweep_follows : SweepFollows plan l (cleaner_log_of c)
    sweep_follows = by (nat_lt c.at (length c.logs)) refl
      where
        by : (b : Bool) → nat_lt c.at (length c.logs) ≡ b → SweepFollows plan l (log_at b c)
        by true is = cut_sweeps (less c.at (length c.logs) is)
        by false is = whole_sweeps (not_less c.at (length c.logs) is)

-- ---- a cleaner that goes on

some_call : {X : Type 0} (o : Option X) → o ≢ None → is_some o ≡ true
some_call None is = absurd (is refl)
some_call (Some x) is = refl

-- a round that is not over asks for a call
work_asks : (terms : Terms) (rounds : ℕ) (stop : Option ℕ) (sweep : Bool) (work : Work) (before mine : List Made) → ComesTo (plan_of terms rounds stop) sweep work before mine → is_over work ≡ false
    → is_some (work_step terms work) ≡ true
work_asks terms rounds stop sweep Reading before mine comes going = refl
work_asks terms rounds stop sweep (Beating share gone) before mine comes going =
    ap (λ b. is_some (if b then Some (step.Beat terms.id terms.lapse terms.atrs gone) else None)) (few gone (subst (λ k. length k ≤ 12) (sym comes.1.gone_is) (short (inactive comes.1.rows terms.id comes.1.read.answer.now))))
  where
    short : (l : List ℕ) → length (take 12 l) ≤ 12
    short l = grind (arith, common_steps, length-take 12 l)

    few : (l : List ℕ) → length l ≤ 12 → nat_le (length l) 12 ≡ true
    few l is = grind (arith, common_steps)
work_asks terms rounds stop sweep (Touring t) before mine comes going = by t.under comes.goes going
  where
    by : (under : Option Under) → GoesWith terms.atrs t (comes.head ++ before) comes.toured under → is_over (Touring (record t { under = under })) ≡ false → is_some (step_in under) ≡ true
    by None goes going = cc
    by (Some u) goes going = some_call (step_in (Some u)) (goes_on_asking u.pass.atr u.pass.phase goes.calls goes.stands goes.going)
work_asks terms rounds stop sweep Over before mine comes going = cc

asks_unstopped : (c : Cleaner) (l : List Made) → StandsFor c l → nat_lt c.at (length c.logs) ≡ true → (c.stopped ≡ true) ⊎ (is_some (step_now c) ≡ true)
asks_unstopped c l stands under = by c.stopped refl
  where
    goes : (b : Bool) → c.stopped ≡ b → b ≡ false → is_some (work_step c.terms c.round.work) ≡ true
    goes b is going =
        let it = stands.comes None in
        let way = subst (λ b. IsUnderWay (plan_of c.terms (length c.logs) None) c.terms.sweep b c.round it.before it.mine) (is ∙ going) (it.way (less c.at (length c.logs) under)) in
        work_asks c.terms (length c.logs) None c.terms.sweep c.round.work it.before it.mine way.0.comes way.1

    by : (b : Bool) → c.stopped ≡ b
        → (c.stopped ≡ true) ⊎ (is_some (step_now c) ≡ true)
    by true is = inl is
    by false is =
        inr (ap (λ s. is_some (if s then None else (if nat_lt c.at (length c.logs) then round_step c.terms c.round else None))) is
        ∙ ap (λ s. is_some (if s then round_step c.terms c.round else None)) under ∙ goes false is refl)

-- its log says that it was stopped where a round is left
pub stopped_at_end : (c : Cleaner) → ((cleaner_log_of c).stopped ≡ true) ↔ (has_ended c ≡ false)
stopped_at_end c = (there c.at (length c.logs), back c.at (length c.logs))
  where
    there : (a b : ℕ) → nat_lt a b ≡ true → nat_le b a ≡ false
    there a b is = grind (arith, common_steps)

    back : (a b : ℕ) → nat_le b a ≡ false → nat_lt a b ≡ true
    back a b is = grind (arith, common_steps)

-- such a cleaner was stopped, or asks for a call
pub stopped_only : (c : Cleaner) (l : List Made) → StandsFor c l → has_ended c ≡ false → step_now c ≡ None → c.stopped ≡ true
stopped_only c l stands left none = by (asks_unstopped c l stands ((stopped_at_end c).1 left))
  where
    by : (c.stopped ≡ true) ⊎ (is_some (step_now c) ≡ true) → c.stopped ≡ true
    by (inl is) = is
    by (inr asks) = absurd (never (sym asks ∙ ap is_some none))
      where
        never : true ≡ false → ⊥
        never is = cc

-- A round, from one call to the next.
use Rattle.std.proofs.Common.{◌≡◌, ◌≢◌, ℕ, ◌⊎◌, nat_le, inl, inr, if◌then◌else◌, Bool, true, false, List, [], ◌∷◌, ◌++◌, append_assoc, length, take, Option, Some, None, refl, sym, ap, ◌∙◌, subst}
use Rattle.std.specs.List.{range_with_len}
use Rattle.cbt_model.specs.Fitting.{fits}
use Rattle.cbt_model.specs.declared.entries.ClientRow.{ClientRow}
use Rattle.cbt_model.specs.declared.events.Made.{Made}
use Rattle.cbt_model.specs.declared.steps.Reply.{Reply}
use Rattle.cbt_model.specs.declared.steps.Reply.TheVariants as reply
use Rattle.cbt_model.specs.declared.steps.Step.{Step}
use Rattle.cbt_model.specs.declared.steps.Step.TheVariants as step
use Rattle.cbt_book.specs.Cleaners.{CleanerPlan, Course, Whole, Cut, EndsEarly, unbegun, unread, unbeaten, HasNext, to_read, to_beat, to_pass, PassesGo, RoundFollows}
use Rattle.cbt_book.specs.OwnLists.{Descends, during}
use Rattle.cbt_book.specs.Shares.{inactive}
use Rattle.cbt_book.specs.Spans.{IsSpan, past_of, span_of}
use Rattle.cbt_book.specs.declared.cleaners.PassLog.{PassLog}
use Rattle.cbt_book.specs.declared.cleaners.RoundLog.{RoundLog}
use Rattle.cbt_book.specs.declared.cleaners.Share.{Share}
use Rattle.cbt_book.specs.declared.operations.Span.{Span}
use Rattle.cbt_lost.specs.Rounds.{after_reading, beat_step, is_over, log_of, passes_in, plan_of, round_step, share_in, work_step, Begins, ComesTo, Halts, HasStopped, IsCut, IsRound, IsTouring, MayCall, Opens, Stands}
use Rattle.cbt_lost.specs.Tours.{due, grown, told_by, Goes, GoesWith, IsCutOff}
use Rattle.cbt_lost.specs.declared.rounds.Round.{Round}
use Rattle.cbt_lost.specs.declared.rounds.Terms.{Terms}
use Rattle.cbt_lost.specs.declared.rounds.Work.{Work}
use Rattle.cbt_lost.specs.declared.rounds.Work.TheVariants.{Reading, Beating, Touring, Over}
use Rattle.cbt_lost.specs.declared.tours.Tour.{Tour}
use Rattle.cbt_lost.specs.declared.tours.Under.{Under}
use Rattle.cbt_lost.proofs.Due.{due_whole}
use Rattle.cbt_lost.proofs.Rounding.{early_round, few_passes, passes_cut, passes_whole, shared_round}
use Rattle.cbt_lost.proofs.Spanning.{during_span, grown_span, span_is, span_to}
use Rattle.cbt_lost.proofs.Touring.{cut_in}

abbrev log_in : Span → List PassLog → Work → RoundLog
log_in span empty work = record { span = span; share = share_in work; passes = passes_in empty work }

module _ (plan : CleanerPlan) (before mine : List Made) (span : Span) (empty : List PassLog) where
  abbrev log_with : Work → RoundLog
  log_with work = log_in span empty work

  -- a round that was cut off before it came to a share
  pub cut_early : (sweep : Bool) (log : RoundLog) → log ≡ record { span = span; share = None; passes = empty } → sweep ≡ false → empty ≡ []
      → (Descends (mine ++ before) → span ≡ span_of (past_of before) mine) → EndsEarly plan Cut mine
      → ((l : List Made) (log : RoundLog) → during log.span l ≡ mine → HasNext plan l log) → Descends (mine ++ before)
      → HasStopped plan sweep log before mine
  cut_early true log log_is is bare spanned early next falls = cc
  cut_early false log log_is is bare spanned early next falls =
      subst (λ k. HasStopped plan false k before mine) (sym log_is) (record {
        spanned = spanned falls;
        cut = early_round plan Cut span empty mine before falls bare (spanned falls) early;
        next = next (mine ++ before) (record { span = span; share = None; passes = empty }) (ap (λ s. during s (mine ++ before)) (spanned falls) ∙ during_span mine before falls);
      })

  -- the log of a round with passes, by these
  touring_round : (sweep : Bool) (course : Course) (t : Tour) (head toured : List Made) → mine ≡ toured ++ head → Opens plan sweep t.share head → Descends (mine ++ before)
      → span ≡ span_of (past_of before) mine
      → PassesGo (toured ++ (head ++ before)) course (past_of (head ++ before)) (due t.share 0 plan.atrs) (record { span = span; share = Some t.share; passes = told_by t })
      → IsRound plan sweep (mine ++ before) course (past_of before) (record { span = span; share = Some t.share; passes = told_by t })
  touring_round false course t head toured is opens falls spanned go =
      subst (λ k. RoundFollows plan (k ++ before) course (past_of before) (record { span = span; share = Some t.share; passes = told_by t })) (sym is)
      (shared_round plan course t.share span (told_by t) head toured before (subst (λ k. Descends (k ++ before)) is falls) opens (spanned ∙ ap (λ k. span_of (past_of before) k) is) go)
  touring_round true course t head toured is opens falls spanned go = (
    subst (λ s. IsSpan (mine ++ before) (past_of before) s) (sym spanned) (span_is mine before falls),
    ap (λ s. Some s) opens.1,
    subst (λ l. PassesGo l course (past_of before) (range_with_len 0 plan.atrs) (log_with (Touring t))) (sym whole)
        (subst (λ k. PassesGo (toured ++ (head ++ before)) course (past_of before) k (log_with (Touring t))) (ap (λ s. due s 0 plan.atrs) opens.1 ∙ due_whole plan.atrs)
        (subst (λ h. PassesGo (toured ++ (head ++ before)) course (past_of (h ++ before)) (due t.share 0 plan.atrs) (log_with (Touring t))) opens.0 go)),
  )
    where
      whole : mine ++ before ≡ toured ++ (head ++ before)
      whole = ap (λ k. k ++ before) is ∙ append_assoc toured head before

  whole_is : (head toured : List Made) → mine ≡ toured ++ head → mine ++ before ≡ toured ++ (head ++ before)
  whole_is head toured is = ap (λ k. k ++ before) is ∙ append_assoc toured head before

  ends_at : (head toured : List Made) → mine ≡ toured ++ head → span ≡ span_of (past_of before) mine → span.to ≡ past_of (toured ++ (head ++ before))
  ends_at head toured is spanned = ap (λ (s : Span). s.to) spanned ∙ span_to mine before ∙ ap past_of (whole_is head toured is)

  -- it was cut off in its passes
  pub cut_touring : (sweep : Bool) (t : Tour) (head toured : List Made) → mine ≡ toured ++ head → Opens plan sweep t.share head → IsCutOff plan.atrs t (head ++ before) toured
      → (Descends (mine ++ before) → span ≡ span_of (past_of before) mine) → Descends (mine ++ before)
      → HasStopped plan sweep (log_with (Touring t)) before mine
  cut_touring sweep t head toured is opens cut spanned falls = record {
    spanned = spanned falls;
    cut = touring_round sweep Cut t head toured is opens falls (spanned falls)
        (passes_cut plan.atrs t (head ++ before) toured span (Some t.share) (subst Descends (whole_is head toured is) falls) cut (ends_at head toured is (spanned falls)));
    next = may sweep;
  }
    where
      may : (sweep : Bool) → MayCall plan sweep (mine ++ before) (log_with (Touring t))
      may false = to_pass t.share refl (few_passes plan.atrs t (head ++ before) toured cut)
      may true = tt

  -- and where it is not over, it may be so at any moment
  cut_at : (sweep : Bool) (work : Work) → empty ≡ [] → (Descends (mine ++ before) → span ≡ span_of (past_of before) mine) → ComesTo plan sweep work before mine → is_over work ≡ false
      → Descends (mine ++ before) → HasStopped plan sweep (log_with work) before mine
  cut_at sweep Reading bare spanned comes going falls = cut_early sweep (log_with Reading) refl comes.0 bare spanned (unbegun refl comes.1) (λ l log is. to_read (is ∙ comes.1)) falls
  cut_at sweep (Beating share gone) bare spanned comes going falls =
      let it = comes.1 in
      cut_early sweep (log_with (Beating share gone)) refl comes.0 bare spanned (unread it.read it.mine_is it.reads (inr refl)) (λ l log is. to_beat it.read it.rows (is ∙ it.mine_is) it.shown) falls
  cut_at sweep (Touring t) bare spanned comes going falls =
      cut_touring sweep t comes.head comes.toured comes.mine_is comes.opens (cut_off t.under comes.goes going) spanned falls
    where
      cut_off : (under : Option Under) → GoesWith plan.atrs t (comes.head ++ before) comes.toured under → is_over (Touring (record t { under = under })) ≡ false → IsCutOff plan.atrs t (comes.head ++ before) comes.toured
      cut_off None goes going = cc
      cut_off (Some u) goes going = cut_in plan.atrs t (comes.head ++ before) comes.toured u goes
  cut_at sweep Over bare spanned comes going falls = cc

  -- where it is over
  whole_at : (sweep : Bool) (work : Work) → empty ≡ [] → (Descends (mine ++ before) → span ≡ span_of (past_of before) mine) → ComesTo plan sweep work before mine → is_over work ≡ true
      → Descends (mine ++ before) → IsRound plan sweep (mine ++ before) Whole (past_of before) (log_with work)
  whole_at sweep Reading bare spanned comes over falls = cc
  whole_at sweep (Beating share gone) bare spanned comes over falls = cc
  whole_at sweep (Touring t) bare spanned comes over falls = by t.under comes.goes over
    where
      by : (under : Option Under) → GoesWith plan.atrs t (comes.head ++ before) comes.toured under → is_over (Touring (record t { under = under })) ≡ true
          → IsRound plan sweep (mine ++ before) Whole (past_of before) (log_with (Touring t))
      by (Some u) goes over = cc
      by None goes over =
          touring_round sweep Whole t comes.head comes.toured comes.mine_is comes.opens falls (spanned falls)
          (passes_whole plan.atrs t (comes.head ++ before) comes.toured span (Some t.share) Whole (subst Descends (whole_is comes.head comes.toured comes.mine_is) falls) goes
          (ends_at comes.head comes.toured comes.mine_is (spanned falls)) refl)
  whole_at false Over bare spanned comes over falls = early_round plan Whole span empty mine before falls bare (spanned falls) comes.1
  whole_at true Over bare spanned comes over falls = cc

pub stands_cut : (plan : CleanerPlan) (sweep : Bool) (round : Round) (before mine : List Made) → Stands plan sweep round before mine → is_over round.work ≡ false → IsCut plan sweep round before mine
stands_cut plan sweep round before mine it going falls = cut_at plan before mine round.span round.none sweep round.work it.bare it.spanned it.comes going falls

pub stands_whole : (plan : CleanerPlan) (sweep : Bool) (round : Round) (before mine : List Made) → Stands plan sweep round before mine → is_over round.work ≡ true → Descends (mine ++ before)
    → IsRound plan sweep (mine ++ before) Whole (past_of before) (log_of round)
stands_whole plan sweep round before mine it over falls = whole_at plan before mine round.span round.none sweep round.work it.bare it.spanned it.comes over falls

-- its span grows with an answer
pub spanned_on : (plan : CleanerPlan) (sweep : Bool) (old : Round) (span : Span) (before mine : List Made) (m : Made) → Stands plan sweep old before mine → span ≡ grown old.span m.answer.place
    → Descends ((m ∷ mine) ++ before) → span ≡ span_of (past_of before) (m ∷ mine)
spanned_on plan sweep old span before mine m it is falls = is ∙ grown_span old.span m mine before falls (it.spanned falls.1)

-- what a round has come to, and asks for, by its work
pub comes_so : (plan : CleanerPlan) (sweep : Bool) (round : Round) (work : Work) (before mine : List Made) → round.work ≡ work → Stands plan sweep round before mine → ComesTo plan sweep work before mine
comes_so plan sweep round work before mine is it = subst (λ w. ComesTo plan sweep w before mine) is it.comes

pub asked_so : (terms : Terms) (round : Round) (work : Work) (s : Step) → round.work ≡ work → round_step terms round ≡ Some s → work_step terms work ≡ Some s
asked_so terms round work s is asked = ap (λ w. work_step terms w) (sym is) ∙ asked

pub some_same : {a b : Step} → Some a ≡ Some b → b ≡ a
some_same is = cc

-- a call failed, or did not
pub may_fail : (r : Reply) → (r ≡ reply.Failed) ⊎ (r ≢ reply.Failed)
may_fail reply.Failed = inl refl
may_fail (reply.Doc x body stage) = inr (λ is. cc)
may_fail reply.Absent = inr (λ is. cc)
may_fail (reply.Done x) = inr (λ is. cc)
may_fail (reply.CasMismatch have) = inr (λ is. cc)
may_fail reply.Exists = inr (λ is. cc)
may_fail (reply.Entry e) = inr (λ is. cc)
may_fail reply.NoEntry = inr (λ is. cc)
may_fail reply.Decided = inr (λ is. cc)
may_fail (reply.Entries entries) = inr (λ is. cc)
may_fail (reply.Clients rows) = inr (λ is. cc)

-- it takes an answer in
pub stands_on : (plan : CleanerPlan) (sweep : Bool) (old new : Round) (before mine : List Made) (m : Made) → Stands plan sweep old before mine → new.span ≡ grown old.span m.answer.place → new.none ≡ old.none
    → ComesTo plan sweep new.work before (m ∷ mine) → Stands plan sweep new before (m ∷ mine)
stands_on plan sweep old new before mine m it span empty comes =
    record { spanned = λ falls. span ∙ grown_span old.span m mine before falls (it.spanned falls.1); bare = empty ∙ it.bare; comes = comes }

-- the client record was to be read
pub reading_on : (terms : Terms) (rounds : ℕ) (stop : Option ℕ) (sweep : Bool) (before mine : List Made) (m : Made) → ComesTo (plan_of terms rounds stop) sweep Reading before mine → m.step ≡ step.ReadClients
    → fits m.step m.answer.reply ≡ true → ComesTo (plan_of terms rounds stop) sweep (after_reading terms m.answer.now m.answer.reply) before (m ∷ mine)
reading_on terms rounds stop sweep before mine m comes reads fit = by m.answer.reply refl (subst (λ s. fits s m.answer.reply ≡ true) reads fit)
  where
    alone : m ∷ mine ≡ m ∷ []
    alone = ap (λ k. m ∷ k) comes.1

    failed : m.answer.reply ≡ reply.Failed → (sweep ≡ false) × EndsEarly (plan_of terms rounds stop) Whole (m ∷ mine)
    failed is = (comes.0, unread m alone reads (inl is))

    by : (r : Reply) → m.answer.reply ≡ r → fits step.ReadClients r ≡ true → ComesTo (plan_of terms rounds stop) sweep (after_reading terms m.answer.now r) before (m ∷ mine)
    by (reply.Clients rows) is fit =
        (comes.0, record { read = m; rows = rows; mine_is = alone; reads = reads; shown = is; rise = fit; share_is = refl; gone_is = refl })
    by reply.Failed is fit = failed is
    by _ is fit = cc

-- there was no memory for what it showed
pub reading_cut : (plan : CleanerPlan) (sweep : Bool) (round : Round) (before mine : List Made) (m : Made) (rows : List (ℕ × ClientRow)) → ComesTo plan sweep Reading before mine → m.step ≡ step.ReadClients
    → m.answer.reply ≡ reply.Clients rows → round.work ≡ Over → round.none ≡ [] → (Descends ((m ∷ mine) ++ before) → round.span ≡ span_of (past_of before) (m ∷ mine)) → IsCut plan sweep round before (m ∷ mine)
reading_cut plan sweep round before mine m rows comes reads shown work bare spanned =
    cut_early plan before (m ∷ mine) round.span round.none sweep (log_of round) log_is comes.0 bare spanned (unread m alone reads (inr refl)) (λ l log is. to_beat m rows (is ∙ alone) shown)
  where
    alone : m ∷ mine ≡ m ∷ []
    alone = ap (λ k. m ∷ k) comes.1

    log_is : log_of round ≡ record { span = round.span; share = None; passes = round.none }
    log_is = ap (λ w. log_in round.span round.none w) work

-- the row that is asked for
beat_asked : (terms : Terms) (gone : List ℕ) (s : Step) → beat_step terms gone ≡ Some s → s ≡ step.Beat terms.id terms.lapse terms.atrs gone
beat_asked terms gone s asked = by (nat_le (length gone) 12) asked
  where
    by : (b : Bool) → (if b then Some (step.Beat terms.id terms.lapse terms.atrs gone) else None) ≡ Some s → s ≡ step.Beat terms.id terms.lapse terms.atrs gone
    by true is = cc
    by false is = cc

module _ (terms : Terms) (rounds : ℕ) (stop : Option ℕ) (sweep : Bool) (share : Share) (gone : List ℕ) (before mine : List Made) (m : Made)
    (comes : ComesTo (plan_of terms rounds stop) sweep (Beating share gone) before mine) (asked : beat_step terms gone ≡ Some m.step) where
  abbrev plan : CleanerPlan
  plan = plan_of terms rounds stop

  both : m ∷ mine ≡ m ∷ comes.1.read ∷ []
  both = ap (λ k. m ∷ k) comes.1.mine_is

  beats : m.step ≡ step.Beat terms.id terms.lapse terms.atrs (take 12 (inactive comes.1.rows terms.id comes.1.read.answer.now))
  beats = beat_asked terms gone m.step asked ∙ ap (λ k. step.Beat terms.id terms.lapse terms.atrs k) comes.1.gone_is

  -- the row was not written
  pub beat_failed : m.answer.reply ≡ reply.Failed → (sweep ≡ false) × EndsEarly plan Whole (m ∷ mine)
  beat_failed failed = (comes.0, unbeaten comes.1.read m comes.1.rows both comes.1.reads comes.1.shown beats failed)

  opens : m.answer.reply ≢ reply.Failed → Opens plan sweep share (m ∷ mine)
  opens beaten = by sweep comes.0
    where
      by : (b : Bool) → b ≡ false → Opens plan b share (m ∷ mine)
      by false is = record {
        beat = m;
        read = comes.1.read;
        rows = comes.1.rows;
        head_is = both;
        reads = comes.1.reads;
        shown = comes.1.shown;
        beats = beats;
        beaten = beaten;
        share_is = comes.1.share_is;
      }
      by true is = cc

  -- it was, and the passes begin
  pub beat_on : (work : Work) → m.answer.reply ≢ reply.Failed → Begins terms.atrs share ((m ∷ mine) ++ before) work → ComesTo plan sweep work before (m ∷ mine)
  beat_on Reading beaten begins = absurd begins
  beat_on (Beating other left) beaten begins = absurd begins
  beat_on Over beaten begins = absurd begins
  beat_on (Touring t) beaten begins =
      record { head = m ∷ mine; toured = []; mine_is = refl; opens = subst (λ s. Opens plan sweep s (m ∷ mine)) (sym begins.0) (opens beaten); goes = begins.1 }

  -- or there was no memory for the first of them
  pub beat_cut : (round : Round) → m.answer.reply ≢ reply.Failed → Halts terms.atrs share ((m ∷ mine) ++ before) round.work
      → (Descends ((m ∷ mine) ++ before) → round.span ≡ span_of (past_of before) (m ∷ mine)) → IsCut plan sweep round before (m ∷ mine)
  beat_cut round beaten halts spanned = by round.work halts
    where
      by : (work : Work) → Halts terms.atrs share ((m ∷ mine) ++ before) work
          → Descends ((m ∷ mine) ++ before)
          → HasStopped plan sweep (record { span = round.span; share = share_in work; passes = passes_in round.none work }) before (m ∷ mine)
      by Reading halts = absurd halts
      by (Beating other left) halts = absurd halts
      by Over halts = absurd halts
      by (Touring t) halts =
          cut_touring plan before (m ∷ mine) round.span round.none sweep t (m ∷ mine) [] refl (subst (λ s. Opens plan sweep s (m ∷ mine)) (sym halts.0) (opens beaten)) halts.1 spanned

-- the passes go on
pub touring_on : (plan : CleanerPlan) (sweep : Bool) (old new : Tour) (before mine : List Made) (m : Made) → (comes : IsTouring plan sweep old before mine) → new.share ≡ old.share
    → Goes plan.atrs new (comes.head ++ before) (m ∷ comes.toured) → IsTouring plan sweep new before (m ∷ mine)
touring_on plan sweep old new before mine m comes share goes = record {
  head = comes.head;
  toured = m ∷ comes.toured;
  mine_is = ap (λ k. m ∷ k) comes.mine_is;
  opens = subst (λ s. Opens plan sweep s comes.head) (sym share) comes.opens;
  goes = goes;
}

-- or were cut off
pub touring_cut : (plan : CleanerPlan) (sweep : Bool) (old new : Tour) (round : Round) (before mine : List Made) (m : Made) → (comes : IsTouring plan sweep old before mine) → new.share ≡ old.share
    → round.work ≡ Touring new → IsCutOff plan.atrs new (comes.head ++ before) (m ∷ comes.toured)
    → (Descends ((m ∷ mine) ++ before) → round.span ≡ span_of (past_of before) (m ∷ mine)) → IsCut plan sweep round before (m ∷ mine)
touring_cut plan sweep old new round before mine m comes share work cut spanned falls =
    subst (λ w. HasStopped plan sweep (record { span = round.span; share = share_in w; passes = passes_in round.none w }) before (m ∷ mine)) (sym work)
    (cut_touring plan before (m ∷ mine) round.span round.none sweep new comes.head (m ∷ comes.toured) (ap (λ k. m ∷ k) comes.mine_is)
    (subst (λ s. Opens plan sweep s comes.head) (sym share) comes.opens) cut spanned falls)

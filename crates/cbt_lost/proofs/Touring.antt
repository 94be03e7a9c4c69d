-- A tour, from one pass to the next.
use Rattle.std.proofs.Common.{◌≡◌, ◌≢◌, ℕ, suc, ◌+◌, List, [], ◌∷◌, ◌++◌, append_assoc, length-append, take, slice_set, Option, Some, None, Bor, is_some, true, refl, sym, ap, ◌∙◌, subst, arith}
use Rattle.std.proofs.lemmas.List.{length-set, map-append, take-append-le, take_more_set}
use Rattle.std.specs.Option.{option_copied}
use Rattle.cbt_model.specs.declared.events.Made.{Made}
use Rattle.cbt_model.specs.declared.steps.Step.{Step}
use Rattle.cbt_model.specs.declared.steps.Step.TheVariants as step
use Rattle.cbt_book.specs.Cleaners.{StandBehind, none, unfinished, Cut}
use Rattle.cbt_book.specs.Passes.{covered_by, EndsPass}
use Rattle.cbt_book.specs.Spans.{past_of}
use Rattle.cbt_book.specs.declared.cleaners.PassEnd.{PassEnd}
use Rattle.cbt_book.specs.declared.cleaners.PassLog.{PassLog}
use Rattle.cbt_book.specs.declared.cleaners.Share.{Share}
use Rattle.cbt_clean.proofs.Counting.{first_calls, pass_calls}
use Rattle.cbt_clean.proofs.Ending.{reading_open, stays_open}
use Rattle.cbt_clean.proofs.Knowing.{passed}
use Rattle.cbt_clean.specs.Phases.{end_of, step_for, step_of}
use Rattle.cbt_clean.specs.Standing.{StandsFor, Runs, begun}
use Rattle.cbt_clean.specs.declared.passes.Pass.{Pass}
use Rattle.cbt_clean.specs.declared.phases.Phase.TheVariants.{Begun}
use Rattle.cbt_lost.specs.Tours.{due, grown, pass_log, records_of, step_in, told_by, tour_step, AtNext, Goes, GoesIn, GoesWith, IsCutOff, Tells}
use Rattle.cbt_lost.specs.declared.tours.Tour.{Tour}
use Rattle.cbt_lost.specs.declared.tours.Under.{Under}
use Rattle.cbt_lost.proofs.Passing.{tells_more}
use Rattle.cbt_lost.proofs.Spanning.{between, grown_span}

-- the oldest of some calls stands behind the others
last_of : (m : Made) (l : List Made) → (first : Made) × (later : List Made) × (m ∷ l ≡ later ++ first ∷ [])
last_of m [] = (m, [], refl)
last_of m (n ∷ l) = let it = last_of n l in (it.0, m ∷ it.1, ap (λ k. m ∷ k) it.2)

some_same : {a b : Step} → Some a ≡ Some b → a ≡ b
some_same is = cc

-- a pass that has just begun made no call
no_calls : (r : ℕ) (mine : List Made) → Runs r Begun mine → mine ≡ []
no_calls r [] runs = refl
no_calls r (m ∷ mine) runs = let it = last_of m mine in absurd (passed r Begun it.0 it.1 (subst (λ k. Runs r Begun k) it.2 runs)).state

-- a pass under way may be left where it stands
pub behind_of : (pass : Pass) (more : List ℕ) (calls : List Made) → StandsFor pass calls → end_of pass ≡ None → StandBehind Cut (pass.atr ∷ more) calls
behind_of pass more [] stands going = none refl
behind_of pass more (m ∷ calls) stands going =
    let it = last_of m calls in
    let runs = subst (λ k. Runs pass.atr pass.phase k) it.2 stands in
    unfinished pass.atr more it.0 it.1 refl refl it.2 (pass_calls pass.atr pass.phase it.0 it.1 runs)
    (λ end ends. stays_open pass.atr pass.phase it.0 it.1 end runs going (subst (λ k. EndsPass pass.atr it.0 k end) it.2 ends))

-- the pass that is under way
pub goes_in : (atrs : ℕ) (t : Tour) (base mine : List Made) (u : Under) → t.under ≡ Some u → Goes atrs t base mine → GoesIn atrs t base mine u
goes_in atrs t base mine u is goes = subst (λ o. GoesWith atrs t base mine o) is goes

pub asked_in : (t : Tour) (u : Under) → t.under ≡ Some u → (s : Step) → tour_step t ≡ Some s → step_of u.pass ≡ Some s
asked_in t u is s asked = ap step_in (sym is) ∙ asked

-- a pass that has ended has an end
pub copied_there : (r : Option (Bor PassEnd)) (o : Option PassEnd) → option_copied r ≡ o → is_some r ≡ true → (end : PassEnd) × (o ≡ Some end)
copied_there None o is there = cc
copied_there (Some end) o is there = (end.now, sym is)

pub next_place : (place : ℕ) → place + 1 ≡ suc place
next_place place = omega arith

-- a tour up to its first pass
pub first_next : (atrs : ℕ) (share : Share) (base : List Made) → AtNext atrs (record { share = share; next = 0; passes = []; ended = 0; under = None }) base []
first_next atrs share base = record { full = refl; tells = λ falls. (tt, refl); records = refl }

-- what does not depend on the pass under way
module _ (atrs : ℕ) (t : Tour) (base mine : List Made) (under : Option Under) where
  pub goes_as : (u : Under) → GoesIn atrs t base mine u → GoesIn atrs (record t { under = under }) base mine u
  goes_as u it = record {
    calls = it.calls;
    told = it.told;
    mine_is = it.mine_is;
    room = it.room;
    tells = it.tells;
    records = it.records;
    stands = it.stands;
    going = it.going;
    spanned = it.spanned;
  }

  pub next_as : AtNext atrs t base mine → AtNext atrs (record t { under = under }) base mine
  next_as it = record { full = it.full; tells = it.tells; records = it.records }

  pub cut_as : IsCutOff atrs t base mine → IsCutOff atrs (record t { under = under }) base mine
  cut_as it = record {
    calls = it.calls;
    told = it.told;
    mine_is = it.mine_is;
    tells = it.tells;
    first = it.first;
    more = it.more;
    records = it.records;
    behind = it.behind;
  }

module _ (atrs : ℕ) (t : Tour) (base mine : List Made) where
  -- the pass over the next one begins
  pub next_begins : (n past : ℕ) (log : PassLog) (passes : List PassLog) (pass : Pass) → AtNext atrs t base mine → past ≡ past_of (mine ++ base)
      → due t.share t.next atrs ≡ n ∷ due t.share (n + 1) atrs → passes ≡ t.passes ++ log ∷ [] → pass ≡ record { atr = n; phase = Begun }
      → GoesIn atrs (record t { next = n + 1; passes = passes }) base mine (record { pass = pass; span = record { from = past; to = past } })
  next_begins n past log passes pass it is left passes_are pass_is =
      subst (λ k. GoesIn atrs (record t { next = n + 1; passes = k }) base mine (record { pass = pass; span = between past past })) (sym passes_are)
      (subst (λ p. GoesIn atrs (record t { next = n + 1; passes = t.passes ++ log ∷ [] }) base mine (record { pass = p; span = between past past })) (sym pass_is) begins)
    where
      told : take t.ended (t.passes ++ log ∷ []) ≡ told_by t
      told = take-append-le t.ended t.passes (log ∷ []) (let full = it.full in omega arith)

      begins : GoesIn atrs (record t { next = n + 1; passes = t.passes ++ log ∷ [] }) base mine (record { pass = record { atr = n; phase = Begun }; span = record { from = past; to = past } })
      begins = record {
        calls = [];
        told = mine;
        mine_is = refl;
        room = length-append t.passes (log ∷ []) ∙ ap (λ k. k + 1) it.full;
        tells = subst (λ k. Tells base mine k) (sym told) it.tells;
        records = ap (λ k. records_of k ++ n ∷ due t.share (n + 1) atrs) told ∙ ap (λ k. records_of (told_by t) ++ k) (sym left) ∙ it.records;
        stands = begun;
        going = refl;
        spanned = λ falls. ap (λ k. between k k) is;
      }

  -- or cannot begin
  pub cut_before : (n : ℕ) → AtNext atrs t base mine → due t.share t.next atrs ≡ n ∷ due t.share (n + 1) atrs → IsCutOff atrs t base mine
  cut_before n it left = record {
    calls = [];
    told = mine;
    mine_is = refl;
    tells = it.tells;
    first = n;
    more = due t.share (n + 1) atrs;
    records = ap (λ k. records_of (told_by t) ++ k) (sym left) ∙ it.records;
    behind = none refl;
  }

  -- one that goes on may be cut off
  pub cut_in : (u : Under) → GoesIn atrs t base mine u → IsCutOff atrs t base mine
  cut_in u it = record {
    calls = it.calls;
    told = it.told;
    mine_is = it.mine_is;
    tells = it.tells;
    first = u.pass.atr;
    more = due t.share t.next atrs;
    records = it.records;
    behind = behind_of u.pass (due t.share t.next atrs) it.calls it.stands it.going;
  }

  module _ (u : Under) (m : Made) (it : GoesIn atrs t base mine u) where
    -- the pass takes an answer in, and goes on
    pub pass_on : (new : Under) → StandsFor new.pass (m ∷ it.calls) → new.pass.atr ≡ u.pass.atr → new.span ≡ grown u.span m.answer.place → end_of new.pass ≡ None
        → GoesIn atrs t base (m ∷ mine) new
    pass_on new stands atr span going = record {
      calls = m ∷ it.calls;
      told = it.told;
      mine_is = ap (λ k. m ∷ k) it.mine_is;
      room = it.room;
      tells = it.tells;
      records = ap (λ r. records_of (told_by t) ++ r ∷ due t.share t.next atrs) atr ∙ it.records;
      stands = stands;
      going = going;
      spanned = λ falls. span ∙ grown_span u.span m it.calls (it.told ++ base) falls (it.spanned falls.1);
    }

    -- or ends
    pub pass_over : (new : Under) (end : PassEnd) → StandsFor new.pass (m ∷ it.calls) → new.pass.atr ≡ u.pass.atr → new.span ≡ grown u.span m.answer.place → end_of new.pass ≡ Some end
        → AtNext atrs (record t { passes = slice_set t.passes t.ended (pass_log new end); ended = t.ended + 1 }) base (m ∷ mine)
    pass_over new end stands atr span ended = record {
      full = length-set t.passes t.ended (pass_log new end) ∙ it.room;
      tells = subst (λ k. Tells base (m ∷ mine) k) (sym told) (subst (λ k. Tells base k (told_by t ++ pass_log new end ∷ [])) (ap (λ k. m ∷ k) (sym it.mine_is))
          (tells_more base it.told (m ∷ it.calls) (told_by t) new end it.tells stands ended
          (λ falls. span ∙ grown_span u.span m it.calls (it.told ++ base) falls (it.spanned falls.1))));
      records = ap (λ k. records_of k ++ due t.share t.next atrs) told ∙ ap (λ k. k ++ due t.share t.next atrs) (map-append (λ log. log.atr) (told_by t) (pass_log new end ∷ []))
          ∙ append_assoc (records_of (told_by t)) (new.pass.atr ∷ []) (due t.share t.next atrs)
          ∙ ap (λ r. records_of (told_by t) ++ r ∷ due t.share t.next atrs) atr ∙ it.records;
    }
      where
        told : take (t.ended + 1) (slice_set t.passes t.ended (pass_log new end)) ≡ told_by t ++ pass_log new end ∷ []
        told = take_more_set t.passes t.ended (pass_log new end) (let room = it.room in omega arith)

    -- or no memory was found for what its record shows
    pub pass_cut : u.pass.phase ≡ Begun → step_of u.pass ≡ Some m.step → covered_by m.answer.reply m.answer.now ≢ [] → IsCutOff atrs t base (m ∷ mine)
    pass_cut first asked covers = record {
      calls = m ∷ it.calls;
      told = it.told;
      mine_is = ap (λ k. m ∷ k) it.mine_is;
      tells = it.tells;
      first = u.pass.atr;
      more = due t.share t.next atrs;
      records = it.records;
      behind = unfinished u.pass.atr (due t.share t.next atrs) m [] refl refl alone (first_calls u.pass.atr m reads)
          (λ end ends. reading_open u.pass.atr m end reads covers (subst (λ k. EndsPass u.pass.atr m k end) alone ends));
    }
      where
        alone : m ∷ it.calls ≡ m ∷ []
        alone = ap (λ k. m ∷ k) (no_calls u.pass.atr it.calls (subst (λ p. Runs u.pass.atr p it.calls) first it.stands))

        reads : m.step ≡ step.ReadAtr u.pass.atr
        reads = sym (some_same (ap (λ p. step_for u.pass.atr p) (sym first) ∙ asked))

-- A pass that ended Ok leaves nothing of the attempts that it covered.
use Rattle.std.proofs.Common.{◌≡◌, ◌≢◌, ℕ, suc, ◌+◌, ◌<◌, ◌≤◌, Bool, true, false, cond, inl, inr, ⊎_elim, List, [], ◌∷◌, ◌++◌, length, map, filter, Option, Some, None, refl, sym, ap, ◌∙◌, subst, arith}
use Rattle.std.proofs.lemmas.Bool.{cases_lt}
use Rattle.std.proofs.lemmas.Option.{none-some}
use Rattle.cbt_base.specs.Clock.{clock_mutated}
use Rattle.cbt_model.specs.History.{after, own, is_done, TakesEffect}
use Rattle.cbt_model.specs.Keys.{entry_at}
use Rattle.cbt_model.specs.Table.{touches}
use Rattle.cbt_model.specs.declared.documents.DocState.{DocState}
use Rattle.cbt_model.specs.declared.documents.Stage.{Stage}
use Rattle.cbt_model.specs.declared.entries.Entry.{Entry}
use Rattle.cbt_model.specs.declared.entries.EntryState.TheVariants.{Pending}
use Rattle.cbt_model.specs.declared.entries.Lists.{Lists}
use Rattle.cbt_model.specs.declared.events.Event.{Event}
use Rattle.cbt_model.specs.declared.events.Made.{Made}
use Rattle.cbt_model.specs.declared.states.State.{State}
use Rattle.cbt_model.specs.declared.steps.Reply.TheVariants as reply
use Rattle.cbt_model.specs.declared.steps.Step.TheVariants as step
use Rattle.cbt_model.proofs.Effects.{entry-at_effect}
use Rattle.cbt_model.proofs.Moves.{EntryMove}
use Rattle.cbt_model.proofs.Moves as moves
use Rattle.cbt_book.specs.Cleaners.{CleanerPlan, Course, RoundsFollow, RoundFollows, Shared, Unshared, course_of}
use Rattle.cbt_book.specs.OwnLists.{Once, In, is_within, during, Descends}
use Rattle.cbt_book.specs.Passes.{PassFollows, PassesFollow, PassKept, EndsPass, Finishes, IsDropped, expired_in, is_expired}
use Rattle.cbt_book.specs.Passes as passes
use Rattle.cbt_book.specs.Shown.{ReadsEntry, FindsNoEntry}
use Rattle.cbt_book.specs.declared.book.Book.{Book}
use Rattle.cbt_book.specs.declared.cleaners.PassEnd.TheVariants as pass_end
use Rattle.cbt_book.specs.declared.cleaners.PassLog.{PassLog}
use Rattle.cbt_book.specs.declared.cleaners.RoundLog.{RoundLog}
use Rattle.cbt_core.specs.Invariant.{DecidedAt}
use Rattle.cbt_core.specs.Laws.{IsFinishedAt, IsPass}
use Rattle.cbt_core.specs.Runs.{IsLegalRun, LogsFollow, own_of, sweeps}
use Rattle.cbt_core.specs.WriteSets.{numbered}
use Rattle.cbt_core.specs.declared.case.Case.{Case}
use Rattle.cbt_core.proofs.interleaving.Answers.{entry_told, no_entry_told, record_told, drop_none_told, drop_decided_told, done_told}
use Rattle.cbt_core.proofs.logs.Calls.{during_in, filter_descends}
use Rattle.cbt_core.proofs.interleaving.Decisions.{AtDecision, at_decision, is_commit, is_abort}
use Rattle.cbt_core.proofs.interleaving.Documents.{doc_then}
use Rattle.cbt_core.proofs.interleaving.Entries.{entry_then, stays_gone, stays_decided}
use Rattle.cbt_core.proofs.interleaving.Gone.{gone_finished}
use Rattle.cbt_core.proofs.runs.Lawful.{Lawful}
use Rattle.cbt_core.proofs.interleaving.Listed.{done_is}
use Rattle.cbt_core.proofs.logs.Owners.{numbered_there, numbered_within}
use Rattle.cbt_core.proofs.runs.Past.{in_at, Member, own_descends}
use Rattle.cbt_core.proofs.k3_answers.Readings.{Found, found_at}

-- the last item of a falling list has the lowest place
last_lowest : (first : Made) (later : List Made) (m : Made) → Descends (later ++ first ∷ []) → In m (later ++ first ∷ []) → first.answer.place ≤ m.answer.place
last_lowest first [] m falls there = ⊎_elim (λ (same : m ≡ first). equal (ap (λ (x : Made). x.answer.place) same)) (λ (no_more : ⊥). absurd no_more) there
  where
    equal : {a b : ℕ} → a ≡ b → b ≤ a
    equal is = omega arith
last_lowest first (x ∷ later) m falls there =
    ⊎_elim (λ (same : m ≡ x). subst (λ (y : Made). first.answer.place ≤ y.answer.place) (sym same) (let low = falls.0 first (at_end later) in omega arith))
    (λ (past : In m (later ++ first ∷ [])). last_lowest first later m falls.1 past) there
  where
    at_end : (l : List Made) → In first (l ++ first ∷ [])
    at_end [] = inl refl
    at_end (y ∷ l) = inr (at_end l)

-- what is covered stood in the record that was read
covered_there : (a now : ℕ) (entries : List (ℕ × Entry)) → In a (expired_in entries now) → (e : Entry) × In (a, e) entries
covered_there a now [] there = absurd there
covered_there a now (x ∷ entries) there = go (is_expired now x.1) (λ past. covered_there a now entries past) there
  where
    go : (b : Bool) → (In a (expired_in entries now) → (e : Entry) × In (a, e) entries)
        → In a (map (λ (e : ℕ × Entry). e.0) (cond b (x ∷ filter (λ (e : ℕ × Entry). is_expired now e.1) entries) (filter (λ (e : ℕ × Entry). is_expired now e.1) entries)))
        → (e : Entry) × In (a, e) (x ∷ entries)
    go true ih listed = ⊎_elim (λ (same : a ≡ x.0). (x.1, inl (ap (λ n. (n, x.1)) same))) (λ (past : In a (expired_in entries now)). let it = ih past in (it.0, inr it.1)) listed
    go false ih listed = let it = ih listed in (it.0, inr it.1)

-- a round's passes, and a cleaner's rounds
pass_of : (l : List Made) (at : ℕ) (logs : List PassLog) (pass : PassLog) → PassesFollow l at logs → In pass logs → (from : ℕ) × PassFollows l from pass
pass_of l at [] pass follow there = absurd there
pass_of l at (log ∷ logs) pass follow there =
    ⊎_elim (λ (same : pass ≡ log). (at, subst (λ p. PassFollows l at p) (sym same) follow.0)) (λ (past : In pass logs). pass_of l log.span.to logs pass follow.1 past) there

round_of : (plan : CleanerPlan) (l : List Made) (stopped : Bool) (at : ℕ) (logs : List RoundLog) (round : RoundLog) → RoundsFollow plan l stopped at logs → In round logs
    → (course : Course) × (from : ℕ) × RoundFollows plan l course from round
round_of plan l stopped at [] round follow there = absurd there
round_of plan l stopped at (log ∷ logs) round follow there =
    ⊎_elim (λ (same : round ≡ log). (course_of stopped logs, at, subst (λ p. RoundFollows plan l (course_of stopped logs) at p) (sym same) follow.0))
    (λ (past : In round logs). round_of plan l stopped log.span.to logs round follow.1 past) there

in_no_passes : (pass : PassLog) (logs : List PassLog) → logs ≡ [] → In pass logs → ⊥
in_no_passes pass logs none there = subst (λ ps. In pass ps) none there

pass_in_round : (plan : CleanerPlan) (l : List Made) (course : Course) (at : ℕ) (round : RoundLog) (pass : PassLog) → RoundFollows plan l course at round → In pass round.passes → (from : ℕ) × PassFollows l from pass
pass_in_round plan l course at round pass follow there =
    ⊎_elim (λ (shares : Shared plan l course round). pass_of l (suc shares.beat.answer.place) round.passes pass shares.passes.follow there)
    (λ (early : Unshared plan l course round). absurd (in_no_passes pass round.passes early.passes there)) follow.goes

-- the entry of attempt a was decided when it was to be dropped, and pending when it was read then
abbrev ReadPending : ℕ → ℕ → List Made → Type 0
ReadPending r a before = Once (λ m earlier. ((e : Entry) × ReadsEntry r a e m × (e.state ≡ Pending))
    × Once (λ n _. (n.step ≡ step.DropEntry r a true) × (n.answer.reply ≡ reply.Decided)) earlier) before

module _ (s0 : State) (h : List Event) (lawful : Lawful s0 h) where
  -- an attempt that has no entry any more is finished
  pub finished_when : (i a : ℕ) → ((k : ℕ) → i ≤ k → (q : ℕ) → entry_then s0 h lawful k (q, a) ≡ None) → IsFinishedAt s0 h a i
  finished_when i a none_at = record {
    no_entry = λ q. none_at i (omega arith) q;
    unstaged = λ q lists d doc stage decided listed at staged. unstaged q lists d doc stage decided at staged;
  }
    where
      decision : (q : ℕ) (lists : Lists) (it : DecidedAt s0 h q a lists) → AtDecision s0 h lawful q it.atr a
      decision q lists it = at_decision s0 h lawful q it.atr a it.event it.takes (⊎_elim (λ is. is_commit lists is) (λ is. is_abort lists is) it.is)

      unstaged : (q : ℕ) (lists : Lists) (d : List ℕ) (doc : DocState) (stage : Stage) → DecidedAt s0 h q a lists → doc_then s0 h lawful i d ≡ Some doc → doc.stage ≡ Some stage → stage.attempt ≢ a
      unstaged q lists d doc stage decided at staged =
          ⊎_elim (λ (before : q < i). gone_finished s0 h lawful i q decided.atr a d lists doc stage before decided (λ t. none_at i (omega arith) t) at staged)
          (λ (later : i ≤ q). let it = decision q lists decided in absurd (none-some it.old (sym (none_at q later decided.atr) ∙ it.there))) (cases_lt q i)

  -- and that is so from the moment on at which its entry is gone
  pub finished_from : (f p i r a : ℕ) (e : Entry) → f ≤ p → p ≤ i → entry_then s0 h lawful f (r, a) ≡ Some e → entry_then s0 h lawful p (r, a) ≡ None → IsFinishedAt s0 h a i
  finished_from f p i r a e low high there gone = finished_when i a (λ k up q. stays_gone s0 h lawful f p k q (r, a) e low (along high up) there gone)
    where
      along : {m n k : ℕ} → m ≤ n → n ≤ k → m ≤ k
      along one two = omega arith

  -- a drop that was done leaves no entry
  pub dropped_done : (p r a : ℕ) (g : Bool) (e : Event) → TakesEffect s0 h p e → e.step ≡ step.DropEntry r a g → entry_then s0 h lawful (suc p) (r, a) ≡ None
  dropped_done p r a g e takes is = go (entry-at_effect s0 h p e (r, a) lawful.sound.ordered takes)
    where
      differ_add : (exp : ℕ) → step.DropEntry r a g ≡ step.AddEntry r a exp → ⊥
      differ_add exp same = apart r a g exp same
        where
          apart : (r a : ℕ) (g : Bool) (exp : ℕ) → step.DropEntry r a g ≡ step.AddEntry r a exp → ⊥
          apart r a g exp same = cc

      differ_commit : (l : Lists) → step.DropEntry r a g ≡ step.Commit r a l → ⊥
      differ_commit l same = apart r a g l same
        where
          apart : (r a : ℕ) (g : Bool) (l : Lists) → step.DropEntry r a g ≡ step.Commit r a l → ⊥
          apart r a g l same = cc

      differ_abort : (l : Lists) → step.DropEntry r a g ≡ step.Abort r a l → ⊥
      differ_abort l same = apart r a g l same
        where
          apart : (r a : ℕ) (g : Bool) (l : Lists) → step.DropEntry r a g ≡ step.Abort r a l → ⊥
          apart r a g l same = cc

      go : EntryMove (after s0 h p) (clock_mutated (after s0 h p).last e.reading) e.step (r, a) (entry_at (after s0 h (suc p)) (r, a)) → entry_then s0 h lawful (suc p) (r, a) ≡ None
      go (moves.same apart kept) = absurd (apart (ap touches is))
      go (moves.added exp st at now) = absurd (differ_add exp (sym is ∙ st))
      go (moves.committed lists old st at pending now) = absurd (differ_commit lists (sym is ∙ st))
      go (moves.aborted lists old st at pending now) = absurd (differ_abort lists (sym is ∙ st))
      go (moves.dropped guarded old st at may_be now) = now

  module _ (actor : ℕ) (at : ℕ) (pass : PassLog) (follows : PassFollows (own s0 h actor (length h)) at pass) where
    abbrev calls : List Made
    calls = during pass.span (own s0 h actor (length h))

    falls : Descends calls
    falls = filter_descends (λ x. is_within pass.span x.answer.place) (own s0 h actor (length h)) (own_descends s0 h actor (length h))

    member : (m : Made) → In m calls → Member s0 h m actor (length h)
    member m there = in_at s0 h m actor (length h) (during_in pass.span m (own s0 h actor (length h)) there).there

    place_of : (m : Made) (it : Member s0 h m actor (length h)) → m.answer.place ≡ it.place
    place_of m it = ap (λ (x : Made). x.answer.place) it.made

    -- the entry of a covered attempt stood at the pass's first reading
    pub record Covered (a : ℕ) : Type 0 where
      pub place : ℕ
      pub entry : Entry
      pub there : entry_then s0 h lawful place (pass.atr, a) ≡ Some entry
      pub first : (m : Made) → In m calls → place ≤ m.answer.place

    covered_at : (a : ℕ) (covered : List ℕ) → PassKept pass.atr follows.first calls covered → In a covered → Covered a
    covered_at a covered kept listed =
        let it = member follows.first first_in in
        let e = covered_there a follows.first.answer.now kept.entries (subst (λ l. In a l) kept.covered_is listed) in
        record {
          place = it.place;
          entry = e.0;
          there = record_told s0 h it.place it.event lawful.sound.ordered pass.atr a e.0 kept.entries (ap (λ (x : Made). x.step) (sym it.made) ∙ follows.may.reads) (ap (λ (x : Made). x.answer.reply) (sym it.made) ∙ kept.shown) e.1;
          first = λ m there. subst (λ n. n ≤ m.answer.place) (place_of follows.first it) (last_lowest follows.first follows.later m (subst (λ l. Descends l) follows.calls falls) (subst (λ l. In m l) follows.calls there));
        }
      where
        at_end : (l : List Made) → In follows.first (l ++ follows.first ∷ [])
        at_end [] = inl refl
        at_end (y ∷ l) = inr (at_end l)

        first_in : In follows.first calls
        first_in = subst (λ l. In follows.first l) (sym follows.calls) (at_end follows.later)

    -- what was done to it left no entry
    gone_by : (a i : ℕ) → Covered a → Finishes pass.atr a calls → pass.span.to ≤ i → IsFinishedAt s0 h a i
    gone_by a i was (passes.dropped once) after_end = go (found_at (λ m _. (guarded : Bool) × (m.step ≡ step.DropEntry pass.atr a guarded) × IsDropped m.answer.reply) calls falls once)
      where
        go : Found (λ m _. (guarded : Bool) × (m.step ≡ step.DropEntry pass.atr a guarded) × IsDropped m.answer.reply) calls → IsFinishedAt s0 h a i
        go f =
            let it = member f.call f.there in
            let p = place_of f.call it in
            let low = was.first f.call f.there in
            let high = (during_in pass.span f.call (own s0 h actor (length h)) f.there).high in
            let is = ap (λ (x : Made). x.step) (sym it.made) ∙ f.holds.1 in
            ⊎_elim (λ (done : is_done f.call.answer.reply ≡ true).
            let c = done_is f.call.answer.reply done in
            let takes = (done_told s0 h it.place it.event c.0 it.is (ap (λ (x : Made). x.answer.reply) (sym it.made) ∙ c.1)).0 in
            finished_from was.place (suc it.place) i pass.atr a was.entry (omega arith) (omega arith) was.there (dropped_done it.place pass.atr a f.holds.0 it.event takes is))
            (λ (none : f.call.answer.reply ≡ reply.NoEntry).
            finished_from was.place it.place i pass.atr a was.entry (omega arith) (omega arith) was.there
            (drop_none_told s0 h it.place it.event pass.atr a f.holds.0 is (ap (λ (x : Made). x.answer.reply) (sym it.made) ∙ none)))
            f.holds.2
    gone_by a i was (passes.missing once) after_end = go (found_at (λ m _. FindsNoEntry pass.atr a m) calls falls once)
      where
        go : Found (λ m _. FindsNoEntry pass.atr a m) calls → IsFinishedAt s0 h a i
        go f =
            let it = member f.call f.there in
            let p = place_of f.call it in
            let low = was.first f.call f.there in
            let high = (during_in pass.span f.call (own s0 h actor (length h)) f.there).high in
            finished_from was.place it.place i pass.atr a was.entry (omega arith) (omega arith) was.there
            (no_entry_told s0 h it.place it.event pass.atr a (ap (λ (x : Made). x.step) (sym it.made) ∙ f.holds.0) (ap (λ (x : Made). x.answer.reply) (sym it.made) ∙ f.holds.1))
    gone_by a i was (passes.pending once) after_end =
        absurd (sent (found_at (λ l between. (l.step ≡ step.DropEntry pass.atr a true) × ReadPending pass.atr a between) calls falls once))
      where
        go : (between : List Made) → ((x : Made) → In x between → In x calls)
            → Found (λ m before. ((e : Entry) × ReadsEntry pass.atr a e m × (e.state ≡ Pending))
            × Once (λ n _. (n.step ≡ step.DropEntry pass.atr a true) × (n.answer.reply ≡ reply.Decided)) before) between → ⊥
        go between among f = last (found_at (λ n _. (n.step ≡ step.DropEntry pass.atr a true) × (n.answer.reply ≡ reply.Decided)) f.past f.falls f.holds.1)
          where
            last : Found (λ n _. (n.step ≡ step.DropEntry pass.atr a true) × (n.answer.reply ≡ reply.Decided)) f.past → ⊥
            last g =
                let read = member f.call (among f.call f.there) in
                let older = f.older g.call g.there in
                let drop = member g.call (among g.call older.0) in
                let p = place_of f.call read in
                let q = place_of g.call drop in
                let low = older.1 in
                let x = drop_decided_told s0 h drop.place drop.event pass.atr a (ap (λ (y : Made). y.step) (sym drop.made) ∙ g.holds.0) (ap (λ (y : Made). y.answer.reply) (sym drop.made) ∙ g.holds.1) in
                let now = entry_told s0 h read.place read.event pass.atr a f.holds.0.0 (ap (λ (y : Made). y.step) (sym read.made) ∙ f.holds.0.1.0) (ap (λ (y : Made). y.answer.reply) (sym read.made) ∙ f.holds.0.1.1) in
                x.2 (sym (stays_decided s0 h lawful drop.place read.place (pass.atr, a) x.0 f.holds.0.0 (omega arith) x.1 x.2 now).0 ∙ f.holds.0.2)

        sent : Found (λ l between. (l.step ≡ step.DropEntry pass.atr a true) × ReadPending pass.atr a between) calls → ⊥
        sent k =
            go k.past (λ x there. (k.older x there).0)
            (found_at (λ m before. ((e : Entry) × ReadsEntry pass.atr a e m × (e.state ≡ Pending))
            × Once (λ n _. (n.step ≡ step.DropEntry pass.atr a true) × (n.answer.reply ≡ reply.Decided)) before) k.past k.falls k.holds.1)

    pub pass_leaves : (covered : List ℕ) (a i : ℕ) → pass.end ≡ pass_end.Ok covered → In a covered → pass.span.to ≤ i → IsFinishedAt s0 h a i
    pass_leaves covered a i ok listed after_end =
        let kept = subst (λ end. EndsPass pass.atr follows.first calls end) ok follows.ends in
        gone_by a i (covered_at a covered kept listed) (kept.finished a listed) after_end

module _ (case : Case) (book : Book) (legal : IsLegalRun case book) (follow : LogsFollow case book) (lawful : Lawful book.kept.opening book.kept.history) where
  -- a pass of the book follows in its cleaner's own list
  pub record PassOf (pass : PassLog) : Type 0 where
    pub actor : ℕ
    pub at : ℕ
    pub follows : PassFollows (own_of book actor) at pass

  sweep_there : (o : Option ℕ) → 0 < sweeps o → (ms : ℕ) × (o ≡ Some ms)
  sweep_there None low = absurd (omega arith)
  sweep_there (Some ms) low = (ms, refl)

  sweeps_few : (o : Option ℕ) → sweeps o ≤ 1
  sweeps_few None = omega arith
  sweeps_few (Some ms) = omega arith

  pub pass_by : (pass : PassLog) → IsPass book pass → PassOf pass
  pass_by pass it =
      ⊎_elim (λ (past : length case.rounds < it.number). sweep past) (λ (few : it.number ≤ length case.rounds). cleaner few) (cases_lt (length case.rounds) it.number)
    where
      low : (0 < it.number) × (it.number ≤ length book.cleaners)
      low = numbered_within book.cleaners it.number it.cleaner it.cleaner_is

      cleaner : it.number ≤ length case.rounds → PassOf pass
      cleaner few =
          let rounds = numbered_there case.rounds it.number low.0 few in
          let log = follow.cleaners.each it.number rounds.0 it.cleaner rounds.1 it.cleaner_is in
          let round = round_of _ (own_of book (length case.plans + it.number)) it.cleaner.stopped 0 it.cleaner.rounds it.round log.rounds it.round_in in
          let found = pass_in_round _ (own_of book (length case.plans + it.number)) round.0 round.1 it.round pass round.2 it.pass_in in
          record { actor = length case.plans + it.number; at = found.0; follows = found.1 }

      last : (n k s total : ℕ) → k < n → n ≤ total → total ≡ k + s → s ≤ 1 → (n ≡ suc k) × (0 < s)
      last n k s total past few same one = (omega arith, omega arith)

      sweep : length case.rounds < it.number → PassOf pass
      sweep past =
          let number = last it.number (length case.rounds) (sweeps case.sweep) (length book.cleaners) past low.1 follow.cleaners.all (sweeps_few case.sweep) in
          let ms = sweep_there case.sweep number.1 in
          let log = follow.cleaners.sweep ms.0 it.cleaner ms.1 (ap (λ n. numbered book.cleaners n) (sym number.0) ∙ it.cleaner_is) in
          let round_is : it.round ≡ log.round = only log.round (subst (λ l. In it.round l) log.one it.round_in) in
          let found = pass_of (own_of book (length case.plans + suc (length case.rounds))) 0 log.round.passes pass log.passes.follow (subst (λ (r : RoundLog). In pass r.passes) round_is it.pass_in) in
          record { actor = length case.plans + suc (length case.rounds); at = found.0; follows = found.1 }
        where
          only : (r : RoundLog) → In it.round (r ∷ []) → it.round ≡ r
          only r there = ⊎_elim (λ (same : it.round ≡ r). same) (λ (none : ⊥). absurd none) there

  pub passes_leave : (pass : PassLog) (covered : List ℕ) (a i : ℕ) → IsPass book pass → pass.end ≡ pass_end.Ok covered → In a covered → pass.span.to ≤ i → IsFinishedAt book.kept.opening book.kept.history a i
  passes_leave pass covered a i is ok listed after_end =
      let it = pass_by pass is in pass_leaves book.kept.opening book.kept.history lawful it.actor it.at pass it.follows covered a i ok listed after_end

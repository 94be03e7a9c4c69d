-- What the answer to its call makes of the operation under way.
use Rattle.std.proofs.Common.{◌≡◌, ◌≢◌, ℕ, ◌≤◌, true, List, ◌∷◌, ◌++◌, Option, Some, None, is_some, refl, sym, ap, ◌∙◌, subst}
use Rattle.std.proofs.lemmas.Option.{none-some}
use Rattle.cbt_expr.specs.declared.plans.Op.{Op}
use Rattle.cbt_model.specs.Fitting.{fits}
use Rattle.cbt_model.specs.declared.events.Answer.{Answer}
use Rattle.cbt_model.specs.declared.events.Made.{Made}
use Rattle.cbt_model.specs.declared.steps.Reply.TheVariants as reply
use Rattle.cbt_model.specs.declared.steps.Step.{Step}
use Rattle.cbt_model.specs.declared.steps.Step.TheVariants as step
use Rattle.cbt_book.specs.OwnLists.{Descends}
use Rattle.cbt_core.specs.OpCalls.{write_terms}
use Rattle.cbt_core.specs.Walk.{AttemptTerms}
use Rattle.cbt_core.proofs.runs.Past.{some_same}
use Rattle.cbt_attempt.specs.declared.attempt.Attempt.{Attempt}
use Rattle.cbt_attempt.specs.declared.own.Own.{Own}
use Rattle.cbt_logs.specs.Operating.{AreFine, sofar}
use Rattle.cbt_logs.proofs.Lists.{each_more}
use Rattle.cbt_read.specs.Phases as get
use Rattle.cbt_read.specs.Standing as get_standing
use Rattle.cbt_read.specs.declared.ends.GetEnd.{GetEnd}
use Rattle.cbt_read.specs.declared.ends.GetEnd.TheVariants as get_end
use Rattle.cbt_read.specs.declared.gets.Get.{Get}
use Rattle.cbt_read.specs.declared.phases.Phase as get_phases
use Rattle.cbt_read.specs.declared.phases.Phase.TheVariants as get_phase
use Rattle.cbt_read.proofs.Stands as get_stands
use Rattle.cbt_stage.specs.Phases as put
use Rattle.cbt_stage.specs.Standing as put_standing
use Rattle.cbt_stage.specs.Tasks.{is_staging, record_added}
use Rattle.cbt_stage.specs.declared.ends.PutEnd.{PutEnd}
use Rattle.cbt_stage.specs.declared.phases.Phase as put_phases
use Rattle.cbt_stage.specs.declared.phases.Phase.TheVariants as put_phase
use Rattle.cbt_stage.specs.declared.puts.Put.{Put}
use Rattle.cbt_stage.specs.declared.tasks.Task.{Task}
use Rattle.cbt_stage.proofs.Rewriting as again_stands
use Rattle.cbt_stage.proofs.Stands as put_stands
use Rattle.cbt_txn.specs.Feeding.{fed, fed_put, fed_read, learnt, with_sent, with_staging}
use Rattle.cbt_txn.specs.Following.{AsksRead, Fits, Follows, Goes, Halts, IsUnder, PutsOn, Works, WritesAgain}
use Rattle.cbt_txn.specs.Following as following
use Rattle.cbt_txn.specs.Works.{stamp_in, step_of}
use Rattle.cbt_txn.specs.declared.operations.Operations.{Operations}
use Rattle.cbt_txn.specs.declared.operations.Work.{Work}
use Rattle.cbt_txn.specs.declared.operations.Work.TheVariants as work
use Rattle.cbt_txn.proofs.AgainAnswers.{again_answers}
use Rattle.cbt_txn.proofs.Agreeing.{agrees_sent}
use Rattle.cbt_txn.proofs.Machines.{get_failed, get_open, put_open, sent_on}
use Rattle.cbt_txn.proofs.PutAnswers.{put_answers}
use Rattle.cbt_txn.proofs.Taken.{Stood, made_of, stood_on, taken_in}

-- the operation goes on
going_on : (t : AttemptTerms) (c : Operations) (l0 told calls : List Made) (s : Step) (ans : Answer) (a : Attempt) (w : Work) → IsUnder t a
    → Stood t c l0 told calls → Works t (record (taken_in c ans.place a) { work = w }) (told ++ l0) (made_of s ans ∷ calls) w
    → Follows t (record (taken_in c ans.place a) { work = w }) l0 ((made_of s ans ∷ calls) ++ told)
going_on t c l0 told calls s ans a w under stood works =
    let on = stood_on t c l0 told calls s ans a stood in
    record {
      told = told;
      calls = made_of s ans ∷ calls;
      mine_is = refl;
      under = under;
      first_is = on.first_is;
      past_is = on.past_is;
      tells = on.tells;
      works = works;
    }

-- a read
module _ (t : AttemptTerms) (c : Operations) (l0 told calls : List Made) (s : Step) (ans : Answer) (o : Op) (it : Get) (under : IsUnder t c.attempt)
    (stood : Stood t c l0 told calls) (goes : Goes t c (told ++ l0) calls o) (stands : get_standing.StandsFor it calls) (asks : get.step_of it ≡ Some s)
    (fit : fits s ans.reply ≡ true) (timed : ans.now ≤ t.latest) where
  abbrev new : get_phases.Phase → Get
  new p = record { doc = it.doc; phase = p }

  stands_new : get_standing.StandsFor (new (get.after it.phase ans.place ans.reply)) (made_of s ans ∷ calls)
  stands_new = get_stands.stands_on it calls s ans asks fit stands

  fine_new : (p : get_phases.Phase) → get.after it.phase ans.place ans.reply ≡ p → get.end_in p ≡ None → AreFine t (made_of s ans ∷ calls)
  fine_new p is none = ((timed, get_open it.doc it.phase ans.place s ans.reply asks (ap get.end_in is ∙ none)), goes.fine)

  get_works : (write : Option Own) → AsksRead t c it.doc write o → (p : get_phases.Phase) → get.after it.phase ans.place ans.reply ≡ p → get.end_in p ≡ None
      → Works t (record (taken_in c ans.place c.attempt) { work = work.Get (new p) write }) (told ++ l0) (made_of s ans ∷ calls) (work.Get (new p) write)
  get_works None asks_read p is none =
      following.gets o (new p) asks_read.0 (record { next = goes.next; bound = goes.bound; agrees = goes.agrees; fine = fine_new p is none }) asks_read.1 asks_read.2
      (subst (λ p. get_standing.StandsFor (new p) (made_of s ans ∷ calls)) is stands_new) none
  get_works (Some write) asks_read p is none =
      following.reads o (new p) write (record { next = goes.next; bound = goes.bound; agrees = goes.agrees; fine = fine_new p is none })
      (record { asks = asks_read.asks; unwritten = asks_read.unwritten; unserved = asks_read.unserved })
      (subst (λ p. get_standing.StandsFor (new p) (made_of s ans ∷ calls)) is stands_new) none

  asks_on : (write : Option Own) → AsksRead t c it.doc write o → AsksRead t (taken_in c ans.place c.attempt) it.doc write o
  asks_on None it = it
  asks_on (Some write) it = record { asks = it.asks; unwritten = it.unwritten; unserved = it.unserved }

  get_reads : (write : Option Own) → AsksRead t c it.doc write o → (end : GetEnd) → get.after it.phase ans.place ans.reply ≡ get_phase.Ended end
      → following.Reads t (taken_in c ans.place c.attempt) l0 told (made_of s ans ∷ calls) it.doc write end
  get_reads write asks_read end is =
      let on = stood_on t c l0 told calls s ans c.attempt stood in
      record {
        op = o;
        next = goes.next;
        asks = asks_on write asks_read;
        under = under;
        first_is = on.first_is;
        past_is = on.past_is;
        tells = on.tells;
        bound = goes.bound;
        agrees = goes.agrees;
        reads = stands_new.bounded;
        ends = subst (λ p. get_standing.Knows it.doc p (made_of s ans ∷ calls)) is stands_new.knows;
        last = record { phase = it.phase; newest = made_of s ans; older = calls; calls_are = refl; knows = stands.knows; asked = asks; ended = is };
        in_time = (timed, each_more (λ m. (m.answer.now ≤ t.latest) × (m.answer.reply ≢ reply.Failed)) (λ m. m.answer.now ≤ t.latest) calls (λ m fine. fine.0) goes.fine);
        failed = (
          (λ failed. some_same (sym (ap get.end_in is) ∙ ap (λ r. get.end_in (get.after it.phase ans.place r)) failed
              ∙ ap get.end_in (get_failed it.doc it.phase ans.place s asks))),
          each_more (λ m. (m.answer.now ≤ t.latest) × (m.answer.reply ≢ reply.Failed))
              (λ m. m.answer.reply ≡ reply.Failed → end ≡ get_end.CallFailed m.answer.place) calls (λ m fine is. absurd (fine.1 is)) goes.fine,
        );
      }

  get_taken : (write : Option Own) → AsksRead t c it.doc write o → (p : get_phases.Phase) → get.after it.phase ans.place ans.reply ≡ p
      → Fits t (taken_in c ans.place c.attempt) l0 told (made_of s ans ∷ calls) (fed_read it.doc write p)
  get_taken write asks_read get_phase.Begun is =
      going_on t c l0 told calls s ans c.attempt (work.Get (new get_phase.Begun) write) under stood (get_works write asks_read get_phase.Begun is refl)
  get_taken write asks_read (get_phase.Asking staged left) is =
      going_on t c l0 told calls s ans c.attempt (work.Get (new (get_phase.Asking staged left)) write) under stood
      (get_works write asks_read (get_phase.Asking staged left) is refl)
  get_taken write asks_read (get_phase.Again staged gone place left) is =
      going_on t c l0 told calls s ans c.attempt (work.Get (new (get_phase.Again staged gone place left)) write) under stood
      (get_works write asks_read (get_phase.Again staged gone place left) is refl)
  get_taken write asks_read (get_phase.Ended end) is = get_reads write asks_read end is

-- a put asks for the entry of the attempt whose write waits in the document
waits_for : (o : Task) (p : put_phases.Phase) (mine : List Made) (s : Step) (r by : ℕ) → put.step_for o p ≡ Some s → s ≡ step.ReadEntry r by
    → put_standing.Knows o p mine → put_standing.Waits o r by
waits_for o (put_phase.Asking q b left) mine s r by asks is was =
    subst (λ k. put_standing.Waits o k by) (same_record asks is) (subst (λ k. put_standing.Waits o q k) (same_attempt asks is) was.waits)
  where
    same_record : {q b r by : ℕ} {s : Step} → Some (step.ReadEntry q b) ≡ Some s → s ≡ step.ReadEntry r by → q ≡ r
    same_record one two = cc

    same_attempt : {q b r by : ℕ} {s : Step} → Some (step.ReadEntry q b) ≡ Some s → s ≡ step.ReadEntry r by → b ≡ by
    same_attempt one two = cc
waits_for o put_phase.Adding mine s r by asks is was = absurd (cc)
waits_for o put_phase.Staging mine s r by asks is was = absurd (cc)
waits_for o (put_phase.Ended end) mine s r by asks is was = absurd (cc)

-- a put
module _ (t : AttemptTerms) (c : Operations) (l0 told mine reads : List Made) (s : Step) (ans : Answer) (o : Op) (it : Put)
    (falls : Descends (((made_of s ans ∷ mine) ++ reads) ++ (told ++ l0))) (under : IsUnder t c.attempt) (stood : Stood t c l0 told (mine ++ reads))
    (goes : Goes t c (told ++ l0) (mine ++ reads) o) (on : PutsOn t c (told ++ l0) it mine reads o) (going : put.end_of it ≡ None)
    (asks : put.step_of it ≡ Some s) (fit : fits s ans.reply ≡ true) (timed : ans.now ≤ t.latest) where
  abbrev put_new : Put
  put_new = record { task = it.task; phase = put.after it.task it.phase ans.place ans.reply }

  put_works : (sent : Option ℕ) → put.end_of put_new ≡ None
      → (put.after it.task it.phase ans.place ans.reply ≡ put_phase.Staging → is_some (with_sent c.attempt sent).sent ≡ true)
      → Follows t (record (taken_in c ans.place (with_sent c.attempt sent)) { work = work.Put put_new }) l0 ((made_of s ans ∷ (mine ++ reads)) ++ told)
  put_works None none entered =
      going_on t c l0 told (mine ++ reads) s ans c.attempt (work.Put put_new) under stood
      (following.puts o put_new (made_of s ans ∷ mine) reads
      (record {
        next = goes.next;
        bound = goes.bound;
        agrees = goes.agrees;
        fine = ((timed, put_open it.task it.phase ans.place s ans.reply asks none), goes.fine);
      }) refl
      (record {
        asks = on.asks;
        unwritten = on.unwritten;
        of_attempt = on.of_attempt;
        stands_on = on.stands_on;
        reads_are = on.reads_are;
        read_last = on.read_last;
        stands = put_stands.stands_on (write_terms t) it mine s ans asks fit on.stands;
        asked_for = ((λ r by is. waits_for it.task it.phase mine s r by asks is on.stands.knows), on.asked_for);
        sent_before = on.sent_before;
        sent = entered;
      }) none)
  put_works (Some r) none entered =
      going_on t c l0 told (mine ++ reads) s ans (with_sent c.attempt (Some r)) (work.Put put_new)
      (record { id_is = under.id_is; atrs_is = under.atrs_is; hold_is = under.hold_is }) stood
      (following.puts o put_new (made_of s ans ∷ mine) reads
      (record {
        next = goes.next;
        bound = goes.bound;
        agrees = agrees_sent (sofar t c.logs) c.attempt r (told ++ l0) goes.agrees;
        fine = ((timed, put_open it.task it.phase ans.place s ans.reply asks none), goes.fine);
      }) refl
      (record {
        asks = on.asks;
        unwritten = on.unwritten;
        of_attempt = on.of_attempt;
        stands_on = on.stands_on;
        reads_are = on.reads_are;
        read_last = on.read_last;
        stands = put_stands.stands_on (write_terms t) it mine s ans asks fit on.stands;
        asked_for = ((λ r by is. waits_for it.task it.phase mine s r by asks is on.stands.knows), on.asked_for);
        sent_before = λ sent. refl;
        sent = λ staging. refl;
      }) none)

  put_taken : (end : Option PutEnd) → put.end_of put_new ≡ end
      → Fits t (taken_in c ans.place (with_staging (with_sent c.attempt (record_added (put.step_of it))) it.task (is_staging (put.step_of it)) end (stamp_in ans.reply)))
      l0 told (made_of s ans ∷ (mine ++ reads)) (fed_put put_new end)
  put_taken None is =
      put_works (record_added (put.step_of it)) is (λ staging. sent_on it.task it.phase ans.place s ans.reply c.attempt asks on.sent_before staging)
  put_taken (Some end) is = put_answers t c l0 told mine reads o it s ans falls goes on going asks fit timed end is under stood

-- whatever the work is
module _ (t : AttemptTerms) (c : Operations) (l0 told calls : List Made) (s : Step) (ans : Answer) (falls : Descends ((made_of s ans ∷ calls) ++ (told ++ l0)))
    (under : IsUnder t c.attempt) (stood : Stood t c l0 told calls) (fit : fits s ans.reply ≡ true) (timed : ans.now ≤ t.latest) where
  pub taken : (w : Work) → Works t c (told ++ l0) calls w → step_of w ≡ Some s
      → Fits t (taken_in c ans.place (learnt c.attempt w ans.place ans.reply)) l0 told (made_of s ans ∷ calls) (fed w ans.place ans.reply)
  taken w (following.gets o it name goes asked unwritten stands going) asks =
      get_taken t c l0 told calls s ans o it under stood goes stands asks fit timed None (name, asked, unwritten) (get.after it.phase ans.place ans.reply) refl
  taken w (following.reads o it write goes reads_for stands going) asks =
      get_taken t c l0 told calls s ans o it under stood goes stands asks fit timed (Some write) reads_for (get.after it.phase ans.place ans.reply) refl
  taken w (following.puts o it mine reads goes same on going) asks =
      subst (λ k. Fits t (taken_in c ans.place (learnt c.attempt (work.Put it) ans.place ans.reply)) l0 told (made_of s ans ∷ k) (fed (work.Put it) ans.place ans.reply))
      (sym same)
      (put_taken t c l0 told mine reads s ans o it (subst (λ k. Descends ((made_of s ans ∷ k) ++ (told ++ l0))) same falls) under
      (subst (λ k. Stood t c l0 told k) same stood) (subst (λ k. Goes t c (told ++ l0) k o) same goes) on going asks fit timed
      (put.end_in (put.after it.task it.phase ans.place ans.reply)) refl)
  taken w (following.agains o it goes on going) asks =
      let none = again_stands.made_none it calls s asks on.stands.knows in
      subst (λ k. Fits t (taken_in c ans.place (learnt c.attempt (work.Again it) ans.place ans.reply)) l0 told (made_of s ans ∷ k) (fed (work.Again it) ans.place ans.reply))
      (sym none)
      (again_answers t c l0 told o it s ans (subst (λ k. Descends ((made_of s ans ∷ k) ++ (told ++ l0))) none falls)
      (subst (λ k. Goes t c (told ++ l0) k o) none goes) (subst (λ k. WritesAgain t c it k o) none on) asks fit timed under
      (subst (λ k. Stood t c l0 told k) none stood))
  taken w (following.done none good all) asks = absurd (none-some s asks)
  taken w (following.refused none last) asks = absurd (none-some s asks)
  taken w (following.late newest before same late it) asks = absurd (none-some s asks)

-- What licenses the call of the operation under way licenses the next one too, behind the answer.
use Rattle.std.proofs.Common.{◌≡◌, ◌≢◌, ℕ, Bool, true, false, cond, inl, inr, ⊎_elim, List, [], ◌∷◌, ◌++◌, Option, Some, None, refl, ap, sym, ◌∙◌, subst}
use Rattle.std.proofs.lemmas.Option.{none-some}
use Rattle.cbt_model.specs.Fitting.{fits}
use Rattle.cbt_model.specs.History.{is_done}
use Rattle.cbt_model.specs.declared.events.Answer.{Answer}
use Rattle.cbt_model.specs.declared.events.Made.{Made}
use Rattle.cbt_model.specs.declared.steps.Expect.TheVariants as expect
use Rattle.cbt_model.specs.declared.steps.Reply.{Reply}
use Rattle.cbt_model.specs.declared.steps.Reply.TheVariants as reply
use Rattle.cbt_model.specs.declared.steps.Step.{Step}
use Rattle.cbt_model.specs.declared.steps.Step.TheVariants as step
use Rattle.cbt_book.specs.Licence.{MayHaveStaged, MayTake}
use Rattle.cbt_book.specs.Numbers.{Identity}
use Rattle.cbt_book.specs.OwnLists.{Once}
use Rattle.cbt_book.specs.Outcomes.{expected}
use Rattle.cbt_book.specs.Shown.{adds, decides, AddsEntry, added, was_there}
use Rattle.cbt_attempt.specs.Notes.{stage_of}
use Rattle.cbt_attempt.specs.declared.attempt.Attempt.{Attempt}
use Rattle.cbt_attempt.specs.declared.own.Own.{Own}
use Rattle.cbt_read.specs.Phases as get
use Rattle.cbt_read.specs.Standing as get_stands
use Rattle.cbt_read.specs.declared.ends.GetEnd.{GetEnd}
use Rattle.cbt_read.specs.declared.ends.GetEnd.TheVariants as get_end
use Rattle.cbt_read.specs.declared.gets.Get.{Get}
use Rattle.cbt_read.specs.declared.phases.Phase as get_phase
use Rattle.cbt_read.specs.declared.phases.Phase.TheVariants as get_phases
use Rattle.cbt_read.proofs.Stands as get_proofs
use Rattle.cbt_stage.specs.Phases as put
use Rattle.cbt_stage.specs.PutCalls.{terms_of}
use Rattle.cbt_stage.specs.Ready.{IsReady}
use Rattle.cbt_stage.specs.Rewrites.{asked_for, ended}
use Rattle.cbt_stage.specs.Standing as put_stands
use Rattle.cbt_stage.specs.declared.agains.Again.{Again}
use Rattle.cbt_stage.specs.declared.ends.PutEnd.{PutEnd}
use Rattle.cbt_stage.specs.declared.phases.Phase as put_phase
use Rattle.cbt_stage.specs.declared.phases.Phase.TheVariants as put_phases
use Rattle.cbt_stage.specs.declared.puts.Put.{Put}
use Rattle.cbt_stage.specs.declared.rewrites.Rewrite.{Rewrite}
use Rattle.cbt_stage.specs.declared.tasks.Task.{Task}
use Rattle.cbt_stage.proofs.Licensing.{licensed as put_licensed}
use Rattle.cbt_stage.proofs.Parts.{newest}
use Rattle.cbt_stage.proofs.Stands as put_proofs
use Rattle.cbt_txn.specs.Feeding.{fed, fed_put, fed_read, learnt, with_staging}
use Rattle.cbt_txn.specs.Licensing.{GoesWell, MayCome, MayRead, MayWork, gets, puts, agains, done, refused, late, Owns}
use Rattle.cbt_txn.specs.Works.{stamp_in, step_of, written}
use Rattle.cbt_txn.specs.declared.operations.Fed.{Fed}
use Rattle.cbt_txn.specs.declared.operations.Fed.TheVariants.{Going, Written}
use Rattle.cbt_txn.specs.declared.operations.Work.{Work}
use Rattle.cbt_txn.specs.declared.operations.Work.TheVariants as work
use Rattle.cbt_txn.proofs.Licensing.{IsOver, is_over}
use Rattle.cbt_txn.proofs.Owning.{IsNeutral, owns_neutral, well_quiet, owns_sent, well_sent, owns_refused, owns_staged, well_staged, owns_staged_unknown, owns_taken_back, well_taken_back, owns_unstick_unknown}

some_same : {X : Type 0} {x y : X} → Some x ≡ Some y → x ≡ y
some_same both = cc

false-true : false ≡ true → ⊥
false-true both = cc

-- the attempt has noted what it has to, and may go on
abbrev pub StaysLicensed : Identity → Attempt → List Made → Fed → Type 0
StaysLicensed who a l it = Owns who a l × MayCome who a l it

-- ---- a read

read_neutral : (a : ℕ) (d : List ℕ) (p : get_phase.Phase) (s : Step) → get.step_for d p ≡ Some s → IsNeutral a s
read_neutral a d get_phases.Begun s asked =
    subst (IsNeutral a) (some_same asked) (record { quiet = tt; unadded = λ none. none-some a none; undecided = λ none. none-some a none })
read_neutral a d (get_phases.Asking staged left) s asked =
    subst (IsNeutral a) (some_same asked) (record { quiet = tt; unadded = λ none. none-some a none; undecided = λ none. none-some a none })
read_neutral a d (get_phases.Again staged gone place left) s asked =
    subst (IsNeutral a) (some_same asked) (record { quiet = tt; unadded = λ none. none-some a none; undecided = λ none. none-some a none })
read_neutral a d (get_phases.Ended end) s asked = absurd (none-some s asked)

may_read : (d : List ℕ) (end : GetEnd) (mine older : List Made) → get_stands.EndsBy d end mine → MayRead d end (mine ++ older)
may_read d (get_end.Value seen) mine older reads = (mine, newest mine older, reads)
may_read d get_end.Contended mine older reads = tt
may_read d (get_end.CallFailed place) mine older reads = tt

read_comes : (who : Identity) (a : Attempt) (l : List Made) (d : List ℕ) (write : Option Own) (p : get_phase.Phase) (mine older : List Made) → GoesWell a l
    → l ≡ mine ++ older → get_stands.StandsFor (record { doc = d; phase = p }) mine → MayCome who a l (fed_read d write p)
read_comes who a l d write get_phases.Begun mine older well is stands = gets (record { doc = d; phase = get_phases.Begun }) write mine older well is stands
read_comes who a l d write (get_phases.Asking staged left) mine older well is stands =
    gets (record { doc = d; phase = get_phases.Asking staged left }) write mine older well is stands
read_comes who a l d write (get_phases.Again staged gone place left) mine older well is stands =
    gets (record { doc = d; phase = get_phases.Again staged gone place left }) write mine older well is stands
read_comes who a l d write (get_phases.Ended end) mine older well is stands = (well, subst (MayRead d end) (sym is) (may_read d end mine older stands.knows))

module _ (who : Identity) (a : Attempt) (l : List Made) (s : Step) (answer : Answer) (owns : Owns who a l) (well : GoesWell a l) where
  abbrev Call : Made
  Call = record { step = s; answer = answer }

  read_on : (it : Get) (write : Option Own) (mine older : List Made) → l ≡ mine ++ older → get_stands.StandsFor it mine → get.step_of it ≡ Some s
      → fits s answer.reply ≡ true
      → StaysLicensed who (learnt a (work.Get it write) answer.place answer.reply) (Call ∷ l) (fed (work.Get it write) answer.place answer.reply)
  read_on it write mine older is stands asked fit =
      let neutral = read_neutral a.id it.doc it.phase s asked in (
        owns_neutral a Call l who neutral owns,
        read_comes who a (Call ∷ l) it.doc write (get.after it.phase answer.place answer.reply) (Call ∷ mine) older (well_quiet a Call l neutral.quiet well)
            (ap (λ k. Call ∷ k) is) (get_proofs.stands_on it mine s answer asked fit stands),
      )

-- ---- a put

abbrev NothingStaged : Attempt → Made → Type 0
NothingStaged a m = (d : List ℕ) → ¬ MayHaveStaged a.id d m

-- a call that was neither answered Done nor failed has staged nothing
none_staged : (a : Attempt) (m : Made) (r : Reply) → m.answer.reply ≡ r → is_done r ≡ false → r ≢ reply.Failed → NothingStaged a m
none_staged a m r told undone fine d it =
    ⊎_elim (λ is. false-true (sym undone ∙ sym (ap is_done told) ∙ is)) (λ failed. fine (sym told ∙ failed)) it.1

-- what is noted where the call staged nothing
with_none_staged : (a : Attempt) (o : Task) (end : Option PutEnd) (stamp : Option ℕ) → with_staging a o false end stamp ≡ a
with_none_staged a o None stamp = refl
with_none_staged a o (Some end) stamp = refl

put_comes : (who : Identity) (a : Attempt) (l : List Made) (o : Task) (p : put_phase.Phase) (mine older : List Made) → GoesWell a l → l ≡ mine ++ older
    → put_stands.StandsFor (terms_of a) (record { task = o; phase = p }) mine → IsReady who o older → ((r : ℕ) → a.sent ≡ Some r → r ≡ o.atr) → o.write.cas ≡ None
    → MayCome who a l (fed_put (record { task = o; phase = p }) (put.end_in p))
put_comes who a l o (put_phases.Asking r by left) mine older well is stands ready record_is unstamped =
    puts (record { task = o; phase = put_phases.Asking r by left }) mine older well is stands ready record_is unstamped
put_comes who a l o put_phases.Adding mine older well is stands ready record_is unstamped =
    puts (record { task = o; phase = put_phases.Adding }) mine older well is stands ready record_is unstamped
put_comes who a l o put_phases.Staging mine older well is stands ready record_is unstamped =
    puts (record { task = o; phase = put_phases.Staging }) mine older well is stands ready record_is unstamped
put_comes who a l o (put_phases.Ended end) mine older well is stands ready record_is unstamped = λ good. well

once_weaker : (P Q : Made → List Made → Type 0) (l : List Made) → ((m : Made) (before : List Made) → P m before → Q m before) → Once P l → Once Q l
once_weaker P Q [] weaker once = absurd once
once_weaker P Q (m ∷ l) weaker once = ⊎_elim (λ here. inl (weaker m l here)) (λ later. inr (once_weaker P Q l weaker later)) once

adds_of : (r a : ℕ) (m : Made) → AddsEntry r a m → adds m.step ≡ Some a
adds_of r a m (added exp c is answer) = ap adds is
adds_of r a m (was_there exp is answer) = ap adds is

module _ (who : Identity) (a : Attempt) (l : List Made) (s : Step) (answer : Answer) (owns : Owns who a l) (well : GoesWell a l)
    (o : Task) (mine older : List Made) (is : l ≡ mine ++ older) (ready : IsReady who o older) (record_is : (r : ℕ) → a.sent ≡ Some r → r ≡ o.atr)
    (unstamped : o.write.cas ≡ None) where
  abbrev Asked : Made
  Asked = record { step = s; answer = answer }

  abbrev At : put_phase.Phase → Put
  At p = record { task = o; phase = p }

  -- an entry was asked for
  asking_on : (r by left : ℕ) → s ≡ step.ReadEntry r by
      → put_stands.StandsFor (terms_of a) (At (put.after o (put_phases.Asking r by left) answer.place answer.reply)) (Asked ∷ mine)
      → StaysLicensed who (learnt a (work.Put (At (put_phases.Asking r by left))) answer.place answer.reply) (Asked ∷ l)
      (fed (work.Put (At (put_phases.Asking r by left))) answer.place answer.reply)
  asking_on r by left reads stands =
      let neutral = subst (IsNeutral a.id) (sym reads) (record { quiet = tt; unadded = λ none. none-some a.id none; undecided = λ none. none-some a.id none }) in
      let p = put.after o (put_phases.Asking r by left) answer.place answer.reply in
      subst (λ k. StaysLicensed who k (Asked ∷ l) (fed_put (At p) (put.end_in p))) (sym (with_none_staged a o (put.end_in p) (stamp_in answer.reply))) (
        owns_neutral a Asked l who neutral owns,
        put_comes who a (Asked ∷ l) o p (Asked ∷ mine) older (well_quiet a Asked l neutral.quiet well) (ap (λ k. Asked ∷ k) is) stands ready record_is unstamped,
      )

  -- the entry was sent
  adding_on : o.attempt ≡ a.id → a.sent ≡ None → s ≡ step.AddEntry o.atr o.attempt o.exp
      → put_stands.StandsFor (terms_of a) (At (put.after o put_phases.Adding answer.place answer.reply)) (Asked ∷ mine)
      → StaysLicensed who (learnt a (work.Put (At put_phases.Adding)) answer.place answer.reply) (Asked ∷ l)
      (fed (work.Put (At put_phases.Adding)) answer.place answer.reply)
  adding_on id_is unsent adds_it stands =
      let p = put.after o put_phases.Adding answer.place answer.reply in
      subst (λ k. StaysLicensed who k (Asked ∷ l) (fed_put (At p) (put.end_in p)))
      (sym (with_none_staged (record a { sent = Some o.atr }) o (put.end_in p) (stamp_in answer.reply)))
      (owns_sent a Asked l who o.atr unsent owns o.exp is_step, by answer.reply refl stands)
    where
      is_step : s ≡ step.AddEntry o.atr a.id o.exp
      is_step = adds_it ∙ ap (λ k. step.AddEntry o.atr k o.exp) id_is

      going : AddsEntry o.atr a.id Asked → put_stands.StandsFor (terms_of a) (At put_phases.Staging) (Asked ∷ mine)
          → MayCome who (record a { sent = Some o.atr }) (Asked ∷ l) (Going (work.Put (At put_phases.Staging)))
      going entered stands =
          put_comes who (record a { sent = Some o.atr }) (Asked ∷ l) o put_phases.Staging (Asked ∷ mine) older (well_sent a Asked l who o.atr unsent owns entered)
          (ap (λ k. Asked ∷ k) is) stands ready (λ r same. sym (some_same same)) unstamped

      by : (r : Reply) → answer.reply ≡ r → put_stands.StandsFor (terms_of a) (At (put.after_adding answer.place r)) (Asked ∷ mine)
          → MayCome who (record a { sent = Some o.atr }) (Asked ∷ l) (fed_put (At (put.after_adding answer.place r)) (put.end_in (put.after_adding answer.place r)))
      by (reply.Done c) told stands = going (added o.exp c is_step told) stands
      by reply.Exists told stands = going (was_there o.exp is_step told) stands
      by _ told stands = λ good. absurd (false-true good)

  -- the write was sent
  abbrev Now : Reply → put_phase.Phase
  Now r = put.after_staging o answer.place r

  staging_on : o.attempt ≡ a.id → a.sent ≡ Some o.atr → s ≡ step.Stage o.doc (expected o.seen.cas) (stage_of o.attempt o.atr o.write)
      → StaysLicensed who (learnt a (work.Put (At put_phases.Staging)) answer.place answer.reply) (Asked ∷ l)
      (fed (work.Put (At put_phases.Staging)) answer.place answer.reply)
  staging_on id_is sent stages = by answer.reply refl
    where
      is_step : s ≡ step.Stage o.doc (expected o.seen.cas) (stage_of a.id o.atr o.write)
      is_step = stages ∙ ap (λ k. step.Stage o.doc (expected o.seen.cas) (stage_of k o.atr o.write)) id_is

      by : (r : Reply) → answer.reply ≡ r
          → StaysLicensed who (with_staging a o true (put.end_in (Now r)) (stamp_in r)) (Asked ∷ l) (fed_put (At (Now r)) (put.end_in (Now r)))
      by (reply.Done c) told = (
        owns_staged a Asked l who o.atr sent owns o.doc (expected o.seen.cas) o.write is_step c told,
        λ good. well_staged a Asked l who o.atr sent owns o.doc (expected o.seen.cas) o.write is_step c told well,
      )
      by reply.Failed told = (
        owns_staged_unknown a Asked l who o.atr sent owns o.doc (expected o.seen.cas) o.write is_step unstamped,
        λ good. absurd (false-true good),
      )
      by r told = (
        owns_refused a Asked l who o.atr sent owns (ap decides is_step) (none_staged a Asked r told refl (λ same. cc)),
        λ good. absurd (false-true good),
      )

  put_on : (p : put_phase.Phase) → put_stands.StandsFor (terms_of a) (At p) mine → put.step_for o p ≡ Some s → fits s answer.reply ≡ true
      → StaysLicensed who (learnt a (work.Put (At p)) answer.place answer.reply) (Asked ∷ l) (fed (work.Put (At p)) answer.place answer.reply)
  put_on p stands asked fit = by p stands asked (put_proofs.stands_on (terms_of a) (At p) mine s answer asked fit stands)
    where
      licence : (q : put_phase.Phase) → put_stands.StandsFor (terms_of a) (At q) mine → put.step_for o q ≡ Some s → MayTake who l s
      licence q was asks =
          subst (λ k. MayTake who k s) (sym is) (put_licensed who (terms_of a) o q mine older s was.knows was.room ready asks)

      -- the entry that is sent is the first
      unsent : o.attempt ≡ a.id → s ≡ step.AddEntry o.atr o.attempt o.exp → MayTake who l s → (sent : Option ℕ) → a.sent ≡ sent → a.sent ≡ None
      unsent id_is adds_it may None here = here
      unsent id_is adds_it may (Some r) here =
          let first = (subst (MayTake who l) adds_it may).first in
          absurd (first (once_weaker (λ m _. (exp : ℕ) × (m.step ≡ step.AddEntry r a.id exp)) (λ m _. adds m.step ≡ Some o.attempt) l
          (λ m before it. ap adds it.1 ∙ ap Some (sym id_is)) (owns.sent r here)))

      -- the entry was sent to the put's record
      sent : o.attempt ≡ a.id → s ≡ step.Stage o.doc (expected o.seen.cas) (stage_of o.attempt o.atr o.write) → MayTake who l s → (sent : Option ℕ) → a.sent ≡ sent
          → a.sent ≡ Some o.atr
      sent id_is stages may None here =
          let entered = (subst (MayTake who l) stages may).added in
          absurd (owns.unsent here (once_weaker (λ m _. AddsEntry o.atr o.attempt m) (λ m _. adds m.step ≡ Some a.id) l
          (λ m before it. adds_of o.atr o.attempt m it ∙ ap Some id_is) entered))
      sent id_is stages may (Some r) here = here ∙ ap Some (record_is r here)

      by : (q : put_phase.Phase) → put_stands.StandsFor (terms_of a) (At q) mine → put.step_for o q ≡ Some s
          → put_stands.StandsFor (terms_of a) (At (put.after o q answer.place answer.reply)) (Asked ∷ mine)
          → StaysLicensed who (learnt a (work.Put (At q)) answer.place answer.reply) (Asked ∷ l) (fed (work.Put (At q)) answer.place answer.reply)
      by (put_phases.Asking r from left) was asks stands = asking_on r from left (sym (some_same asks)) stands
      by put_phases.Adding was asks stands =
          let adds_it = sym (some_same asks) in
          adding_on was.under.id_is (unsent was.under.id_is adds_it (licence put_phases.Adding was asks) a.sent refl) adds_it stands
      by put_phases.Staging was asks stands =
          let stages = sym (some_same asks) in
          staging_on was.under.id_is (sent was.under.id_is stages (licence put_phases.Staging was asks) a.sent refl) stages
      by (put_phases.Ended end) was asks stands = absurd (none-some s asks)

-- ---- a write over an own write

module _ (who : Identity) (a : Attempt) (l : List Made) (s : Step) (answer : Answer) (owns : Owns who a l) (well : GoesWell a l) (o : Rewrite)
    (over : IsOver a o) where
  abbrev Rewrites : Made
  Rewrites = record { step = s; answer = answer }

  abbrev Over : Bool → Step
  Over back = cond back (step.Unstick o.doc o.cas) (step.Stage o.doc (expect.Cas o.cas) (stage_of o.attempt o.atr o.write))

  of_attempt : s ≡ Over false → s ≡ step.Stage o.doc (expect.Cas o.cas) (stage_of a.id o.atr o.write)
  of_attempt is = is ∙ ap (λ k. step.Stage o.doc (expect.Cas o.cas) (stage_of k o.atr o.write)) over.attempt_is

  undecided : (back : Bool) → s ≡ Over back → decides s ≡ None
  undecided true is = ap decides is
  undecided false is = ap decides is

  rewrite_on : (back : Bool) → s ≡ Over back → (r : Reply) → answer.reply ≡ r
      → StaysLicensed who (written a o.doc o.write (ended back answer.place r) (stamp_in r)) (Rewrites ∷ l) (Written (ended back answer.place r))
  rewrite_on false is (reply.Done c) told = (
    owns_staged a Rewrites l who o.atr over.sent_is owns o.doc (expect.Cas o.cas) o.write (of_attempt is) c told,
    λ good. well_staged a Rewrites l who o.atr over.sent_is owns o.doc (expect.Cas o.cas) o.write (of_attempt is) c told well,
  )
  rewrite_on false is reply.Failed told = (
    owns_staged_unknown a Rewrites l who o.atr over.sent_is owns o.doc (expect.Cas o.cas) o.write (of_attempt is) over.unstamped,
    λ good. absurd (false-true good),
  )
  rewrite_on true is (reply.Done c) told = (
    owns_taken_back a Rewrites l who o.atr over.sent_is owns o.doc o.cas is (ap is_done told),
    λ good. well_taken_back a Rewrites l who o.atr over.sent_is owns o.doc o.cas is over.own over.own_is over.cas_is (ap is_done told) well,
  )
  rewrite_on true is reply.Failed told = (
    owns_unstick_unknown a Rewrites l who o.atr over.sent_is owns o.doc o.cas is o.write over.unstamped,
    λ good. absurd (false-true good),
  )
  rewrite_on back is r told = (
    owns_refused a Rewrites l who o.atr over.sent_is owns (undecided back is) (none_staged a Rewrites r told refl (λ same. cc)),
    λ good. absurd (false-true good),
  )

again_on : (who : Identity) (a : Attempt) (l : List Made) (s : Step) (answer : Answer) → Owns who a l → GoesWell a l → (it : Again) → IsOver a it.task
    → (end : Option PutEnd) → end ≡ None → asked_for it.task end ≡ Some s
    → StaysLicensed who (learnt a (work.Again it) answer.place answer.reply) (record { step = s; answer = answer } ∷ l)
    (fed (work.Again it) answer.place answer.reply)
again_on who a l s answer owns well it over None going asked =
    rewrite_on who a l s answer owns well it.task over it.task.back (sym (some_same asked)) answer.reply refl
again_on who a l s answer owns well it over (Some end) going asked = absurd (none-some s asked)

-- ---- the work

pub work_on : (who : Identity) (a : Attempt) (l : List Made) (s : Step) (answer : Answer) (w : Work) → Owns who a l → MayWork who a l w → step_of w ≡ Some s
    → fits s answer.reply ≡ true
    → StaysLicensed who (learnt a w answer.place answer.reply) (record { step = s; answer = answer } ∷ l) (fed w answer.place answer.reply)
work_on who a l s answer _ owns (gets it write mine older well is stands) asked fit = read_on who a l s answer owns well it write mine older is stands asked fit
work_on who a l s answer _ owns (puts it mine older well is stands ready record_is unstamped) asked fit =
    put_on who a l s answer owns well it.task mine older is ready record_is unstamped it.phase stands asked fit
work_on who a l s answer _ owns (agains it d kind content well going is) asked fit =
    again_on who a l s answer owns well it (is_over a d kind content it.task is) it.end going asked
work_on who a l s answer _ owns (done well) asked fit = absurd (none-some s asked)
work_on who a l s answer _ owns refused asked fit = absurd (none-some s asked)
work_on who a l s answer _ owns (late now) asked fit = absurd (none-some s asked)

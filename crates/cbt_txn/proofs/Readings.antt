-- What an operation comes to once its document was read.
use Rattle.std.proofs.Common.{◌≡◌, ◌≢◌, ℕ, ◌<◌, ◌≤◌, true, false, inr, List, [], ◌∷◌, ◌++◌, Option, Some, None, is_some, is_none, refl, sym, ap, ◌∙◌, subst, arith}
use Rattle.cbt_json.specs.declared.value.Json.{Json}
use Rattle.cbt_model.specs.History.{is_done}
use Rattle.cbt_model.specs.declared.documents.OpKind.{OpKind}
use Rattle.cbt_model.specs.declared.documents.OpKind.TheVariants.{Insert, Replace, Remove}
use Rattle.cbt_model.specs.declared.events.Made.{Made}
use Rattle.cbt_model.specs.declared.steps.Reply.TheVariants as reply
use Rattle.cbt_model.specs.declared.steps.Step.{Step}
use Rattle.cbt_model.specs.declared.steps.Step.TheVariants as step
use Rattle.cbt_book.specs.Calls.{GetCalls, MayGet, WriteCalls, WriteTerms}
use Rattle.cbt_book.specs.OwnLists.{Descends, Each, In}
use Rattle.cbt_book.specs.Outcomes.{EndsFailed}
use Rattle.cbt_book.specs.ReadAt.{Reading, IsReadAt}
use Rattle.cbt_book.specs.Spans.{past_of, span_of}
use Rattle.cbt_book.specs.declared.operations.OpAnswer.{OpAnswer}
use Rattle.cbt_book.specs.declared.operations.OpAnswer.TheVariants as answer
use Rattle.cbt_book.specs.declared.operations.When.TheVariants as when
use Rattle.cbt_core.specs.OpAnswers.{GetAnswered, ReadsAt, WriteAnswered, agrees, agrees_last}
use Rattle.cbt_core.specs.OpAnswers as answers
use Rattle.cbt_core.specs.OpCalls.{OpCalls, write_terms}
use Rattle.cbt_core.specs.OpCalls as op_calls
use Rattle.cbt_core.specs.Operations.{StandsAt, is_good}
use Rattle.cbt_core.specs.Walk.{AttemptTerms, LastRead, noted as noted_by, noted_as, with_value}
use Rattle.cbt_core.proofs.logs.Calls.{each_of}
use Rattle.cbt_attempt.specs.OwnWrites.{noted, with_noted}
use Rattle.cbt_attempt.specs.declared.own.Own.{Own}
use Rattle.cbt_logs.specs.Operating.{AreFine, AreFineBefore, IsAnswered, asked, log_of, sofar}
use Rattle.cbt_logs.proofs.Lists.{descends_front, each_in, each_more}
use Rattle.cbt_logs.proofs.Spans.{during_span, span_to}
use Rattle.cbt_read.specs.Standing as get
use Rattle.cbt_read.specs.declared.ends.GetEnd.{GetEnd}
use Rattle.cbt_read.specs.declared.ends.GetEnd.TheVariants as get_end
use Rattle.cbt_stage.specs.PutCalls.{PutCalls}
use Rattle.cbt_stage.specs.declared.puts.Put.{Put}
use Rattle.cbt_stage.proofs.Joining.{write_calls}
use Rattle.cbt_txn.specs.Beginnings.{IsPut}
use Rattle.cbt_txn.specs.Following.{Agrees, Answers, AsksRead, Follows, Halts, PutsOn, ReadsFor}
use Rattle.cbt_txn.specs.Following as following
use Rattle.cbt_txn.specs.Starts.{refusal}
use Rattle.cbt_txn.specs.declared.operations.Operations.{Operations}
use Rattle.cbt_txn.specs.declared.operations.Work.TheVariants as work
use Rattle.cbt_txn.proofs.Agreeing.{agrees_on, agrees_read}
use Rattle.cbt_txn.proofs.FirstCalls.{clash, first_put, put_goes, put_made, put_stands, sent_first}
use Rattle.cbt_txn.proofs.Telling.{same_first}

-- readings stage nothing
pub read_stands : (place : ℕ) (a : OpAnswer) (d : List ℕ) (s : Step) → MayGet d s → StandsAt place a s
read_stands place a d (step.ReadDoc q) may = tt
read_stands place a d (step.ReadEntry r b) may = tt
read_stands place a d _ may = absurd may

no_puts : (w : WriteTerms) (d : List ℕ) → PutCalls w d []
no_puts w d = record { only = record {}; unread = record {}; entries = omega arith; added = omega arith; written_last = record {} }

-- the readings of a get are calls of a write
pub get_writes : (w : WriteTerms) (d : List ℕ) (calls : List Made) → GetCalls d calls → WriteCalls w d calls
get_writes w d calls reads = write_calls w d [] calls (no_puts w d) reads

value_failed : {seen : Reading} {place : ℕ} → get_end.Value seen ≡ get_end.CallFailed place → ⊥
value_failed same = cc

contended_failed : {place : ℕ} → get_end.Contended ≡ get_end.CallFailed place → ⊥
contended_failed same = cc

failed_place : {p q : ℕ} → get_end.CallFailed p ≡ get_end.CallFailed q → p ≡ q
failed_place same = cc

missing : (x : Option Json) → is_some x ≡ false → x ≡ None
missing None none = refl
missing (Some i) none = absurd (clash refl none)

there : (x : Option Json) → is_none x ≡ false → (i : Json) × (x ≡ Some i)
there None some = absurd (clash refl some)
there (Some i) some = (i, refl)

refused_bad : (kind : OpKind) (moment : ℕ) → is_good (refusal kind (when.At moment)) ≡ false
refused_bad Insert moment = refl
refused_bad Replace moment = refl
refused_bad Remove moment = refl

module _ (t : AttemptTerms) (c : Operations) (l0 told calls : List Made) (d : List ℕ) (falls : Descends (calls ++ (told ++ l0))) where
  unwritten : (write : Option Own) (end : GetEnd) → (it : following.Reads t c l0 told calls d write end) → noted c.attempt.writes d ≡ None
  unwritten None end it = it.asks.2
  unwritten (Some write) end it = it.asks.unwritten

  bounded : (write : Option Own) (end : GetEnd) → (it : following.Reads t c l0 told calls d write end)
      → OpCalls t (sofar t c.logs) (asked t c.logs it.op) calls
  bounded None end it = subst (λ r. OpCalls t (sofar t c.logs) r calls) (sym it.asks.1) it.reads
  bounded (Some write) end it =
      subst (λ r. OpCalls t (sofar t c.logs) r calls) (sym it.asks.asks)
      (get_writes (write_terms t) d calls it.reads, op_calls.unserved (it.agrees.own_none d it.asks.unwritten) it.asks.unserved)

  is_answered : (write : Option Own) (end : GetEnd) (it : following.Reads t c l0 told calls d write end) (a : OpAnswer)
      → answers.Answered t (calls ++ (told ++ l0)) (sofar t c.logs) (asked t c.logs it.op) calls a
      → ((place : ℕ) → end ≡ get_end.CallFailed place → a ≡ answer.CallFailed place) → IsAnswered t (calls ++ (told ++ l0)) c.logs it.op calls a
  is_answered write end it a answered tells = record {
    answered = answered;
    bounded = bounded write end it;
    stands = each_more (λ m. MayGet d m.step) (λ m. is_done m.answer.reply ≡ true → StandsAt m.answer.place a m.step) calls
        (λ m may done. read_stands m.answer.place a d m.step may) it.reads.only;
    failed = each_more (λ m. m.answer.reply ≡ reply.Failed → end ≡ get_end.CallFailed m.answer.place)
        (λ m. m.answer.reply ≡ reply.Failed → a ≡ answer.CallFailed m.answer.place) calls (λ m why is. tells m.answer.place (why is)) it.failed;
    in_time = it.in_time;
  }

  answers_bad : (write : Option Own) (end : GetEnd) (it : following.Reads t c l0 told calls d write end) (a : OpAnswer)
      → answers.Answered t (calls ++ (told ++ l0)) (sofar t c.logs) (asked t c.logs it.op) calls a
      → ((place : ℕ) → end ≡ get_end.CallFailed place → a ≡ answer.CallFailed place) → is_good a ≡ false → Answers t c l0 told calls a
  answers_bad write end it a answered tells bad = record {
    op = it.op;
    next = it.next;
    under = it.under;
    first_is = it.first_is;
    past_is = it.past_is;
    tells = it.tells;
    answered = is_answered write end it a answered tells;
    bound = it.bound;
    agrees = λ good. absurd (clash good bad);
  }

  -- it may have been read for a get or for a write
  by_write : (write : Option Own) (end : GetEnd) (it : following.Reads t c l0 told calls d write end) (a : OpAnswer) → GetAnswered (sofar t c.logs) d calls a
      → ((kind : OpKind) (content : Option Json) → WriteAnswered t (calls ++ (told ++ l0)) (sofar t c.logs) d kind content calls a)
      → answers.Answered t (calls ++ (told ++ l0)) (sofar t c.logs) (asked t c.logs it.op) calls a
  by_write None end it a get write = subst (λ r. answers.Answered t (calls ++ (told ++ l0)) (sofar t c.logs) r calls a) (sym it.asks.1) get
  by_write (Some own) end it a get write =
      subst (λ r. answers.Answered t (calls ++ (told ++ l0)) (sofar t c.logs) r calls a) (sym it.asks.asks) (write own.kind own.content)

  pub reads_contended : (write : Option Own) → following.Reads t c l0 told calls d write get_end.Contended → Answers t c l0 told calls answer.Contended
  reads_contended write it =
      let none = it.agrees.own_none d (unwritten write get_end.Contended it) in
      answers_bad write get_end.Contended it answer.Contended
      (by_write write get_end.Contended it answer.Contended (none, it.ends) (λ kind content. (none, it.ends)))
      (λ place same. absurd (contended_failed same)) refl

  pub reads_failed : (write : Option Own) (place : ℕ) → following.Reads t c l0 told calls d write (get_end.CallFailed place)
      → Answers t c l0 told calls (answer.CallFailed place)
  reads_failed write place it =
      answers_bad write (get_end.CallFailed place) it (answer.CallFailed place)
      (by_write write (get_end.CallFailed place) it (answer.CallFailed place) it.ends (λ kind content. it.ends))
      (λ other same. ap answer.CallFailed (failed_place same)) refl

  -- the value that was read
  reads_at : (write : Option Own) (seen : Reading) → following.Reads t c l0 told calls d write (get_end.Value seen) → (value : Option Json) → seen.value ≡ value
      → ReadsAt (sofar t c.logs) d value seen.moment calls
  reads_at write seen it value is = record {
    own_none = it.agrees.own_none d (unwritten write (get_end.Value seen) it);
    it = seen;
    read = it.ends;
    value_is = is;
    moment_is = refl;
  }

  differs : Replace ≡ Insert → ⊥
  differs same = cc

  differs_too : Remove ≡ Insert → ⊥
  differs_too same = cc

  refused : (write : Option Own) (seen : Reading) → following.Reads t c l0 told calls d write (get_end.Value seen) → (kind : OpKind) (content : Option Json)
      → agrees kind seen.value ≡ false
      → WriteAnswered t (calls ++ (told ++ l0)) (sofar t c.logs) d kind content calls (refusal kind (when.At seen.moment))
  refused write seen it Insert content not = let value = there seen.value not in (refl, (value.0, reads_at write seen it (Some value.0) value.1))
  refused write seen it Replace content not = (differs, reads_at write seen it None (missing seen.value not))
  refused write seen it Remove content not = (differs_too, reads_at write seen it None (missing seen.value not))

  pub reads_refused : (write : Own) (seen : Reading) → following.Reads t c l0 told calls d (Some write) (get_end.Value seen)
      → agrees write.kind seen.value ≡ false → Answers t c l0 told calls (refusal write.kind (when.At seen.moment))
  reads_refused write seen it not =
      answers_bad (Some write) (get_end.Value seen) it (refusal write.kind (when.At seen.moment))
      (subst (λ r. answers.Answered t (calls ++ (told ++ l0)) (sofar t c.logs) r calls (refusal write.kind (when.At seen.moment))) (sym it.asks.asks)
      (refused (Some write) seen it write.kind write.content not)) (λ place same. absurd (value_failed same)) (refused_bad write.kind seen.moment)

  -- a get's value is noted
  module _ (seen : Reading) (it : following.Reads t c l0 told calls d None (get_end.Value seen)) where
    last_of : LastRead
    last_of = record { span = span_of (past_of (told ++ l0)) calls; value = seen.value; moment = seen.moment }

    value_agrees : Agrees (noted_by it.op (log_of c.logs (told ++ l0) calls (answer.Value seen.value (when.At seen.moment))) (sofar t c.logs))
        (record c.attempt { seen = with_noted c.attempt.seen d seen }) (calls ++ (told ++ l0))
    value_agrees =
        let so = sofar t c.logs in
        let l = calls ++ (told ++ l0) in
        let span = span_of (past_of (told ++ l0)) calls in
        let a : OpAnswer = answer.Value seen.value (when.At seen.moment) in
        let to : span.to ≡ past_of l = span_to calls (told ++ l0) in
        let low : span.to ≤ past_of l = omega arith in
        subst (λ r. Agrees (noted_as r span a so) (record c.attempt { seen = with_noted c.attempt.seen d seen }) l) (sym it.asks.1)
        (agrees_read so c.attempt l (agrees_on so c.attempt calls (told ++ l0) falls it.agrees) d seen
        (record { span = span; value = seen.value; moment = seen.moment }) (with_value it.asks.0 seen.value so.bound)
        (subst (λ k. IsReadAt d seen k) (sym (during_span calls (told ++ l0) falls)) it.ends) refl refl low)

    pub reads_value : Answers t (record c { attempt = record c.attempt { seen = with_noted c.attempt.seen d seen } }) l0 told calls
        (answer.Value seen.value (when.At seen.moment))
    reads_value =
        let right = is_answered None (get_end.Value seen) it (answer.Value seen.value (when.At seen.moment))
        (subst (λ r. answers.Answered t (calls ++ (told ++ l0)) (sofar t c.logs) r calls (answer.Value seen.value (when.At seen.moment))) (sym it.asks.1)
        (reads_at None seen it seen.value refl)) (λ place same. absurd (value_failed same)) in
        record {
          op = it.op;
          next = it.next;
          under = record { id_is = it.under.id_is; atrs_is = it.under.atrs_is; hold_is = it.under.hold_is };
          first_is = it.first_is;
          past_is = it.past_is;
          tells = it.tells;
          answered = right;
          bound = it.bound;
          agrees = λ good. value_agrees;
        }

  -- where no memory was found
  fine_before : (write : Option Own) (end : GetEnd) → following.Reads t c l0 told calls d write end → (k : List Made) → calls ≡ k → AreFineBefore t k
  fine_before write end it [] same = tt
  fine_before write end it (newest ∷ older) same = each_in (λ m. (m.answer.now ≤ t.latest) × (m.answer.reply ≢ reply.Failed)) older fine
    where
      own : Descends (newest ∷ older)
      own = subst Descends same (descends_front calls (told ++ l0) falls)

      timed : Each (λ m _. m.answer.now ≤ t.latest) (newest ∷ older)
      timed = subst (λ k. Each (λ m _. m.answer.now ≤ t.latest) k) same it.in_time

      tells : Each (λ m _. m.answer.reply ≡ reply.Failed → end ≡ get_end.CallFailed m.answer.place) (newest ∷ older)
      tells = subst (λ k. Each (λ m _. m.answer.reply ≡ reply.Failed → end ≡ get_end.CallFailed m.answer.place) k) same it.failed

      fine : (m : Made) → In m older → (m.answer.now ≤ t.latest) × (m.answer.reply ≢ reply.Failed)
      fine m there = (each_of (λ m. m.answer.now ≤ t.latest) older m timed.1 there, failed)
        where
          failed : m.answer.reply ≢ reply.Failed
          failed is =
              let why = each_of (λ m. m.answer.reply ≡ reply.Failed → end ≡ get_end.CallFailed m.answer.place) older m tells.1 there is in
              let last : EndsFailed m.answer.place calls = subst (λ e. get.EndsBy d e calls) why it.ends in
              let first : newest ≡ last.newest = same_first newest last.newest older last.older (sym same ∙ last.calls_are) in
              let place : newest.answer.place ≡ m.answer.place = ap (λ (m : Made). m.answer.place) first ∙ last.place_is in
              let low : m.answer.place < newest.answer.place = own.0 m there in
              absurd (omega arith)

  pub reads_halt : (write : Option Own) (end : GetEnd) → following.Reads t c l0 told calls d write end → Halts t c.logs l0 (calls ++ told)
  reads_halt write end it = record {
    told = told;
    calls = calls;
    mine_is = refl;
    tells = it.tells;
    operates = inr (record { op = it.op; next = it.next; bounded = bounded write end it; fine = fine_before write end it calls refl });
  }

  -- a write that agrees with what was read goes on
  fine_all : (write : Option Own) (seen : Reading) → following.Reads t c l0 told calls d write (get_end.Value seen) → AreFine t calls
  fine_all write seen it = both calls it.in_time it.failed
    where
      both : (k : List Made) → Each (λ m _. m.answer.now ≤ t.latest) k
          → Each (λ m _. m.answer.reply ≡ reply.Failed → get_end.Value seen ≡ get_end.CallFailed m.answer.place) k → AreFine t k
      both [] timed failed = tt
      both (m ∷ k) timed failed = ((timed.0, λ is. value_failed (failed.0 is)), both k timed.1 failed.1)

  pub reads_put : (write : Own) (seen : Reading) → following.Reads t c l0 told calls d (Some write) (get_end.Value seen) → agrees write.kind seen.value ≡ true
      → (made : Put) → IsPut c.attempt d write seen made → Follows t (record c { work = work.Put made }) l0 (calls ++ told)
  reads_put write seen it agreed made is =
      let same = put_made c.attempt d write seen made is in
      subst (λ p. Follows t (record c { work = work.Put p }) l0 (calls ++ told)) (sym same)
      (record {
        told = told;
        calls = calls;
        mine_is = refl;
        under = it.under;
        first_is = it.first_is;
        past_is = it.past_is;
        tells = it.tells;
        works = following.puts it.op (first_put c.attempt d write seen) [] calls
            (record { next = it.next; bound = it.bound; agrees = it.agrees; fine = fine_all (Some write) seen it }) refl
            (record {
              asks = it.asks.asks;
              unwritten = it.asks.unwritten;
              of_attempt = it.under.id_is;
              stands_on = answers.on_own it.asks.unserved it.ends agreed;
              reads_are = inr (it.reads, it.asks.unserved);
              read_last = inr it.last;
              stands = put_stands t c.attempt it.under d write seen made is;
              asked_for = tt;
              sent_before = λ sent. sent;
              sent = sent_first c.attempt d write seen;
            }) (put_goes c.attempt d write seen);
      })

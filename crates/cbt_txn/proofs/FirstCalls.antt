-- An operation that begins is under way, or has its answer, as its attempt has noted what was before.
use Rattle.std.proofs.Common.{◌≡◌, ℕ, Bool, true, false, ◌&&◌, cond, inl, List, [], ◌++◌, Option, Some, None, is_some, Ok, Err, refl, sym, ap, ◌∙◌, subst, arith}
use Rattle.cbt_json.specs.declared.value.Json.{Json}
use Rattle.cbt_expr.specs.Answers.{bound_in}
use Rattle.cbt_expr.specs.declared.plans.Op.{Op}
use Rattle.cbt_model.specs.declared.documents.OpKind.{OpKind}
use Rattle.cbt_model.specs.declared.events.Made.{Made}
use Rattle.cbt_book.specs.Calls.{GetCalls, WriteCalls, WriteTerms}
use Rattle.cbt_book.specs.ReadAt.{Reading}
use Rattle.cbt_book.specs.declared.operations.OpAnswer.{OpAnswer}
use Rattle.cbt_book.specs.declared.operations.OpAnswer.TheVariants as answer
use Rattle.cbt_book.specs.declared.operations.When.TheVariants as when
use Rattle.cbt_core.specs.OpAnswers.{Answered as IsAnswerOf, OwnHas, WriteAnswered, agrees, agrees_last}
use Rattle.cbt_core.specs.OpAnswers as answers
use Rattle.cbt_core.specs.OpCalls.{OpCalls, write_terms}
use Rattle.cbt_core.specs.OpCalls as calls
use Rattle.cbt_core.specs.Walk.{AttemptTerms, Reads, Request, Sofar, Tests, Writes, request_of}
use Rattle.cbt_attempt.specs.OwnWrites.{noted}
use Rattle.cbt_attempt.specs.declared.attempt.Attempt.{Attempt}
use Rattle.cbt_attempt.specs.declared.own.Own.{Own}
use Rattle.cbt_logs.specs.Operating.{ComesNext, asked, sofar}
use Rattle.cbt_read.specs.Standing as get
use Rattle.cbt_read.specs.declared.phases.Phase.TheVariants.{Begun}
use Rattle.cbt_stage.specs.Phases as put_phases
use Rattle.cbt_stage.specs.PutCalls.{terms_of}
use Rattle.cbt_stage.specs.Rewrites.{needs_call, rewrite_of}
use Rattle.cbt_stage.specs.Rewriting.{StandsOnce}
use Rattle.cbt_stage.specs.Standing as put
use Rattle.cbt_stage.specs.Tasks.{task_of}
use Rattle.cbt_stage.specs.declared.phases.Phase.{Phase}
use Rattle.cbt_stage.specs.declared.phases.Phase.TheVariants as put_phase
use Rattle.cbt_stage.specs.declared.puts.Put.{Put}
use Rattle.cbt_stage.specs.declared.tasks.Task.{Task}
use Rattle.cbt_txn.specs.Beginnings.{Begins, CanBegin, IsPut}
use Rattle.cbt_txn.specs.Following.{Agrees, Answers, Between, Follows, Goes, IsUnder, PutsOn, ReadsFor, Works, WritesAgain, is_whole}
use Rattle.cbt_txn.specs.Following as following
use Rattle.cbt_txn.specs.Starts.{over, over_reading, read_first, refusal, started, unstamped}
use Rattle.cbt_txn.specs.declared.operations.Operations.{Operations}
use Rattle.cbt_txn.specs.declared.operations.Work.{Work}
use Rattle.cbt_txn.specs.declared.operations.Work.TheVariants as work
use Rattle.cbt_txn.specs.declared.starts.Beginning.{Beginning}
use Rattle.cbt_txn.specs.declared.starts.Beginning.TheVariants as beginning
use Rattle.cbt_txn.specs.declared.starts.Start.{Start}
use Rattle.cbt_txn.specs.declared.starts.Start.TheVariants.{Answered, Calls}
use Rattle.cbt_txn.proofs.Rewritten.{rewrite_is}

pub apart : {a : OpAnswer} {b : Beginning} → Answered a ≡ Calls b → ⊥
apart same = cc

same_calls : {a b : Beginning} → Calls a ≡ Calls b → a ≡ b
same_calls same = cc

pub same_answer : {a b : OpAnswer} → Answered a ≡ Answered b → a ≡ b
same_answer same = cc

pub clash : {b : Bool} → b ≡ true → b ≡ false → ⊥
clash one two = cc

abbrev pub over_sent : Bool → Bool → List ℕ → Own → Start
over_sent needed sent d write = cond needed (cond sent (Calls (beginning.Again d write)) (Answered answer.Moved)) (Answered (refusal write.kind when.Own))

both_some : {X Y : Type 0} (x : Option X) (y : Option Y) → (is_some x && is_some y) ≡ true → ((i : X) × (x ≡ Some i)) × ((j : Y) × (y ≡ Some j))
both_some None y both = absurd (cc)
both_some (Some i) None both = absurd (cc)
both_some (Some i) (Some j) both = ((i, refl), (j, refl))

-- a write over an own write begins only where that can be
can_again : (a : Attempt) (d : List ℕ) (write : Own) (own : Own) → noted a.writes d ≡ Some own → (b : Beginning) (needed sent : Bool)
    → needs_call write.kind own.kind ≡ needed → (is_some a.sent && is_some own.cas) ≡ sent → over_sent needed sent d write ≡ Calls b → CanBegin a b
can_again a d write own own_is b true true needed sent is =
    let some = both_some a.sent own.cas sent in
    subst (λ b. CanBegin a b) (same_calls is)
    (record { own = own; atr = some.0.0; cas = some.1.0; own_is = own_is; atr_is = some.0.1; cas_is = some.1.1; needed = needed })
can_again a d write own own_is b true false needed sent is = absurd (apart is)
can_again a d write own own_is b false sent needed is_sent is = absurd (apart is)

pub can_begin : (a : Attempt) (r : Request) (b : Beginning) → started a r ≡ Calls b → CanBegin a b
can_begin a (Reads d name) b is = by_own (noted a.writes d) is
  where
    by_own : (own : Option Own) → read_first d own ≡ Calls b → CanBegin a b
    by_own None is = subst (λ b. CanBegin a b) (same_calls is) tt
    by_own (Some own) is = absurd (apart is)
can_begin a (Writes d kind (Ok content)) b is = by_own (noted a.writes d) refl is
  where
    by_agrees : (it : Reading) (v : Bool) → cond v (Calls (beginning.Put d (unstamped kind content) it)) (Calls (beginning.Read d (unstamped kind content))) ≡ Calls b
        → CanBegin a b
    by_agrees it true is = subst (λ b. CanBegin a b) (same_calls is) tt
    by_agrees it false is = subst (λ b. CanBegin a b) (same_calls is) tt

    by_seen : (seen : Option Reading) → over_reading d (unstamped kind content) seen ≡ Calls b → CanBegin a b
    by_seen None is = subst (λ b. CanBegin a b) (same_calls is) tt
    by_seen (Some it) is = by_agrees it (agrees kind it.value) is

    by_own : (own : Option Own) → noted a.writes d ≡ own → over a d (unstamped kind content) own ≡ Calls b → CanBegin a b
    by_own None none is = by_seen (noted a.seen d) is
    by_own (Some own) own_is is = can_again a d (unstamped kind content) own own_is b (needs_call kind own.kind) (is_some a.sent && is_some own.cas) refl refl is
can_begin a (Writes d kind (Err part)) b is = absurd (apart is)
can_begin a (Tests (Ok true)) b is = absurd (apart is)
can_begin a (Tests (Ok false)) b is = absurd (apart is)
can_begin a (Tests (Err part)) b is = absurd (apart is)

-- no calls
pub no_gets : (d : List ℕ) → GetCalls d []
no_gets d = record { only = record {}; readings = omega arith; entries = omega arith }

no_writes : (w : WriteTerms) (d : List ℕ) → WriteCalls w d []
no_writes w d = record { only = record {}; readings = omega arith; entries = omega arith; added = omega arith; written_last = record {} }

pub no_calls : (t : AttemptTerms) (so : Sofar) (r : Request) → OpCalls t so r []
no_calls t so (Reads d name) = no_gets d
no_calls t so (Writes d kind (Ok content)) = (no_writes (write_terms t) d, calls.unread refl)
no_calls t so (Writes d kind (Err part)) = refl
no_calls t so (Tests truth) = refl

get_begins : (d : List ℕ) → get.StandsFor (record { doc = d; phase = Begun }) []
get_begins d = record { knows = refl; bounded = no_gets d; few = omega arith }

-- the first phase of a put
start_staging : (o : Task) → put_phases.start o ≡ put_phase.Staging → o.sent ≡ true
start_staging o is = by_first o.seen.by o.seen.gone is
  where
    by_sent : (sent : Bool) → put_phases.entered sent ≡ put_phase.Staging → sent ≡ true
    by_sent true is = refl
    by_sent false is = absurd (cc)

    by_first : (by : Option (ℕ × ℕ)) (gone : Bool) → put_phases.first o by gone ≡ put_phase.Staging → o.sent ≡ true
    by_first None gone is = by_sent o.sent is
    by_first (Some by) true is = by_sent o.sent is
    by_first (Some by) false is = absurd (cc)

start_goes : (o : Task) → put_phases.end_in (put_phases.start o) ≡ None
start_goes o = by_first o.seen.by o.seen.gone
  where
    by_sent : (sent : Bool) → put_phases.end_in (put_phases.entered sent) ≡ None
    by_sent true = refl
    by_sent false = refl

    by_first : (by : Option (ℕ × ℕ)) (gone : Bool) → put_phases.end_in (put_phases.first o by gone) ≡ None
    by_first None gone = by_sent o.sent
    by_first (Some by) true = by_sent o.sent
    by_first (Some by) false = refl

abbrev terms_as : ℕ → ℕ → ℕ → WriteTerms
terms_as id atrs hold = record { id = id; atrs = atrs; hold = hold }

pub terms_same : (t : AttemptTerms) (a : Attempt) → IsUnder t a → terms_of a ≡ write_terms t
terms_same t a under =
    ap (λ i. terms_as i a.atrs a.exp) under.id_is ∙ ap (λ n. terms_as t.id n a.exp) under.atrs_is ∙ ap (λ h. terms_as t.id t.atrs h) under.hold_is

-- a put before its first call
abbrev put_as : Task → Phase → Put
put_as task phase = record { task = task; phase = phase }

abbrev pub first_put : Attempt → List ℕ → Own → Reading → Put
first_put a d write seen = put_as (task_of a d write.kind write.content seen) (put_phases.start (task_of a d write.kind write.content seen))

pub put_made : (a : Attempt) (d : List ℕ) (write : Own) (seen : Reading) (made : Put) → IsPut a d write seen made → made ≡ first_put a d write seen
put_made a d write seen made is =
    ap (λ k. put_as k made.phase) is.task_is
    ∙ ap (λ p. put_as (task_of a d write.kind write.content seen) p) (is.phase_is ∙ ap put_phases.start is.task_is)

pub put_stands : (t : AttemptTerms) (a : Attempt) → IsUnder t a → (d : List ℕ) (write : Own) (seen : Reading) (made : Put) → IsPut a d write seen made
    → put.StandsFor (write_terms t) (first_put a d write seen) []
put_stands t a under d write seen made is =
    subst (λ k. put.StandsFor k (first_put a d write seen) []) (terms_same t a under)
    (subst (λ p. put.StandsFor (terms_of a) p []) (put_made a d write seen made is) is.stands)

pub put_goes : (a : Attempt) (d : List ℕ) (write : Own) (seen : Reading) → put_phases.end_of (first_put a d write seen) ≡ None
put_goes a d write seen = start_goes (task_of a d write.kind write.content seen)

pub sent_first : (a : Attempt) (d : List ℕ) (write : Own) (seen : Reading) → (first_put a d write seen).phase ≡ put_phase.Staging → is_some a.sent ≡ true
sent_first a d write seen staging = start_staging (task_of a d write.kind write.content seen) staging

module _ (t : AttemptTerms) (c : Operations) (l0 told : List Made) (it : Between t c l0 told) (o : Op) (next : ComesNext t c.logs o) where
  goes : Goes t c (told ++ l0) [] o
  goes = record { next = next; bound = it.bound; agrees = it.agrees; fine = tt }

  abbrev Begun_as : Work → Type 0
  Begun_as w = Works t c (told ++ l0) [] w

  -- a get
  read_begins : (d name : List ℕ) → asked t c.logs o ≡ Reads d name → (b : Beginning) (w : Work) (own : Option Own) → noted c.attempt.writes d ≡ own
      → read_first d own ≡ Calls b → Begins c.attempt b w → Begun_as w
  read_begins d name asks b w None none is begins =
      subst Begun_as (sym (subst (λ b. Begins c.attempt b w) (sym (same_calls is)) begins))
      (following.gets o (record { doc = d; phase = Begun }) name goes asks none (get_begins d) refl)
  read_begins d name asks b w (Some own) own_is is begins = absurd (apart is)

  module _ (d : List ℕ) (kind : OpKind) (content : Option Json) (asks : asked t c.logs o ≡ Writes d kind (Ok content)) (b : Beginning) (w : Work) where
    -- a write over an own write
    again_begins : (own : Own) → noted c.attempt.writes d ≡ Some own → (needed sent : Bool) → needs_call kind own.kind ≡ needed
        → over_sent needed sent d (unstamped kind content) ≡ Calls b → Begins c.attempt b w → Begun_as w
    again_begins own own_is true true needed is begins =
        let made = subst (λ b. Begins c.attempt b w) (sym (same_calls is)) begins in
        let task = rewrite_is c.attempt d kind content own made.0.task own_is made.2.task_is in
        subst Begun_as (sym made.1)
        (following.agains o made.0 goes
        (record {
          kind = kind;
          content = content;
          own = own;
          asks = subst (λ q. asked t c.logs o ≡ Writes q kind (Ok content)) (sym task.doc_is) asks;
          own_is = ap (noted c.attempt.writes) task.doc_is ∙ own_is;
          needed = needed;
          task_is = subst (λ (q : List ℕ). Some made.0.task ≡ rewrite_of c.attempt q kind content) (sym task.doc_is) made.2.task_is;
          stands = subst (λ k. StandsOnce k made.0 []) (terms_same t c.attempt it.under) made.2.stands;
        }) made.2.going)
    again_begins own own_is true false needed is begins = absurd (apart is)
    again_begins own own_is false sent needed is begins = absurd (apart is)

    -- a write that reads its document
    reads_begin : noted c.attempt.writes d ≡ None → agrees_last kind ((sofar t c.logs).read d) ≡ false → Calls (beginning.Read d (unstamped kind content)) ≡ Calls b
        → Begins c.attempt b w → Begun_as w
    reads_begin none unserved is begins =
        subst Begun_as (sym (subst (λ b. Begins c.attempt b w) (sym (same_calls is)) begins))
        (following.reads o (record { doc = d; phase = Begun }) (unstamped kind content) goes (record { asks = asks; unwritten = none; unserved = unserved })
        (get_begins d) refl)

    -- a write that stands on the last reading
    puts_on : noted c.attempt.writes d ≡ None → (seen : Reading) → noted c.attempt.seen d ≡ Some seen → agrees kind seen.value ≡ true
        → put.StandsFor (write_terms t) (first_put c.attempt d (unstamped kind content) seen) []
        → PutsOn t c (told ++ l0) (first_put c.attempt d (unstamped kind content) seen) [] [] o
    puts_on none seen seen_is agreed stands =
        let last = it.agrees.seen_some d seen seen_is in
        record {
          asks = asks;
          unwritten = none;
          of_attempt = it.under.id_is;
          stands_on = answers.on_earlier last.0 last.1 (ap (agrees kind) (sym last.3) ∙ agreed) last.2 last.3 last.4;
          reads_are = inl refl;
          read_last = inl refl;
          stands = stands;
          asked_for = tt;
          sent_before = λ sent. sent;
          sent = sent_first c.attempt d (unstamped kind content) seen;
        }

    over_begins : noted c.attempt.writes d ≡ None → (seen : Reading) → noted c.attempt.seen d ≡ Some seen → (v : Bool) → agrees kind seen.value ≡ v
        → cond v (Calls (beginning.Put d (unstamped kind content) seen)) (Calls (beginning.Read d (unstamped kind content))) ≡ Calls b
        → Begins c.attempt b w → Begun_as w
    over_begins none seen seen_is true agreed is begins =
        let made = subst (λ b. Begins c.attempt b w) (sym (same_calls is)) begins in
        let write = unstamped kind content in
        let same = put_made c.attempt d write seen made.0 made.2 in
        subst Begun_as (sym (made.1 ∙ ap work.Put same))
        (following.puts o (first_put c.attempt d write seen) [] [] goes refl
        (puts_on none seen seen_is agreed (put_stands t c.attempt it.under d write seen made.0 made.2)) (put_goes c.attempt d write seen))
    over_begins none seen seen_is false agreed is begins =
        let last = it.agrees.seen_some d seen seen_is in
        reads_begin none (ap (agrees_last kind) last.1 ∙ ap (agrees kind) (sym last.3) ∙ agreed) is begins

    seen_begins : noted c.attempt.writes d ≡ None → (seen : Option Reading) → noted c.attempt.seen d ≡ seen
        → over_reading d (unstamped kind content) seen ≡ Calls b → Begins c.attempt b w → Begun_as w
    seen_begins none None unseen is begins = reads_begin none (ap (agrees_last kind) (it.agrees.seen_none d unseen)) is begins
    seen_begins none (Some seen) seen_is is begins = over_begins none seen seen_is (agrees kind seen.value) refl is begins

    write_begins : (own : Option Own) → noted c.attempt.writes d ≡ own → over c.attempt d (unstamped kind content) own ≡ Calls b → Begins c.attempt b w
        → Begun_as w
    write_begins None none is begins = seen_begins none (noted c.attempt.seen d) refl is begins
    write_begins (Some own) own_is is begins =
        again_begins own own_is (needs_call kind own.kind) (is_some c.attempt.sent && is_some own.cas) refl is begins

  works_begin : (r : Request) → asked t c.logs o ≡ r → (b : Beginning) (w : Work) → started c.attempt r ≡ Calls b → Begins c.attempt b w → Begun_as w
  works_begin (Reads d name) asks b w is begins = read_begins d name asks b w (noted c.attempt.writes d) refl is begins
  works_begin (Writes d kind (Ok content)) asks b w is begins = write_begins d kind content asks b w (noted c.attempt.writes d) refl is begins
  works_begin (Writes d kind (Err part)) asks b w is begins = absurd (apart is)
  works_begin (Tests (Ok true)) asks b w is begins = absurd (apart is)
  works_begin (Tests (Ok false)) asks b w is begins = absurd (apart is)
  works_begin (Tests (Err part)) asks b w is begins = absurd (apart is)

-- the same whatever the work was before
with_work : (t : AttemptTerms) (c : Operations) (l0 told : List Made) (w : Work) → Between t c l0 told → Between t (record c { work = w }) l0 told
with_work t c l0 told w it =
    record { under = it.under; unbegun = it.unbegun; past_is = it.past_is; tells = it.tells; good = it.good; bound = it.bound; agrees = it.agrees }

pub begins_follow : (t : AttemptTerms) (c : Operations) (l0 told : List Made) (o : Op) (b : Beginning) (w : Work) → Between t c l0 told → ComesNext t c.logs o
    → started c.attempt (request_of (bound_in c.bound) o) ≡ Calls b → Begins c.attempt b w → Follows t (record c { work = w }) l0 told
begins_follow t c l0 told o b w it next is begins = record {
  told = told;
  calls = [];
  mine_is = refl;
  under = it.under;
  first_is = it.unbegun;
  past_is = it.past_is;
  tells = it.tells;
  works = works_begin t (record c { work = w }) l0 told (with_work t c l0 told w it) o next (asked t c.logs o) refl b w
      (ap (λ f. started c.attempt (request_of f o)) it.bound ∙ is) begins;
}

-- An operation that is answered without a call has the answer that it should, by what its attempt has noted.
use Rattle.std.proofs.Common.{◌≡◌, ℕ, Bool, true, false, ◌&&◌, cond, List, [], ◌++◌, Option, Some, None, is_some, is_none, Ok, Err, refl, sym, ap, ◌∙◌, subst}
use Rattle.cbt_json.specs.declared.value.Json.{Json}
use Rattle.cbt_expr.specs.Answers.{bound_in}
use Rattle.cbt_expr.specs.declared.plans.Op.{Op}
use Rattle.cbt_model.specs.declared.documents.OpKind.{OpKind}
use Rattle.cbt_model.specs.declared.documents.OpKind.TheVariants.{Insert, Replace, Remove}
use Rattle.cbt_model.specs.declared.events.Made.{Made}
use Rattle.cbt_book.specs.ReadAt.{Reading}
use Rattle.cbt_book.specs.declared.operations.OpAnswer.{OpAnswer}
use Rattle.cbt_book.specs.declared.operations.Span.{Span}
use Rattle.cbt_book.specs.declared.operations.When.TheVariants as when
use Rattle.cbt_core.specs.OpAnswers.{OwnHas, WriteAnswered, agrees}
use Rattle.cbt_core.specs.OpAnswers as answers
use Rattle.cbt_core.specs.Operations.{is_good}
use Rattle.cbt_core.specs.Walk.{AttemptTerms, Reads, Request, Sofar, Tests, Writes, noted_as, request_of, with_value}
use Rattle.cbt_attempt.specs.OwnWrites.{noted}
use Rattle.cbt_attempt.specs.declared.attempt.Attempt.{Attempt}
use Rattle.cbt_attempt.specs.declared.own.Own.{Own}
use Rattle.cbt_logs.specs.Operating.{ComesNext, asked, log_of, sofar}
use Rattle.cbt_stage.specs.Rewrites.{needs_call}
use Rattle.cbt_txn.specs.Following.{Agrees, Answers, Between, is_whole}
use Rattle.cbt_txn.specs.Starts.{over, over_reading, read_first, refusal, started, unstamped}
use Rattle.cbt_txn.specs.declared.operations.Operations.{Operations}
use Rattle.cbt_txn.specs.declared.starts.Beginning.TheVariants as beginning
use Rattle.cbt_txn.specs.declared.starts.Start.TheVariants.{Answered, Calls}
use Rattle.cbt_txn.proofs.Agreeing.{agrees_bound}
use Rattle.cbt_txn.proofs.FirstCalls.{apart, clash, no_calls, over_sent, same_answer}

is_there : (x : Option Json) → is_some x ≡ true → (i : Json) × (x ≡ Some i)
is_there None there = absurd (clash there refl)
is_there (Some i) there = (i, refl)

is_missing : (x : Option Json) → is_none x ≡ true → x ≡ None
is_missing None missing = refl
is_missing (Some i) missing = absurd (clash missing refl)

module _ (t : AttemptTerms) (so : Sofar) (a : Attempt) (l : List Made) (span : Span) (it : Agrees so a l) where
  -- the answer is one that the request can have, and what is noted agrees with it
  abbrev Right : Request → OpAnswer → Type 0
  Right r x = answers.Answered t l so r [] x × (is_good x ≡ true → Agrees (noted_as r span x so) a l)

  own_has : (d : List ℕ) (own : Own) → noted a.writes d ≡ Some own → OwnHas so d own.content
  own_has d own is = let known = it.own_some d own is in (known.1, known.3, known.5)

  get_right : (d name : List ℕ) (x : OpAnswer) (own : Option Own) → noted a.writes d ≡ own → read_first d own ≡ Answered x → Right (Reads d name) x
  get_right d name x None none is = absurd (apart (sym is))
  get_right d name x (Some own) own_is is =
      subst (λ x. Right (Reads d name) x) (same_answer is) (own_has d own own_is, λ good. agrees_bound so a (with_value name own.content so.bound) l it)

  -- a write over an own write that needs no call finds the document there, or finds none
  found : (d : List ℕ) (own : Own) → noted a.writes d ≡ Some own → is_some own.content ≡ true → (value : Json) × OwnHas so d (Some value)
  found d own is there = let value = is_there own.content there in (value.0, subst (λ v. OwnHas so d v) value.1 (own_has d own is))

  lost : (d : List ℕ) (own : Own) → noted a.writes d ≡ Some own → is_none own.content ≡ true → OwnHas so d None
  lost d own is missing = subst (λ v. OwnHas so d v) (is_missing own.content missing) (own_has d own is)

  differs : Replace ≡ Insert → ⊥
  differs same = cc

  differs_too : Remove ≡ Insert → ⊥
  differs_too same = cc

  refused : (d : List ℕ) (kind : OpKind) (content : Option Json) (own : Own) → noted a.writes d ≡ Some own → (k : OpKind) → own.kind ≡ k
      → is_whole k own.content ≡ true → needs_call kind k ≡ false → WriteAnswered t l so d kind content [] (refusal kind when.Own)
  refused d Insert content own is Insert kind whole needless = (refl, found d own is whole)
  refused d Insert content own is Replace kind whole needless = (refl, found d own is whole)
  refused d Insert content own is Remove kind whole needless = absurd (clash refl needless)
  refused d Replace content own is Insert kind whole needless = absurd (clash refl needless)
  refused d Replace content own is Replace kind whole needless = absurd (clash refl needless)
  refused d Replace content own is Remove kind whole needless = (differs, lost d own is whole)
  refused d Remove content own is Insert kind whole needless = absurd (clash refl needless)
  refused d Remove content own is Replace kind whole needless = absurd (clash refl needless)
  refused d Remove content own is Remove kind whole needless = (differs_too, lost d own is whole)

  refused_bad : (kind : OpKind) → is_good (refusal kind when.Own) ≡ false
  refused_bad Insert = refl
  refused_bad Replace = refl
  refused_bad Remove = refl

  -- the entry was sent, and the own write has a CAS
  has_cas : (d : List ℕ) (own : Own) → noted a.writes d ≡ Some own → (is_some a.sent && is_some own.cas) ≡ true
  has_cas d own is =
      let known = it.own_some d own is in
      ap (λ b. b && is_some own.cas) (it.sent d own is) ∙ ap is_some known.2

  own_right : (d : List ℕ) (kind : OpKind) (content : Option Json) (x : OpAnswer) (own : Own) → noted a.writes d ≡ Some own → (needed sent : Bool)
      → needs_call kind own.kind ≡ needed → (is_some a.sent && is_some own.cas) ≡ sent → over_sent needed sent d (unstamped kind content) ≡ Answered x
      → Right (Writes d kind (Ok content)) x
  own_right d kind content x own own_is true true needed sent is = absurd (apart (sym is))
  own_right d kind content x own own_is true false needed sent is = absurd (clash (has_cas d own own_is) sent)
  own_right d kind content x own own_is false sent needless is_sent is =
      subst (λ x. Right (Writes d kind (Ok content)) x) (same_answer is)
      (refused d kind content own own_is own.kind refl (it.whole d own own_is) needless, λ good. absurd (clash good (refused_bad kind)))

  write_right : (d : List ℕ) (kind : OpKind) (content : Option Json) (x : OpAnswer) (own : Option Own) → noted a.writes d ≡ own
      → over a d (unstamped kind content) own ≡ Answered x → Right (Writes d kind (Ok content)) x
  write_right d kind content x (Some own) own_is is =
      own_right d kind content x own own_is (needs_call kind own.kind) (is_some a.sent && is_some own.cas) refl refl is
  write_right d kind content x None none is = by_seen (noted a.seen d) is
    where
      by_agrees : (seen : Reading) (v : Bool)
          → cond v (Calls (beginning.Put d (unstamped kind content) seen)) (Calls (beginning.Read d (unstamped kind content))) ≡ Answered x
          → Right (Writes d kind (Ok content)) x
      by_agrees seen true is = absurd (apart (sym is))
      by_agrees seen false is = absurd (apart (sym is))

      by_seen : (seen : Option Reading) → over_reading d (unstamped kind content) seen ≡ Answered x → Right (Writes d kind (Ok content)) x
      by_seen None is = absurd (apart (sym is))
      by_seen (Some seen) is = by_agrees seen (agrees kind seen.value) is

  answer_right : (r : Request) (x : OpAnswer) → started a r ≡ Answered x → Right r x
  answer_right (Reads d name) x is = get_right d name x (noted a.writes d) refl is
  answer_right (Writes d kind (Ok content)) x is = write_right d kind content x (noted a.writes d) refl is
  answer_right (Writes d kind (Err part)) x is =
      subst (λ x. Right (Writes d kind (Err part)) x) (same_answer is) ((refl, refl), λ good. absurd (clash good refl))
  answer_right (Tests (Ok true)) x is = subst (λ x. Right (Tests (Ok true)) x) (same_answer is) (refl, λ good. it)
  answer_right (Tests (Ok false)) x is = subst (λ x. Right (Tests (Ok false)) x) (same_answer is) (refl, λ good. absurd (clash good refl))
  answer_right (Tests (Err part)) x is = subst (λ x. Right (Tests (Err part)) x) (same_answer is) (refl, λ good. absurd (clash good refl))

pub begins_answered : (t : AttemptTerms) (c : Operations) (l0 told : List Made) (o : Op) (x : OpAnswer) → Between t c l0 told → ComesNext t c.logs o
    → started c.attempt (request_of (bound_in c.bound) o) ≡ Answered x → Answers t c l0 told [] x
begins_answered t c l0 told o x it next is =
    let log = log_of c.logs (told ++ l0) [] x in
    let right = answer_right t (sofar t c.logs) c.attempt (told ++ l0) log.span it.agrees (asked t c.logs o) x
    (ap (λ f. started c.attempt (request_of f o)) it.bound ∙ is) in
    record {
      op = o;
      next = next;
      under = it.under;
      first_is = it.unbegun;
      past_is = it.past_is;
      tells = it.tells;
      answered = record { answered = right.0; bounded = no_calls t (sofar t c.logs) (asked t c.logs o); stands = tt; failed = tt; in_time = tt };
      bound = it.bound;
      agrees = right.1;
    }

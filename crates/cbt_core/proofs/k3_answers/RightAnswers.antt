-- Each answer about a document is right, and the moments of a client's answers rise.
use Rattle.std.proofs.Common.{◌≡◌, ◌≢◌, ℕ, suc, ◌<◌, ◌≤◌, Bool, true, nat_le, nat_lt, ◌&&◌, List, [], ◌∷◌, ◌++◌, length, slice_get, Option, Some, None, Result, Ok, Err, refl, sym, ap, ◌∙◌, subst, arith}
use Rattle.std.proofs.lemmas.Grind.{common_steps}
use Rattle.std.proofs.lemmas.Map.Keys.{IsStrictlyIncreasing-from_sorted}
use Rattle.std.proofs.lemmas.Option.{none-some}
use Rattle.std.specs.Cmp.{nat_cmp_is}
use Rattle.std.specs.List.{AllByRecursion, cons_option, filter_map, flat_map}
use Rattle.std.specs.List.Sorted.{IsStrictlySortedBy, IsStrictlyIncreasing}
use Rattle.std.specs.Option.{option_to_list}
use Rattle.std.specs.Ordering.{nat_cmp}
use Rattle.std.specs.declared.cmp.Ordering.TheVariants.{Less}
use Rattle.cbt_json.specs.declared.value.Json.{Json}
use Rattle.cbt_expr.specs.Values.{value_of, truth_of}
use Rattle.cbt_expr.specs.declared.plans.Op.{Op}
use Rattle.cbt_expr.specs.declared.plans.Op.TheVariants as op
use Rattle.cbt_expr.specs.declared.plans.TxnPlan.{TxnPlan}
use Rattle.cbt_model.specs.History.{after, commits, committed_by, commits_below}
use Rattle.cbt_model.specs.declared.documents.OpKind.{OpKind}
use Rattle.cbt_model.specs.declared.documents.OpKind.TheVariants.{Insert, Replace, Remove}
use Rattle.cbt_model.specs.declared.events.Event.{Event}
use Rattle.cbt_model.specs.declared.events.Made.{Made}
use Rattle.cbt_model.specs.declared.states.State.{State}
use Rattle.cbt_book.specs.OwnLists.{In, is_within, during, Descends}
use Rattle.cbt_book.specs.declared.book.Book.{Book}
use Rattle.cbt_book.specs.declared.clients.AttemptLog.{AttemptLog}
use Rattle.cbt_book.specs.declared.clients.ClientLog.{ClientLog}
use Rattle.cbt_book.specs.declared.clients.TxnLog.{TxnLog}
use Rattle.cbt_book.specs.declared.operations.OpAnswer.{OpAnswer}
use Rattle.cbt_book.specs.declared.operations.OpAnswer.TheVariants as answer
use Rattle.cbt_book.specs.declared.operations.OpLog.{OpLog}
use Rattle.cbt_book.specs.declared.operations.Span.{Span}
use Rattle.cbt_book.specs.declared.operations.When.{When}
use Rattle.cbt_book.specs.declared.operations.When.TheVariants as when
use Rattle.cbt_core.specs.Clients.{TxnsFollow, txns_end}
use Rattle.cbt_core.specs.Committed.{table_after, table_at}
use Rattle.cbt_core.specs.Walk.{AttemptTerms, Sofar, Writes, request_of, content_of, noted, nothing_yet}
use Rattle.cbt_core.specs.OpAnswers.{Answered, GetAnswered, WriteAnswered, IsBadValue, TestAnswered, ReadsAt}
use Rattle.cbt_core.specs.Operations.{OpsFollow, ops_end}
use Rattle.cbt_core.specs.Right.{IsAnswer, IsRightWhen, doc_of, read_when, moment_at, moments_of}
use Rattle.cbt_core.specs.Runs.{IsLegalRun, LogsFollow, own_of}
use Rattle.cbt_core.specs.Transactions.{TxnTerms, AttemptsFollow, attempts_end}
use Rattle.cbt_core.specs.WriteSets.{numbered, write_set}
use Rattle.cbt_core.specs.declared.case.Case.{Case}
use Rattle.cbt_core.proofs.logs.Calls.{filter_in, filter_descends}
use Rattle.cbt_core.proofs.logs.Index.{op_of_run}
use Rattle.cbt_core.proofs.runs.Lawful.{Lawful}
use Rattle.cbt_core.proofs.logs.Noted.{span_order}
use Rattle.cbt_core.proofs.logs.Owners.{numbered_there, numbered_within}
use Rattle.cbt_core.proofs.runs.Past.{some_same, one_event, in_at, Member, own_descends}
use Rattle.cbt_core.proofs.k3_answers.Readings.{Moment, read_right}
use Rattle.cbt_core.proofs.k2_documents.Tables.{counts, documents}

some_not_none : (v : Json) → Some v ≢ None
some_not_none v = λ q. cc

module _ (case : Case) (book : Book) (legal : IsLegalRun case book) (follow : LogsFollow case book) (lawful : Lawful book.kept.opening book.kept.history) where
  abbrev s0 : State
  s0 = book.kept.opening

  abbrev h : List Event
  h = book.kept.history

  abbrev table : ℕ → List ℕ → Option Json
  table i d = table_at (write_set case.plans book.clients) s0 h i d

  module _ (client : ℕ) (span : Span) where
    abbrev calls : List Made
    calls = during span (own_of book client)

    part : (m : Made) → In m calls → In m (own_of book client)
    part m there = (filter_in (λ x. is_within span x.answer.place) m (own_of book client) there).0

    falls : Descends calls
    falls = filter_descends (λ x. is_within span x.answer.place) (own_of book client) (own_descends s0 h client (length h))

    -- a reading commits nothing
    table_stays : (t : ℕ) (d : List ℕ) → Moment s0 h lawful client calls part falls t → table (suc t) d ≡ table t d
    table_stays t d it = go (committed_by (after s0 h t) (slice_get h t)) refl
      where
        member : Member s0 h it.call client (length h)
        member = in_at s0 h it.call client (length h) (part it.call it.there)

        place : member.place ≡ t
        place = sym (ap (λ (m : Made). m.answer.place) member.made) ∙ it.at

        go : (o : Option ℕ) → committed_by (after s0 h t) (slice_get h t) ≡ o → table (suc t) d ≡ table t d
        go None none = ap (λ o. table_after (write_set case.plans book.clients) s0 (option_to_list o ++ commits_below s0 h t) d) none
        go (Some a) is =
            let c = counts s0 h t a is in
            let same : member.event ≡ c.0 = one_event h t member.event c.0 (subst (λ k. slice_get h k ≡ Some member.event) place member.is) c.1.event in
            absurd (it.reads a (ap (λ (m : Made). commits m.step) member.made ∙ ap (λ (e : Event). commits e.step) same ∙ c.2))

    -- what was read at a moment of the span is what the table has there
    at_moment : (so : Sofar) (d : List ℕ) (value : Option Json) (t : ℕ) → ReadsAt so d value t calls → (so.own d ≡ None) × (is_within span t ≡ true) × (table (suc t) d ≡ value)
    at_moment so d value t read =
        let it = read_right s0 h lawful client calls part falls d read.it read.read in
        let inside = (filter_in (λ x. is_within span x.answer.place) it.moment.call (own_of book client) it.moment.there).1 in (
          read.own_none,
          subst (λ k. is_within span k ≡ true) (it.moment.at ∙ read.moment_is) inside,
          subst (λ k. table (suc k) d ≡ value) read.moment_is
              (table_stays read.it.moment d it.moment ∙ sym (documents case book legal follow lawful read.it.moment d) ∙ it.value_is ∙ read.value_is),
        )

    right_get : (so : Sofar) (d : List ℕ) (a : OpAnswer) → GetAnswered so d calls a → IsRightWhen case book so d span a (read_when a)
    right_get so d (answer.Value value when.Own) told = (value, told, refl)
    right_get so d (answer.Value value (when.At t)) told = let it = at_moment so d value t told in (it.0, it.1, sym it.2)
    right_get so d answer.Contended told = tt
    right_get so d (answer.CallFailed place) told = tt
    right_get so d (answer.Staged place base) told = tt
    right_get so d (answer.Unstaged place) told = tt
    right_get so d (answer.DocExists w) told = absurd told
    right_get so d (answer.DocNotFound w) told = absurd told
    right_get so d (answer.Blocked by) told = tt
    right_get so d answer.Moved told = tt
    right_get so d answer.Holds told = tt
    right_get so d answer.NeedFalse told = tt
    right_get so d (answer.BadValue part_no) told = tt

    right_write : (t : AttemptTerms) (so : Sofar) (d : List ℕ) (kind : OpKind) (content : Option Json) (a : OpAnswer) → WriteAnswered t (own_of book client) so d kind content calls a
        → IsRightWhen case book so d span a (read_when a)
    right_write t so d kind content (answer.DocExists when.Own) told = (Some told.1.0, told.1.1, some_not_none told.1.0)
    right_write t so d kind content (answer.DocExists (when.At moment)) told =
        let it = at_moment so d (Some told.1.0) moment told.1.1 in (it.0, it.1, λ none. some_not_none told.1.0 (sym it.2 ∙ none))
    right_write t so d kind content (answer.DocNotFound when.Own) told = (None, told.1, refl)
    right_write t so d kind content (answer.DocNotFound (when.At moment)) told = let it = at_moment so d None moment told.1 in (it.0, it.1, it.2)
    right_write t so d kind content (answer.Value value w) told = absurd told
    right_write t so d kind content answer.Contended told = tt
    right_write t so d kind content (answer.CallFailed place) told = tt
    right_write t so d kind content (answer.Staged place base) told = tt
    right_write t so d kind content (answer.Unstaged place) told = tt
    right_write t so d kind content (answer.Blocked by) told = tt
    right_write t so d kind content answer.Moved told = tt
    right_write t so d kind content answer.Holds told = tt
    right_write t so d kind content answer.NeedFalse told = tt
    right_write t so d kind content (answer.BadValue part_no) told = tt

    right_bad : (so : Sofar) (d : List ℕ) (part_no : ℕ) (a : OpAnswer) → IsBadValue part_no calls a → IsRightWhen case book so d span a (read_when a)
    right_bad so d part_no (answer.BadValue named) told = tt
    right_bad so d part_no (answer.Value value w) told = absurd told
    right_bad so d part_no (answer.Staged place base) told = tt
    right_bad so d part_no (answer.Unstaged place) told = tt
    right_bad so d part_no (answer.DocExists w) told = absurd told
    right_bad so d part_no (answer.DocNotFound w) told = absurd told
    right_bad so d part_no (answer.Blocked by) told = tt
    right_bad so d part_no answer.Moved told = tt
    right_bad so d part_no answer.Contended told = tt
    right_bad so d part_no (answer.CallFailed place) told = tt
    right_bad so d part_no answer.Holds told = tt
    right_bad so d part_no answer.NeedFalse told = tt

    right_test : (so : Sofar) (d : List ℕ) (truth : Result Bool ℕ) (a : OpAnswer) → TestAnswered truth a → IsRightWhen case book so d span a (read_when a)
    right_test so d truth answer.Holds told = tt
    right_test so d truth answer.NeedFalse told = tt
    right_test so d truth (answer.BadValue part_no) told = tt
    right_test so d truth _ told = absurd told

    by_value : (t : AttemptTerms) (so : Sofar) (d : List ℕ) (kind : OpKind) (v : Result Json ℕ) (a : OpAnswer) → Answered t (own_of book client) so (Writes d kind (content_of v)) calls a
        → IsRightWhen case book so d span a (read_when a)
    by_value t so d kind (Ok value) a told = right_write t so d kind (Some value) a told
    by_value t so d kind (Err part_no) a told = right_bad so d part_no a told

    pub right_by : (t : AttemptTerms) (so : Sofar) (o : Op) (a : OpAnswer) → Answered t (own_of book client) so (request_of so.bound o) calls a → IsRightWhen case book so (doc_of o) span a (read_when a)
    right_by t so (op.Get d name) a told = right_get so d a told
    right_by t so (op.Insert d value) a told = by_value t so d Insert (value_of so.bound value) a told
    right_by t so (op.Replace d value) a told = by_value t so d Replace (value_of so.bound value) a told
    right_by t so (op.Remove d) a told = right_write t so d Remove None a told
    right_by t so (op.Need cond) a told = right_test so [] (truth_of so.bound cond) a told

  pub answers_right : (client txn try_no n : ℕ) (o : Op) (log : OpLog) (so : Sofar) → IsAnswer case book client txn try_no n o log so → IsRightWhen case book so (doc_of o) log.span log.answer (read_when log.answer)
  answers_right client txn try_no n o log so it =
      let at = op_of_run case book legal follow client txn try_no n o log so it in
      right_by client log.span at.t so o log.answer at.follows.answered

-- numbers that rise from a first bound on and stay below a second
abbrev Climbs : ℕ → ℕ → List ℕ → Type 0
Climbs low high [] = low ≤ high
Climbs low high (x ∷ xs) = (low ≤ x) × Climbs (suc x) high xs

climbs_from : (low mid high : ℕ) (xs : List ℕ) → low ≤ mid → Climbs mid high xs → Climbs low high xs
climbs_from low mid high [] before up = omega arith
climbs_from low mid high (x ∷ xs) before up = (let a = up.0 in omega arith, up.1)

climbs_on : (low mid high : ℕ) (xs ys : List ℕ) → Climbs low mid xs → Climbs mid high ys → Climbs low high (xs ++ ys)
climbs_on low mid high [] ys up on = climbs_from low mid high ys up on
climbs_on low mid high (x ∷ xs) ys up on = (up.0, climbs_on (suc x) mid high xs ys up.1 on)

climbs_above : (low high x : ℕ) (xs : List ℕ) → Climbs low high xs → x < low → AllByRecursion (λ y. nat_cmp x y ≡ Less) xs
climbs_above low high x [] up under = tt
climbs_above low high x (y ∷ ys) up under = (sym (nat_cmp_is x y Less (let a = up.0 in omega arith)), climbs_above (suc y) high x ys up.1 (let a = up.0 in omega arith))

climbs_sorted : (low high : ℕ) (xs : List ℕ) → Climbs low high xs → IsStrictlySortedBy nat_cmp xs
unfolding IsStrictlySortedBy
climbs_sorted low high [] up = tt
climbs_sorted low high (x ∷ xs) up = (climbs_above (suc x) high x xs up.1 (omega arith), climbs_sorted (suc x) high xs up.1)

climbs_to : (low mid high : ℕ) (xs : List ℕ) → Climbs low mid xs → mid ≤ high → Climbs low high xs
climbs_to low mid high [] up on = omega arith
climbs_to low mid high (x ∷ xs) up on = (up.0, climbs_to (suc x) mid high xs up.1 on)

-- the moment of an answer lies in its operation's span, before those of the operations after it
one_moment : (at to high : ℕ) (o : Option ℕ) (rest : List ℕ) → at ≤ to → ((t : ℕ) → o ≡ Some t → (at ≤ t) × (t < to)) → Climbs to high rest → Climbs at high (cons_option o rest)
one_moment at to high None rest low inside up = climbs_from at to high rest low up
one_moment at to high (Some t) rest low inside up = let it = inside t refl in (it.0, climbs_from (suc t) to high rest it.1 up)

module _ (case : Case) (book : Book) (legal : IsLegalRun case book) (follow : LogsFollow case book) (lawful : Lawful book.kept.opening book.kept.history) (client : ℕ) where
  in_span : (span : Span) (t : ℕ) → is_within span t ≡ true → (span.from ≤ t) × (t < span.to)
  in_span span t is = (low span.from span.to t is, high span.from span.to t is)
    where
      low : (from to place : ℕ) → (nat_le from place && nat_lt place to) ≡ true → from ≤ place
      low from to place is = grind (arith, common_steps)

      high : (from to place : ℕ) → (nat_le from place && nat_lt place to) ≡ true → place < to
      high from to place is = grind (arith, common_steps)

  when_told : (so : Sofar) (d : List ℕ) (span : Span) (a : OpAnswer) (w : Option When) (t : ℕ) → IsRightWhen case book so d span a w → moment_at w ≡ Some t → is_within span t ≡ true
  when_told so d span a (Some (when.At moment)) t right is = subst (λ k. is_within span k ≡ true) (some_same is) right.1
  when_told so d span a (Some when.Own) t right is = absurd (none-some t is)
  when_told so d span a None t right is = absurd (none-some t is)

  abbrev of_op : OpLog → Option ℕ
  of_op o = moment_at (read_when o.answer)

  op_moments : (t : AttemptTerms) (at n : ℕ) (so : Sofar) (ops : List Op) (logs : List OpLog) → OpsFollow t (own_of book client) at n so ops logs → Climbs at (ops_end at logs) (filter_map of_op logs)
  op_moments t at n so ops [] follows = omega arith
  op_moments t at n so [] (log ∷ logs) follows = absurd follows
  op_moments t at n so (o ∷ ops) (log ∷ logs) follows =
      one_moment at log.span.to (ops_end log.span.to logs) (of_op log) (filter_map of_op logs) (let a = follows.0.spanned.follows in let b = span_order (own_of book client) at log.span follows.0.spanned in omega arith) inside
      (op_moments t log.span.to (suc n) (noted o log so) ops logs follows.2)
    where
      inside : (m : ℕ) → of_op log ≡ Some m → (at ≤ m) × (m < log.span.to)
      inside m is =
          let right = right_by case book legal follow lawful client log.span t so o log.answer follows.0.answered in
          let within = in_span log.span m (when_told so (doc_of o) log.span log.answer (read_when log.answer) m right is) in
          ((let a = follows.0.spanned.follows in let b = within.0 in omega arith), within.1)

  abbrev of_attempt : AttemptLog → List ℕ
  of_attempt a = filter_map of_op a.ops

  attempt_moments : (x : TxnTerms) (start at n : ℕ) (logs : List AttemptLog) → AttemptsFollow x (own_of book client) start at n logs → Climbs at (attempts_end at logs) (flat_map of_attempt logs)
  attempt_moments x start at n [] follows = omega arith
  attempt_moments x start at n (log ∷ logs) follows =
      climbs_on at log.span.to (attempts_end log.span.to logs) (of_attempt log) (flat_map of_attempt logs)
      (climbs_to at (ops_end at log.ops) log.span.to (of_attempt log) (op_moments _ at 1 nothing_yet x.plan.ops log.ops follows.0.ops) follows.0.held)
      (attempt_moments x start log.span.to (suc n) logs follows.2)

  txn_moments : (at n : ℕ) (plans : List TxnPlan) (logs : List TxnLog) → TxnsFollow client case.atrs (own_of book client) at n plans logs
      → Climbs at (txns_end at logs) (flat_map (λ t. flat_map of_attempt t.attempts) logs)
  txn_moments at n plans [] follows = omega arith
  txn_moments at n [] (log ∷ logs) follows = absurd follows
  txn_moments at n (plan ∷ plans) (log ∷ logs) follows =
      climbs_on at (attempts_end at log.attempts) (txns_end (attempts_end at log.attempts) logs) (flat_map of_attempt log.attempts) (flat_map (λ t. flat_map of_attempt t.attempts) logs)
      (attempt_moments (record { client = client; number = n; plan = plan; atrs = case.atrs }) follows.0.start at 1 log.attempts follows.0.attempts)
      (txn_moments (attempts_end at log.attempts) (suc n) plans logs follows.2)

  pub moments_rise : (log : ClientLog) → numbered book.clients client ≡ Some log → IsStrictlyIncreasing (moments_of log)
  moments_rise log is =
      let low = numbered_within book.clients client log is in
      let plan = numbered_there case.plans client low.0 (let a = low.1 in let b = follow.clients.all in omega arith) in
      let follows = follow.clients.each client plan.0 log plan.1 is in
      IsStrictlyIncreasing-from_sorted (moments_of log) (climbs_sorted 0 (txns_end 0 log.txns) (moments_of log) (txn_moments 0 1 plan.0.txns log.txns follows.txns))

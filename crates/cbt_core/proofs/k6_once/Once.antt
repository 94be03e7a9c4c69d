-- At most one attempt of a transaction commits.
use Rattle.std.proofs.Common.{◌≡◌, ◌≢◌, ℕ, zero, suc, ◌+◌, ◌<◌, ◌≤◌, Bool, true, false, inl, inr, ⊎_elim, List, [], ◌∷◌, ◌++◌, length, slice_get, option_and_then, Some, refl, sym, ap, ◌∙◌, subst, arith}
use Rattle.std.proofs.lemmas.Option.{none-some, slice_get_within}
use Rattle.cbt_base.specs.Ids.{attempt_number}
use Rattle.cbt_expr.specs.declared.plans.ClientPlan.{ClientPlan}
use Rattle.cbt_expr.specs.declared.plans.Op.{Op}
use Rattle.cbt_model.specs.History.{made_at, commits, TakesEffect, CommitsAt}
use Rattle.cbt_model.specs.declared.entries.Entry.{Entry}
use Rattle.cbt_model.specs.declared.entries.EntryState.TheVariants.{Pending, Committed, Aborted}
use Rattle.cbt_model.specs.declared.entries.Lists.{Lists}
use Rattle.cbt_model.specs.declared.events.Event.{Event}
use Rattle.cbt_model.specs.declared.events.Made.{Made}
use Rattle.cbt_model.specs.declared.states.State.{State}
use Rattle.cbt_model.specs.declared.steps.Reply.TheVariants as reply
use Rattle.cbt_model.specs.declared.steps.Step.{Step}
use Rattle.cbt_model.specs.declared.steps.Step.TheVariants as step
use Rattle.cbt_book.specs.Numbers.{client_of, txn_of, try_of}
use Rattle.cbt_book.specs.OwnLists.{Once, Kept, In, during, Descends}
use Rattle.cbt_book.specs.Passes.{IsDropped}
use Rattle.cbt_book.specs.Shown.{aborts, ReadsEntry}
use Rattle.cbt_book.specs.Closing.{IsUndone, HasAborted, CommitHolds, CommitsInDoubt, Settles}
use Rattle.cbt_book.specs.Closing as closing
use Rattle.cbt_book.specs.declared.book.Book.{Book}
use Rattle.cbt_book.specs.declared.clients.AttemptEnd.{AttemptEnd}
use Rattle.cbt_book.specs.declared.clients.AttemptEnd.TheVariants as attempt_end
use Rattle.cbt_book.specs.declared.clients.AttemptLog.{AttemptLog}
use Rattle.cbt_book.specs.declared.clients.ClientLog.{ClientLog}
use Rattle.cbt_book.specs.declared.clients.TxnEnd.{TxnEnd}
use Rattle.cbt_book.specs.declared.clients.TxnEnd.TheVariants as txn_end
use Rattle.cbt_book.specs.declared.clients.TxnLog.{TxnLog}
use Rattle.cbt_core.specs.Attempts.{AttemptFollows, Ends, course_of, MayKeep, LastIs, CutFollows}
use Rattle.cbt_core.specs.Runs.{IsLegalRun, LogsFollow, own_of}
use Rattle.cbt_core.specs.Walk.{AttemptTerms}
use Rattle.cbt_core.specs.Operations.{ops_end}
use Rattle.cbt_core.specs.Laws.{TxnCommitsAt, tells_none}
use Rattle.cbt_core.specs.Transactions.{TxnTerms, AttemptsFollow, IsRetried, TriesOn, LastTry, TxnFollows, EndsTxn, IsExpiredAt, CutAt, AnsweredWell, Refuses, attempt_terms}
use Rattle.cbt_core.specs.Transactions as transactions
use Rattle.cbt_core.specs.WriteSets.{numbered, txn_at, attempt_at, log_of}
use Rattle.cbt_core.specs.declared.case.Case.{Case}
use Rattle.cbt_core.proofs.interleaving.Answers.{effect_told, done_told, entry_told}
use Rattle.cbt_core.proofs.logs.Calls.{during_in, Within, some_call, call_once, in_front, in_either, in_during, own_in, filter_descends}
use Rattle.cbt_core.proofs.logs.Commits.{Inside, never_aborted, kept, it as attempt_it, here as commit_here}
use Rattle.cbt_core.proofs.interleaving.Decisions.{Closing, commit, closed_last, commits_is, commits_once, closer, not_at_first}
use Rattle.cbt_core.proofs.interleaving.Entries.{Deciding, by_commit, by_abort, Settled, by_decision, in_opening, settled, entry_then}
use Rattle.cbt_core.proofs.logs.Find.{Decodes, decodes}
use Rattle.cbt_core.proofs.logs.Index.{found, from_one, tries_apart, TxnOf, txn_of_run, TryOf, try_of_run}
use Rattle.cbt_core.proofs.runs.Lawful.{Lawful}
use Rattle.cbt_core.proofs.logs.Owners.{small_txn, numbered_there, numbered_within, AttemptOf, Part, part_of, in_ops, in_cut, in_closing}
use Rattle.cbt_core.proofs.runs.Past.{some_same, one_event, Order, first, equal, after as later_one, order, in_at, Member, own_descends}
use Rattle.cbt_core.proofs.k3_answers.Readings.{found_at}

-- of a falling list: the call at which it is so, and none at a higher place of which U is so
pub record LastAt (P : Made → List Made → Type 0) (U : Made → Type 0) (l : List Made) : Type 0 where
  pub call : Made
  pub past : List Made
  pub there : In call l
  pub holds : P call past
  pub older : (n : Made) → In n past → In n l × (n.answer.place < call.answer.place)
  pub falls : Descends past
  pub none_later : (n : Made) → In n l → call.answer.place < n.answer.place → U n → ⊥
  pub covers : (n : Made) → In n l → n.answer.place < call.answer.place → In n past

pub last_at : (P : Made → List Made → Type 0) (U : Made → Type 0) (l : List Made) → Descends l → Kept P (λ m _. U m) l → LastAt P U l
last_at P U [] falls kept_so = absurd kept_so
last_at P U (m ∷ past) falls kept_so =
    ⊎_elim (λ (here : P m past). record {
      call = m;
      past = past;
      there = inl refl;
      holds = here;
      older = λ n there. (inr there, falls.0 n there);
      falls = falls.1;
      none_later = λ n there above u. ⊎_elim (λ (same : n ≡ m). absurd (let e = ap (λ (x : Made). x.answer.place) same in omega arith))
          (λ (before : In n past). let low = falls.0 n before in absurd (omega arith)) there;
      covers = λ n there below. ⊎_elim (λ (same : n ≡ m). absurd (let e = ap (λ (x : Made). x.answer.place) same in omega arith)) (λ (before : In n past). before) there;
    })
    (λ (before : (¬ U m) × Kept P (λ n _. U n) past).
    let it = last_at P U past falls.1 before.1 in
    record {
      call = it.call;
      past = it.past;
      there = inr it.there;
      holds = it.holds;
      older = λ n there. (inr (it.older n there).0, (it.older n there).1);
      falls = it.falls;
      none_later = λ n there above u. ⊎_elim (λ (same : n ≡ m). before.0 (subst U same u)) (λ (in_past : In n past). it.none_later n in_past above u) there;
      covers = λ n there below. ⊎_elim (λ (same : n ≡ m). absurd (let high = falls.0 it.call it.there in let e = ap (λ (x : Made). x.answer.place) same in omega arith))
          (λ (in_past : In n past). it.covers n in_past below) there;
    })
    kept_so

pub aborts_is : (st : Step) (a : ℕ) → aborts st ≡ Some a → (r : ℕ) × (lists : Lists) × (st ≡ step.Abort r a lists)
aborts_is (step.Abort r b lists) a is = (r, lists, ap (λ x. step.Abort r x lists) (some_same is))
aborts_is (step.Commit r b lists) a is = absurd (none-some a is)
aborts_is (step.DropEntry r b guarded) a is = absurd (none-some a is)
aborts_is (step.ReadDoc d) a is = absurd (none-some a is)
aborts_is (step.Stage d e stage) a is = absurd (none-some a is)
aborts_is (step.Publish d x body) a is = absurd (none-some a is)
aborts_is (step.Delete d x) a is = absurd (none-some a is)
aborts_is (step.Unstick d x) a is = absurd (none-some a is)
aborts_is (step.ReadEntry r b) a is = absurd (none-some a is)
aborts_is (step.AddEntry r b exp) a is = absurd (none-some a is)
aborts_is (step.ReadAtr r) a is = absurd (none-some a is)
aborts_is step.ReadClients a is = absurd (none-some a is)
aborts_is (step.Beat me expires n gone) a is = absurd (none-some a is)

-- the parts of a falling list fall
front_falls : (xs ys : List Made) → Descends (xs ++ ys) → Descends xs
front_falls [] ys falls = tt
front_falls (x ∷ xs) ys falls = ((λ n there. falls.0 n (in_front n xs ys there)), front_falls xs ys falls.1)

pub back_falls : (xs ys : List Made) → Descends (xs ++ ys) → Descends ys
back_falls [] ys falls = falls
back_falls (x ∷ xs) ys falls = back_falls xs ys falls.1

module _ (case : Case) (book : Book) (legal : IsLegalRun case book) (follow : LogsFollow case book) (lawful : Lawful book.kept.opening book.kept.history) where
  abbrev s0 : State
  s0 = book.kept.opening

  abbrev h : List Event
  h = book.kept.history

  -- an end after which no commit of the attempt can have taken effect
  pub data Uncommitted : AttemptEnd → Type 0 where
    empty : Uncommitted attempt_end.Empty
    rolled_back : Uncommitted attempt_end.RolledBack
    lost : (place : ℕ) → Uncommitted (attempt_end.EntryLost place)
    incomplete : (place : ℕ) → Uncommitted (attempt_end.Incomplete place)

  module _ (q r a : ℕ) (lists : Lists) (e : Event) (takes : TakesEffect s0 h q e) (is : e.step ≡ step.Commit r a lists) where
    abbrev mine : AttemptOf case book legal follow a
    mine = attempt_it case book legal follow lawful q r a lists e takes is

    closing_in : In (made_at s0 h q e) mine.follows.closing
    closing_in = go (part_of mine.t (own_of book (client_of a)) mine.at mine.attempt mine.follows (made_at s0 h q e) at.there at.low at.high)
      where
        at : Inside case book legal follow lawful a mine q e
        at = commit_here case book legal follow lawful q r a lists e takes is

        go : Part mine.t (own_of book (client_of a)) mine.at mine.attempt mine.follows (made_at s0 h q e) → In (made_at s0 h q e) mine.follows.closing
        go (in_ops home early) = let late = (kept case book legal follow lawful q r a lists e takes is).late in absurd (omega arith)
        go (in_cut so req calls next rest left may_call there late) =
            absurd (nothing (sym (kept case book legal follow lawful q r a lists e takes is).keeps.all ∙ left))
          where
            nothing : {x : Op} {xs : List Op} → [] ≡ x ∷ xs → ⊥
            nothing same = cc
        go (in_closing past may_call before closes late) = closes

    rest_in : (m : Made) → In m mine.follows.closing → In m (own_of book (client_of a))
    rest_in m there = (during_in _ m (own_of book (client_of a)) (subst (λ c. In m c) (sym mine.follows.rest) (in_front m mine.follows.closing mine.follows.cut there))).there

    no_abort : Once (λ m _. aborts m.step ≡ Some mine.t.id) mine.follows.closing → ⊥
    no_abort once =
        let m = some_call (λ n. aborts n.step ≡ Some mine.t.id) mine.follows.closing once in
        by_member m.0 m.2 (in_at s0 h m.0 (client_of a) (length h) (rest_in m.0 m.1))
      where
        by_member : (m : Made) → aborts m.step ≡ Some mine.t.id → Member s0 h m (client_of a) (length h) → ⊥
        by_member m aborted member =
            let st = aborts_is m.step mine.t.id aborted in
            never_aborted case book legal follow lawful q r st.0 a member.place lists st.1 e member.event takes is member.is
            (ap (λ (n : Made). n.step) (sym member.made) ∙ st.2 ∙ ap (λ b. step.Abort st.0 b st.1) mine.id_is)

    abort_before : (l : List Made) → ((m : Made) → In m l → In m mine.follows.closing) → HasAborted mine.t.id l → ⊥
    abort_before l within once =
        let m = some_call (λ n. aborts n.step ≡ Some mine.t.id) l once in
        no_abort (call_once (λ n. aborts n.step ≡ Some mine.t.id) mine.follows.closing m.0 (within m.0 m.1) m.2)

    closing_falls : Descends mine.follows.closing
    closing_falls = front_falls mine.follows.closing mine.follows.cut (subst (λ l. Descends l) mine.follows.rest (filter_descends _ (own_of book (client_of a)) (own_descends s0 h (client_of a) (length h))))

    undone_not : (calls : List Made) → IsUndone mine.t.id calls mine.follows.closing → ⊥
    undone_not calls (closing.unsent none nothing) = subst (λ l. In (made_at s0 h q e) l) nothing closing_in
    undone_not calls (closing.no_entry once) =
        let f = found_at (λ m _. (aborts m.step ≡ Some mine.t.id) × (m.answer.reply ≡ reply.NoEntry)) mine.follows.closing closing_falls once in
        no_abort (call_once (λ n. aborts n.step ≡ Some mine.t.id) mine.follows.closing f.call f.there f.holds.0)
    undone_not calls (closing.dropped once) =
        let f = found_at (λ m before. ((t : ℕ) × (m.step ≡ step.DropEntry t mine.t.id false)) × IsDropped m.answer.reply × HasAborted mine.t.id before) mine.follows.closing closing_falls once in
        abort_before f.past (λ m there. (f.older m there).0) f.holds.2

    lost_not : (place : ℕ) → Kept (λ m _. (m.answer.place ≡ place) × (commits m.step ≡ Some mine.t.id) × (m.answer.reply ≡ reply.NoEntry)) (λ m _. commits m.step ≡ Some mine.t.id) mine.follows.closing → ⊥
    lost_not place kept_so = by_last (last_at (λ m _. (m.answer.place ≡ place) × (commits m.step ≡ Some mine.t.id) × (m.answer.reply ≡ reply.NoEntry)) (λ m. commits m.step ≡ Some mine.t.id) mine.follows.closing closing_falls kept_so)
      where
        by_last : LastAt (λ m _. (m.answer.place ≡ place) × (commits m.step ≡ Some mine.t.id) × (m.answer.reply ≡ reply.NoEntry)) (λ m. commits m.step ≡ Some mine.t.id) mine.follows.closing → ⊥
        by_last last = go (order q member.place)
          where
            member : Member s0 h last.call (client_of a) (length h)
            member = in_at s0 h last.call (client_of a) (length h) (rest_in last.call last.there)

            place_is : last.call.answer.place ≡ member.place
            place_is = ap (λ (m : Made). m.answer.place) member.made

            as_commit : (t : ℕ) × (other : Lists) × (member.event.step ≡ step.Commit t a other)
            as_commit =
                let st = commits_is last.call.step mine.t.id last.holds.1 in
                (st.0, st.1, ap (λ (m : Made). m.step) (sym member.made) ∙ st.2 ∙ ap (λ b. step.Commit st.0 b st.1) mine.id_is)

            go : Order q member.place → ⊥
            go (first l) = closed_last s0 h lawful q member.place r as_commit.0 a lists as_commit.1 e member.event l takes (commit is) member.is (commit as_commit.2)
            go (equal s) =
                let same : e ≡ member.event = one_event h member.place e member.event (subst (λ n. slice_get h n ≡ Some e) s takes.event) member.is in
                let answer : (made_at s0 h q e).answer.reply ≡ reply.NoEntry =
                ap (λ n. (made_at s0 h n e).answer.reply) s ∙ ap (λ (x : Event). (made_at s0 h member.place x).answer.reply) same ∙ ap (λ (m : Made). m.answer.reply) (sym member.made) ∙ last.holds.2 in
                ⊎_elim (λ done. done_not _ (sym done ∙ answer)) (λ failed. failed_not (sym failed ∙ answer)) (effect_told s0 h q e takes)
              where
                done_not : (c : ℕ) → reply.Done c ≡ reply.NoEntry → ⊥
                done_not c same = cc

                failed_not : reply.Failed ≡ reply.NoEntry → ⊥
                failed_not same = cc
            go (later_one l) = last.none_later (made_at s0 h q e) closing_in (let p = place_is in omega arith) (ap commits is ∙ ap (λ b. Some b) (sym mine.id_is))

    pub not_committed : Uncommitted mine.attempt.end → ⊥
    not_committed un = go mine.attempt.end un mine.follows.ends
      where
        go : (end : AttemptEnd) → Uncommitted end → Ends mine.t (course_of mine.t mine.attempt mine.follows.cut mine.follows.closing) (during mine.attempt.span (own_of book (client_of a))) end → ⊥
        go attempt_end.Empty empty ends = subst (λ l. In (made_at s0 h q e) l) ends.1 closing_in
        go attempt_end.RolledBack rolled_back ends = undone_not _ ends.1
        go (attempt_end.EntryLost place) (lost p) ends = lost_not place ends.1
        go (attempt_end.Incomplete place) (incomplete p) ends =
            let f = found_at (λ m before. (m.answer.place ≡ place) × (m.answer.reply ≡ reply.Failed) × HasAborted mine.t.id (m ∷ before)) mine.follows.closing closing_falls ends.1 in
            abort_before (f.call ∷ f.past) (λ m there. ⊎_elim (λ (same : m ≡ f.call). subst (λ x. In x mine.follows.closing) (sym same) f.there) (λ (before : In m f.past). (f.older m before).0) there) f.holds.2
        go (attempt_end.Committed place complete) never ends = elim never [ ]
        go (attempt_end.Unknown c p) never ends = elim never [ ]
        go attempt_end.Stopped never ends = elim never [ ]

  -- the log of an attempt by its numbers is the one that its identifier finds
  module _ (client txn try_no : ℕ) (log : AttemptLog) (log_is : attempt_at book.clients client txn try_no ≡ Some log) where
    pub tx : (t : TxnLog) × (txn_at book.clients client txn ≡ Some t) × (numbered t.attempts try_no ≡ Some log)
    tx = found (txn_at book.clients client txn) (λ (y : TxnLog). numbered y.attempts try_no) log log_is

    c : (l : ClientLog) × (numbered book.clients client ≡ Some l) × (numbered l.txns txn ≡ Some tx.0)
    c = found (numbered book.clients client) (λ (y : ClientLog). numbered y.txns txn) tx.0 tx.1

    plan : (p : ClientPlan) × (numbered case.plans client ≡ Some p)
    plan =
        let low = numbered_within book.clients client c.0 c.1 in
        numbered_there case.plans client low.0 (let a = low.1 in let b = follow.clients.all in omega arith)

    pub in_txn : TxnOf case book legal follow client txn tx.0
    in_txn = txn_of_run case book legal follow client txn plan.0 tx.0 plan.1 tx.1

    pub in_try : TryOf case book legal follow client txn try_no in_txn.plan log
    in_try = try_of_run case book legal follow client txn try_no plan.0 log in_txn.plan plan.1 in_txn.plan_is log_is

    pub numbers : Decodes (attempt_number client txn try_no) client txn try_no
    numbers =
        let p = found (numbered case.plans client) (λ (y : ClientPlan). numbered y.txns txn) in_txn.plan in_txn.plan_is in
        decodes client txn try_no (small_txn case book legal follow p.0 client txn in_txn.plan p.1 p.2)
        (let few = in_txn.follows.few in let low = (numbered_within tx.0.attempts try_no log tx.2).1 in let tries = legal.limits.tries client txn in_txn.plan in_txn.plan_is in omega arith)

    pub id_is : log.id ≡ attempt_number client txn try_no
    id_is = in_try.follows.id

    pub same_log : (a : ℕ) → a ≡ log.id → (mine : AttemptOf case book legal follow a) → mine.attempt ≡ log
    same_log a a_is mine =
        some_same (sym mine.log_is ∙ ap (λ b. log_of book.clients b) (a_is ∙ id_is)
        ∙ ap (λ x. attempt_at book.clients x (txn_of (attempt_number client txn try_no)) (try_of (attempt_number client txn try_no))) numbers.client_is
        ∙ ap (λ x. attempt_at book.clients client x (try_of (attempt_number client txn try_no))) numbers.txn_is ∙ ap (λ x. attempt_at book.clients client txn x) numbers.try_is ∙ log_is)

    -- an attempt that ended so has no commit
    pub none_commits : (p : ℕ) → CommitsAt s0 h log.id p → Uncommitted log.end → ⊥
    none_commits p it un =
        let st = commits_is it.event.step log.id it.is in
        let mine = attempt_it case book legal follow lawful p st.0 log.id st.1 it.event it.takes st.2 in
        not_committed p st.0 log.id st.1 it.event it.takes st.2 (subst (λ (x : AttemptLog). Uncommitted x.end) (sym (same_log log.id refl mine)) un)

  retried_before : (x : TxnTerms) (l : List Made) (start at n : ℕ) (logs : List AttemptLog) (i : ℕ) (log : AttemptLog) → AttemptsFollow x l start at n logs → slice_get logs i ≡ Some log
      → suc i < length logs → IsRetried log
  retried_before x l start at n [] i log follows is low = absurd (omega arith)
  retried_before x l start at n (y ∷ []) zero log follows is low = absurd (omega arith)
  retried_before x l start at n (y ∷ z ∷ logs) zero log follows is low = subst (λ w. IsRetried w) (some_same is) follows.1.0
  retried_before x l start at n (y ∷ logs) (suc i) log follows is low = retried_before x l start y.span.to (suc n) logs i log follows.2 is (omega arith)

  retried_end : (log : AttemptLog) → IsRetried log → Uncommitted log.end
  retried_end log (transactions.after_answer end last) = subst (λ e. Uncommitted e) (sym end) rolled_back
  retried_end log (transactions.after_commits end not) = subst (λ e. Uncommitted e) (sym end) rolled_back
  retried_end log (transactions.after_loss place end) = subst (λ e. Uncommitted e) (sym end) (lost place)

  last_try : (P : AttemptLog → Type 0) (logs : List AttemptLog) → LastTry P logs → (log : AttemptLog) × (numbered logs (length logs) ≡ Some log) × P log
  last_try P [] last = absurd last
  last_try P (x ∷ []) last = (x, refl, last)
  last_try P (x ∷ y ∷ logs) last = last_try P (y ∷ logs) last

  -- two attempts of a transaction: the earlier was to be tried again, and the later begins after it
  pub one_then_other : (client txn j k : ℕ) (one other : AttemptLog) → attempt_at book.clients client txn j ≡ Some one → attempt_at book.clients client txn k ≡ Some other → j < k
      → IsRetried one × (one.span.to ≤ other.span.from)
  one_then_other client txn j k one other one_is other_is low =
      let t = tx client txn j one one_is in
      let u = tx client txn k other other_is in
      let same : u.0 ≡ t.0 = some_same (sym u.1 ∙ t.1) in
      let high = (numbered_within u.0.attempts k other u.2).1 in
      let i = from_one t.0.attempts j one t.2 in
      let m = from_one t.0.attempts k other (ap (λ (x : TxnLog). numbered x.attempts k) (sym same) ∙ u.2) in
      let w = i.1 in let v = m.1 in
      let txn_is = in_txn client txn j one one_is in (
        retried_before _ (own_of book client) txn_is.follows.start txn_is.at 1 t.0.attempts i.0 one txn_is.follows.attempts i.2 (let e = ap (λ (x : TxnLog). length x.attempts) same in omega arith),
        tries_apart _ (own_of book client) txn_is.follows.start txn_is.at 1 t.0.attempts i.0 m.0 one other txn_is.follows.attempts i.2 m.2 (omega arith),
      )

  -- an attempt with a later one after it has no commit
  earlier_none : (client txn j k p : ℕ) (one other : AttemptLog) → attempt_at book.clients client txn j ≡ Some one → attempt_at book.clients client txn k ≡ Some other → j < k → CommitsAt s0 h one.id p → ⊥
  earlier_none client txn j k p one other one_is other_is low it =
      none_commits client txn j one one_is p it (retried_end one (one_then_other client txn j k one other one_is other_is low).0)

  pub one_commits : (client txn j k p q : ℕ) → TxnCommitsAt book client txn j p → TxnCommitsAt book client txn k q → (j ≡ k) × (p ≡ q)
  one_commits client txn j k p q one two = go (order j k)
    where
      go : Order j k → (j ≡ k) × (p ≡ q)
      go (first l) = absurd (earlier_none client txn j k p one.log two.log one.log_is two.log_is l one.commits)
      go (later_one l) = absurd (earlier_none client txn k j q two.log one.log two.log_is one.log_is l two.commits)
      go (equal s) =
          let same : one.log ≡ two.log = some_same (sym one.log_is ∙ ap (λ n. attempt_at book.clients client txn n) s ∙ two.log_is) in
          (s, commits_once s0 h lawful two.log.id p q (subst (λ (x : AttemptLog). CommitsAt s0 h x.id p) same one.commits) two.commits)

  -- the last attempt of a transaction that ended so has no commit, and so none has
  last_uncommitted : (x : TxnTerms) (l : List Made) (latest : ℕ) (log : TxnLog) → EndsTxn x l latest log.attempts log.end → tells_none log.end ≡ true
      → (last : AttemptLog) × (numbered log.attempts (length log.attempts) ≡ Some last) × Uncommitted last.end
  last_uncommitted x l latest log ends tells = go log.end ends tells
    where
      by_end : (e : AttemptEnd) → Uncommitted e → LastTry (λ a. a.end ≡ e) log.attempts → (last : AttemptLog) × (numbered log.attempts (length log.attempts) ≡ Some last) × Uncommitted last.end
      by_end e un last = let it = last_try (λ a. a.end ≡ e) log.attempts last in (it.0, it.1, subst (λ y. Uncommitted y) (sym it.2) un)

      by_retry : LastTry IsRetried log.attempts → (last : AttemptLog) × (numbered log.attempts (length log.attempts) ≡ Some last) × Uncommitted last.end
      by_retry last = let it = last_try IsRetried log.attempts last in (it.0, it.1, retried_end it.0 it.2)

      by_part : (Q : AttemptLog → Type 0) → LastTry (λ a. (a.end ≡ attempt_end.RolledBack) × Q a) log.attempts → (last : AttemptLog) × (numbered log.attempts (length log.attempts) ≡ Some last) × Uncommitted last.end
      by_part Q last = let it = last_try (λ a. (a.end ≡ attempt_end.RolledBack) × Q a) log.attempts last in (it.0, it.1, subst (λ y. Uncommitted y) (sym it.2.0) rolled_back)

      expired : (now : ℕ) → IsExpiredAt x l latest log.attempts now → (last : AttemptLog) × (numbered log.attempts (length log.attempts) ≡ Some last) × Uncommitted last.end
      expired now (transactions.in_operation last) = by_part (λ a. CutAt l latest now a) last
      expired now (transactions.before_try has last late) = by_retry has.retried

      go : (e : TxnEnd) → EndsTxn x l latest log.attempts e → tells_none e ≡ true → (last : AttemptLog) × (numbered log.attempts (length log.attempts) ≡ Some last) × Uncommitted last.end
      go txn_end.Empty it so = by_end attempt_end.Empty empty it
      go txn_end.RolledBack it so = let y = last_try (λ a. (a.end ≡ attempt_end.RolledBack) × AnsweredWell x a × (x.plan.keep ≡ false)) log.attempts it in (y.0, y.1, subst (λ w. Uncommitted w) (sym y.2.0) rolled_back)
      go (txn_end.Failed reason) it so = by_part (λ a. LastIs (λ o. Refuses o.answer reason) a.ops) it
      go (txn_end.Expired now) it so = expired now it
      go txn_end.TriesSpent it so = by_retry it.0
      go (txn_end.CallFailed place) it so = by_end (attempt_end.Incomplete place) (incomplete place) it
      go (txn_end.Committed complete) it so = absurd (cc)
      go txn_end.Unknown it so = absurd (cc)
      go txn_end.Stopped it so = absurd (cc)

  pub none_of : (client txn j p : ℕ) (log : TxnLog) → txn_at book.clients client txn ≡ Some log → tells_none log.end ≡ true → TxnCommitsAt book client txn j p → ⊥
  none_of client txn j p log log_is tells it = go (order j (length log.attempts))
    where
      t : TxnOf case book legal follow client txn (tx client txn j it.log it.log_is).0
      t = in_txn client txn j it.log it.log_is

      same : (tx client txn j it.log it.log_is).0 ≡ log
      same = some_same (sym (tx client txn j it.log it.log_is).1 ∙ log_is)

      its : TxnFollows (record { client = client; number = txn; plan = t.plan; atrs = case.atrs }) (own_of book client) t.at log
      its = subst (λ x. TxnFollows (record { client = client; number = txn; plan = t.plan; atrs = case.atrs }) (own_of book client) t.at x) same t.follows

      last : (x : AttemptLog) × (numbered log.attempts (length log.attempts) ≡ Some x) × Uncommitted x.end
      last = last_uncommitted _ (own_of book client) (its.start + t.plan.expiry) log its.ends tells

      here : numbered log.attempts j ≡ Some it.log
      here = ap (λ (x : TxnLog). numbered x.attempts j) (sym same) ∙ (tx client txn j it.log it.log_is).2

      last_is : attempt_at book.clients client txn (length log.attempts) ≡ Some last.0
      last_is = ap (λ o. option_and_then (λ (y : TxnLog). numbered y.attempts (length log.attempts)) o) log_is ∙ last.1

      go : Order j (length log.attempts) → ⊥
      go (first l) = earlier_none client txn j (length log.attempts) p it.log last.0 it.log_is last_is l it.commits
      go (equal s) =
          let same_attempt : last.0 ≡ it.log = some_same (sym last.1 ∙ ap (λ n. numbered log.attempts n) (sym s) ∙ here) in
          none_commits client txn j it.log it.log_is p it.commits (subst (λ (x : AttemptLog). Uncommitted x.end) same_attempt last.2)
      go (later_one l) = let high = (numbered_within log.attempts j it.log here).1 in absurd (omega arith)

  -- the commit that a log tells of took effect at its place
  module _ (client : ℕ) (t : AttemptTerms) (at : ℕ) (log : AttemptLog) (follows : AttemptFollows t (own_of book client) at log) (place : ℕ) where
    abbrev closes : List Made
    closes = follows.closing

    closes_in : (m : Made) → In m closes → In m (own_of book client)
    closes_in m there = (during_in _ m (own_of book client) (subst (λ c. In m c) (sym follows.rest) (in_front m follows.closing follows.cut there))).there

    closes_fall : Descends closes
    closes_fall = front_falls follows.closing follows.cut (subst (λ l. Descends l) follows.rest (filter_descends _ (own_of book client) (own_descends s0 h client (length h))))

    by_done : Kept (λ m _. (m.answer.place ≡ place) × ((r c : ℕ) × (lists : Lists) × (m.step ≡ step.Commit r t.id lists) × (m.answer.reply ≡ reply.Done c))) (λ m _. commits m.step ≡ Some t.id) closes
        → CommitsAt s0 h t.id place
    by_done kept_so =
        let last = last_at (λ m _. (m.answer.place ≡ place) × ((r c : ℕ) × (lists : Lists) × (m.step ≡ step.Commit r t.id lists) × (m.answer.reply ≡ reply.Done c))) (λ m. commits m.step ≡ Some t.id) closes closes_fall kept_so in
        let member = in_at s0 h last.call client (length h) (closes_in last.call last.there) in
        let place_is : member.place ≡ place = sym (ap (λ (m : Made). m.answer.place) member.made) ∙ last.holds.0 in
        let takes = (done_told s0 h member.place member.event last.holds.1.1 member.is (ap (λ (m : Made). m.answer.reply) (sym member.made) ∙ last.holds.1.4)).0 in
        subst (λ n. CommitsAt s0 h t.id n) place_is (record { event = member.event; takes = takes; is = ap (λ (m : Made). commits m.step) (sym member.made) ∙ ap commits last.holds.1.3 })

    in_doubt_commit : (r : ℕ) (m : Made) → CommitsInDoubt r t.id m → (lists : Lists) × (m.step ≡ step.Commit r t.id lists)
    in_doubt_commit r m it = it.0

    by_reading : MayKeep t (course_of t log follows.cut follows.closing)
        → Kept (λ n before. (r : ℕ) × ((e : Entry) × ReadsEntry r t.id e n × (e.state ≡ Committed)) × Kept (λ m _. (m.answer.place ≡ place) × CommitsInDoubt r t.id m) (λ m _. Settles t.id m) before)
        (λ m _. commits m.step ≡ Some t.id) closes
        → CommitsAt s0 h t.id place
    by_reading keeps kept_so = go (last_at (λ n before. (r : ℕ) × ((e : Entry) × ReadsEntry r t.id e n × (e.state ≡ Committed)) × Kept (λ m _. (m.answer.place ≡ place) × CommitsInDoubt r t.id m) (λ m _. Settles t.id m) before)
        (λ m. commits m.step ≡ Some t.id) closes closes_fall kept_so)
      where
        go : LastAt (λ n before. (r : ℕ) × ((e : Entry) × ReadsEntry r t.id e n × (e.state ≡ Committed)) × Kept (λ m _. (m.answer.place ≡ place) × CommitsInDoubt r t.id m) (λ m _. Settles t.id m) before)
            (λ m. commits m.step ≡ Some t.id) closes → CommitsAt s0 h t.id place
        go outer = inner (last_at (λ m _. (m.answer.place ≡ place) × CommitsInDoubt outer.holds.0 t.id m) (λ m. Settles t.id m) outer.past outer.falls outer.holds.2)
          where
            r : ℕ
            r = outer.holds.0

            read : Member s0 h outer.call client (length h)
            read = in_at s0 h outer.call client (length h) (closes_in outer.call outer.there)

            entry : entry_then s0 h lawful read.place (outer.holds.0, t.id) ≡ Some outer.holds.1.0
            entry = entry_told s0 h read.place read.event outer.holds.0 t.id outer.holds.1.0 (ap (λ (m : Made). m.step) (sym read.made) ∙ outer.holds.1.1.0) (ap (λ (m : Made). m.answer.reply) (sym read.made) ∙ outer.holds.1.1.1)

            committed-pending : outer.holds.1.0.state ≢ Pending
            committed-pending = λ q. absurd (differ (sym outer.holds.1.2 ∙ q))
              where
                differ : Committed ≡ Pending → ⊥
                differ q = cc

            inner : LastAt (λ m _. (m.answer.place ≡ place) × CommitsInDoubt outer.holds.0 t.id m) (λ m. Settles t.id m) outer.past → CommitsAt s0 h t.id place
            inner last = by_settled (settled s0 h lawful read.place (outer.holds.0, t.id) outer.holds.1.0 entry committed-pending)
              where
                sent_in : In last.call closes
                sent_in = (outer.older last.call last.there).0

                member : Member s0 h last.call client (length h)
                member = in_at s0 h last.call client (length h) (closes_in last.call sent_in)

                place_is : member.place ≡ place
                place_is = sym (ap (λ (m : Made). m.answer.place) member.made) ∙ last.holds.0

                own_commit : Closing outer.holds.0 t.id last.holds.1.0.0 member.event.step
                own_commit = commit (ap (λ (m : Made). m.step) (sym member.made) ∙ last.holds.1.0.1)

                commit_step : (x : Entry) (f : Event) → Deciding outer.holds.0 t.id x.lists f.step x.state → x.state ≡ Committed → f.step ≡ step.Commit outer.holds.0 t.id x.lists
                commit_step x f (by_commit st state) committed = st
                commit_step x f (by_abort st state) committed = absurd (differ (sym state ∙ committed))
                  where
                    differ : Aborted ≡ Committed → ⊥
                    differ q = cc

                by_settled : Settled s0 h lawful (outer.holds.0, t.id) read.place outer.holds.1.0 → CommitsAt s0 h t.id place
                by_settled (in_opening y at_zero state same) = absurd (not_at_first s0 h lawful outer.holds.0 t.id member.event.actor member.place outer.holds.0 y (closer s0 h lawful member.place outer.holds.0 t.id last.holds.1.0.0 member.event member.is own_commit) at_zero)
                by_settled (by_decision q f old y low takes deciding old_at pending now state same) = by_order (order q member.place)
                  where
                    st : f.step ≡ step.Commit outer.holds.0 t.id outer.holds.1.0.lists
                    st = commit_step outer.holds.1.0 f deciding outer.holds.1.2

                    mine : f.actor ≡ client
                    mine =
                        sym (closer s0 h lawful q outer.holds.0 t.id outer.holds.1.0.lists f takes.event (commit st)).owner
                        ∙ (closer s0 h lawful member.place outer.holds.0 t.id last.holds.1.0.0 member.event member.is own_commit).owner ∙ member.by

                    by_order : Order q member.place → CommitsAt s0 h t.id place
                    by_order (first l) =
                        absurd (closed_last s0 h lawful q member.place outer.holds.0 outer.holds.0 t.id outer.holds.1.0.lists last.holds.1.0.0 f member.event l takes (commit st) member.is own_commit)
                    by_order (equal s) = subst (λ n. CommitsAt s0 h t.id n) (s ∙ place_is) (record { event = f; takes = takes; is = ap commits st })
                    by_order (later_one l) = absurd (last.none_later (made_at s0 h q f) (outer.covers (made_at s0 h q f) in_closes below) (let p = ap (λ (m : Made). m.answer.place) member.made in omega arith) (inl (ap commits st)))
                      where
                        below : q < outer.call.answer.place
                        below = let p = ap (λ (m : Made). m.answer.place) read.made in omega arith

                        bounds : Within (record { from = ops_end at log.ops; to = log.span.to }) last.call (own_of book client)
                        bounds = during_in (record { from = ops_end at log.ops; to = log.span.to }) last.call (own_of book client) (subst (λ c. In last.call c) (sym follows.rest) (in_front last.call follows.closing follows.cut sent_in))

                        bounds_read : Within (record { from = ops_end at log.ops; to = log.span.to }) outer.call (own_of book client)
                        bounds_read = during_in (record { from = ops_end at log.ops; to = log.span.to }) outer.call (own_of book client) (subst (λ c. In outer.call c) (sym follows.rest) (in_front outer.call follows.closing follows.cut outer.there))

                        in_closes : In (made_at s0 h q f) closes
                        in_closes =
                            ⊎_elim (λ (there : In (made_at s0 h q f) follows.closing). there) (λ (cut : In (made_at s0 h q f) follows.cut). absurd (no_cut follows.cut follows.cut_follows cut))
                            (in_either (made_at s0 h q f) follows.closing follows.cut (subst (λ c. In (made_at s0 h q f) c) follows.rest
                            (in_during (record { from = ops_end at log.ops; to = log.span.to }) (made_at s0 h q f) (own_of book client) (own_in s0 h client (length h) q f (slice_get_within h q f takes.event) takes.event mine)
                            (let p = ap (λ (m : Made). m.answer.place) member.made in let low1 = bounds.low in omega arith) (let high = bounds_read.high in let b = below in omega arith))))
                          where
                            nothing : {x : Op} {xs : List Op} → [] ≡ x ∷ xs → ⊥
                            nothing same = cc

                            no_cut : (cut : List Made) → CutFollows t (course_of t log follows.cut follows.closing) cut → In (made_at s0 h q f) cut → ⊥
                            no_cut [] none there = there
                            no_cut (x ∷ older) it there = nothing (sym keeps.all ∙ it.left_is)

    pub holds_at : MayKeep t (course_of t log follows.cut follows.closing) → CommitHolds t.id place closes → CommitsAt s0 h t.id place
    holds_at keeps (closing.told kept_so) = by_done kept_so
    holds_at keeps (closing.read kept_so) = by_reading keeps kept_so

  -- a transaction that ended Committed has its commit at the place that its last attempt tells
  pub committed_of : (client txn : ℕ) (log : TxnLog) (complete : Bool) → txn_at book.clients client txn ≡ Some log → log.end ≡ txn_end.Committed complete
      → (attempt : AttemptLog) × (place : ℕ) × (numbered log.attempts (length log.attempts) ≡ Some attempt) × (attempt.end ≡ attempt_end.Committed place complete)
      × TxnCommitsAt book client txn (length log.attempts) place
  committed_of client txn log complete log_is end =
      let cl = found (numbered book.clients client) (λ (y : ClientLog). numbered y.txns txn) log log_is in
      let low = numbered_within book.clients client cl.0 cl.1 in
      let p = numbered_there case.plans client low.0 (let a = low.1 in let b = follow.clients.all in omega arith) in
      let tx_of = txn_of_run case book legal follow client txn p.0 log p.1 log_is in
      let last = last_try (λ a. (place : ℕ) × (a.end ≡ attempt_end.Committed place complete)) log.attempts (subst (λ e. EndsTxn (record { client = client; number = txn; plan = tx_of.plan; atrs = case.atrs }) (own_of book client) (tx_of.follows.start + tx_of.plan.expiry) log.attempts e) end tx_of.follows.ends) in
      let attempt_is : attempt_at book.clients client txn (length log.attempts) ≡ Some last.0 = ap (λ o. option_and_then (λ (y : TxnLog). numbered y.attempts (length log.attempts)) o) log_is ∙ last.1 in
      let one = try_of_run case book legal follow client txn (length log.attempts) p.0 last.0 tx_of.plan p.1 tx_of.plan_is attempt_is in
      let t = attempt_terms (record { client = client; number = txn; plan = tx_of.plan; atrs = case.atrs }) one.start (length log.attempts) in
      let ends = subst (λ e. Ends t (course_of t last.0 one.follows.cut one.follows.closing) (during last.0.span (own_of book client)) e) last.2.1 one.follows.ends in
      let commits_there = holds_at client t one.at last.0 one.follows last.2.0 ends.0 ends.1 in
      (last.0, last.2.0, last.1, last.2.1, record { log = last.0; log_is = attempt_is; commits = subst (λ a. CommitsAt s0 h a last.2.0) (sym one.follows.id) commits_there })

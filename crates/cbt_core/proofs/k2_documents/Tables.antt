-- At every place documents resolve to the committed table of the logs' write sets.
use Rattle.std.proofs.Common.{◌≡◌, ◌≢◌, ℕ, zero, suc, Bool, true, false, not, List, ◌++◌, slice_get, Option, Some, None, refl, sym, ap, ◌∙◌, subst, arith, if◌then◌else◌}
use Rattle.std.proofs.lemmas.Bool.{and_from, and_parts}
use Rattle.std.proofs.lemmas.Option.{none-some}
use Rattle.std.specs.Option.{option_to_list}
use Rattle.cbt_json.specs.declared.value.Json.{Json}
use Rattle.cbt_model.specs.History.{after, commits, committed_by, commits_below, is_done, is_lost, row_at_event, takes_effect, TakesEffect}
use Rattle.cbt_model.specs.Table.{touches_doc}
use Rattle.cbt_model.specs.View.{resolved}
use Rattle.cbt_model.specs.declared.documents.DocState.{DocState}
use Rattle.cbt_model.specs.declared.documents.Stage.{Stage}
use Rattle.cbt_model.specs.declared.entries.EntryState.TheVariants.{Committed}
use Rattle.cbt_model.specs.declared.entries.Lists.{Lists}
use Rattle.cbt_model.specs.declared.events.Event.{Event}
use Rattle.cbt_model.specs.declared.events.Fate.{Fate}
use Rattle.cbt_model.specs.declared.events.Fate.TheVariants.{Plain, Lost, Late}
use Rattle.cbt_model.specs.declared.states.State.{State}
use Rattle.cbt_model.specs.declared.steps.Step.{Step}
use Rattle.cbt_model.specs.declared.steps.Step.TheVariants as step
use Rattle.cbt_model.proofs.Effects.{doc-at_effect}
use Rattle.cbt_model.proofs.Moves.{DocMove}
use Rattle.cbt_model.proofs.Moves as moves
use Rattle.cbt_base.specs.Clock.{clock_mutated}
use Rattle.cbt_model.specs.Keys.{doc_at}
use Rattle.cbt_book.specs.declared.book.Book.{Book}
use Rattle.cbt_core.specs.Committed.{applied, table_after, table_at}
use Rattle.cbt_core.specs.Runs.{IsLegalRun, LogsFollow}
use Rattle.cbt_core.specs.WriteSets.{write_set}
use Rattle.cbt_core.specs.declared.case.Case.{Case}
use Rattle.cbt_core.proofs.logs.Commits.{Wrote, wrote, wrote_not, wrote_as}
use Rattle.cbt_book.specs.Shown.{adds}
use Rattle.cbt_core.proofs.interleaving.Decisions.{commits_is, commit, closer, Closed, closed_at}
use Rattle.cbt_core.proofs.interleaving.Documents.{doc_then, StagedBy, by_staging, from_first, staged_by}
use Rattle.cbt_core.proofs.interleaving.Entries.{Deciding, by_commit, by_abort, one_record, entry_then}
use Rattle.cbt_core.proofs.runs.Lawful.{Lawful}
use Rattle.cbt_core.proofs.runs.Past.{one_event}
use Rattle.cbt_core.proofs.interleaving.Worth.{stager}
use Rattle.cbt_core.proofs.k2_documents.Views.{ViewGoes, keeps, commits_it, view_goes, view_then, view_held, as_content}

not_lost_true : (f : Fate) → f ≢ Lost → not (is_lost f) ≡ true
not_lost_true Plain apart = refl
not_lost_true Lost apart = absurd (apart refl)
not_lost_true Late apart = refl

true_not_lost : (f : Fate) → not (is_lost f) ≡ true → f ≢ Lost
true_not_lost Plain is = λ q. cc
true_not_lost Lost is = absurd (cc)
true_not_lost Late is = λ q. cc

module _ (s0 : State) (h : List Event) where
  -- an effective commit counts among the commits
  pub counted : (i a : ℕ) (e : Event) → TakesEffect s0 h i e → commits e.step ≡ Some a → committed_by (after s0 h i) (slice_get h i) ≡ Some a
  counted i a e takes is =
      ap (λ o. committed_by (after s0 h i) o) takes.event
      ∙ ap (λ b. if b then commits e.step else None) (and_from (not (is_lost e.fate)) (is_done (row_at_event (after s0 h i) e).reply) (not_lost_true e.fate takes.not_lost) takes.done)
      ∙ is

  -- and what counts is one
  pub counts : (i a : ℕ) → committed_by (after s0 h i) (slice_get h i) ≡ Some a → (e : Event) × TakesEffect s0 h i e × (commits e.step ≡ Some a)
  counts i a is = go (slice_get h i) refl is
    where
      by_test : (e : Event) (b : Bool) → slice_get h i ≡ Some e → takes_effect (after s0 h i) e ≡ b → (if b then commits e.step else None) ≡ Some a → (e : Event) × TakesEffect s0 h i e × (commits e.step ≡ Some a)
      by_test e true at test commit_is =
          let parts = and_parts (not (is_lost e.fate)) (is_done (row_at_event (after s0 h i) e).reply) test in
          (e, record { event = at; not_lost = true_not_lost e.fate parts.0; done = parts.1 }, commit_is)
      by_test e false at test commit_is = absurd (none-some a commit_is)

      go : (o : Option Event) → slice_get h i ≡ o → committed_by (after s0 h i) o ≡ Some a → (e : Event) × TakesEffect s0 h i e × (commits e.step ≡ Some a)
      go None at commit_is = absurd (none-some a commit_is)
      go (Some e) at commit_is = by_test e (takes_effect (after s0 h i) e) at refl commit_is

module _ (s0 : State) (h : List Event) (lawful : Lawful s0 h) where
  -- a commit leaves each document as it was
  pub docs_stay : (i r a : ℕ) (lists : Lists) (d : List ℕ) (e : Event) → TakesEffect s0 h i e → e.step ≡ step.Commit r a lists → doc_then s0 h lawful (suc i) d ≡ doc_then s0 h lawful i d
  docs_stay i r a lists d e takes is = go (doc-at_effect s0 h i e d takes)
    where
      touched : (st : Step) → e.step ≡ st → touches_doc st ≡ Some d → ⊥
      touched st same names = none-some d (ap touches_doc (sym is ∙ same) ∙ names)

      go : DocMove (after s0 h i) (clock_mutated (after s0 h i).last e.reading) e.step d (doc_at (after s0 h (suc i)) d) → doc_then s0 h lawful (suc i) d ≡ doc_then s0 h lawful i d
      go (moves.same apart same) = same
      go (moves.staged_new stage st at now) = absurd (touched _ st refl)
      go (moves.staged_over y stage old st at cas now) = absurd (touched _ st refl)
      go (moves.published y body old st at cas now) = absurd (touched _ st refl)
      go (moves.deleted y old st at cas now) = absurd (touched _ st refl)
      go (moves.unstuck y old st at cas now) = absurd (touched _ st refl)

module _ (case : Case) (book : Book) (legal : IsLegalRun case book) (follow : LogsFollow case book) (lawful : Lawful book.kept.opening book.kept.history) where
  abbrev s0 : State
  s0 = book.kept.opening

  abbrev h : List Event
  h = book.kept.history

  abbrev writes : ℕ → List ℕ → Option (Option Json)
  writes = write_set case.plans book.clients

  -- after a commit what its attempt staged counts
  staged_counts : (i r a : ℕ) (lists : Lists) (d : List ℕ) (e : Event) (doc : DocState) (stage : Stage) → TakesEffect s0 h i e → e.step ≡ step.Commit r a lists → doc_then s0 h lawful i d ≡ Some doc
      → doc.stage ≡ Some stage → stage.attempt ≡ a → r ≡ stage.atr → view_then s0 h lawful (suc i) d ≡ stage.content
  staged_counts i r a lists d e doc stage takes is at staged own_one same =
      view_held (after s0 h (suc i)) d doc stage (docs_stay s0 h lawful i r a lists d e takes is ∙ at) staged
      ∙ ap (λ o. resolved doc.body stage.content o) entry_is ∙ as_content doc.body stage.content closed.entry committed
    where
      closed : Closed s0 h lawful i r a lists e.step
      closed = closed_at s0 h lawful i r a lists e takes (commit is)

      entry_is : entry_then s0 h lawful (suc i) (stage.atr, stage.attempt) ≡ Some closed.entry
      entry_is = ap (λ (k : ℕ × ℕ). entry_then s0 h lawful (suc i) k) (ap (λ x. (x, stage.attempt)) (sym same) ∙ ap (λ x. (r, x)) own_one) ∙ closed.now

      committed : closed.entry.state ≡ Committed
      committed = go closed.deciding
        where
          go : Deciding r a lists e.step closed.entry.state → closed.entry.state ≡ Committed
          go (by_commit st state) = state
          go (by_abort st state) = absurd (differ (sym is ∙ st))
            where
              differ : step.Commit r a lists ≡ step.Abort r a lists → ⊥
              differ x = apart r a lists x
                where
                  apart : (r a : ℕ) (l : Lists) → step.Commit r a l ≡ step.Abort r a l → ⊥
                  apart r a l x = cc

  -- the record that a committed attempt's staging names
  record_named : (i r a : ℕ) (lists : Lists) (d : List ℕ) (e : Event) (doc : DocState) (stage : Stage) → TakesEffect s0 h i e → e.step ≡ step.Commit r a lists → doc_then s0 h lawful i d ≡ Some doc
      → doc.stage ≡ Some stage → stage.attempt ≡ a → r ≡ stage.atr
  record_named i r a lists d e doc stage takes is at staged own_one = go (staged_by s0 h lawful i d doc stage at staged)
    where
      go : StagedBy s0 h lawful d i doc stage → r ≡ stage.atr
      go (by_staging j g ex low takes2 st cas since) =
          let sent = stager s0 h lawful j d g ex stage takes2.event st in
          let closed = closed_at s0 h lawful i r a lists e takes (commit is) in
          one_record s0 h lawful (suc i) (suc sent.place) r stage.atr a closed.entry sent.entry closed.now (subst (λ b. entry_then s0 h lawful (suc sent.place) (stage.atr, b) ≡ Some sent.entry) own_one sent.now)
      go (from_first since) =
          let sent = closer s0 h lawful i r a lists e takes.event (commit is) in
          absurd (lawful.fresh.no_staging sent.place a sent.event d doc stage sent.at (ap adds sent.is) (since 0 (omega arith)) staged own_one)

  table_next : (i : ℕ) (d : List ℕ) (o : Option ℕ) → committed_by (after s0 h i) (slice_get h i) ≡ o → table_at writes s0 h (suc i) d ≡ table_after writes s0 (option_to_list o ++ commits_below s0 h i) d
  table_next i d o is = ap (λ x. table_after writes s0 (option_to_list x ++ commits_below s0 h i) d) is

  quiet_view : (i : ℕ) (d : List ℕ) → ((e : Event) (lists : Lists) (doc : DocState) (stage : Stage) → TakesEffect s0 h i e → e.step ≡ step.Commit stage.atr stage.attempt lists
      → doc_then s0 h lawful i d ≡ Some doc → doc.stage ≡ Some stage → ⊥) → view_then s0 h lawful (suc i) d ≡ view_then s0 h lawful i d
  quiet_view i d never = go (view_goes s0 h lawful i d)
    where
      go : ViewGoes s0 h lawful d i → view_then s0 h lawful (suc i) d ≡ view_then s0 h lawful i d
      go (keeps same) = same
      go (commits_it e lists doc stage takes is at staged now) = absurd (never e lists doc stage takes is at staged)

  commit_of : (r t a b : ℕ) (l m : Lists) → step.Commit r a l ≡ step.Commit t b m → a ≡ b
  commit_of r t a b l m same = cc

  documents_next : (i : ℕ) (d : List ℕ) → view_then s0 h lawful i d ≡ table_at writes s0 h i d → view_then s0 h lawful (suc i) d ≡ table_at writes s0 h (suc i) d
  documents_next i d ih = go (committed_by (after s0 h i) (slice_get h i)) refl
    where
      committed : (a : ℕ) → committed_by (after s0 h i) (slice_get h i) ≡ Some a → (e : Event) (r : ℕ) (lists : Lists) (takes : TakesEffect s0 h i e) (is : e.step ≡ step.Commit r a lists)
          → Wrote case book legal follow lawful i r a lists e takes is d → view_then s0 h lawful (suc i) d ≡ table_at writes s0 h (suc i) d
      committed a counts_it e r lists takes is (wrote doc stage at staged own_one set) =
          staged_counts i r a lists d e doc stage takes is at staged own_one (record_named i r a lists d e doc stage takes is at staged own_one)
          ∙ sym (table_next i d (Some a) counts_it ∙ ap (λ o. applied o (table_after writes s0 (commits_below s0 h i) d)) set)
      committed a counts_it e r lists takes is (wrote_not never set) =
          quiet_view i d (λ e2 lists2 doc stage takes2 is2 at staged.
          let same : e2 ≡ e = one_event h i e2 e takes2.event takes.event in
          never doc stage at staged (commit_of stage.atr r stage.attempt a lists2 lists (sym is2 ∙ ap (λ (x : Event). x.step) same ∙ is)))
          ∙ ih ∙ sym (table_next i d (Some a) counts_it ∙ ap (λ o. applied o (table_after writes s0 (commits_below s0 h i) d)) set)

      go : (o : Option ℕ) → committed_by (after s0 h i) (slice_get h i) ≡ o → view_then s0 h lawful (suc i) d ≡ table_at writes s0 h (suc i) d
      go None none =
          quiet_view i d (λ e lists doc stage takes is at staged. none-some stage.attempt (sym none ∙ counted s0 h i stage.attempt e takes (ap commits is))) ∙ ih ∙ sym (table_next i d None none)
      go (Some a) counts_it =
          let it = counts s0 h i a counts_it in
          let c = commits_is it.0.step a it.2 in
          committed a counts_it it.0 c.0 c.1 it.1 c.2 (wrote_as case book legal follow lawful i c.0 a c.1 it.0 it.1 c.2 d)

  pub documents : (i : ℕ) (d : List ℕ) → view_then s0 h lawful i d ≡ table_at writes s0 h i d
  documents zero d = refl
  documents (suc i) d = documents_next i d (documents i d)

-- Each call of a commit is one that may close its attempt.
use Rattle.std.proofs.Common.{◌≡◌, ℕ, ◌+◌, ◌<◌, List, slice_get, Option, Some, None, refl, ap, sym, subst, arith}
use Rattle.std.proofs.lemmas.Option.{none-some}
use Rattle.cbt_json.specs.declared.value.Json.{Json}
use Rattle.cbt_model.specs.History.{commits}
use Rattle.cbt_model.specs.declared.entries.Lists.{Lists}
use Rattle.cbt_model.specs.declared.events.Made.{Made}
use Rattle.cbt_model.specs.declared.steps.Step.{Step}
use Rattle.cbt_model.specs.declared.steps.Step.TheVariants as step
use Rattle.cbt_book.specs.Closing.{CommitLists, MayClose, resolves}
use Rattle.cbt_book.specs.Licence.{IsListed}
use Rattle.cbt_book.specs.OwnLists.{Once, Each}
use Rattle.cbt_book.specs.Shown.{decides}
use Rattle.cbt_commit.specs.Phases.{Task, unstage_with, going_step, step_for}
use Rattle.cbt_commit.specs.Standing.{IsListedOnce, Runs, begun, goes_on}
use Rattle.cbt_commit.specs.Written.{Written}
use Rattle.cbt_commit.specs.declared.phases.Phase.{Phase}
use Rattle.cbt_commit.specs.declared.phases.Phase.TheVariants.{Sending, Reading, Going, Ended}
use Rattle.cbt_commit.proofs.Knowing.{Waits, Publishes, Knows, undoubted, knows}
use Rattle.cbt_commit.proofs.Moving.{some_same}
use Rattle.cbt_commit.proofs.OwnCalls.{kept_weaker, kept_once, sends}

module _ (t : Task) (mine : List Made) where
  may_send : (left : ℕ) → Waits t left mine → sends mine < 3
  may_send left waits = subst (λ n. n < 3) (sym waits.tried.count) (below waits.sent left waits.sum)
    where
      below : (n left : ℕ) → n + left ≡ 2 → n < 3
      below n left sum = omega arith

  -- a document whose turn it is was not published
  may_resolve : (commit at : ℕ) (w : List ℕ × Written) → IsListedOnce t → slice_get t.works at ≡ Some w → Publishes t commit at mine
      → CommitLists t.attempt w.0 mine × (¬ Once (λ m _. resolves m.step ≡ Some w.0) mine)
  may_resolve commit at w listed here was = (
    kept_weaker (λ m _. m.step ≡ step.Commit t.atr t.attempt t.lists)
        (λ m _. (r : ℕ) × (lists : Lists) × (m.step ≡ step.Commit r t.attempt lists) × IsListed w.0 lists)
        (λ m _. commits m.step ≡ Some t.attempt) (λ m _. commits m.step ≡ Some t.attempt) mine
        (λ m past is. (t.atr, t.lists, is, listed.listed at w here)) (λ m past it. it) was.lists,
    λ once. let it = was.resolved w.0 once in later it.0 it.2 (listed.apart it.0 at it.1 w it.3 here it.4),
  )
    where
      later : (j : ℕ) → j < at → j ≡ at → ⊥
      later j before same = omega arith

  by_content : (d : List ℕ) (x : ℕ) (content : Option Json) → CommitLists t.attempt d mine × (¬ Once (λ m _. resolves m.step ≡ Some d) mine)
      → MayClose t.attempt mine (unstage_with d x content)
  by_content d x None may = may
  by_content d x (Some body) may = may

  going_closes : (commit at : ℕ) (o : Option (List ℕ × Written)) → slice_get t.works at ≡ o → IsListedOnce t → Publishes t commit at mine
      → MayClose t.attempt mine (going_step t o)
  going_closes commit at None past listed was = (
    refl,
    kept_once (λ m _. m.step ≡ step.Commit t.atr t.attempt t.lists) (λ m _. decides m.step ≡ Some t.attempt) (λ m _. commits m.step ≡ Some t.attempt) mine
        (λ m past is. ap decides is) was.lists,
    was.undropped,
  )
  going_closes commit at (Some w) here listed was = by_content w.0 w.1.cas w.1.content (may_resolve commit at w listed here was)

  closes : (p : Phase) (s : Step) → IsListedOnce t → Knows t p mine → step_for t p ≡ Some s → MayClose t.attempt mine s
  closes (Sending left) s listed waits asked = subst (λ u. MayClose t.attempt mine u) (some_same asked) (refl, may_send left waits)
  closes (Reading left commit) s listed was asked =
      subst (λ u. MayClose t.attempt mine u) (some_same asked) (refl, undoubted t mine commit was.doubt)
  closes (Going commit at) s listed was asked =
      subst (λ u. MayClose t.attempt mine u) (some_same asked) (going_closes commit at (slice_get t.works at) refl listed was)
  closes (Ended end) s listed ended asked = absurd (none-some s asked)

pub all_close : (t : Task) (p : Phase) (mine : List Made) → IsListedOnce t → Runs t p mine → Each (λ m past. MayClose t.attempt past m.step) mine
all_close t _ _ listed begun = record {}
all_close t _ _ listed (goes_on p mine m run asked fit) = (closes t mine p m.step listed (knows t p mine run) asked, all_close t p mine listed run)

-- An attempt that has noted nothing, on a list of which no call names it.
use Rattle.std.proofs.Common.{◌≡◌, ℕ, List, [], None, refl, sym, subst}
use Rattle.std.proofs.lemmas.Option.{none-some}
use Rattle.cbt_model.specs.declared.events.Made.{Made}
use Rattle.cbt_book.specs.Numbers.{Identity}
use Rattle.cbt_attempt.specs.declared.attempt.Attempt.{Attempt}
use Rattle.cbt_core.specs.Walk.{AttemptTerms}
use Rattle.cbt_txn.specs.Closings.{IsNewTo}
use Rattle.cbt_txn.specs.Following.{IsNew, IsUnder}
use Rattle.cbt_txn.specs.Licensing.{GoesWell, Owns}

abbrev pub fresh : ℕ → ℕ → ℕ → Attempt
fresh id atrs exp = record { id = id; atrs = atrs; exp = exp; sent = None; writes = []; seen = [] }

module _ (a : Attempt) (id atrs exp : ℕ) (is : a ≡ fresh id atrs exp) where
  pub is_under : (t : AttemptTerms) → t.id ≡ id → t.atrs ≡ atrs → t.plan.hold ≡ exp → IsUnder t a
  is_under t id_is atrs_is hold_is = subst (λ k. IsUnder t k) (sym is) (record { id_is = sym id_is; atrs_is = sym atrs_is; hold_is = sym hold_is })

  pub is_new : IsNew a
  is_new = subst IsNew (sym is) (record { unwritten = refl; unread = refl })

  pub owns_fresh : (who : Identity) (l : List Made) → IsNewTo who id l → Owns who a l
  owns_fresh who l new = subst (λ k. Owns who k l) (sym is) (record {
    own = new.own;
    undecided = new.undecided;
    unsent = λ none. new.unsent;
    unstaged = λ none. new.unstaged;
    unwritten = λ d none. refl;
    written_once = tt;
    read_once = tt;
    sent = λ r some. absurd (none-some r some);
    writes = λ r some. absurd (none-some r some);
    read = λ d it some. absurd (none-some it some);
  })

  pub well_fresh : (l : List Made) → GoesWell a l
  well_fresh l = subst (λ k. GoesWell k l) (sym is) (record { added = λ r some. absurd (none-some r some); notes = λ r some. absurd (none-some r some) })

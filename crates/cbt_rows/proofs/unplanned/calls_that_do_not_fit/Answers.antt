use Rattle.std.proofs.Common.{◌≡◌, ℕ, ◌+◌, ◌≤◌, List, ◌++◌, length, length-append, refl, ap, ◌∙◌, arith}
use Rattle.cbt_model.specs.declared.events.Made.{Made}
use Rattle.cbt_model.specs.declared.documents.OpKind.TheVariants.{Replace}
use Rattle.cbt_core.specs.OpCalls.{ReadsAnew, unread, unserved}
use Rattle.cbt_rows.specs.Changes.{one_entry, after_get, read_though_served}
use Rattle.cbt_rows.specs.Words.{doc_a}
use Rattle.cbt_rows.proofs.Never.{differ, no_bool, filled}
use Rattle.cbt_rows.proofs.unplanned.calls_that_do_not_fit.Goals as goal

too_few : (asked older : List Made) → one_entry ≡ asked ++ older → length asked ≡ 4 → ⊥
too_few asked older calls four = go (length asked) (length older) (ap length calls ∙ length-append asked older) four
  where
    go : (m k : ℕ) → 2 ≡ m + k → m ≡ 4 → ⊥
    go m k e f = omega arith

above : 2 ≤ 1 → ⊥
above h = omega arith

served : ReadsAnew after_get doc_a Replace read_though_served → ⊥
served (unread none) = differ 1 0 refl none
served (unserved own none) = no_bool none

pub returns : goal.returns
returns c = record {
  blocked = λ it. too_few it.asks.asked it.older it.asks.calls_are it.asks.four;
  padded = λ it. above it.readings;
  another_record = λ it. differ 3 12 refl it.1;
  served = λ it. served it.1;
  no_value = λ it. filled it;
}

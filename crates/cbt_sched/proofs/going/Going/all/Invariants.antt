use Rattle.std.proofs.Common.{◌≡◌, ℕ, ◌+◌, Some, slice_get, length}
use Rattle.cbt_sched.proofs.going.Going.all.Given as goal

abbrev pub invariant-loop-at : goal.invariant-loop-at
invariant-loop-at l = record {
  so_far : length l.next ≡ l.at;
  each : (i x : ℕ) → slice_get l.next i ≡ Some x → x ≡ i + 1;
}

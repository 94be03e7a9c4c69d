use Rattle.std.proofs.Common.{◌≡◌, ℕ, Bool, List, [], ◌∷◌, None, Result, Ok}
use Rattle.cbt_rows.proofs.Never.{no_bool}
use Rattle.cbt_rows.proofs.WrittenValues.{one_is_two-false}
use Rattle.cbt_rows.proofs.unplanned.needs_that_do_otherwise.Goals as goal

one-truth : {a b : Bool} {truth : Result Bool ℕ} → truth ≡ Ok a → truth ≡ Ok b → a ≡ b
one-truth p q = cc

some-call : {A : Type 0} {x : A} {l : List A} → x ∷ l ≡ [] → ⊥
some-call e = cc

pub returns : goal.returns
returns c = record {
  holds = λ it. no_bool (one-truth it.answered (one_is_two-false (λ name. None)));
  calls = λ it. some-call it.calls;
}

-- What is so where a call was answered Ok, or where it was refused.
use Rattle.std.proofs.Common.{Result, Ok, Err, OnOk, OnErr}

module _ {X E : Type 0} where
  pub ok_of : (r : Result X E) (A B : Type 0) → (A → B) → OnOk r A → OnOk r B
  ok_of (Ok value) A B gives a = gives a
  ok_of (Err fault) A B gives a = tt

  pub ok_of_two : (r : Result X E) (A B C : Type 0) → (A → B → C) → OnOk r A → OnOk r B → OnOk r C
  ok_of_two (Ok value) A B C gives a b = gives a b
  ok_of_two (Err fault) A B C gives a b = tt

  pub ok_of_three : (r : Result X E) (A B C D : Type 0) → (A → B → C → D) → OnOk r A → OnOk r B → OnOk r C → OnOk r D
  ok_of_three (Ok value) A B C D gives a b c = gives a b c
  ok_of_three (Err fault) A B C D gives a b c = tt

  pub err_of : (r : Result X E) (A B : Type 0) → (A → B) → OnErr r A → OnErr r B
  err_of (Ok value) A B gives a = tt
  err_of (Err fault) A B gives a = gives a

  pub err_of_two : (r : Result X E) (A B C : Type 0) → (A → B → C) → OnErr r A → OnErr r B → OnErr r C
  err_of_two (Ok value) A B C gives a b = tt
  err_of_two (Err fault) A B C gives a b = gives a b

  pub err_always : (r : Result X E) (P : Type 0) → P → OnErr r P
  err_always (Ok value) P it = tt
  err_always (Err fault) P it = it

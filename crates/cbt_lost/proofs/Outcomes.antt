-- What is so where a call was answered Ok, or where it was refused; and of what there is or is not.
use Rattle.std.proofs.Common.{◌≡◌, is_ok, is_some, true, false, refl, Option, Some, None, Result, Ok, Err, OnOk, OnErr}

module _ {X E : Type 0} where
  pub ok_of : (r : Result X E) (A B : Type 0) → (A → B) → OnOk r A → OnOk r B
  ok_of (Ok value) A B gives a = gives a
  ok_of (Err fault) A B gives a = tt

  pub err_of : (r : Result X E) (A B : Type 0) → (A → B) → OnErr r A → OnErr r B
  err_of (Ok value) A B gives a = tt
  err_of (Err fault) A B gives a = gives a

  pub err_always : (r : Result X E) (P : Type 0) → P → OnErr r P
  err_always (Ok value) P it = tt
  err_always (Err fault) P it = it

  -- memory was found
  pub ok_so : {P : Type 0} (r : Result X E) → is_ok r ≡ true → OnOk r P → P
  ok_so (Ok value) found it = it
  ok_so (Err fault) found it = cc

  -- whether it was or not
  pub either_way : {A B C : Type 0} (r : Result X E) → (A → C) → (B → C) → OnOk r A → OnErr r B → C
  either_way (Ok value) f g a b = f a
  either_way (Err fault) f g a b = g b

module _ {X : Type 0} where
  pub is_none : (o : Option X) → is_some o ≡ false → o ≡ None
  is_none None is = refl
  is_none (Some x) is = cc

  pub is_there : (o : Option X) → is_some o ≡ true → (x : X) × (o ≡ Some x)
  is_there None is = cc
  is_there (Some x) is = (x, refl)

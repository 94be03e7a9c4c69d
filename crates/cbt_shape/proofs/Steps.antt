-- What it says of the parts that a reading has a value.
use Rattle.std.proofs.Common.{◌≡◌, ℕ, Bool, true, false, Option, Some, None, Result, Ok, Err, refl, ap, ◌∙◌}
use Rattle.cbt_json.specs.declared.tree.Tree.{Tree}
use Rattle.cbt_shape.specs.declared.fault.ShapeFault.{ShapeFault}
use Rattle.cbt_shape.specs.declared.fields.Field.{Field}
use Rattle.cbt_shape.specs.declared.fields.Field.TheVariants.{Missing, OtherForm, Good}
use Rattle.cbt_shape.specs.Fields.{judged, field, wanted, absent}
use Rattle.cbt_shape.specs.Readings.{◌>>=◌, require}

pub bound : {A B : Type 0} (r : Result A ShapeFault) (next : A → Result B ShapeFault) (y : B) → r >>= next ≡ Ok y → (x : A) × (r ≡ Ok x) × (next x ≡ Ok y)
bound (Ok x) next y is = (x, refl, is)
bound (Err fault) next y is = absurd (cc)

pub required : (t : Bool) (u : Unit {0}) → require t ≡ Ok u → t ≡ true
required true u is = refl
required false u is = absurd (cc)

pub onward : {A B : Type 0} {r : Result A ShapeFault} {x : A} (next : A → Result B ShapeFault) → r ≡ Ok x → r >>= next ≡ next x
onward next is = ap (λ r. r >>= next) is

module _ {A : Type 0} (form : Tree → Option A) where
  of_form : (o : Option A) (x : A) → judged o ≡ Good x → o ≡ Some x
  of_form (Some y) x is = cc
  of_form None x is = absurd (cc)

  -- a field that was wanted is there, in its form
  good_by : (at : ℕ) (f : Field A) (x : A) → wanted at f ≡ Ok x → f ≡ Good x
  good_by at (Good y) x is = cc
  good_by at Missing x is = absurd (cc)
  good_by at OtherForm x is = absurd (cc)

  there_by : (o : Option Tree) (x : A) → field form o ≡ Good x → (t : Tree) × (o ≡ Some t) × (form t ≡ Some x)
  there_by (Some t) x is = (t, refl, of_form (form t) x is)
  there_by None x is = absurd (cc)

  pub there : (at : ℕ) (o : Option Tree) (x : A) → wanted at (field form o) ≡ Ok x → (t : Tree) × (o ≡ Some t) × (form t ≡ Some x)
  there at o x is = there_by o x (good_by at (field form o) x is)

  -- a field in its form is read
  pub given : (at : ℕ) (t : Tree) (x : A) → form t ≡ Some x → wanted at (field form (Some t)) ≡ Ok x
  given at t x is = ap (λ o. wanted at (judged o)) is

pub then_ok : {A B : Type 0} (r : Result A ShapeFault) (next : A → Result B ShapeFault) (x : A) (y : B) → r ≡ Ok x → next x ≡ Ok y → r >>= next ≡ Ok y
then_ok r next x y is rest = onward next is ∙ rest

-- a field that should not be there is not
pub not_there : (at : ℕ) (o : Option Tree) (u : Unit {0}) → absent at o ≡ Ok u → o ≡ None
not_there at (Some t) u is = absurd (cc)
not_there at None u is = refl

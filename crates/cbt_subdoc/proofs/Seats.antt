-- The place of a name among the members of an object.
use Rattle.std.proofs.Common.{◌≡◌, ℕ, suc, ◌+◌, ◌<◌, ◌≤◌, List, [], ◌∷◌, length, get_or, Option, Some, None, Result, Ok, Err, refl, sym, ap, subst, arith}
use Rattle.std.specs.Prelude.{slice_set, insert, remove}
use Rattle.std.specs.declared.cmp.Ordering.{Ordering}
use Rattle.std.specs.declared.cmp.Ordering.TheVariants.{Less, Equal, Greater}
use Rattle.std.specs.Ordering.{match_ordering}
use Rattle.cbt_json.specs.declared.tree.Tree.{Tree}
use Rattle.cbt_subdoc.specs.Members.{Members, name_cmp, member, with_member, without_member, further_on, seat}

-- a place that was found behind so many members
abbrev pub from_place : ℕ → Result ℕ ℕ → Result ℕ ℕ
from_place n (Ok at) = Ok (n + at)
from_place n (Err at) = Err (n + at)

-- what stands at the place of a name: its value, and the members with another value or none
pub record IsSeat (ms : Members) (at : ℕ) (value : Option Tree) (changed : Tree → Members) (left : Members) : Type 0 where
  pub within : at < length ms
  pub found : (d : List ℕ × Tree) → value ≡ Some (get_or ms at d).1
  pub sets : (d : List ℕ × Tree) (v : Tree) → changed v ≡ slice_set ms at ((get_or ms at d).0, v)
  pub removes : left ≡ remove ms at

-- the place at which a name would stand
pub record IsGap (name : List ℕ) (ms : Members) (at : ℕ) (value : Option Tree) (changed : Tree → Members) (left : Members) : Type 0 where
  pub within : at ≤ length ms
  pub none : value ≡ None
  pub inserts : (v : Tree) → changed v ≡ insert ms at (name, v)
  pub same : left ≡ ms

-- the place behind the first member
ok_behind : (r : Result ℕ ℕ) (at : ℕ) → further_on r ≡ Ok at → (k : ℕ) × (r ≡ Ok k) × (at ≡ suc k)
ok_behind (Ok k) at e = (k, refl, cc)
ok_behind (Err k) at e = absurd (cc)

err_behind : (r : Result ℕ ℕ) (at : ℕ) → further_on r ≡ Err at → (k : ℕ) × (r ≡ Err k) × (at ≡ suc k)
err_behind (Ok k) at e = absurd (cc)
err_behind (Err k) at e = (k, refl, cc)

abbrev SeatOf : List ℕ → Members → ℕ → Type 0
SeatOf name ms at = IsSeat ms at (member name ms) (λ v. with_member name v ms) (without_member name ms)

abbrev GapOf : List ℕ → Members → ℕ → Type 0
GapOf name ms at = IsGap name ms at (member name ms) (λ v. with_member name v ms) (without_member name ms)

abbrev SeatBy : List ℕ → List ℕ × Tree → Members → Ordering → ℕ → Type 0
SeatBy name m ms o at =
    IsSeat (m ∷ ms) at (match_ordering o None (Some m.1) (member name ms)) (λ v. match_ordering o ((name, v) ∷ m ∷ ms) ((m.0, v) ∷ ms) (m ∷ with_member name v ms))
    (match_ordering o (m ∷ ms) ms (m ∷ without_member name ms))

abbrev GapBy : List ℕ → List ℕ × Tree → Members → Ordering → ℕ → Type 0
GapBy name m ms o at =
    IsGap name (m ∷ ms) at (match_ordering o None (Some m.1) (member name ms)) (λ v. match_ordering o ((name, v) ∷ m ∷ ms) ((m.0, v) ∷ ms) (m ∷ with_member name v ms))
    (match_ordering o (m ∷ ms) ms (m ∷ without_member name ms))

seat_first : (name : List ℕ) (m : List ℕ × Tree) (ms : Members) → SeatBy name m ms Equal 0
seat_first name m ms = record { within = omega arith; found = λ d. refl; sets = λ d v. refl; removes = refl }

seat_later : (name : List ℕ) (m : List ℕ × Tree) (ms : Members) (k : ℕ) → SeatOf name ms k → SeatBy name m ms Greater (suc k)
seat_later name m ms k tail = record {
  within = let w : k < length ms = tail.within in omega arith;
  found = tail.found;
  sets = λ d v. ap (λ rest. m ∷ rest) (tail.sets d v);
  removes = ap (λ rest. m ∷ rest) tail.removes;
}

gap_first : (name : List ℕ) (m : List ℕ × Tree) (ms : Members) → GapBy name m ms Less 0
gap_first name m ms = record { within = omega arith; none = refl; inserts = λ v. refl; same = refl }

gap_later : (name : List ℕ) (m : List ℕ × Tree) (ms : Members) (k : ℕ) → GapOf name ms k → GapBy name m ms Greater (suc k)
gap_later name m ms k tail = record {
  within = let w : k ≤ length ms = tail.within in omega arith;
  none = tail.none;
  inserts = λ v. ap (λ rest. m ∷ rest) (tail.inserts v);
  same = ap (λ rest. m ∷ rest) tail.same;
}

seat_by : (name : List ℕ) (m : List ℕ × Tree) (ms : Members) (o : Ordering) (at : ℕ) → ((k : ℕ) → seat name ms ≡ Ok k → SeatOf name ms k)
    → match_ordering o (Err 0) (Ok 0) (further_on (seat name ms)) ≡ Ok at → SeatBy name m ms o at
seat_by name m ms Less at tail e = absurd (cc)
seat_by name m ms Equal at tail e = let first : 0 ≡ at = cc in subst (SeatBy name m ms Equal) first (seat_first name m ms)
seat_by name m ms Greater at tail e =
    let k = ok_behind (seat name ms) at e in subst (SeatBy name m ms Greater) (sym k.2) (seat_later name m ms k.0 (tail k.0 k.1))

gap_by : (name : List ℕ) (m : List ℕ × Tree) (ms : Members) (o : Ordering) (at : ℕ) → ((k : ℕ) → seat name ms ≡ Err k → GapOf name ms k)
    → match_ordering o (Err 0) (Ok 0) (further_on (seat name ms)) ≡ Err at → GapBy name m ms o at
gap_by name m ms Less at tail e = let first : 0 ≡ at = cc in subst (GapBy name m ms Less) first (gap_first name m ms)
gap_by name m ms Equal at tail e = absurd (cc)
gap_by name m ms Greater at tail e =
    let k = err_behind (seat name ms) at e in subst (GapBy name m ms Greater) (sym k.2) (gap_later name m ms k.0 (tail k.0 k.1))

pub seat-Ok : (name : List ℕ) (ms : Members) (at : ℕ) → seat name ms ≡ Ok at → SeatOf name ms at
seat-Ok name [] at e = absurd (cc)
seat-Ok name (m ∷ ms) at e = seat_by name m ms (name_cmp name m.0) at (λ k f. seat-Ok name ms k f) e

pub seat-Err : (name : List ℕ) (ms : Members) (at : ℕ) → seat name ms ≡ Err at → GapOf name ms at
seat-Err name [] at e = let first : 0 ≡ at = cc in subst (GapOf name []) first (record { within = omega arith; none = refl; inserts = λ v. refl; same = refl })
seat-Err name (m ∷ ms) at e = gap_by name m ms (name_cmp name m.0) at (λ k f. seat-Err name ms k f) e

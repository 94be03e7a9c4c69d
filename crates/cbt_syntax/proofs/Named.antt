-- Members that are set in turn.
use Rattle.std.proofs.Common.{◌≡◌, ℕ, true, List, [], ◌∷◌, ◌++◌, refl, ap, ◌∙◌, append_assoc}
use Rattle.std.specs.Prelude.{fold}
use Rattle.std.specs.declared.cmp.Ordering.{Ordering}
use Rattle.std.specs.declared.cmp.Ordering.TheVariants.{Less, Equal, Greater}
use Rattle.std.specs.Ordering.{nat_cmp, is_lt, ordering_reverse, match_ordering}
use Rattle.std.specs.Cmp.Lexicographic.{slice_cmp, nat_list_cmp_total}
use Rattle.std.specs.List.{AllByRecursion}
use Rattle.std.specs.Map.{keys_of}
use Rattle.std.proofs.lemmas.Bool.{and_parts}
use Rattle.cbt_base.specs.Keyed.{with_pair}
use Rattle.cbt_expr.specs.declared.expressions.Expr.{Expr}
use Rattle.cbt_syntax.specs.Named.{with_member, by_name, rise_after, names_rise}

abbrev cmp : List ℕ → List ℕ → Ordering
cmp = slice_cmp nat_cmp

set_one_more : (start found : List (List ℕ × Expr)) (m : List ℕ × Expr) → fold with_member start (found ++ m ∷ []) ≡ with_member (fold with_member start found) m
set_one_more start [] m = refl
set_one_more start (x ∷ xs) m = set_one_more (with_member start x) xs m

-- one more member behind those found
pub by_name_pushed : (found all : List (List ℕ × Expr)) (m : List ℕ × Expr) → all ≡ found ++ m ∷ []
    → by_name all ≡ with_pair (slice_cmp nat_cmp) (by_name found) m.0 m.1
unfolding by_name
by_name_pushed found all m is = ap (fold with_member []) is ∙ set_one_more [] found m

-- the names of these members stand before this one
abbrev Before : List (List ℕ × Expr) → List ℕ → Type 0
Before found name = AllByRecursion (λ y. cmp y name ≡ Less) (keys_of found)

set_behind : (found : List (List ℕ × Expr)) (name : List ℕ) (value : Expr) → Before found name → with_pair cmp found name value ≡ found ++ (name, value) ∷ []
set_behind [] name value before = refl
set_behind (e ∷ es) name value before =
    let above : cmp name e.0 ≡ Greater = nat_list_cmp_total.antisymm name e.0 ∙ ap ordering_reverse before.0 in
    ap (λ o. match_ordering o ((name, value) ∷ e ∷ es) ((e.0, value) ∷ es) (e ∷ with_pair cmp es name value)) above
    ∙ ap (λ r. e ∷ r) (set_behind es name value before.1)

before_next : (found : List (List ℕ × Expr)) (m : List ℕ × Expr) (next : List ℕ) → Before found m.0 → cmp m.0 next ≡ Less → Before (found ++ m ∷ []) next
before_next [] m next before less = (less, tt)
before_next (e ∷ es) m next before less = (nat_list_cmp_total.trans e.0 m.0 next before.0 less, before_next es m next before.1 less)

less_by : (o : Ordering) → is_lt o ≡ true → o ≡ Less
less_by Less is = refl
less_by Equal is = absurd (cc)
less_by Greater is = absurd (cc)

set_in_turn : (found : List (List ℕ × Expr)) (m : List ℕ × Expr) (ms : List (List ℕ × Expr)) → Before found m.0 → rise_after m.0 ms ≡ true
    → fold with_member found (m ∷ ms) ≡ found ++ m ∷ ms
set_in_turn found m [] before rise = set_behind found m.0 m.1 before
set_in_turn found m (n ∷ ns) before rise =
    let parts = and_parts (is_lt (cmp m.0 n.0)) (rise_after n.0 ns) rise in
    ap (λ r. fold with_member r (n ∷ ns)) (set_behind found m.0 m.1 before)
    ∙ set_in_turn (found ++ m ∷ []) n ns (before_next found m n.0 before (less_by (cmp m.0 n.0) parts.0)) parts.1
    ∙ append_assoc found (m ∷ []) (n ∷ ns)

-- members whose names rise stand by name
pub rising_by_name : (ms : List (List ℕ × Expr)) → names_rise ms ≡ true → by_name ms ≡ ms
unfolding by_name
rising_by_name [] rise = refl
rising_by_name (m ∷ ms) rise = set_in_turn [] m ms tt rise

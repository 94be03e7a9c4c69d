-- What is read behind what was read.
use Rattle.std.proofs.Common.{◌≡◌, ℕ, suc, ◌+◌, ◌<◌, List, [], ◌∷◌, ◌++◌, append_assoc, length, get_or, drop, drop-cons, add-one, Option, Some, None, Result, Ok, Err, refl, sym, ap, ◌∙◌}
use Rattle.cbt_json.specs.declared.tree.Tree.{Tree}
use Rattle.cbt_model.specs.declared.entries.Entry.{Entry}
use Rattle.cbt_subdoc.specs.Members.{Members}
use Rattle.cbt_shape.specs.declared.fault.ShapeFault.{ShapeFault}
use Rattle.cbt_shape.specs.Readings.{◌>>=◌}
use Rattle.cbt_atr.specs.EntriesRead.{entry_at, entries_in}

-- some things in front of those that were read
abbrev pub behind : {X : Type 0} → List X → Option (List X) → Option (List X)
behind xs (Some ys) = Some (xs ++ ys)
behind xs None = None

abbrev pub read_behind : {X : Type 0} → List X → Result (List X) ShapeFault → Result (List X) ShapeFault
read_behind xs (Ok ys) = Ok (xs ++ ys)
read_behind xs (Err fault) = Err fault

behind_one : {X : Type 0} (xs : List X) (x : X) (r : Result (List X) ShapeFault) → read_behind (xs ++ x ∷ []) r ≡ read_behind xs (r >>= (λ ys. Ok (x ∷ ys)))
behind_one xs x (Ok ys) = ap Ok (append_assoc xs (x ∷ []) ys)
behind_one xs x (Err fault) = refl

at_item : {X : Type 0} (xs : List X) (i : ℕ) (x : X) → i < length xs → x ≡ get_or xs i x → drop i xs ≡ x ∷ drop (i + 1) xs
at_item xs i x low is = drop-cons xs i x low ∙ ap (λ y. y ∷ drop (suc i) xs) (sym is) ∙ ap (λ k. x ∷ drop k xs) (sym (add-one i))

-- one entry more
pub next_entry : (members : Members) (i : ℕ) (m : List ℕ × Tree) → i < length members → m ≡ get_or members i m → (entries grown : List (ℕ × Entry)) (e : ℕ × Entry) → entry_at m ≡ Ok e
    → grown ≡ entries ++ e ∷ [] → read_behind entries (entries_in (drop i members)) ≡ entries_in members → read_behind grown (entries_in (drop (i + 1) members)) ≡ entries_in members
next_entry members i m low is entries grown e found longer before =
    let rest = entries_in (drop (i + 1) members) in
    ap (λ g. read_behind g rest) longer ∙ behind_one entries e rest
    ∙ ap (λ (r : Result (ℕ × Entry) ShapeFault). read_behind entries (r >>= (λ x. rest >>= (λ xs. Ok (x ∷ xs))))) (sym found)
    ∙ ap (λ ms. read_behind entries (entries_in ms)) (sym (at_item members i m low is)) ∙ before

-- Lemmas on bytes that move in pieces.
use Rattle.std.proofs.Common.{◌≡◌, ℕ, ◌+◌, ◌-◌, ◌<◌, ◌≤◌, min, List, [], ◌++◌, length, take, drop, Option, sym, ap, ◌∙◌, append_assoc, append-nil, length-append, arith}
use Rattle.std.proofs.lemmas.List.{take-append-drop, drop-drop, take_at, drop_min, length-take}
use Rattle.std.proofs.KnownBytes.{Consumes-trans}
use Rattle.std.specs.Io.KnownBytes.{Consumes}
use Rattle.cbt_streams.specs.Streams.{ReadUpTo, ReadPast}

-- the bytes that were copied are the front of those left, and the place moves past them
pub served : (bytes front tail : List ℕ) (at count : ℕ) → front ≡ take count (drop (min at (length bytes)) bytes) → length front ≡ count
    → drop at bytes ≡ take count (front ++ tail) ++ drop (at + count) bytes
served bytes front tail at count copied len =
    let left = drop at bytes in
    sym (take-append-drop count left)
    ∙ ap (λ l. l ++ drop count left) (ap (take count) (sym (drop_min at bytes)) ∙ sym copied ∙ sym (take_at front tail count len))
    ∙ ap (λ l. take count (front ++ tail) ++ l) (drop-drop count at bytes)

-- a front that was written and the piece taken next are a longer front
pub part_more : (all part rest : List ℕ) (count : ℕ) → all ≡ part ++ rest → all ≡ (part ++ take count rest) ++ drop count rest
part_more all part rest count whole =
    whole ∙ ap (λ l. part ++ l) (sym (take-append-drop count rest)) ∙ sym (append_assoc part (take count rest) (drop count rest))

-- a read of nothing takes nothing
pub Consumes-none : (a b c : Option (List ℕ)) (bytes into : List ℕ) (count : ℕ) → count ≡ 0 → Consumes a b bytes → Consumes b c (take count into) → Consumes a c bytes
Consumes-none a b c bytes into count none first next =
    rw (← append-nil bytes) (Consumes-trans a b c bytes [] first (rw none at next))

-- the limit was passed by the bytes so far and those read last
pub ReadPast-from_reads : (a b c : Option (List ℕ)) (bytes into : List ℕ) (limit count : ℕ) → Consumes a b bytes → Consumes b c (take count into) → count ≤ length into
    → length bytes ≤ limit → limit - length bytes < count → count ≤ limit - length bytes + 1 → ReadPast a c limit
ReadPast-from_reads a b c bytes into limit count first next have within past room = record {
  bytes = bytes ++ take count into;
  taken = Consumes-trans a b c bytes (take count into) first next;
  past = omega (arith, length-append bytes (take count into), length-take count into);
}

-- the bytes so far and those read last are within the limit
pub ReadUpTo-from_reads : (a b c : Option (List ℕ)) (bytes into : List ℕ) (limit count : ℕ) → Consumes a b bytes → Consumes b c (take count into)
    → length bytes ≤ limit → count ≤ limit - length bytes → ReadUpTo a c limit
ReadUpTo-from_reads a b c bytes into limit count first next within room = record {
  bytes = bytes ++ take count into;
  taken = Consumes-trans a b c bytes (take count into) first next;
  few = omega (arith, length-append bytes (take count into), length-take count into);
}

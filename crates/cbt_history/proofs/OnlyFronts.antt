-- What goes on is what a canonical text begins with.
use Rattle.std.proofs.Common.{◌≡◌, ℕ, Bool, true, false, ◌||◌, cond, List, [], ◌∷◌, ◌++◌, bytes_eq, Some, None, is_some, Result, Ok, Err, refl, sym}
use Rattle.std.specs.List.{list_any}
use Rattle.std.proofs.lemmas.Slice.Eq.{bytes_eq-Decides}
use Rattle.cbt_script.specs.declared.cause.ScriptFault.{ScriptFault}
use Rattle.cbt_script.specs.declared.script.Script.{Script}
use Rattle.cbt_script.specs.Printed.{script_text}
use Rattle.cbt_script.specs.Reading.{script_of}
use Rattle.cbt_script.proofs.RulesOfScripts.{read_keeps_rules}
use Rattle.cbt_history.specs.ScriptsRead.{if_same, canonical, closings, goes_on, BeginsScript}

-- an item that passes a test
record Passing {X : Type 0} (p : X → Bool) : Type 0 where
  pub item : X
  pub passes : p item ≡ true

passes_if : {X : Type 0} (t : Bool) (p : X → Bool) (x : X) (more : Bool) → p x ≡ t → (t || more) ≡ true → (more ≡ true → Passing p) → Passing p
passes_if true p x more e is other = record { item = x; passes = e }
passes_if false p x more e is other = other is

some_passes : {X : Type 0} (p : X → Bool) (xs : List X) → list_any p xs ≡ true → Passing p
some_passes p [] is = absurd (cc)
some_passes p (x ∷ xs) is = passes_if (p x) p x (list_any p xs) refl is (some_passes p xs)

-- a text that is the canonical one of a script
record IsCanonical (text : List ℕ) (read : Result Script ScriptFault) : Type 0 where
  pub script : Script
  pub reads : read ≡ Ok script
  pub same : text ≡ script_text script

same_if : (t : Bool) (text : List ℕ) (s : Script) → bytes_eq text (script_text s) ≡ t → is_some (cond t (Some s) None) ≡ true → IsCanonical text (Ok s)
same_if true text s e is = record { script = s; reads = refl; same = (bytes_eq-Decides text (script_text s)).0 e }
same_if false text s e is = absurd (cc)

is_same : (text : List ℕ) (read : Result Script ScriptFault) → is_some (if_same text read) ≡ true → IsCanonical text read
is_same text (Ok s) is = same_if (bytes_eq text (script_text s)) text s refl is
is_same text (Err fault) is = absurd (cc)

canonical_is : (text : List ℕ) → is_some (canonical text) ≡ true → IsCanonical text (script_of text)
unfolding canonical
canonical_is text is = is_same text (script_of text) is

pub only_fronts : (front : List ℕ) → goes_on front ≡ true → BeginsScript front
unfolding goes_on
only_fronts front is =
    let closing = some_passes (λ (closing : List ℕ). is_some (canonical (front ++ closing))) closings is in
    let whole = canonical_is (front ++ closing.item) closing.passes in
    record { script = whole.script; is = read_keeps_rules (front ++ closing.item) whole.script whole.reads; behind = closing.item; whole = sym whole.same }

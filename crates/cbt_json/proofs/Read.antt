-- What a text gives, beside what the reader promises of its answer.
use Rattle.std.proofs.Common.{◌≡◌, ℕ, List, Bool, true, false, cond, Option, Some, None, Result, Ok, Err, ◌⊎◌, inl, inr, refl, sym, ap, ◌∙◌, subst, ◌≤◌}
use Rattle.std.specs.Prelude.{IfOk, IsErrOf}
use Rattle.std.specs.Option.{IsSomeAnd}
use Rattle.std.specs.Str.{IsUtf8}
use Rattle.serde_json.specs.Data.{Data, depth}
use Rattle.serde_json.specs.Read.{max_depth}
use Rattle.serde_json.specs.Written.{has_float}
use Rattle.serde_json.proofs.Nesting.{depth-read}
use Rattle.cbt_json.specs.declared.fault.JsonFault.{JsonFault}
use Rattle.cbt_json.specs.declared.fault.JsonFault.TheVariants.{NotJson, NotWhole, NoMemory}
use Rattle.cbt_json.specs.declared.tree.Tree.{Tree}
use Rattle.cbt_json.specs.Trees.{data_of, text_of}
use Rattle.cbt_json.specs.Rules.{IsJson, is_regular}
use Rattle.cbt_json.specs.Reading.{reading, tree_of, given, json_of}
use Rattle.cbt_json.proofs.Proper.{regular-read}
use Rattle.cbt_json.proofs.Inverse.{data_of-tree_of, tree_of-data_of, has_float-data_of}
use Rattle.cbt_json.proofs.Again.{read-compact_text}

-- a tree that was read keeps the rules
pub IsJson-read : (text : List ℕ) (t : Tree) → reading text ≡ Some (data_of t) → IsJson t
IsJson-read text t e = (depth-read text (data_of t) e, regular-read text (data_of t) e (has_float-data_of t))

given-data_of : (t : Tree) → given (Some (data_of t)) ≡ Ok t
given-data_of t = ap (λ f. cond f (Err NotWhole) (Ok (tree_of (data_of t)))) (has_float-data_of t) ∙ ap Ok (tree_of-data_of t)

-- the text of a JSON value is that value
pub json_of-text_of : (t : Tree) → IsJson t → json_of (text_of t) ≡ Ok t
json_of-text_of t h = ap given (read-compact_text (data_of t) h.0 h.1) ∙ given-data_of t

-- a text that reads as the data of a tree is that tree
pub json_of-reading : (text : List ℕ) (t : Tree) → reading text ≡ Some (data_of t) → Ok t ≡ json_of text
json_of-reading text t e = sym (ap given e ∙ given-data_of t)

taken_at : (d : Data) (t : Tree) (float : Bool) → has_float d ≡ float → cond float (Err NotWhole) (Ok (tree_of d)) ≡ Ok t → (e : Data) × (Some d ≡ Some e) × (has_float e ≡ false) × (tree_of e ≡ t)
taken_at d t true is e = absurd (cc)
taken_at d t false is e = (d, refl, is, cc)

-- a reading that gives a tree
taken_as : (o : Option Data) (t : Tree) → given o ≡ Ok t → (d : Data) × (o ≡ Some d) × (has_float d ≡ false) × (tree_of d ≡ t)
taken_as None t e = absurd (cc)
taken_as (Some d) t e = taken_at d t (has_float d) refl e

-- the tree that a text is keeps the rules
pub json_of-rules : (text : List ℕ) (t : Tree) → json_of text ≡ Ok t → IsJson t
json_of-rules text t e =
    let taken = taken_as (reading text) t e in
    let d = taken.0 in
    let regular = regular-read text d taken.1 taken.2 in
    let same : data_of t ≡ d = ap data_of (sym taken.3) ∙ data_of-tree_of d regular in
    (subst (λ x. depth x ≤ max_depth) (sym same) (depth-read text d taken.1), ap is_regular same ∙ regular)

given_float : (o : Option Data) → IsSomeAnd o (λ d. has_float d ≡ true) → given o ≡ Err NotWhole
given_float None h = absurd h
given_float (Some d) h = ap (λ f. cond f (Err NotWhole) (Ok (tree_of d))) h

-- an answer that keeps the reader's three promises is what the text gives
pub answers : (r : Result Tree JsonFault) (bytes : List ℕ)
    → IfOk r (λ t. IsUtf8 bytes × (reading bytes ≡ Some (data_of t)))
    → (IsErrOf r NotJson → IsUtf8 bytes → reading bytes ≡ None)
    → (IsErrOf r NotWhole → IsUtf8 bytes × IsSomeAnd (reading bytes) (λ d. has_float d ≡ true))
    → IsUtf8 bytes → (r ≡ json_of bytes) ⊎ IsErrOf r NoMemory
answers (Ok t) bytes ok not_json not_whole text = inl (json_of-reading bytes t ok.1)
answers (Err NotJson) bytes ok not_json not_whole text = inl (sym (ap given (not_json refl text)))
answers (Err NotWhole) bytes ok not_json not_whole text = inl (sym (given_float (reading bytes) (not_whole refl).1))
answers (Err NoMemory) bytes ok not_json not_whole text = inr refl

at_text : (r : Result Tree JsonFault) (s : Result Tree JsonFault) (t : Tree) → s ≡ Ok t → (r ≡ s) ⊎ IsErrOf r NoMemory → (r ≡ Ok t) ⊎ IsErrOf r NoMemory
at_text r s t e (inl h) = inl (h ∙ e)
at_text r s t e (inr h) = inr h

-- the text of a JSON value reads as it
pub reads_again : (r : Result Tree JsonFault) (bytes : List ℕ) → (IsUtf8 bytes → (r ≡ json_of bytes) ⊎ IsErrOf r NoMemory)
    → (t : Tree) → IsJson t → IsUtf8 bytes → bytes ≡ text_of t → (r ≡ Ok t) ⊎ IsErrOf r NoMemory
reads_again r bytes answered t h utf8 e = at_text r (json_of bytes) t (ap json_of e ∙ json_of-text_of t h) (answered utf8)

-- The own writes and the last readings of an attempt, by document, in the order in which the documents came.
use Rattle.std.specs.Prelude.{◌≡◌, ◌≢◌, ℕ, Bool, true, false, ◌↔◌, if◌then◌else◌, List, [], ◌∷◌, Option, Some, bytes_eq}
use Rattle.std.specs.Map.{lookup, remove_entry}
use Rattle.indexmap.specs.IndexMap.{insert_entry}
use Rattle.cbt_model.specs.declared.documents.OpKind.{OpKind}
use Rattle.cbt_model.specs.declared.documents.OpKind.TheVariants.{Insert, Replace, Remove}
use Rattle.cbt_model.specs.declared.entries.Lists.{Lists}
use Rattle.cbt_book.specs.Licence.{listed}
use Rattle.cbt_book.specs.OwnLists.{In}
use Rattle.cbt_attempt.specs.declared.own.Own.{Own}

module _ {V : Type 0} where
  -- what is noted of a document
  abbrev pub noted : List (List ℕ × V) → List ℕ → Option V
  noted notes d = lookup (bytes_eq d) notes

  -- with this noted of a document: a new document goes last, and an old one keeps its place
  abbrev pub with_noted : List (List ℕ × V) → List ℕ → V → List (List ℕ × V)
  with_noted notes d v = insert_entry bytes_eq notes d v

  -- with nothing noted of a document
  abbrev pub without_noted : List (List ℕ × V) → List ℕ → List (List ℕ × V)
  without_noted notes d = remove_entry (bytes_eq d) notes

  -- what is noted of one document became this, and of each other it stays
  pub record SetsNote (old new : List ℕ → Option V) (d : List ℕ) (v : Option V) : Type 0 where
    pub here : new d ≡ v
    pub others : (q : List ℕ) → q ≢ d → new q ≡ old q

abbrev pub is_kind : OpKind → OpKind → Bool
is_kind Insert Insert = true
is_kind Replace Replace = true
is_kind Remove Remove = true
is_kind _ _ = false

-- the documents of the own writes of this kind, in their order
abbrev pub docs_of : OpKind → List (List ℕ × Own) → List (List ℕ)
docs_of k [] = []
docs_of k (w ∷ writes) = if is_kind k w.1.kind then w.0 ∷ docs_of k writes else docs_of k writes

-- the documents of the own writes by kind, each kind in their order
abbrev pub lists_of : List (List ℕ × Own) → Lists
lists_of writes = record { ins = docs_of Insert writes; rep = docs_of Replace writes; rem = docs_of Remove writes }

-- lists name under each kind just the documents with an own write of it
abbrev pub NamesByKind : (List ℕ → Option Own) → Lists → Type 0
NamesByKind own lists = (k : OpKind) (d : List ℕ) → In d (listed k lists) ↔ ((w : Own) × (own d ≡ Some w) × (w.kind ≡ k))

-- Parts of a list of calls.
use Rattle.std.proofs.Common.{Bool, true, false, cond, inl, inr, List, [], ◌∷◌, ◌++◌, filter, refl}
use Rattle.cbt_model.specs.declared.events.Made.{Made}
use Rattle.cbt_stage.specs.Ready.{IsPart}

nothing : (l : List Made) → IsPart [] l
nothing [] = refl
nothing (m ∷ l) = inl (nothing l)

-- the newest calls of a list
pub newest : (calls older : List Made) → IsPart calls (calls ++ older)
newest [] older = nothing older
newest (m ∷ calls) older = inr (calls, refl, newest calls older)

-- the calls of a list that pass a test
pub passing : (p : Made → Bool) (l : List Made) → IsPart (filter p l) l
passing p [] = refl
passing p (m ∷ l) = by_test (p m) (passing p l)
  where
    by_test : (b : Bool) → IsPart (filter p l) l → IsPart (cond b (m ∷ filter p l) (filter p l)) (m ∷ l)
    by_test true rest = inr (filter p l, refl, rest)
    by_test false rest = inl rest

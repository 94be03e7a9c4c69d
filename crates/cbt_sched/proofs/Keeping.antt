-- What each step keeps, from step to step.
use Rattle.std.proofs.Common.{◌≡◌, ℕ, Bool, [], ◌++◌, append_assoc, length, sym, ap, ◌∙◌, refl, subst}
use Rattle.std.proofs.lemmas.List.{append-nil}
use Rattle.cbt_model.specs.History.{own}
use Rattle.cbt_model.specs.declared.nodes.Node.{Ghosts as NodeOf}
use Rattle.cbt_sched.specs.Driving.{GoesOn, IsOutside, Keeps, own_at}

module _ {N : Type 0} (nodes : NodeOf N) where
  -- a node makes no call
  pub goes_on-still : (old new : N) → nodes.opening new ≡ nodes.opening old → nodes.history new ≡ nodes.history old
      → nodes.terms new ≡ nodes.terms old
      → ((f : ℕ → ℕ) → nodes.reads_by old f → nodes.reads_by new f) → GoesOn nodes old new
  goes_on-still old new opening history terms readings = record {
    opening_stays = opening;
    terms_stay = terms;
    added = [];
    grown = history ∙ sym (append-nil (nodes.history old));
    readings = readings;
  }

  goes_on-further : (a b c : N) → GoesOn nodes a b → GoesOn nodes b c → GoesOn nodes a c
  goes_on-further a b c first then = record {
    opening_stays = then.opening_stays ∙ first.opening_stays;
    terms_stay = then.terms_stay ∙ first.terms_stay;
    added = first.added ++ then.added;
    grown = then.grown ∙ ap (λ h. h ++ then.added) first.grown ∙ append_assoc (nodes.history a) first.added then.added;
    readings = λ f by. then.readings f (first.readings f by);
  }

  pub own-still : (old new : N) → nodes.opening new ≡ nodes.opening old → nodes.history new ≡ nodes.history old
      → (number : ℕ) → own_at nodes number new ≡ own_at nodes number old
  own-still old new opening history number =
      ap (λ s. own s (nodes.history new) number (length (nodes.history new))) opening
      ∙ ap (λ h. own (nodes.opening old) h number (length h)) history

module _ {N S : Type 0} {nodes : NodeOf N} {Stand : S → Bool → N → S → Type 0} {IsOther : ℕ → Type 0} where
  pub keeps-same : {refused : Bool} {node : N} {actors : S} → Keeps nodes Stand IsOther refused node actors refused node actors
  keeps-same {refused} {node} {actors} = record {
    goes_on = goes_on-still nodes node node refl refl refl (λ f by. by);
    stand = λ begun all. all;
    others = λ other outside. refl;
    sticky = λ fine. fine;
  }

  pub keeps-further : {r r' r'' : Bool} {n n' n'' : N} {a a' a'' : S}
      → Keeps nodes Stand IsOther r n a r' n' a' → Keeps nodes Stand IsOther r' n' a' r'' n'' a'' → Keeps nodes Stand IsOther r n a r'' n'' a''
  keeps-further first then = record {
    goes_on = goes_on-further nodes _ _ _ first.goes_on then.goes_on;
    stand = λ begun all. then.stand begun (first.stand begun all);
    others = λ other outside. then.others other outside ∙ first.others other outside;
    sticky = λ fine. first.sticky (then.sticky fine);
  }

-- a list of as many actors has the same numbers
pub keeps-count : {N S : Type 0} {nodes : NodeOf N} {Stand : S → Bool → N → S → Type 0} {first count count' : ℕ}
    {r r' : Bool} {n n' : N} {a a' : S} → count ≡ count'
    → Keeps nodes Stand (IsOutside first count) r n a r' n' a' → Keeps nodes Stand (IsOutside first count') r n a r' n' a'
keeps-count {nodes = nodes} {Stand = Stand} {first = first} {r = r} {r' = r'} {n = n} {n' = n'} {a = a} {a' = a'} same keeps =
    subst (λ m. Keeps nodes Stand (IsOutside first m) r n a r' n' a') same keeps

-- What a call that was made leaves of the facts of its actor and of the others.
use Rattle.std.proofs.Common.{◌≡◌, ◌≢◌, ℕ, ◌<◌, Bool, true, false, List, ◌∷◌, length, Option, Some, None, Result, Ok, Err, sym, ap, ◌∙◌, subst, arith}
use Rattle.std.specs.Prelude.{OnOk, OnErr}
use Rattle.std.specs.Result.{is_err}
use Rattle.cbt_model.specs.History.{own, reply_at, now_at}
use Rattle.cbt_model.specs.Legal.{AddsOne}
use Rattle.cbt_model.specs.declared.actors.Actor.{Ghosts as ActorOf}
use Rattle.cbt_model.specs.declared.events.Answer.{Answer}
use Rattle.cbt_model.specs.declared.events.Fate.{Fate}
use Rattle.cbt_model.specs.declared.events.Made.{Made}
use Rattle.cbt_model.specs.declared.nodes.Node.{Ghosts as NodeOf}
use Rattle.cbt_model.specs.declared.steps.Step.{Step}
use Rattle.cbt_model.proofs.Longer.{called, others_called}
use Rattle.cbt_sched.specs.Driving.{Keeps, Stands, own_at}

-- a call that was made, and whose answer its actor learned below its stop
module _ {N A : Type 0} (nodes : NodeOf N) (kind : ActorOf A) (number : ℕ) (stop : Option ℕ) (refused refused' : Bool) (old new : N) (a a' : A)
    (step : Step) (fate : Fate) (answer : Answer) (same : nodes.opening new ≡ nodes.opening old)
    (adds : AddsOne (nodes.history old) (nodes.history new) number step fate)
    (place : answer.place ≡ length (nodes.history old))
    (reply : reply_at (nodes.opening old) (nodes.history new) answer.place ≡ Some answer.reply)
    (now : answer.now ≡ now_at (nodes.opening old) (nodes.history new) answer.place) where
  -- the step with its answer comes in front of its actor's own list
  own-called : own_at nodes number new ≡ record { step = step; answer = answer } ∷ own_at nodes number old
  own-called =
      ap (λ s. own s (nodes.history new) number (length (nodes.history new))) same
      ∙ called (nodes.opening old) (nodes.history old) (nodes.history new) number step fate answer adds place reply now

  -- and the own lists of the others stay
  own-others_called : (other : ℕ) → other ≢ number → own_at nodes other new ≡ own_at nodes other old
  own-others_called other apart =
      ap (λ s. own s (nodes.history new) other (length (nodes.history new))) same
      ∙ others_called (nodes.opening old) (nodes.history old) (nodes.history new) number step fate other adds apart

  pub keeps-learned : nodes.terms new ≡ nodes.terms old → ((f : ℕ → ℕ) → nodes.reads_by old f → nodes.reads_by new f)
      → ((l : List Made) → kind.stands_for a l → kind.stands_for a' (record { step = step; answer = answer } ∷ l))
      → ((begun : A) → kind.same_origin begun a → kind.same_origin begun a')
      → ((l : List Made) → kind.stands_for a l → (most : ℕ) → stop ≡ Some most → length l < most)
      → (refused' ≡ false → refused ≡ false) → (refused' ≡ false → kind.is_stopped a' ≡ true → ⊥)
      → Keeps nodes (Stands nodes kind number stop) (λ other. other ≢ number) refused old a refused' new a'
  keeps-learned terms readings learned origin room sticky going = record {
    goes_on = record { opening_stays = same; terms_stay = terms; added = _; grown = adds.added; readings = readings };
    stand = λ begun before. record {
      stands = subst (λ l. kind.stands_for a' l) (sym own-called) (learned (own_at nodes number old) before.stands);
      origin = origin begun before.origin;
      within = λ most is.
          (let low = room (own_at nodes number old) before.stands most is in let one = ap (λ l. length l) own-called in omega arith);
      cause = λ fine running stopped. absurd (going fine stopped);
    };
    others = own-others_called;
    sticky = sticky;
  }

-- where a call was answered Ok, what it says of that holds
pub holds-at_ok : {T E : Type 0} (r : Result T E) (P : Type 0) → false ≡ is_err r → OnOk r P → P
holds-at_ok (Ok x) P fine there = there
holds-at_ok (Err e) P fine there = absurd (cc)

-- the same of Err
pub holds-at_err : {T E : Type 0} (r : Result T E) (P : Type 0) → true ≡ is_err r → OnErr r P → P
holds-at_err (Ok x) P failed there = absurd (cc)
holds-at_err (Err e) P failed there = there

-- an actor with a next step that learned an answer is not stopped
pub goes_on-learned : {A : Type 0} (kind : ActorOf A) (old new : A) (step : Step) → ((a : A) → kind.is_stopped a ≡ true → kind.step_now a ≡ None)
    → kind.step_now old ≡ Some step → kind.is_stopped new ≡ kind.is_stopped old → kind.is_stopped new ≡ true → ⊥
goes_on-learned kind old new step law asks same stopped =
    let none : kind.step_now old ≡ None = law old (sym same ∙ stopped) in
    let clash : Some step ≡ None = sym asks ∙ none in
    cc

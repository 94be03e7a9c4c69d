-- An event that is written is read back.
use Rattle.std.proofs.Common.{◌≡◌, ℕ, ◌^◌, ◌<◌, eqb, ◌&&◌, List, [], ◌∷◌, ◌++◌, append_assoc, length, true, Some, codes, decimal, refl, sym, ap, ◌∙◌, arith}
use Rattle.std.proofs.lemmas.Bool.{eq-eqb}
use Rattle.cbt_lex.proofs.Pieces.{Lacking}
use Rattle.cbt_lex.proofs.WordsBack.{no_space, is_solid, word_literal}
use Rattle.cbt_model.specs.History.{outcome}
use Rattle.cbt_model.specs.declared.events.Event.{Event}
use Rattle.cbt_model.specs.declared.events.Fate.{Fate}
use Rattle.cbt_model.specs.declared.events.Fate.TheVariants.{Plain, Lost, Late}
use Rattle.cbt_model.specs.declared.states.State.{State}
use Rattle.cbt_model.specs.declared.steps.Step.{Step}
use Rattle.cbt_history.specs.Events.{fate_word, event_line}
use Rattle.cbt_history.specs.EventsRead.{max_32, sides, place_field, fate_in, fate_field, answered_step, event_in}
use Rattle.cbt_history.specs.Fields.{word_field, last_cut, number_field}
use Rattle.cbt_history.specs.Readings.{◌>>=◌, require}
use Rattle.cbt_history.specs.Replies.{reply_text}
use Rattle.cbt_history.specs.RepliesRead.{answers}
use Rattle.cbt_history.specs.Rules.{Is64, IsTold, IsEvent}
use Rattle.cbt_history.specs.Steps.{step_text}
use Rattle.cbt_history.specs.StepsRead.{max_64, step_in}
use Rattle.cbt_history.proofs.Cuts.{cut_last}
use Rattle.cbt_history.proofs.FieldsBack.{word_next, number_next}
use Rattle.cbt_history.proofs.Nested.{nest9}
use Rattle.cbt_history.proofs.RepliesBack.{answers_back, reply_no_sign}
use Rattle.cbt_history.proofs.StepsBack.{onward, step_back}

sides_back : (left reply : List ℕ) → Lacking 61 reply → sides (left ++ codes " = " ++ reply) ≡ Some (left, reply)
unfolding sides
sides_back left reply lacking =
    let front = left ++ 32 ∷ [] in
    let back = 32 ∷ reply in
    let whole : left ++ codes " = " ++ reply ≡ front ++ 61 ∷ back = append_assoc left (codes " = ") reply ∙ sym (append_assoc left (32 ∷ []) (61 ∷ back)) in
    onward (λ cut. last_cut 32 cut.0 >>= (λ l. word_field cut.1 >>= (λ r. require (eqb (length l.1) 0 && eqb (length r.0) 0) >>= (λ _. Some (l.0, r.1)))))
    (ap (last_cut 61) whole ∙ cut_last 61 front back ((λ same. omega arith), lacking))
    (onward (λ l. word_field back >>= (λ r. require (eqb (length l.1) 0 && eqb (length r.0) 0) >>= (λ _. Some (l.0, r.1)))) (cut_last 32 left [] tt)
    (onward (λ r. require (eqb 0 0 && eqb (length r.0) 0) >>= (λ _. Some (left, r.1))) (word_next [] reply tt) refl))

place_back : (place : ℕ) (rest : List ℕ) → Is64 place → place_field place (decimal place ++ 32 ∷ rest) ≡ Some rest
unfolding place_field
place_back place rest low =
    onward (λ n. require (eqb n.0 place) >>= (λ _. Some n.1)) (number_next max_64 place rest (omega arith) low) (ap (λ t. require t >>= (λ _. Some rest)) (eq-eqb place place refl))

fate_solid : (f : Fate) → is_solid (fate_word f) ≡ true
fate_solid Plain = refl
fate_solid Lost = refl
fate_solid Late = refl

fate_found : (f : Fate) → fate_in (fate_word f) ≡ Some f
fate_found Plain = refl
fate_found Lost = refl
fate_found Late = refl

fate_back : (f : Fate) (rest : List ℕ) → fate_field (fate_word f ++ 32 ∷ rest) ≡ Some (f, rest)
unfolding fate_field
fate_back f rest =
    onward (λ w. fate_in w.0 >>= (λ g. Some (g, w.1))) (word_next (fate_word f) rest (no_space (fate_word f) (word_literal (fate_word f) (fate_solid f))))
    (onward (λ g. Some (g, rest)) (fate_found f) refl)

answered_back : (st : Step) (text reply : List ℕ) → step_in text ≡ Some st → answers st reply ≡ true → answered_step text reply ≡ Some st
unfolding answered_step
answered_back st text reply is may = onward (λ x. require (answers x reply) >>= (λ _. Some x)) is (ap (λ t. require t >>= (λ _. Some st)) may)

module _ (place : ℕ) (s : State) (e : Event) (low : Is64 place) (is : IsEvent e) (told : IsTold (outcome s e).reply) where
  abbrev step : List ℕ
  step = step_text e.step

  abbrev reply : List ℕ
  reply = reply_text (outcome s e).reply

  actor_back : (rest : List ℕ) → number_field max_32 (decimal e.actor ++ 32 ∷ rest) ≡ Some (e.actor, rest)
  actor_back rest = let few : e.actor < 2 ^ 32 = is.actor in number_next max_32 e.actor rest (omega arith) (omega arith)

  reading_back : (rest : List ℕ) → number_field max_64 (decimal e.reading ++ 32 ∷ rest) ≡ Some (e.reading, rest)
  reading_back rest = let few : e.reading < 2 ^ 64 = is.reading in number_next max_64 e.reading rest (omega arith) few

  pub event_back : event_in place (event_line place e (outcome s e).reply) ≡ Some e
  unfolding event_in
  event_back =
      let fated = fate_word e.fate ++ 32 ∷ step in
      let read = decimal e.reading ++ 32 ∷ fated in
      let acted = decimal e.actor ++ 32 ∷ read in
      let nested = nest9 (decimal place) (codes " ") (decimal e.actor) (codes " ") (decimal e.reading) (codes " ") (fate_word e.fate) (codes " ") step in
      onward (λ side. place_field place side.0 >>= (λ rest. number_field max_32 rest >>= (λ a. number_field max_64 a.1 >>= (λ r. fate_field r.1 >>= (λ f.
      answered_step f.1 side.1 >>= (λ st. Some (record { actor = a.0; step = st; fate = f.0; reading = r.0 })))))))
      (ap (λ left. sides (left ++ codes " = " ++ reply)) nested ∙ sides_back (decimal place ++ 32 ∷ acted) reply (reply_no_sign (outcome s e).reply told))
      (onward (λ rest. number_field max_32 rest >>= (λ a. number_field max_64 a.1 >>= (λ r. fate_field r.1 >>= (λ f.
      answered_step f.1 reply >>= (λ st. Some (record { actor = a.0; step = st; fate = f.0; reading = r.0 })))))) (place_back place acted low)
      (onward (λ a. number_field max_64 a.1 >>= (λ r. fate_field r.1 >>= (λ f.
      answered_step f.1 reply >>= (λ st. Some (record { actor = a.0; step = st; fate = f.0; reading = r.0 }))))) (actor_back read)
      (onward (λ r. fate_field r.1 >>= (λ f. answered_step f.1 reply >>= (λ st. Some (record { actor = e.actor; step = st; fate = f.0; reading = r.0 })))) (reading_back fated)
      (onward (λ f. answered_step f.1 reply >>= (λ st. Some (record { actor = e.actor; step = st; fate = f.0; reading = e.reading }))) (fate_back e.fate step)
      (onward (λ st. Some (record { actor = e.actor; step = st; fate = e.fate; reading = e.reading }))
      (answered_back e.step step reply (step_back e.step is.step is.fits) (answers_back s e told)) refl)))))

-- The lines of events, one event at a time.
use Rattle.std.proofs.Common.{◌≡◌, ℕ, ◌+◌, ◌-◌, ◌^◌, ◌<◌, ◌≤◌, List, [], ◌∷◌, ◌++◌, length, get_or, drop, sym, ap, ◌∙◌, append_assoc, arith}
use Rattle.cbt_base.specs.Clock.{clock_of}
use Rattle.cbt_base.proofs.Stamps.{clock_of-le}
use Rattle.cbt_lex.specs.Lines.{lined}
use Rattle.cbt_model.specs.History.{happens, outcome}
use Rattle.cbt_model.specs.declared.events.Event.{Event}
use Rattle.cbt_model.specs.declared.states.State.{State}
use Rattle.cbt_model.specs.declared.steps.Reply.{Reply}
use Rattle.cbt_script.proofs.Lined.{at_item}
use Rattle.cbt_history.specs.Events.{event_line, event_lines}

-- one event more
pub next_line : (out grown all : List ℕ) (events : List Event) (i place : ℕ) (s next : State) (e : Event) (reply : Reply)
    → i < length events → e ≡ get_or events i e → place ≡ i
    → out ++ lined (event_lines i s (drop i events)) ≡ all
    → reply ≡ (outcome s e).reply → next ≡ happens s e
    → grown ≡ out ++ (event_line place e reply ++ 10 ∷ [])
    → grown ++ lined (event_lines (i + 1) next (drop (i + 1) events)) ≡ all
next_line out grown all events i place s next e reply low is at before told now longer =
    let rest = event_lines (i + 1) (happens s e) (drop (i + 1) events) in
    let line = event_line i e (outcome s e).reply in
    ap (λ x. grown ++ lined (event_lines (i + 1) x (drop (i + 1) events))) now
    ∙ ap (λ x. x ++ lined rest) (longer ∙ ap (λ p. out ++ (event_line p e reply ++ 10 ∷ [])) at ∙ ap (λ r. out ++ (event_line i e r ++ 10 ∷ [])) told)
    ∙ append_assoc out (line ++ 10 ∷ []) (lined rest)
    ∙ ap (λ xs. out ++ lined (event_lines i s xs)) (sym (at_item events i e low is)) ∙ before

-- the clock of a copy of an opening whose clock is not far past the last reading
pub opening_clock : (s t : State) → s ≡ t → t.last ≤ clock_of (2 ^ 43 - 1) + 2 ^ 32 → s.last ≤ 2 ^ 63 + 2 ^ 32
opening_clock s t same low =
    let e : s.last ≡ t.last = ap (λ x. x.last) same in
    let most : clock_of (2 ^ 43 - 1) ≤ 2 ^ 63 = clock_of-le (2 ^ 43 - 1) in
    omega arith

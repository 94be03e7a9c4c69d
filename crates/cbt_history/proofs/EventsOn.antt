-- Events, read line by line.
use Rattle.std.proofs.Common.{◌≡◌, ℕ, ◌+◌, ◌⊎◌, inl, inr, cond, eqb, List, [], ◌∷◌, ◌++◌, append_assoc, append-nil, length, true, false, Some, None, Result, Ok, Err, refl, sym, ap, ◌∙◌, arith}
use Rattle.cbt_lex.specs.Pieces.{pieces}
use Rattle.cbt_model.specs.declared.events.Event.{Event}
use Rattle.cbt_history.specs.declared.faults.HistoryFault.{HistoryFault}
use Rattle.cbt_history.specs.declared.faults.HistoryFault.TheVariants.{BadLine, NoMemory}
use Rattle.cbt_history.specs.EventsRead.{event_at}
use Rattle.cbt_history.specs.HistoriesRead.{ended_line, TellsLine, with_event, events_in}
use Rattle.cbt_history.proofs.Pieces.{HasPieces, some_piece, pieces_cut, pieces_whole}

abbrev pub Events : Type 0
Events = Result (List Event) HistoryFault

-- some events in front of those that were read
abbrev pub behind : List Event → Events → Events
behind es (Ok more) = Ok (es ++ more)
behind es (Err fault) = Err fault

pub behind_none : (read : Events) → behind [] read ≡ read
behind_none (Ok more) = refl
behind_none (Err fault) = refl

behind_one : (es : List Event) (e : Event) (n : ℕ) (read : Events) → behind (es ++ e ∷ []) read ≡ behind es (with_event (Some e) n read)
behind_one es e n (Ok more) = ap Ok (append_assoc es (e ∷ []) more)
behind_one es e n (Err fault) = refl

pub events_in-cons : (n place : ℕ) (line : List ℕ) (ps : List (List ℕ)) → HasPieces ps
    → events_in n place (line ∷ ps) ≡ with_event (event_at place line) n (events_in (n + 1) (place + 1) ps)
events_in-cons n place line ps has =
    ap (λ qs. events_in n place (line ∷ qs)) has.parts ∙ ap (λ qs. with_event (event_at place line) n (events_in (n + 1) (place + 1) qs)) (sym has.parts)

module _ (first place : ℕ) (es : List Event) (rest : List ℕ) (whole : Events) (before : behind es (events_in (first + place) place (pieces 10 rest)) ≡ whole) where
  module _ (line more : List ℕ) (is : ended_line rest ≡ Some (line, more)) where
    here : behind es (with_event (event_at place line) (first + place) (events_in (first + place + 1) (place + 1) (pieces 10 more))) ≡ whole
    here =
        ap (behind es) (sym (events_in-cons (first + place) place line (pieces 10 more) (some_piece more)))
        ∙ ap (λ ps. behind es (events_in (first + place) place ps)) (sym (pieces_cut rest line more is)) ∙ before

    pub next_event : (e : Event) (grown : List Event) → event_at place line ≡ Some e → grown ≡ es ++ e ∷ []
        → behind grown (events_in (first + (place + 1)) (place + 1) (pieces 10 more)) ≡ whole
    next_event e grown read longer =
        let at : first + (place + 1) ≡ first + place + 1 = omega arith in
        ap (λ n. behind grown (events_in n (place + 1) (pieces 10 more))) at
        ∙ ap (λ g. behind g (events_in (first + place + 1) (place + 1) (pieces 10 more))) longer
        ∙ behind_one es e (first + place) (events_in (first + place + 1) (place + 1) (pieces 10 more))
        ∙ ap (λ o. behind es (with_event o (first + place) (events_in (first + place + 1) (place + 1) (pieces 10 more)))) (sym read) ∙ here

    pub no_event : event_at place line ≡ None → whole ≡ Err (BadLine (first + place))
    no_event none =
        sym here ∙ ap (λ o. behind es (with_event o (first + place) (events_in (first + place + 1) (place + 1) (pieces 10 more)))) none

    -- a line that is refused refuses the whole
    pub refused_line : (fault : HistoryFault) → TellsLine (first + place) (Err fault) (event_at place line)
        → (◌≡◌ {A = Events} (Err fault) whole) ⊎ (◌≡◌ {A = Events} (Err fault) (Err NoMemory))
    refused_line (BadLine n) is = inl (ap (λ k. Err (BadLine k)) is.1 ∙ sym (no_event is.0))
    refused_line NoMemory is = inr refl

  last : ended_line rest ≡ None → whole ≡ behind es (cond (eqb (length rest) 0) (Ok []) (Err (BadLine (first + place))))
  last is = sym before ∙ ap (λ ps. behind es (events_in (first + place) place ps)) (pieces_whole rest is)

  pub all_events : ended_line rest ≡ None → eqb (length rest) 0 ≡ true → whole ≡ Ok es
  all_events is none = last is ∙ ap (λ t. behind es (cond t (Ok []) (Err (BadLine (first + place))))) none ∙ ap Ok (append-nil es)

  pub left_over : ended_line rest ≡ None → eqb (length rest) 0 ≡ false → whole ≡ Err (BadLine (first + place))
  left_over is some = last is ∙ ap (λ t. behind es (cond t (Ok []) (Err (BadLine (first + place))))) some

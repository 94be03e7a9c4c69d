-- A history text that is written is read back.
use Rattle.std.proofs.Common.{◌≡◌, ℕ, ◌+◌, ◌^◌, ◌<◌, ◌≤◌, true, cond, nat_lt, List, [], ◌∷◌, ◌++◌, append_assoc, drop, length, codes, Some, None, Ok, IsUtf8, refl, sym, ap, ◌∙◌, subst, arith, length-append, take_at}
use Rattle.std.specs.List.{AllByRecursion, position_or_len}
use Rattle.std.proofs.lemmas.Bool.{lt-ltb}
use Rattle.cbt_lex.specs.Lines.{lined}
use Rattle.cbt_lex.specs.Pieces.{pieces}
use Rattle.cbt_lex.proofs.LinesBack.{NoFeed, lined_append, lines_utf8}
use Rattle.cbt_lex.proofs.Pieces.{is_end, drop_past, place_behind, pieces_behind}
use Rattle.cbt_lex.proofs.WordsBack.{one_line_word, word_literal}
use Rattle.cbt_model.specs.History.{happens, outcome}
use Rattle.cbt_model.specs.declared.events.Event.{Event}
use Rattle.cbt_model.specs.declared.states.State.{State}
use Rattle.cbt_script.specs.declared.script.Script.{Script}
use Rattle.cbt_script.specs.Printed.{script_lines, script_text}
use Rattle.cbt_script.specs.Rules.{IsScript}
use Rattle.cbt_history.specs.Events.{event_line, event_lines}
use Rattle.cbt_history.specs.EventsRead.{event_in}
use Rattle.cbt_history.specs.HistoriesRead.{cut_at, ended_line, with_event, events_in, with_script, parts_of, parts_read, behind_first, history_of_text}
use Rattle.cbt_history.specs.Rules.{AreEvents}
use Rattle.cbt_history.specs.ScriptsRead.{script_in}
use Rattle.cbt_history.proofs.Closings.{lined_utf8}
use Rattle.cbt_history.proofs.EventsBack.{event_back}
use Rattle.cbt_history.proofs.EventsOn.{events_in-cons}
use Rattle.cbt_history.proofs.Nested.{nest4}
use Rattle.cbt_history.proofs.OneLine.{event_one_line}
use Rattle.cbt_history.proofs.Pieces.{some_piece}
use Rattle.cbt_history.proofs.ScriptBack.{script_back, lines_other, lines_no_feed, parts_back}
use Rattle.cbt_history.proofs.Utf8.{text_taken}

-- ---- events

pub events_back : (n place : ℕ) (s : State) (events : List Event) → place + length events ≤ 2 ^ 64 → AreEvents s events → AllByRecursion IsUtf8 (event_lines place s events)
    → events_in n place (pieces 10 (lined (event_lines place s events))) ≡ Ok events
events_back n place s [] few are utf8 = refl
events_back n place s (e ∷ events) few are utf8 =
    let line = event_line place e (outcome s e).reply in
    let more = lined (event_lines (place + 1) (happens s e) events) in
    let low : place < 2 ^ 64 = omega arith in
    ap (λ t. events_in n place (pieces 10 t)) (append_assoc line (10 ∷ []) more)
    ∙ ap (events_in n place) (pieces_behind 10 line more (event_one_line place e (outcome s e).reply low are.0 are.1))
    ∙ events_in-cons n place line (pieces 10 more) (some_piece more)
    ∙ ap (λ o. with_event o n (events_in (n + 1) (place + 1) (pieces 10 more))) (text_taken line (event_in place line) utf8.0 ∙ event_back place s e low are.0 are.1)
    ∙ ap (with_event (Some e) n) (events_back (n + 1) (place + 1) (happens s e) events (omega arith) are.2 utf8.1)

-- ---- the first line

pub first_line : (line rest : List ℕ) → NoFeed line → ended_line (line ++ 10 ∷ rest) ≡ Some (line, rest)
first_line line rest none = at (position_or_len (is_end 10) (line ++ 10 ∷ rest)) (place_behind 10 line rest none)
  where
    at : (n : ℕ) → n ≡ length line → cut_at (cond (nat_lt n (length (line ++ 10 ∷ rest))) (Some n) None) (line ++ 10 ∷ rest) ≡ Some (line, rest)
    at n is =
        let text = line ++ 10 ∷ rest in
        let within : nat_lt n (length text) ≡ true = lt-ltb n (length text) (omega (arith, length-append line (10 ∷ rest))) in
        ap (λ t. cut_at (cond t (Some n) None) text) within
        ∙ ap (λ w. Some (w, drop (n + 1) text)) (take_at line (10 ∷ rest) n (sym is)) ∙ ap (λ r. Some (line, r)) (drop_past line 10 rest n is)

-- ---- UTF-8

pub halves : {X : Type 0} (P : X → Type 0) (xs ys : List X) → AllByRecursion P (xs ++ ys) → AllByRecursion P xs × AllByRecursion P ys
halves P [] ys all = (tt, all)
halves P (x ∷ xs) ys all = let p = halves P xs ys all.1 in ((all.0, p.0), p.1)

-- ---- the whole

module _ (s : Script) (opening : State) (events : List Event) where
  abbrev lines : List (List ℕ)
  lines = event_lines 0 opening events

  -- all lines
  abbrev all_lines : List (List ℕ)
  all_lines = codes "script" ∷ (script_lines s ++ codes "events" ∷ lines)

  abbrev text : List ℕ
  text = codes "script\n" ++ script_text s ++ codes "events\n" ++ lined lines

  abbrev behind : List ℕ
  behind = script_text s ++ (codes "events" ++ 10 ∷ lined lines)

  nested : text ≡ codes "script" ++ 10 ∷ behind
  nested = nest4 (codes "script\n") (script_text s) (codes "events\n") (lined lines)

  pub all_lined : text ≡ lined all_lines
  unfolding script_text
  all_lined = nested ∙ ap (λ t. codes "script\n" ++ t) (sym (lined_append (script_lines s) (codes "events" ∷ lines)))

  module _ (is : IsScript s) (few : length events ≤ 2 ^ 64) (are : AreEvents opening events) (utf8 : IsUtf8 text) where
    pub each_utf8 : AllByRecursion IsUtf8 (script_lines s) × AllByRecursion IsUtf8 (codes "events" ∷ lines)
    each_utf8 = halves IsUtf8 (script_lines s) (codes "events" ∷ lines) (lines_utf8 all_lines (subst IsUtf8 all_lined utf8)).1

    pub script_utf8 : IsUtf8 (script_text s)
    unfolding script_text
    script_utf8 = lined_utf8 (script_lines s) each_utf8.0

    parts : parts_of (pieces 10 behind) ≡ record { script = script_lines s; events = Some (pieces 10 (lined lines)) }
    unfolding script_text
    parts = parts_back (script_lines s) (lined lines) (lines_no_feed s is script_utf8) (lines_other s is script_utf8)

    pub script_read : script_in (lined (script_lines s)) ≡ Ok s
    unfolding script_text
    script_read = script_back s is script_utf8

    events_read : events_in (length (script_lines s) + 2 + 1) 0 (pieces 10 (lined lines)) ≡ Ok events
    events_read = events_back (length (script_lines s) + 2 + 1) 0 opening events (omega arith) are each_utf8.1.1

    pub read_back : history_of_text text ≡ Ok (s, events)
    unfolding history_of_text
    read_back =
        ap history_of_text nested ∙ ap behind_first (first_line (codes "script") behind (one_line_word (codes "script") (word_literal (codes "script") refl)))
        ∙ ap parts_read parts
        ∙ ap (λ r. with_script r (events_in (length (script_lines s) + 2 + 1) 0 (pieces 10 (lined lines)))) script_read ∙ ap (with_script (Ok s)) events_read

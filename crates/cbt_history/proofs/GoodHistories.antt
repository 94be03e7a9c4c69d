-- A text that begins with lines of a history text has its bad line behind them.
use Rattle.std.proofs.Common.{◌≡◌, ℕ, suc, ◌+◌, ◌^◌, ◌<◌, ◌≤◌, ◌⊎◌, inl, inr, ⊎_elim, List, [], ◌∷◌, ◌++◌, append_assoc, length, codes, Some, Result, Ok, Err, IsUtf8, refl, sym, ap, ◌∙◌, subst, arith, length-append}
use Rattle.std.specs.List.{AllByRecursion}
use Rattle.cbt_lex.specs.Lines.{lined}
use Rattle.cbt_lex.specs.Pieces.{pieces}
use Rattle.cbt_lex.proofs.LinesBack.{NoFeed, lined_append}
use Rattle.cbt_lex.proofs.Pieces.{pieces_behind}
use Rattle.cbt_lex.proofs.WordsBack.{one_line_word, word_literal}
use Rattle.cbt_model.specs.History.{happens, outcome}
use Rattle.cbt_model.specs.declared.events.Event.{Event}
use Rattle.cbt_model.specs.declared.states.State.{State}
use Rattle.cbt_script.specs.declared.script.Script.{Script}
use Rattle.cbt_script.specs.Printed.{script_lines, script_text}
use Rattle.cbt_script.specs.Rules.{IsScript}
use Rattle.cbt_history.specs.declared.faults.HistoryFault.{HistoryFault}
use Rattle.cbt_history.specs.Events.{event_line, event_lines}
use Rattle.cbt_history.specs.EventsRead.{event_in}
use Rattle.cbt_history.specs.HistoriesRead.{with_event, events_in, with_script, parts_of, parts_read, behind_first, history_of_text}
use Rattle.cbt_history.specs.Rules.{AreEvents}
use Rattle.cbt_history.proofs.EventsBack.{event_back}
use Rattle.cbt_history.proofs.EventsOn.{events_in-cons}
use Rattle.cbt_history.proofs.Fronts.{Lines}
use Rattle.cbt_history.proofs.GoesOn.{lines_go_on}
use Rattle.cbt_history.proofs.GoodLines.{Refused, AllGoOn, all_go_on, first_go_on, events_high, with_script_high, inside_script}
use Rattle.cbt_history.proofs.HistoriesBack.{first_line, halves, each_utf8, script_utf8, script_read}
use Rattle.cbt_history.proofs.OneLine.{event_one_line}
use Rattle.cbt_history.proofs.Pieces.{some_piece}
use Rattle.cbt_history.proofs.ScriptBack.{IsOther, lines_other, lines_no_feed, parts_back}
use Rattle.cbt_history.proofs.Utf8.{text_taken}

-- ---- events

behind_event : (e : Event) (n m : ℕ) (more : Result (List Event) HistoryFault) → Refused (with_event (Some e) n more) m → Refused more m
behind_event e n m (Ok events) is = absurd (cc)
behind_event e n m (Err fault) is = is

-- lines of events, and what stands behind them
pub events_past : (n place : ℕ) (s : State) (events : List Event) (front back : Lines) (rest : List ℕ) (m : ℕ) → place + length events ≤ 2 ^ 64 → AreEvents s events
    → AllByRecursion IsUtf8 (event_lines place s events) → event_lines place s events ≡ front ++ back → Refused (events_in n place (pieces 10 (lined front ++ rest))) m → n + length front ≤ m
events_past n place s events [] back rest m few are utf8 same is = let high = events_high n place (pieces 10 rest) m is in omega arith
events_past n place s [] (first ∷ front) back rest m few are utf8 same is = absurd (cc)
events_past n place s (e ∷ events) (first ∷ front) back rest m few are utf8 same is =
    let line = event_line place e (outcome s e).reply in
    let more = lined front ++ rest in
    let low : place < 2 ^ 64 = omega arith in
    let head : line ≡ first = cc in
    let tail : event_lines (place + 1) (happens s e) events ≡ front ++ back = cc in
    let here : events_in n place (pieces 10 (lined (line ∷ front) ++ rest)) ≡ with_event (Some e) n (events_in (n + 1) (place + 1) (pieces 10 more)) =
    ap (λ t. events_in n place (pieces 10 t)) (append_assoc (line ++ 10 ∷ []) (lined front) rest ∙ append_assoc line (10 ∷ []) more)
    ∙ ap (events_in n place) (pieces_behind 10 line more (event_one_line place e (outcome s e).reply low are.0 are.1))
    ∙ events_in-cons n place line (pieces 10 more) (some_piece more)
    ∙ ap (λ o. with_event o n (events_in (n + 1) (place + 1) (pieces 10 more))) (text_taken line (event_in place line) utf8.0 ∙ event_back place s e low are.0 are.1) in
    let high : n + 1 + length front ≤ m =
    events_past (n + 1) (place + 1) (happens s e) events front back rest m (omega arith) are.2 utf8.1 tail
    (behind_event e n m (events_in (n + 1) (place + 1) (pieces 10 more)) (sym here ∙ ap (λ l. events_in n place (pieces 10 (lined (l ∷ front) ++ rest))) head ∙ is)) in
    omega arith

-- ---- where some lines end among others

-- before the line `events`, or behind it
record Within (lines front : Lines) : Type 0 where
  pub others : Lines
  pub whole : lines ≡ front ++ others

record Past (lines events front back : Lines) : Type 0 where
  pub begun : Lines
  pub whole : front ≡ lines ++ codes "events" ∷ begun
  pub left : events ≡ begun ++ back

place_of : (lines events front back : Lines) → lines ++ codes "events" ∷ events ≡ front ++ back → Within lines front ⊎ Past lines events front back
place_of lines events [] back same = inl (record { others = lines; whole = refl })
place_of [] events (first ∷ front) back same =
    let head : codes "events" ≡ first = cc in
    let tail : events ≡ front ++ back = cc in
    inr (record { begun = front; whole = ap (λ l. l ∷ front) (sym head); left = tail })
place_of (line ∷ lines) events (first ∷ front) back same =
    let head : line ≡ first = cc in
    let tail : lines ++ codes "events" ∷ events ≡ front ++ back = cc in
    ⊎_elim (λ (w : Within lines front). inl (record { others = w.others; whole = ap (λ l. l ∷ lines) head ∙ ap (λ ls. first ∷ ls) w.whole }))
    (λ (p : Past lines events front back). inr (record { begun = p.begun; whole = ap (λ l. l ∷ front) (sym head) ∙ ap (λ ls. line ∷ ls) p.whole; left = p.left }))
    (place_of lines events front back tail)

-- ---- the whole

begins : (lines : Lines) (rest : List ℕ) → history_of_text (lined (codes "script" ∷ lines) ++ rest) ≡ parts_read (parts_of (pieces 10 (lined lines ++ rest)))
unfolding history_of_text
begins lines rest = ap behind_first (first_line (codes "script") (lined lines ++ rest) (one_line_word (codes "script") (word_literal (codes "script") refl)))

module _ (s : Script) (opening : State) (events : List Event) (is : IsScript s) (few : length events ≤ 2 ^ 64) (are : AreEvents opening events)
    (utf8 : IsUtf8 (codes "script\n" ++ script_text s ++ codes "events\n" ++ lined (event_lines 0 opening events))) where
  abbrev lines : Lines
  lines = script_lines s

  feeds : AllByRecursion NoFeed lines
  feeds = lines_no_feed s is (script_utf8 s opening events is few are utf8)

  other : AllByRecursion IsOther lines
  other = lines_other s is (script_utf8 s opening events is few are utf8)

  within : (front : Lines) (rest : List ℕ) (m : ℕ) → Within lines front → Refused (parts_read (parts_of (pieces 10 (lined front ++ rest)))) m → length front + 1 < m
  within front rest m w bad =
      let on : AllGoOn [] lines = all_go_on [] lines (lines_go_on s is (script_utf8 s opening events is few are utf8)) in
      let high : 2 + length front ≤ m =
      inside_script front rest m (halves NoFeed front w.others (subst (AllByRecursion NoFeed) w.whole feeds)).0 (halves IsOther front w.others (subst (AllByRecursion IsOther) w.whole other)).0
      (first_go_on [] front w.others (subst (AllGoOn []) w.whole on)) bad in
      omega arith

  past : (front back : Lines) (rest : List ℕ) (m : ℕ) → Past lines (event_lines 0 opening events) front back → Refused (parts_read (parts_of (pieces 10 (lined front ++ rest)))) m
      → length front + 1 < m
  past front back rest m p bad =
      let behind = lined p.begun ++ rest in
      let n = length lines + 2 + 1 in
      let text : lined front ++ rest ≡ lined lines ++ (codes "events" ++ 10 ∷ behind) =
      ap (λ ls. lined ls ++ rest) p.whole ∙ ap (λ t. t ++ rest) (lined_append lines (codes "events" ∷ p.begun)) ∙ append_assoc (lined lines) (lined (codes "events" ∷ p.begun)) rest in
      let read : parts_read (parts_of (pieces 10 (lined front ++ rest))) ≡ with_script (Ok s) (events_in n 0 (pieces 10 behind)) =
      ap (λ t. parts_read (parts_of (pieces 10 t))) text ∙ ap parts_read (parts_back lines behind feeds other)
      ∙ ap (λ r. with_script r (events_in n 0 (pieces 10 behind))) (script_read s opening events is few are utf8) in
      let long : length front ≡ length lines + suc (length p.begun) = ap length p.whole ∙ length-append lines (codes "events" ∷ p.begun) in
      let high : n + length p.begun ≤ m =
      with_script_high (Ok s) (events_in n 0 (pieces 10 behind)) (n + length p.begun) m (λ i none. absurd (cc))
      (λ i late. events_past n 0 opening events p.begun back rest i (omega arith) are (each_utf8 s opening events is few are utf8).1.1 p.left late) (sym read ∙ bad) in
      omega arith

  pub good_lines : (front back : Lines) (rest : List ℕ) (m : ℕ) → codes "script" ∷ (lines ++ codes "events" ∷ event_lines 0 opening events) ≡ front ++ back → 0 < length front
      → Refused (history_of_text (lined front ++ rest)) m → length front < m
  good_lines [] back rest m same some bad = absurd (omega arith)
  good_lines (first ∷ front) back rest m same some bad =
      let head : codes "script" ≡ first = cc in
      let tail : lines ++ codes "events" ∷ event_lines 0 opening events ≡ front ++ back = cc in
      let refused : Refused (parts_read (parts_of (pieces 10 (lined front ++ rest)))) m = sym (begins front rest) ∙ ap (λ l. history_of_text (lined (l ∷ front) ++ rest)) head ∙ bad in
      let high : length front + 1 < m =
      ⊎_elim (λ (w : Within lines front). within front rest m w refused) (λ (p : Past lines (event_lines 0 opening events) front back). past front back rest m p refused)
      (place_of lines (event_lines 0 opening events) front back tail) in
      omega arith

-- The line `events`, looked for line by line.
use Rattle.std.proofs.Common.{◌≡◌, ℕ, ◌+◌, ◌-◌, ◌≤◌, true, false, cond, List, [], ◌∷◌, ◌++◌, append_assoc, append-nil, length, take, drop, bytes_eq, codes, Option, Some, None, refl, sym, ap, ◌∙◌, arith, length-append, length-drop, take_at}
use Rattle.std.proofs.lemmas.List.{take-append-drop, drop-drop, length-take, take_all}
use Rattle.cbt_lex.specs.Lines.{lined}
use Rattle.cbt_lex.specs.Pieces.{pieces}
use Rattle.cbt_lex.proofs.Pieces.{drop_past}
use Rattle.cbt_history.specs.HistoriesRead.{ended_line, Parts, with_line, parts_of}
use Rattle.cbt_history.proofs.Pieces.{HasPieces, some_piece, pieces_cut, pieces_whole, whole_cut}

-- the parts of what stands from a place on
abbrev pub parts_at : List ℕ → ℕ → Parts
parts_at text at = parts_of (pieces 10 (drop at text))

-- what a slice from a place on begins with
pub from_place : (text : List ℕ) (at : ℕ) (cut : Option (List ℕ × List ℕ)) → ended_line (take (length text - at) (drop at text)) ≡ cut → ended_line (drop at text) ≡ cut
from_place text at cut is = ap ended_line (sym (take_all (length text - at) (drop at text) (omega (arith, length-drop at text)))) ∙ is

-- the lines before a place are of the script
pub record AreBefore (text : List ℕ) (at lines : ℕ) : Type 0 where
  pub within : at ≤ length text
  pub few : lines ≤ at
  pub script : lined (parts_of (pieces 10 text)).script ≡ take at text ++ lined (parts_at text at).script
  pub counted : length (parts_of (pieces 10 text)).script ≡ lines + length (parts_at text at).script
  pub events : (parts_of (pieces 10 text)).events ≡ (parts_at text at).events

pub none_before : (text : List ℕ) → AreBefore text 0 0
none_before text = record { within = omega arith; few = omega arith; script = refl; counted = omega arith; events = refl }

pub parts_of-cons : (line : List ℕ) (ps : List (List ℕ)) → HasPieces ps
    → parts_of (line ∷ ps) ≡ cond (bytes_eq line (codes "events")) (record { script = []; events = Some ps }) (with_line line (parts_of ps))
parts_of-cons line ps has =
    ap (λ qs. parts_of (line ∷ qs)) has.parts
    ∙ ap (λ qs. cond (bytes_eq line (codes "events")) (record { script = []; events = Some qs }) (with_line line (parts_of qs))) (sym has.parts)

-- a line from a place on
module _ (text line more : List ℕ) (at : ℕ) (within : at ≤ length text) (is : ended_line (drop at text) ≡ Some (line, more)) where
  left : drop at text ≡ line ++ 10 ∷ more
  left = whole_cut (drop at text) line more is

  pub room_at : at + length line + 1 + length more ≡ length text
  room_at = omega (arith, length-drop at text, length-append line (10 ∷ more), ap length left)

  pub more_is : drop (at + length line + 1) text ≡ more
  more_is =
      let e : at + length line + 1 ≡ at + (length line + 1) = omega arith in
      ap (λ n. drop n text) e ∙ sym (drop-drop (length line + 1) at text) ∙ ap (drop (length line + 1)) left ∙ drop_past line 10 more (length line) refl

  pub before_is : take (at + length line + 1) text ≡ take at text ++ (line ++ 10 ∷ [])
  before_is =
      let whole : text ≡ (take at text ++ (line ++ 10 ∷ [])) ++ more =
      sym (take-append-drop at text) ∙ ap (λ x. take at text ++ x) (left ∙ sym (append_assoc line (10 ∷ []) more)) ∙ sym (append_assoc (take at text) (line ++ 10 ∷ []) more) in
      let long : length (take at text ++ (line ++ 10 ∷ [])) ≡ at + length line + 1 =
      omega (arith, length-append (take at text) (line ++ 10 ∷ []), length-append line (10 ∷ []), length-take at text) in
      ap (take (at + length line + 1)) whole ∙ take_at (take at text ++ (line ++ 10 ∷ [])) more (at + length line + 1) long

module _ (text line more : List ℕ) (at lines : ℕ) (before : AreBefore text at lines) (is : ended_line (drop at text) ≡ Some (line, more)) where
  parts_here : parts_at text at ≡ cond (bytes_eq line (codes "events")) (record { script = []; events = Some (pieces 10 more) }) (with_line line (parts_of (pieces 10 more)))
  parts_here = ap parts_of (pieces_cut (drop at text) line more is) ∙ parts_of-cons line (pieces 10 more) (some_piece more)

  pub room : at + length line + 1 + length more ≡ length text
  room = room_at text line more at before.within is

  -- one line more
  pub line_before : bytes_eq line (codes "events") ≡ false → AreBefore text (at + length line + 1) (lines + 1)
  line_before other =
      let here : parts_at text at ≡ with_line line (parts_at text (at + length line + 1)) =
      parts_here ∙ ap (λ t. cond t (record { script = []; events = Some (pieces 10 more) }) (with_line line (parts_of (pieces 10 more)))) other
      ∙ ap (λ r. with_line line (parts_of (pieces 10 r))) (sym (more_is text line more at before.within is)) in
      let next = parts_at text (at + length line + 1) in
      record {
        within = (let r = room in omega arith);
        few = (let f = before.few in omega arith);
        script =
            before.script ∙ ap (λ p. take at text ++ lined p.script) here
            ∙ sym (append_assoc (take at text) (line ++ 10 ∷ []) (lined next.script)) ∙ ap (λ x. x ++ lined next.script) (sym (before_is text line more at before.within is));
        counted = (let c = before.counted in let h = ap (λ p. length p.script) here in omega arith);
        events = before.events ∙ ap (λ p. p.events) here;
      }

  -- the line `events`
  found : bytes_eq line (codes "events") ≡ true → parts_at text at ≡ record { script = []; events = Some (pieces 10 more) }
  found same = parts_here ∙ ap (λ t. cond t (record { script = []; events = Some (pieces 10 more) }) (with_line line (parts_of (pieces 10 more)))) same

  pub script_found : bytes_eq line (codes "events") ≡ true → take at text ≡ lined (parts_of (pieces 10 text)).script
  script_found same = sym (before.script ∙ ap (λ p. take at text ++ lined p.script) (found same) ∙ append-nil (take at text))

  pub lines_found : bytes_eq line (codes "events") ≡ true → lines ≡ length (parts_of (pieces 10 text)).script
  lines_found same = let c = before.counted in let h = ap (λ p. length p.script) (found same) in omega arith

  pub events_found : bytes_eq line (codes "events") ≡ true → (parts_of (pieces 10 text)).events ≡ Some (pieces 10 more)
  events_found same = before.events ∙ ap (λ p. p.events) (found same)

module _ (text : List ℕ) (at lines : ℕ) (before : AreBefore text at lines) (is : ended_line (drop at text) ≡ None) where
  missing : parts_at text at ≡ record { script = []; events = None }
  missing = ap parts_of (pieces_whole (drop at text) is)

  pub script_missing : take at text ≡ lined (parts_of (pieces 10 text)).script
  script_missing = sym (before.script ∙ ap (λ p. take at text ++ lined p.script) missing ∙ append-nil (take at text))

  pub lines_missing : lines ≡ length (parts_of (pieces 10 text)).script
  lines_missing = let c = before.counted in let h = ap (λ p. length p.script) missing in omega arith

  pub events_missing : (parts_of (pieces 10 text)).events ≡ None
  events_missing = before.events ∙ ap (λ p. p.events) missing

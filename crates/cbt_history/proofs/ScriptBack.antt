-- The script of a history text is read back, up to the line `events`.
use Rattle.std.proofs.Common.{◌≡◌, ℕ, ◌+◌, Bool, true, false, cond, List, [], ◌∷◌, ◌++◌, append_assoc, codes, Some, None, Result, Ok, Err, IsUtf8, refl, sym, ap, ◌∙◌}
use Rattle.std.specs.List.{AllByRecursion}
use Rattle.std.specs.Str.{is_utf8}
use Rattle.cbt_lex.specs.Lines.{lined}
use Rattle.cbt_lex.specs.Pieces.{pieces}
use Rattle.cbt_lex.proofs.ByRecursion.{all_weaker}
use Rattle.cbt_lex.proofs.LinesBack.{trimmed_is, NoFeed, IsPrinted, lines_of-lined}
use Rattle.cbt_lex.proofs.Pieces.{pieces_behind}
use Rattle.cbt_lex.proofs.WordsBack.{IsWord, word_literal, no_space, word_next, led_last, closes_word, one_line_word}
use Rattle.cbt_script.specs.declared.cause.Cause.{Cause}
use Rattle.cbt_script.specs.declared.cause.Cause.TheVariants.{NotUtf8, Word}
use Rattle.cbt_script.specs.declared.cause.ScriptFault.{ScriptFault}
use Rattle.cbt_script.specs.declared.script.Script.{Script}
use Rattle.cbt_script.specs.Causes.{◌>>=◌}
use Rattle.cbt_script.specs.Drafts.{start}
use Rattle.cbt_script.specs.Keywords.{keyword_of}
use Rattle.cbt_script.specs.Printed.{script_lines, script_text}
use Rattle.cbt_script.specs.Reading.{text_field, by_keyword, taken, line_step, at_line, read_on, read_lines, script_of}
use Rattle.cbt_script.specs.Rules.{IsScript}
use Rattle.cbt_script.proofs.FieldsBack.{bytes_same}
use Rattle.cbt_script.proofs.PrintedBack.{lines_printed}
use Rattle.cbt_script.proofs.ReadsAgain.{reads_again}
use Rattle.cbt_history.specs.HistoriesRead.{with_line, parts_of}
use Rattle.cbt_history.specs.ScriptsRead.{if_same, canonical, or_bad_line, script_in}
use Rattle.cbt_history.proofs.Pieces.{some_piece}
use Rattle.cbt_history.proofs.Sections.{parts_of-cons}
use Rattle.cbt_history.proofs.StepsBack.{words_differ}

-- ---- no line of a script is the line `events`

abbrev pub IsOther : List ℕ → Type 0
IsOther line = line ≡ codes "events" → ⊥

abbrev Read : Type 0
Read = Result Script ScriptFault

events_word : IsWord (codes "events")
events_word = word_literal (codes "events") refl

taken_none : (d : _) → taken d (codes "events") ≡ Err Word
unfolding keyword_of
taken_none d = ap (λ (p : List ℕ × List ℕ). by_keyword (keyword_of p.0) d p.1) (word_next (codes "events") [] (no_space (codes "events") events_word) tt)

refused : (d e : _) → line_step d (codes "events") ≡ Ok e → ⊥
unfolding line_step
refused d e is =
    go (is_utf8 (codes "events")) (sym (ap (λ text. text_field text >>= (λ t. taken d t)) (trimmed_is (codes "events") (led_last (codes "events") events_word) (closes_word (codes "events") events_word))) ∙ is)
  where
    go : (t : Bool) → ◌≡◌ {A = Result _ Cause} (cond t (Ok (codes "events")) (Err NotUtf8) >>= (λ text. taken d text)) (Ok e) → ⊥
    go true is = let none = taken_none d in absurd (cc)
    go false is = absurd (cc)

on_other : (n : ℕ) (lines : List (List ℕ)) (s : Script) (r : Result _ Cause) → ◌≡◌ {A = Read} (read_on (λ e. read_lines (n + 1) e lines) (at_line n r)) (Ok s)
    → ((e : _) → read_lines (n + 1) e lines ≡ Ok s → AllByRecursion IsOther lines) → (((e : _) → r ≡ Ok e → ⊥) → ⊥) × AllByRecursion IsOther lines
on_other n lines s (Ok d) is ih = ((λ none. none d refl), ih d is)
on_other n lines s (Err why) is ih = absurd (cc)

other_lines : (n : ℕ) (d : _) (lines : List (List ℕ)) (s : Script) → read_lines n d lines ≡ Ok s → AllByRecursion IsOther lines
other_lines n d [] s is = tt
other_lines n d (line ∷ lines) s is =
    let p = on_other n lines s (line_step d line) is (λ e. other_lines (n + 1) e lines s) in
    ((λ same. p.0 (λ e ok. refused d e (ap (line_step d) (sym same) ∙ ok))), p.1)

-- ---- the canonical text

module _ (s : Script) (is : IsScript s) (utf8 : IsUtf8 (script_text s)) where
  pub canonical_back : canonical (script_text s) ≡ Some s
  unfolding canonical
  canonical_back = ap (if_same (script_text s)) (reads_again s is utf8) ∙ ap (λ t. cond t (Some s) None) (bytes_same (script_text s))

  pub script_back : script_in (script_text s) ≡ Ok s
  script_back = ap (or_bad_line (script_text s)) canonical_back

  pub lines_other : AllByRecursion IsOther (script_lines s)
  unfolding script_text script_of
  lines_other = other_lines 1 start (script_lines s) s (ap (read_lines 1 start) (sym (lines_of-lined (script_lines s) (lines_printed s is))) ∙ reads_again s is utf8)

  pub lines_no_feed : AllByRecursion NoFeed (script_lines s)
  lines_no_feed = all_weaker (λ (line : List ℕ) (printed : IsPrinted line). printed.2) (script_lines s) (lines_printed s is)

-- ---- parts

events_line : NoFeed (codes "events")
events_line = one_line_word (codes "events") events_word

pub parts_back : (lines : List (List ℕ)) (rest : List ℕ) → AllByRecursion NoFeed lines → AllByRecursion IsOther lines
    → parts_of (pieces 10 (lined lines ++ (codes "events" ++ 10 ∷ rest))) ≡ record { script = lines; events = Some (pieces 10 rest) }
parts_back [] rest feeds other = ap parts_of (pieces_behind 10 (codes "events") rest events_line) ∙ parts_of-cons (codes "events") (pieces 10 rest) (some_piece rest)
parts_back (line ∷ lines) rest feeds other =
    let more = lined lines ++ (codes "events" ++ 10 ∷ rest) in
    let whole : lined (line ∷ lines) ++ (codes "events" ++ 10 ∷ rest) ≡ line ++ 10 ∷ more =
    append_assoc (line ++ 10 ∷ []) (lined lines) (codes "events" ++ 10 ∷ rest) ∙ append_assoc line (10 ∷ []) more in
    ap (λ t. parts_of (pieces 10 t)) whole ∙ ap parts_of (pieces_behind 10 line more feeds.0) ∙ parts_of-cons line (pieces 10 more) (some_piece more)
    ∙ ap (λ t. cond t (record { script = []; events = Some (pieces 10 more) }) (with_line line (parts_of (pieces 10 more)))) (words_differ line (codes "events") other.0)
    ∙ ap (with_line line) (parts_back lines rest feeds.1 other.1)

-- Reading on behind one line.
use Rattle.std.proofs.Common.{◌≡◌, ℕ, ◌+◌, ◌<◌, ◌≤◌, List, [], ◌∷◌, length, Option, Some, None, Result, Ok, Err, ◌==◌, ◌⊎◌, inl, inr, ⊎_elim, refl, sym, ap, ◌∙◌, arith, length-drop}
use Rattle.std.specs.List.{position}
use Rattle.cbt_lex.specs.Lines.{line_and_rest, cut_at, lines_of}
use Rattle.cbt_lex.proofs.Lined.{lines_begin}
use Rattle.cbt_script.specs.declared.cause.ScriptFault.{ScriptFault}
use Rattle.cbt_script.specs.declared.cause.ScriptFault.TheVariants.{Bad, NoMemory}
use Rattle.cbt_script.specs.declared.draft.Draft.{Draft}
use Rattle.cbt_script.specs.declared.script.Script.{Script}
use Rattle.cbt_script.specs.Reading.{line_step, at_line, read_on, read_lines, finished, Ends}

some_line : (text : List ℕ) → 0 < length text → lines_of text ≡ (line_and_rest text).0 ∷ lines_of (line_and_rest text).1
some_line [] some = absurd (omega arith)
some_line (b ∷ bs) some = lines_begin b bs

shorter_at : (k : Option ℕ) (text : List ℕ) → 0 < length text → length (cut_at k text).1 < length text
shorter_at (Some k) text some = omega (arith, length-drop (k + 1) text)
shorter_at None text some = some

abbrev no_room : Result Script ScriptFault
no_room = Err NoMemory

module _ (n : ℕ) (d : Draft) (rest line more : List ℕ) (parts : (line, more) ≡ line_and_rest rest) (some : 0 < length rest) where
  first_line : read_lines n d (lines_of rest) ≡ read_on (λ e. read_lines (n + 1) e (lines_of more)) (at_line n (line_step d line))
  first_line = ap (read_lines n d) (some_line rest some)
      ∙ ap (λ (p : List ℕ × List ℕ). read_on (λ e. read_lines (n + 1) e (lines_of p.1)) (at_line n (line_step d p.0))) (sym parts)

  pub read_further : (new : Draft) → at_line n (line_step d line) ≡ Ok new → read_lines (n + 1) new (lines_of more) ≡ read_lines n d (lines_of rest)
  read_further new is = sym (first_line ∙ ap (read_on (λ e. read_lines (n + 1) e (lines_of more))) is)

  pub shorter_rest : length more < length rest
  shorter_rest = let e = ap (λ (p : List ℕ × List ℕ). length p.1) parts in let l = shorter_at (position (λ b. b == 10) rest) rest some in omega arith

  -- a line that is refused refuses the whole
  pub refused_here : (new : Draft) (whole : Result Script ScriptFault) → read_lines n d (lines_of rest) ≡ whole → (fault : ScriptFault)
      → Ends (Err fault) new (at_line n (line_step d line)) → (Err fault ≡ whole) ⊎ (Err fault ≡ no_room)
  refused_here new whole same (Bad bad) is = inl (sym (ap (read_on (λ e. read_lines (n + 1) e (lines_of more))) is) ∙ sym first_line ∙ same)
  refused_here new whole same NoMemory is = inr refl

no_line : (text : List ℕ) → length text ≤ 0 → lines_of text ≡ []
no_line [] none = refl
no_line (b ∷ bs) none = absurd (omega arith)

-- behind the last line
pub all_read : (n : ℕ) (d : Draft) (rest : List ℕ) (whole result : Result Script ScriptFault) → length rest ≤ 0 → read_lines n d (lines_of rest) ≡ whole
    → (result ≡ finished n d) ⊎ (result ≡ Err NoMemory) → (result ≡ whole) ⊎ (result ≡ Err NoMemory)
all_read n d rest whole result none same told =
    ⊎_elim (λ (is : result ≡ finished n d). inl (is ∙ ap (read_lines n d) (sym (no_line rest none)) ∙ same)) (λ (out : result ≡ Err NoMemory). inr out) told

-- What lines that need no trimming make of a draft, one after another.
use Rattle.std.proofs.Common.{◌≡◌, ℕ, ◌+◌, false, cond, List, [], ◌∷◌, ◌++◌, Result, Ok, Err, IsUtf8, ap, ◌∙◌}
use Rattle.std.specs.List.{AllByRecursion}
use Rattle.cbt_lex.specs.Lines.{trimmed}
use Rattle.cbt_script.specs.declared.cause.Cause.{Cause}
use Rattle.cbt_script.specs.declared.cause.Cause.TheVariants.{Unended}
use Rattle.cbt_script.specs.declared.cause.ScriptFault.TheVariants.{Bad}
use Rattle.cbt_script.specs.declared.draft.Draft.{Draft}
use Rattle.cbt_script.specs.Causes.{and_then}
use Rattle.cbt_script.specs.Clients.{is_inside}
use Rattle.cbt_script.specs.Drafts.{script_from}
use Rattle.cbt_script.specs.Reading.{text_field, taken, line_step, at_line, read_on, read_lines, finished}
use Rattle.cbt_script.proofs.Utf8.{text_taken}

abbrev pub drafted : Draft → List (List ℕ) → Result Draft Cause
drafted d [] = Ok d
drafted d (line ∷ lines) = and_then (taken d line) (λ e. drafted e lines)

-- one line, and then the others
pub drafted_on : (d e f : Draft) (line : List ℕ) (lines : List (List ℕ)) → taken d line ≡ Ok e → drafted e lines ≡ Ok f → drafted d (line ∷ lines) ≡ Ok f
drafted_on d e f line lines one more = ap (λ r. and_then r (λ x. drafted x lines)) one ∙ more

joined_if : (r : Result Draft Cause) (lines more : List (List ℕ)) (e : Draft) → and_then r (λ x. drafted x lines) ≡ Ok e
    → ((x : Draft) → drafted x lines ≡ Ok e → drafted x (lines ++ more) ≡ drafted e more) → and_then r (λ x. drafted x (lines ++ more)) ≡ drafted e more
joined_if (Ok x) lines more e is ih = ih x is
joined_if (Err why) lines more e is ih = absurd (cc)

-- the same to an equal draft
pub drafted_same : (d e f : Draft) (lines : List (List ℕ)) → drafted d lines ≡ Ok e → e ≡ f → drafted d lines ≡ Ok f
drafted_same d e f lines is same = is ∙ ap Ok same

-- some lines, and others behind them
pub drafted_append : (d e : Draft) (lines more : List (List ℕ)) → drafted d lines ≡ Ok e → drafted d (lines ++ more) ≡ drafted e more
drafted_append d e [] more is = ap (λ r. and_then r (λ x. drafted x more)) is
drafted_append d e (line ∷ lines) more is = joined_if (taken d line) lines more e is (λ x same. drafted_append x e lines more same)

-- both at once
pub drafted_both : (d e f : Draft) (lines more : List (List ℕ)) → drafted d lines ≡ Ok e → drafted e more ≡ Ok f → drafted d (lines ++ more) ≡ Ok f
drafted_both d e f lines more one two = drafted_append d e lines more one ∙ two

-- a line of UTF-8 that begins and ends with no space
abbrev pub IsReady : List ℕ → Type 0
IsReady line = IsUtf8 line × (trimmed line ≡ line)

ready_step : (d : Draft) (line : List ℕ) → IsReady line → line_step d line ≡ taken d line
unfolding line_step
ready_step d line ready = ap (λ l. and_then (text_field l) (taken d)) ready.1 ∙ ap (λ r. and_then r (taken d)) (text_taken line ready.0)

read_if : (n : ℕ) (r : Result Draft Cause) (lines : List (List ℕ)) (e : Draft) → and_then r (λ x. drafted x lines) ≡ Ok e → is_inside e.clients ≡ false
    → ((x : Draft) → drafted x lines ≡ Ok e → read_lines (n + 1) x lines ≡ Ok (script_from e)) → read_on (λ x. read_lines (n + 1) x lines) (at_line n r) ≡ Ok (script_from e)
read_if n (Ok x) lines e is outside ih = ih x is
read_if n (Err why) lines e is outside ih = absurd (cc)

-- the script that such lines say
pub read_drafted : (n : ℕ) (d e : Draft) (lines : List (List ℕ)) → AllByRecursion IsReady lines → drafted d lines ≡ Ok e → is_inside e.clients ≡ false
    → read_lines n d lines ≡ Ok (script_from e)
read_drafted n d e [] ready is outside =
    let same : d ≡ e = cc in
    ap (finished n) same ∙ ap (λ t. cond t (Err (Bad (record { line = n; why = Unended }))) (Ok (script_from e))) outside
read_drafted n d e (line ∷ lines) ready is outside =
    ap (λ r. read_on (λ x. read_lines (n + 1) x lines) (at_line n r)) (ready_step d line ready.0)
    ∙ read_if n (taken d line) lines e is outside (λ x same. read_drafted (n + 1) x e lines ready.1 same outside)

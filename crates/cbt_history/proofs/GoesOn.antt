-- The lines that a canonical text begins with go on.
use Rattle.std.proofs.Common.{◌≡◌, ℕ, ◌<◌, ◌≤◌, ⊎_elim, true, ◌++◌, length, take, drop, Option, is_some, IsUtf8, sym, ap, ◌∙◌, subst}
use Rattle.std.specs.List.{AllByRecursion}
use Rattle.std.proofs.lemmas.Bool.{cases_lt}
use Rattle.std.proofs.lemmas.List.{take_all, take-append-drop}
use Rattle.cbt_lex.specs.Lines.{lined}
use Rattle.cbt_lex.proofs.ByRecursion.{all_behind}
use Rattle.cbt_lex.proofs.LinesBack.{lined_append, lines_utf8}
use Rattle.cbt_script.specs.declared.script.Script.{Script}
use Rattle.cbt_script.specs.Printed.{script_lines, script_text}
use Rattle.cbt_script.specs.Rules.{IsScript}
use Rattle.cbt_history.specs.ScriptsRead.{canonical, goes_on}
use Rattle.cbt_history.proofs.Closings.{lined_utf8}
use Rattle.cbt_history.proofs.Fronts.{Lines, front_at}
use Rattle.cbt_history.proofs.HistoriesBack.{halves}
use Rattle.cbt_history.proofs.ScriptBack.{canonical_back}
use Rattle.cbt_history.proofs.ScriptFronts.{IsFront, fronts, all_lines}

closed : (front : Lines) (f : IsFront front) → AllByRecursion IsUtf8 front → is_some (canonical (lined front ++ lined f.closing)) ≡ true
unfolding script_text
closed front f utf8 =
    let all : AllByRecursion IsUtf8 (script_lines f.script) = subst (AllByRecursion IsUtf8) (sym f.lines) (all_behind IsUtf8 front f.closing utf8 f.closes.utf8) in
    ap (λ t. is_some (canonical t)) (sym (lined_append front f.closing) ∙ ap lined (sym f.lines))
    ∙ ap (λ (o : Option Script). is_some o) (canonical_back f.script f.is (lined_utf8 (script_lines f.script) all))

pub front_goes_on : (front : Lines) → IsFront front → AllByRecursion IsUtf8 front → goes_on (lined front) ≡ true
unfolding goes_on
front_goes_on front f utf8 = f.closes.among (λ closing. is_some (canonical (lined front ++ closing))) (closed front f utf8)

module _ (s : Script) (is : IsScript s) (utf8 : IsUtf8 (script_text s)) where
  front : (n : ℕ) → IsFront (take n (script_lines s))
  front n =
      let lines = script_lines s in
      ⊎_elim (λ (low : n < length lines). front_at IsFront lines n low (fronts s is))
      (λ (high : length lines ≤ n). subst IsFront (sym (take_all n lines high)) (all_lines s is)) (cases_lt n (length lines))

  pub lines_go_on : (n : ℕ) → goes_on (lined (take n (script_lines s))) ≡ true
  unfolding script_text
  lines_go_on n =
      let lines = script_lines s in
      let all : AllByRecursion IsUtf8 (take n lines ++ drop n lines) = subst (AllByRecursion IsUtf8) (sym (take-append-drop n lines)) (lines_utf8 lines utf8) in
      front_goes_on (take n lines) (front n) (halves IsUtf8 (take n lines) (drop n lines) all).0

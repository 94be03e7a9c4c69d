-- Passes on an own list, as it grows.
use Rattle.std.proofs.Common.{◌≡◌, ℕ, ◌≤◌, List, [], ◌∷◌, ◌++◌, append_assoc, Some, None, refl, sym, ap, ◌∙◌, subst, arith}
use Rattle.cbt_model.specs.declared.events.Made.{Made}
use Rattle.cbt_book.specs.OwnLists.{Each, Descends, during}
use Rattle.cbt_book.specs.Passes.{EndsPass, PassFollows, PassesFollow, passes_end}
use Rattle.cbt_book.specs.Spans.{IsSpan, past_of, span_of}
use Rattle.cbt_book.specs.declared.cleaners.PassEnd.{PassEnd}
use Rattle.cbt_book.specs.declared.cleaners.PassLog.{PassLog}
use Rattle.cbt_book.specs.declared.operations.Span.{Span}
use Rattle.cbt_clean.proofs.Counting.{pass_calls}
use Rattle.cbt_clean.proofs.Ending.{ends_right}
use Rattle.cbt_clean.proofs.Keeping.{has_read}
use Rattle.cbt_clean.specs.Phases.{end_of}
use Rattle.cbt_clean.specs.Standing.{StandsFor}
use Rattle.cbt_lost.specs.Tours.{pass_log, Tells}
use Rattle.cbt_lost.specs.declared.tours.Under.{Under}
use Rattle.cbt_lost.proofs.Lists.{above, descends_back}
use Rattle.cbt_lost.proofs.Spanning.{during_front, during_span, past_lower, span_after, span_is, span_on, span_to}

pub pass_on : (l : List Made) (at : ℕ) (log : PassLog) (xs : List Made) → PassFollows l at log → Each (λ m _. log.span.to ≤ m.answer.place) xs → PassFollows (xs ++ l) at log
pass_on l at log xs it high = record {
  spanned = span_on l at log.span xs it.spanned high;
  first = it.first;
  later = it.later;
  calls = during_front log.span xs l high ∙ it.calls;
  may = it.may;
  ends = subst (λ k. EndsPass log.atr it.first k log.end) (sym (during_front log.span xs l high)) it.ends;
}

pub passes_low : (l : List Made) (at : ℕ) (logs : List PassLog) → PassesFollow l at logs → at ≤ passes_end at logs
passes_low l at [] follow = omega arith
passes_low l at (log ∷ logs) follow =
    let rest = passes_low l log.span.to logs follow.1 in let own = span_after l at log.span follow.0.spanned in omega arith

pub passes_on : (l : List Made) (at : ℕ) (logs : List PassLog) (xs : List Made) → PassesFollow l at logs → Each (λ m _. passes_end at logs ≤ m.answer.place) xs → PassesFollow (xs ++ l) at logs
passes_on l at [] xs follow high = tt
passes_on l at (log ∷ logs) xs follow high = (
  pass_on l at log xs follow.0 (past_lower log.span.to (passes_end log.span.to logs) xs (passes_low l log.span.to logs follow.1) high),
  passes_on l log.span.to logs xs follow.1 high,
)

passes_snoc : (l : List Made) (at : ℕ) (logs : List PassLog) (log : PassLog) → PassesFollow l at logs → PassFollows l (passes_end at logs) log → PassesFollow l at (logs ++ log ∷ [])
passes_snoc l at [] log follow last = (last, tt)
passes_snoc l at (next ∷ logs) log follow last = (follow.0, passes_snoc l next.span.to logs log follow.1 last)

end_snoc : (at : ℕ) (logs : List PassLog) (log : PassLog) → passes_end at (logs ++ log ∷ []) ≡ log.span.to
end_snoc at [] log = refl
end_snoc at (next ∷ logs) log = end_snoc next.span.to logs log

-- a pass that has ended follows in the calls behind which it began
pub ended_follows : (u : Under) (end : PassEnd) (calls older : List Made) → StandsFor u.pass calls → end_of u.pass ≡ Some end → u.span ≡ span_of (past_of older) calls → Descends (calls ++ older)
    → PassFollows (calls ++ older) (past_of older) (pass_log u end)
ended_follows u end calls older stands ended spanned falls = by (has_read u.pass.atr u.pass.phase calls stands (λ none. differ (sym none ∙ ended)))
  where
    differ : None ≡ Some end → ⊥
    differ both = cc

    here : during u.span (calls ++ older) ≡ calls
    here = ap (λ span. during span (calls ++ older)) spanned ∙ during_span calls older falls

    by : (first : Made) × (later : List Made) × (calls ≡ later ++ first ∷ []) → PassFollows (calls ++ older) (past_of older) (pass_log u end)
    by (first, later, is) = record {
      spanned = subst (λ span. IsSpan (calls ++ older) (past_of older) span) (sym spanned) (span_is calls older falls);
      first = first;
      later = later;
      calls = here ∙ is;
      may = pass_calls u.pass.atr u.pass.phase first later (subst (λ k. StandsFor u.pass k) is stands);
      ends = subst (λ k. EndsPass u.pass.atr first k end) (sym (here ∙ is))
          (ends_right u.pass.atr u.pass.phase first later end (subst (λ k. StandsFor u.pass k) is stands) ended);
    }

-- one pass more
pub tells_more : (base told calls : List Made) (logs : List PassLog) (u : Under) (end : PassEnd) → Tells base told logs → StandsFor u.pass calls → end_of u.pass ≡ Some end
    → (Descends (calls ++ (told ++ base)) → u.span ≡ span_of (past_of (told ++ base)) calls) → Tells base (calls ++ told) (logs ++ pass_log u end ∷ [])
tells_more base told calls logs u end tells stands ended spanned falls = by (subst Descends (append_assoc calls told base) falls)
  where
    by : Descends (calls ++ (told ++ base))
        → PassesFollow ((calls ++ told) ++ base) (past_of base) (logs ++ pass_log u end ∷ []) × (passes_end (past_of base) (logs ++ pass_log u end ∷ []) ≡ past_of ((calls ++ told) ++ base))
    by down =
        let before = tells (descends_back calls (told ++ base) down) in
        let all = passes_on (told ++ base) (past_of base) logs calls before.0 (subst (λ n. Each (λ m _. n ≤ m.answer.place) calls) (sym before.1) (above calls (told ++ base) down)) in
        let last = ended_follows u end calls (told ++ base) stands ended (spanned down) down in
        let follow = passes_snoc (calls ++ (told ++ base)) (past_of base) logs (pass_log u end) all (subst (λ n. PassFollows (calls ++ (told ++ base)) n (pass_log u end)) (sym before.1) last) in (
          subst (λ l. PassesFollow l (past_of base) (logs ++ pass_log u end ∷ [])) (sym (append_assoc calls told base)) follow,
          end_snoc (past_of base) logs (pass_log u end) ∙ ap (λ (span : Span). span.to) (spanned down) ∙ span_to calls (told ++ base) ∙ ap past_of (sym (append_assoc calls told base)),
        )

use Rattle.std.proofs.Common.{rules, lit<, refl}
use Rattle.std.proofs.lemmas.Str.Pattern.{split_parts, starts_char}
use Rattle.cbt_subdoc.proofs.Quotes.{step-two, step-end, step-none}
use Rattle.cbt_subdoc.proofs.parsing.quoted_name.Goals as goal

pub loop-piece-preserved : goal.loop-piece-preserved
loop-piece-preserved c =
    let parts = split_parts 96 _ _ c.split_once.ensures.cases (lit< tt) in
    let test = starts_char 96 _ _ c.starts_with.ensures.cases (lit< tt) (lit< tt) in
    (c.behind_first-rest.utf8, step-two c.args.text.now c.loop-piece.name _ _ _ _ _ _ c.loop-piece.invariant.1 (rw c.in-Some.is at parts) (test.0 (search rules)) c.in_ok-push_str.ensures.ok c.in_ok-push_str-2.ensures.ok c.behind_first-rest.ensures)

pub returns-then-not-starts_with : goal.returns-then-not-starts_with
returns-then-not-starts_with c =
    let parts = split_parts 96 _ _ c.split_once.ensures.cases (lit< tt) in
    let test = starts_char 96 _ _ c.starts_with.ensures.cases (lit< tt) (lit< tt) in
    step-end c.args.text.now c.loop-piece.name _ _ _ _ c.loop-piece.invariant.1 (rw c.in-Some.is at parts) (λ first. absurd (let h = test.1 first in let k = c.if-not-starts_with.true in cc)) c.in_ok-push_str.ensures.ok

pub returns : goal.returns
returns c =
    let parts = split_parts 96 _ _ c.split_once.ensures.cases (lit< tt) in
    (step-none c.args.text.now c.loop-piece.name _ c.loop-piece.invariant.1 (rw c.in_default.is at parts), refl)

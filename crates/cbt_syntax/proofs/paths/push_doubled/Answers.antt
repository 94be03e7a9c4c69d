use Rattle.std.proofs.Common.{rules, lit<}
use Rattle.std.proofs.lemmas.Str.Pattern.{split_parts}
use Rattle.cbt_syntax.proofs.Doubled.{step-more, step-done}
use Rattle.cbt_syntax.proofs.Joins.{on_ok}
use Rattle.cbt_syntax.proofs.paths.push_doubled.Goals as goal

pub loop-piece-preserved : goal.loop-piece-preserved
loop-piece-preserved c =
    let parts = split_parts 96 _ _ c.split_once.ensures.cases (lit< tt) in
    (search rules, step-more _ _ _ c.loop-piece.rest.now _ _ _ (rw c.in-Some.is at parts) c.in_ok-push_str.ensures.ok c.in_ok-push_str-2.ensures.ok c.loop-piece.invariant.1)

pub returns : goal.returns
returns c =
    let parts = split_parts 96 _ _ c.split_once.ensures.cases (lit< tt) in
    on_ok c.push_str-2.result c.push_str-2.ensures.ok (λ made. step-done _ _ c.loop-piece.rest.now _ (rw c.in_default.is at parts) made c.loop-piece.invariant.1)

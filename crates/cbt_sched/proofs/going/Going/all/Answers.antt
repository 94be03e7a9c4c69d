use Rattle.std.proofs.Common.{◌+◌, List, length, ap, ◌∙◌, ℕ}
use Rattle.std.proofs.lemmas.List.{length_push}
use Rattle.cbt_sched.proofs.Calling.{holds-at_ok}
use Rattle.cbt_sched.proofs.Leading.{each-leads, each-next}
use Rattle.cbt_sched.proofs.going.Going.all.Goals as goal

pub loop-at-preserved : goal.loop-at-preserved
loop-at-preserved c =
    let grown = holds-at_ok c.push.result _ c.if-is_err.ensures.value c.push.ensures.ok in
    record {
      so_far = ap (λ (xs : List ℕ). length xs) grown ∙ length_push c.loop-at.next (c.loop-at.at + 1) ∙ ap (λ n. n + 1) c.loop-at.invariant.so_far;
      each = each-next c.loop-at.next c.push.new.self c.loop-at.at c.loop-at.invariant.so_far grown c.loop-at.invariant.each;
    }

pub returns : goal.returns
returns c = each-leads c.loop-at.next c.loop-at.invariant.each

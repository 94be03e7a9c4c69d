use Rattle.std.proofs.Common.{◌≡◌, ◌+◌, ◌≤◌, length, drop, [], ◌++◌, take, sym, ap, ◌∙◌, subst, arith}
use Rattle.std.proofs.Math.ListN.{drop_of_length-le}
use Rattle.cbt_book.specs.Shares.{inactive}
use Rattle.cbt_lost.specs.Gone.{gone_with}
use Rattle.cbt_lost.proofs.Inactive.{gone_all, gone_few, gone_more, row_next}
use Rattle.cbt_lost.proofs.gone.gone_of.Goals as goal

pub loop-row-preserved : goal.loop-row-preserved
loop-row-preserved c =
    let gone = c.loop-row.gone in
    let rest = drop (c.loop-row.row-index + 1) c.args.rows.now in
    let noted : c.note.new.gone ≡ gone_with gone c.row-item.result c.args.me c.args.now = c.in_ok-note.ensures in
    let next = row_next c.as_slice-row-items.result.now c.args.rows.now c.loop-row.row-index c.row-item.result c.as_slice-row-items.ensures c.row-item.is (omega arith) in
    record {
      found = ap (λ k. take 12 (k ++ inactive rest c.args.me c.args.now)) noted ∙ gone_more gone c.row-item.result rest c.args.me c.args.now c.loop-row.invariant.few
          ∙ ap (λ k. take 12 (gone ++ inactive k c.args.me c.args.now)) (sym next) ∙ c.loop-row.invariant.found;
      few = subst (λ k. length k ≤ 12) (sym noted) (gone_few gone c.row-item.result c.args.me c.args.now c.loop-row.invariant.few);
    }

pub returns : goal.returns
returns c =
    let none : drop c.loop-row.row-index c.args.rows.now ≡ [] = drop_of_length-le c.args.rows.now {i = c.loop-row.row-index} (omega (arith, c.loop-row-test.false, ap length c.as_slice-row-items.ensures)) in
    sym (gone_all c.loop-row.gone c.loop-row.invariant.few) ∙ ap (λ k. take 12 (c.loop-row.gone ++ inactive k c.args.me c.args.now)) (sym none) ∙ c.loop-row.invariant.found

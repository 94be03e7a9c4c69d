use Rattle.std.proofs.Common.{suc, ◌++◌, ap, ◌∙◌, drop, add-one, arith}
use Rattle.cbt_report.specs.Cleaners.{cleaner_line, cleaner_lines}
use Rattle.cbt_report.proofs.NextLines.{cleaner_lines-end, cleaner_lines-next, one-more, whole}
use Rattle.cbt_report.proofs.cleaners.push_cleaners.Goals as goal

pub loop-k-preserved : goal.loop-k-preserved
loop-k-preserved c =
    rw (add-one c.loop-k.k) (one-more c.loop-k.out c.push_cleaner.new.out _ (cleaner_lines (drop c.loop-k.k c.args.cleaners.now) (drop c.loop-k.k c.args.logs.now))
    (cleaner_lines (drop (suc c.loop-k.k) c.args.cleaners.now) (drop (suc c.loop-k.k) c.args.logs.now)) _
    c.loop-k.invariant
    (cleaner_lines-next c.loop-k.k c.args.cleaners.now c.args.logs.now c.index-logs-k.result c.loop-k-test.true c.index-logs-k.is)
    (c.in_ok-push_cleaner.ensures ∙ ap (λ name. c.loop-k.out ++ cleaner_line name c.index-logs-k.result) c.name_at.ensures))

pub returns : goal.returns
returns c = whole _ _ _ c.loop-k.invariant (cleaner_lines-end c.loop-k.k c.args.cleaners.now c.args.logs.now (omega arith))

use Rattle.std.proofs.Common.{ap, codes}
use Rattle.cbt_report.specs.Lines.{number_line}
use Rattle.cbt_report.specs.Summary.{summed_lines}
use Rattle.cbt_report.proofs.Parts.{three_parts}
use Rattle.cbt_report.proofs.summary.summary_of.Goals as goal

pub returns : goal.returns
returns c = record {
  text = three_parts c.in_ok-out.out c.push_number_line.new.out c.push_number_line-2.new.out c.push_summed.new.out _ _ _ _ _ _
      c.in_ok-out.ensures c.in_ok-push_number_line.ensures c.in_ok-push_number_line-2.ensures c.in_ok-push_summed.ensures
      (ap (number_line (codes "history")) c.len.ensures)
      (ap (number_line (codes "committed")) c.in_ok-end.ensures.commits)
      (ap summed_lines c.in_ok-end.ensures.state);
}

use Rattle.std.proofs.Common.{◌≡◌, ◌++◌}
use Rattle.cbt_report.specs.Report.{doc_lines}
use Rattle.cbt_report.proofs.report.push_docs.Given as goal

-- what is written and the lines that are left make the whole
abbrev pub invariant-loop-id : goal.invariant-loop-id
invariant-loop-id l = l.out ++ doc_lines l.state l.id-iterator ≡ l.fn.out ++ doc_lines l.state l.state.docs

use Rattle.std.proofs.Common.{◌≡◌, drop}
use Rattle.cbt_doc.specs.Contents.{all_changed}
use Rattle.cbt_doc.specs.Rules.{HasRules}
use Rattle.cbt_doc.proofs.contents.change_content.Given as goal

abbrev pub invariant-loop-i : goal.invariant-loop-i
invariant-loop-i l = record { same : all_changed l.cas l.i (drop l.i l.changes) l.work ≡ all_changed l.cas 0 l.changes l.fn.content; rules : HasRules l.work }

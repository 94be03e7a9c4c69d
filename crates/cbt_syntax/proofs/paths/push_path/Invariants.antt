use Rattle.std.proofs.Common.{◌≡◌, ◌++◌, drop}
use Rattle.cbt_syntax.specs.Texts.{path_text}
use Rattle.cbt_syntax.proofs.paths.push_path.Given as goal

abbrev pub invariant-loop-part : goal.invariant-loop-part
invariant-loop-part l = l.out ++ path_text (drop l.part-index l.parts) ≡ l.initial.out ++ path_text l.parts

use Rattle.std.proofs.Common.{◌≡◌, drop}
use Rattle.std.specs.Str.{IsCharBoundary}
use Rattle.cbt_syntax.specs.declared.references.Within.TheVariants.{Steps}
use Rattle.cbt_syntax.specs.References.{path_end}
use Rattle.cbt_syntax.proofs.references.path_end.Given as goal

abbrev pub invariant-loop-at : goal.invariant-loop-at
invariant-loop-at l = record {
  same : path_end l.at l.within (drop l.at l.text) ≡ path_end 0 Steps l.text;
  boundary : l.within ≡ Steps → IsCharBoundary l.text l.at;
}

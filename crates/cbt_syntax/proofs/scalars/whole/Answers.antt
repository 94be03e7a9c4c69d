use Rattle.std.proofs.Common.{rules}
use Rattle.std.proofs.lemmas.Int.{to_z-of_z}
use mir.Val.{SFits}
use mir.Syntax.{w128}
use Rattle.cbt_syntax.proofs.Ranges.{read-whole-is_json}
use Rattle.cbt_syntax.proofs.scalars.whole.Goals as goal

pub json_of-requires : goal.json_of-requires
json_of-requires c =
    let fits : SFits w128 c.in_ok-value.value = search rules in
    rw (to_z-of_z w128 c.in_ok-value.value fits) (read-whole-is_json _ _ c.in_ok-value.value c.in_ok-value.ensures)

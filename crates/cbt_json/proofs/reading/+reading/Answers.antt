use Rattle.std.proofs.Common.{◌∙◌, ap, sym, ◌++◌}
use Rattle.cbt_json.specs.Trees.{members_data}
use Rattle.cbt_json.proofs.Values.{read_pairs, tree_pairs, members_read}
use Rattle.cbt_json.proofs.reading.+reading.Goals as goal

pub members_of_map-returns-clause-ok : goal.members_of_map-returns-clause-ok
members_of_map-returns-clause-ok t c =
    let made = c.from_vec.ensures in
    let pairs = tree_pairs c.loop-name.members.items in
    let whole = ap (λ es. pairs ++ read_pairs es) (sym c.in-None.ensures.steps.0) ∙ c.loop-name.invariant.0 in
    ap members_data made ∙ members_read _ _ whole

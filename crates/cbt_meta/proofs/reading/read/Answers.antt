use Rattle.std.proofs.Common.{codes, sym, ap, ◌∙◌, subst}
use Rattle.cbt_json.specs.Rules.{IsJson}
use Rattle.cbt_subdoc.specs.Members.{member}
use Rattle.cbt_meta.proofs.Inner.{json-inner}
use Rattle.cbt_meta.proofs.reading.read.Goals as goal

pub stage_of-requires : goal.stage_of-requires
stage_of-requires c = λ x there.
    let t = c.tree.result.now in
    json-inner (codes "op") (codes "stgd") t x c.in_ok-members.members.now (subst IsJson (sym c.tree.ensures.same) c.tree.ensures.keeps_rules) c.in_ok-members.ensures
    (ap (member (codes "stgd")) (sym c.part-3.ensures) ∙ there)

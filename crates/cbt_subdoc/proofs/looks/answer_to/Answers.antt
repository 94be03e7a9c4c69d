use Rattle.std.proofs.Common.{sym, subst}
use Rattle.cbt_json.specs.Rules.{IsJson}
use Rattle.cbt_subdoc.proofs.Inside.{IsJson-reached, IsSome-json}
use Rattle.cbt_subdoc.proofs.looks.answer_to.Goals as goal

pub unwrap-requires : goal.unwrap-requires
unwrap-requires c =
    let whole = subst IsJson (sym c.tree-in-Get.ensures.same) c.tree-in-Get.ensures.keeps_rules in
    let inside = IsJson-reached c.parts-in-Get.result.now c.tree-in-Get.result.now c.in-Ok-reach.value.now whole c.in-Ok-reach.ensures in
    IsSome-json c.of.result c.in_ok-value-in-Ok-reach.value c.of.ensures.none (subst IsJson (sym c.in_ok-value-in-Ok-reach.ensures) inside)

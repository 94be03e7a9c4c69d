use Rattle.std.proofs.Common.{sym, ap, subst}
use Rattle.std.specs.Option.{option_copied}
use Rattle.cbt_json.specs.Rules.{IsJson}
use Rattle.cbt_subdoc.proofs.Inside.{IsSome-json}
use Rattle.cbt_meta.proofs.reading.staged_content.Goals as goal

pub unwrap-requires : goal.unwrap-requires
unwrap-requires c =
    IsSome-json c.of.result c.in_ok-tree-in-Some.tree c.of.ensures.none
    (subst IsJson (sym c.in_ok-tree-in-Some.ensures) (c.requires c.in-Some.tree.now (ap (λ o. option_copied o) c.in-Some.is)))

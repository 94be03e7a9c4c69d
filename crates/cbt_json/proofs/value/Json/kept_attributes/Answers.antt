use Rattle.std.proofs.Common.{sym, ap, ◌∙◌}
use Rattle.cbt_json.specs.Attributes.{kept_members}
use Rattle.cbt_json.proofs.KeptMembers.{kept-IsSome}
use Rattle.cbt_json.proofs.value.Json.kept_attributes.Goals as goal

pub unwrap-requires : goal.unwrap-requires
unwrap-requires c = kept-IsSome c.of.result c.args.self.now c.in-Object.members c.in_ok-kept-in-Object.kept c.of.ensures.none (c.in_ok-kept-in-Object.ensures ∙ ap kept_members c.as_slice.ensures) (sym c.tree.ensures.same ∙ c.in-Object.is) c.tree.ensures.keeps_rules

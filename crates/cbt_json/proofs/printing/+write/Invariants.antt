use Rattle.std.proofs.Common.{◌≡◌, ◌++◌, drop}
use Rattle.cbt_json.specs.Tokens.{list_tokens, object_tokens}
use Rattle.cbt_json.proofs.printing.+write.Given as goal

abbrev pub invariant-write_items-loop-item : goal.invariant-write_items-loop-item
invariant-write_items-loop-item l =
    (l.out.tokens ++ list_tokens (drop l.item-index l.items) ≡ l.initial.out.tokens ++ list_tokens l.items) × (l.out.before ≡ l.initial.out.before)

abbrev pub invariant-write_members-loop-name : goal.invariant-write_members-loop-name
invariant-write_members-loop-name l =
    (l.out.tokens ++ object_tokens (drop l.name-index l.members) ≡ l.initial.out.tokens ++ object_tokens l.members) × (l.out.before ≡ l.initial.out.before)

use Rattle.std.proofs.Common.{◌≡◌, ◌++◌, drop, false, ltb}
use Rattle.cbt_expr.specs.Forms.{terms_form, items_form, members_form}
use Rattle.cbt_syntax.specs.Texts.{joins_text, items_text, members_text}
use Rattle.cbt_syntax.proofs.printing.+printing.Given as goal

abbrev pub invariant-push_expr-loop-sign : goal.invariant-push_expr-loop-sign
invariant-push_expr-loop-sign l =
    l.out ++ joins_text (terms_form (drop l.sign-index l.sign-items)) ≡ l.initial.out ++ joins_text (terms_form l.sign-items)

abbrev pub invariant-push_items-loop-at : goal.invariant-push_items-loop-at
invariant-push_items-loop-at l =
    l.out ++ items_text (ltb 0 l.at) (items_form (drop l.at l.items)) ≡ l.initial.out ++ items_text false (items_form l.items)

abbrev pub invariant-push_members-loop-at : goal.invariant-push_members-loop-at
invariant-push_members-loop-at l =
    l.out ++ members_text (ltb 0 l.at) (members_form (drop l.at l.members)) ≡ l.initial.out ++ members_text false (members_form l.members)

use Rattle.std.proofs.Common.{◌≡◌, ◌+◌, ◌++◌, drop}
use Rattle.cbt_expr.specs.Answers.{bound_in}
use Rattle.cbt_expr.specs.Forms.{form_of, terms_form, items_form, members_form, items_parts, members_parts}
use Rattle.cbt_expr.specs.Values.{made_into, items_valued, members_valued}
use Rattle.cbt_expr.proofs.Sums.{Summed}
use Rattle.cbt_expr.proofs.evaluation.+evaluation.Given as goal

abbrev pub invariant-value_of-loop-sign : goal.invariant-value_of-loop-sign
invariant-value_of-loop-sign l = Summed (bound_in l.bound) l.fn.passed (form_of l.fn.expr) (terms_form (drop l.sign-index l.sign-items)) l.sum l.passed

abbrev pub invariant-item_values-loop-item : goal.invariant-item_values-loop-item
invariant-item_values-loop-item l =
    (items_valued (bound_in l.bound) l.initial.passed (items_form l.items)
    ≡ made_into (λ vs. l.values ++ vs) (items_valued (bound_in l.bound) l.passed (items_form (drop l.item-index l.items))))
    × (l.passed + items_parts (items_form (drop l.item-index l.items)) ≡ l.initial.passed + items_parts (items_form l.items))

abbrev pub invariant-member_values-loop-name : goal.invariant-member_values-loop-name
invariant-member_values-loop-name l =
    (members_valued (bound_in l.bound) l.initial.passed (members_form l.members)
    ≡ made_into (λ vs. l.values ++ vs) (members_valued (bound_in l.bound) l.passed (members_form (drop l.name-index l.members))))
    × (l.passed + members_parts (members_form (drop l.name-index l.members)) ≡ l.initial.passed + members_parts (members_form l.members))

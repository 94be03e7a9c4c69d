use Rattle.std.proofs.Common.{◌≡◌, unwrap_or, ap, subst, ◌∙◌}
use Rattle.std.specs.Ordering.{nat_cmp}
use Rattle.std.specs.Prelude.{OnSome}
use Rattle.std.specs.BTreeMap.{is_at}
use Rattle.std.specs.Map.{set_value}
use Rattle.cbt_plain.specs.Counts.{count_of}
use Rattle.cbt_plain.proofs.Counted.{value-there, value-elsewhere}
use Rattle.cbt_plain.proofs.counts.set_number.Goals as goal

-- the counts are the old ones with this value set
written : (c : goal.After-calls-in-Some-1) → c.get_mut.follows.lender c.args.number ≡ set_value (is_at (nat_cmp c.args.actor)) c.args.calls.now c.args.number
written c = subst (λ o. OnSome o (c.get_mut.follows.lender c.args.number ≡ set_value (is_at (nat_cmp c.args.actor)) c.args.calls.now c.args.number)) c.in-Some.is (c.get_mut.follows.holds c.args.number)

pub returns-in-Some-clause-own : goal.returns-in-Some-clause-own
returns-in-Some-clause-own c =
    ap (λ m. count_of m c.args.actor) (written c) ∙ ap (λ o. unwrap_or o 0) (value-there c.args.calls.now c.args.actor c.args.number c.requires)

pub returns-in-Some-clause-others : goal.returns-in-Some-clause-others
returns-in-Some-clause-others c a apart =
    ap (λ m. count_of m a) (written c) ∙ ap (λ o. unwrap_or o 0) (value-elsewhere c.args.calls.now c.args.actor a c.args.number apart)

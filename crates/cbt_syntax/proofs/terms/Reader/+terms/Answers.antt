use Rattle.std.proofs.Common.{◌≡◌, [], ap, rules, arith}
use Rattle.std.specs.Ordering.{nat_cmp}
use Rattle.std.specs.Cmp.Lexicographic.{slice_cmp}
use Rattle.std.proofs.lemmas.Grind.{common_steps}
use Rattle.cbt_base.specs.Keyed.{with_pair}
use Rattle.cbt_syntax.specs.Bound.{is_taken}
use Rattle.cbt_syntax.specs.Named.{by_name}
use Rattle.cbt_syntax.specs.Terms.{term_at, expr_at, items_from, members_from, joined_from}
use Rattle.cbt_syntax.proofs.Named.{by_name_pushed}
use Rattle.cbt_syntax.proofs.Turns.{one_more}
use Rattle.cbt_syntax.proofs.terms.Reader.+terms.Goals as goal

pub items-returns-in_err-item : goal.items-returns-in_err-item
unfolding items_from
items-returns-in_err-item g t c =
    let e = one_more (λ n. items_from (expr_at (is_taken c.args.self.now.every c.args.self.now.bound.now) c.args.levels) n c.loop-turn.found c.loop-turn.rest.now) _ c.loop-turn._turn c.loop-turn-test.true c.loop-turn.invariant.1 in
    first_of (search rules, grind (arith, common_steps))

pub items-returns-in_err-more : goal.items-returns-in_err-more
unfolding items_from
items-returns-in_err-more g t c =
    let e = one_more (λ n. items_from (expr_at (is_taken c.args.self.now.every c.args.self.now.bound.now) c.args.levels) n c.loop-turn.found c.loop-turn.rest.now) _ c.loop-turn._turn c.loop-turn-test.true c.loop-turn.invariant.1 in
    first_of (search rules, grind (arith, common_steps))

pub members-loop-turn-init : goal.members-loop-turn-init
unfolding by_name
members-loop-turn-init g t c =
    let none : by_name c.new-found.result ≡ [] = ap by_name c.new-found.ensures in
    first_of (search rules, grind (arith, common_steps))

pub members-returns-in_err-member : goal.members-returns-in_err-member
unfolding members_from
members-returns-in_err-member g t c =
    let e = one_more (λ n. members_from (expr_at (is_taken c.args.self.now.every c.args.self.now.bound.now) c.args.levels) n (by_name c.loop-turn.found) c.loop-turn.rest.now) _ c.loop-turn._turn c.loop-turn-test.true c.loop-turn.invariant.1 in
    first_of (search rules, grind (arith, common_steps))

pub members-returns-in_err-more : goal.members-returns-in_err-more
unfolding members_from
members-returns-in_err-more g t c =
    let e = one_more (λ n. members_from (expr_at (is_taken c.args.self.now.every c.args.self.now.bound.now) c.args.levels) n (by_name c.loop-turn.found) c.loop-turn.rest.now) _ c.loop-turn._turn c.loop-turn-test.true c.loop-turn.invariant.1 in
    first_of (search rules, grind (arith, common_steps))

pub members-returns-then-not-more : goal.members-returns-then-not-more
unfolding members_from
members-returns-then-not-more g t c =
    let e = one_more (λ n. members_from (expr_at (is_taken c.args.self.now.every c.args.self.now.bound.now) c.args.levels) n (by_name c.loop-turn.found) c.loop-turn.rest.now) _ c.loop-turn._turn c.loop-turn-test.true c.loop-turn.invariant.1 in
    let put : by_name c.push.new.self ≡ with_pair (slice_cmp nat_cmp) (by_name c.loop-turn.found) c.in_ok-member.member.0 c.in_ok-member.member.1 =
    by_name_pushed c.loop-turn.found c.push.new.self c.in_ok-member.member c.in_ok-push.ensures.ok in
    first_of (search rules, grind (arith, common_steps))

pub members-loop-turn-preserved : goal.members-loop-turn-preserved
unfolding members_from
members-loop-turn-preserved g t c =
    let e = one_more (λ n. members_from (expr_at (is_taken c.args.self.now.every c.args.self.now.bound.now) c.args.levels) n (by_name c.loop-turn.found) c.loop-turn.rest.now) _ c.loop-turn._turn c.loop-turn-test.true c.loop-turn.invariant.1 in
    let put : by_name c.push.new.self ≡ with_pair (slice_cmp nat_cmp) (by_name c.loop-turn.found) c.in_ok-member.member.0 c.in_ok-member.member.1 =
    by_name_pushed c.loop-turn.found c.push.new.self c.in_ok-member.member c.in_ok-push.ensures.ok in
    first_of (search rules, grind (arith, common_steps))

pub joined-returns-in_err-term : goal.joined-returns-in_err-term
unfolding joined_from
joined-returns-in_err-term g t c =
    let e = one_more (λ n. joined_from (term_at (is_taken c.args.self.now.every c.args.self.now.bound.now) c.args.levels) n c.loop-turn.found c.loop-turn.rest.now) _ c.loop-turn._turn c.loop-turn-test.true c.loop-turn.invariant.1 in
    first_of (search rules, grind (arith, common_steps))

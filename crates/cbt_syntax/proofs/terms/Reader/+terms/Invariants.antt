use Rattle.std.proofs.Common.{◌≡◌, ◌+◌, ◌-◌, ◌*◌, length, []}
use denote.Text.{Utf8}
use denote.Shadow.{shadow}
use Rattle.cbt_syntax.specs.Bound.{is_taken}
use Rattle.cbt_syntax.specs.Named.{by_name}
use Rattle.cbt_syntax.specs.Terms.{term_at, expr_at, items_from, members_from, joined_from}
use Rattle.cbt_syntax.proofs.terms.Reader.+terms.Given as goal

abbrev pub decreases-term : goal.decreases-term
decreases-term g l = 6 * l.levels

abbrev pub decreases-expr : goal.decreases-expr
decreases-expr g l = 6 * l.levels + 2

abbrev pub decreases-joined : goal.decreases-joined
decreases-joined g l = 6 * l.levels + 1

abbrev pub decreases-member : goal.decreases-member
decreases-member g l = 6 * l.levels + 3

abbrev pub decreases-items : goal.decreases-items
decreases-items g l = 6 * l.levels + 3

abbrev pub decreases-members : goal.decreases-members
decreases-members g l = 6 * l.levels + 4

abbrev pub decreases-list : goal.decreases-list
decreases-list g l = 6 * l.levels + 4

abbrev pub decreases-object : goal.decreases-object
decreases-object g l = 6 * l.levels + 5

-- what is left of the turns reads the rest

abbrev pub invariant-items-loop-turn : goal.invariant-items-loop-turn
invariant-items-loop-turn g l =
    let expr = expr_at (is_taken l.self.every l.self.bound.now) l.levels in
    shadow (Utf8 l.rest) × (items_from expr (length l.fn.text) [] l.fn.text ≡ items_from expr (l._turn-end - l._turn) l.found l.rest)

abbrev pub invariant-members-loop-turn : goal.invariant-members-loop-turn
invariant-members-loop-turn g l =
    let expr = expr_at (is_taken l.self.every l.self.bound.now) l.levels in
    shadow (Utf8 l.rest) × (members_from expr (length l.fn.text) [] l.fn.text ≡ members_from expr (l._turn-end - l._turn) (by_name l.found) l.rest)

abbrev pub invariant-joined-loop-turn : goal.invariant-joined-loop-turn
invariant-joined-loop-turn g l =
    let term = term_at (is_taken l.self.every l.self.bound.now) l.levels in
    shadow (Utf8 l.rest) × (joined_from term (length l.fn.text) [] l.fn.text ≡ joined_from term (l._turn-end - l._turn) l.found l.rest)

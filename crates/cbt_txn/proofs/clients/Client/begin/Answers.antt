use Rattle.std.proofs.Common.{ℕ, ◌≤◌, [], refl, sym, ap, ◌∙◌, subst, arith}
use Rattle.cbt_txn.specs.Clients.{Stands}
use Rattle.cbt_txn.proofs.ClientBounds.{most_left}
use Rattle.cbt_txn.proofs.Standing.{none_ended}
use Rattle.cbt_txn.proofs.clients.Client.begin.Goals as goal

pub returns-in-Ok-advance-clause-stands : goal.returns-in-Ok-advance-clause-stands
returns-in-Ok-advance-clause-stands c =
    let new = c.advance.new.self in
    let rest = c.in-Ok-advance.ensures.rest in
    record {
      counted = ap (λ k. k.calls) rest;
      few = λ running. omega arith;
      licensed = λ who is. tt;
      goes_on = λ who is running. c.in-Ok-advance.ensures.licensed who [] (is ∙ ap (λ k. k.origin.actor) rest) tt;
      follows = λ falls. subst (λ b. Stands b new []) (sym (ap (λ k. k.stopped) rest))
          (c.in-Ok-advance.ensures.follows [] refl tt tt (refl, none_ended _ c.in-Ok.txns c.in-Ok.ensures.1 (c.in-Ok.ensures.0 ∙ c.len.ensures)));
    }

pub returns-in-Ok-advance-clause-few : goal.returns-in-Ok-advance-clause-few
returns-in-Ok-advance-clause-few c = at_most (most_left c.advance.new.self) c.in-Ok-advance.ensures.no_more
  where
    at_most : {a b d : ℕ} → a ≤ b → b ≤ d → a ≤ d
    at_most one two = omega arith

use Rattle.std.proofs.Common.{◌≡◌}
use Rattle.cbt_gen.specs.Accounts.{accounts_to}
use Rattle.cbt_gen.proofs.accounts.account_docs.Given as goal

abbrev pub invariant-loop-before : goal.invariant-loop-before
invariant-loop-before l = l.docs ≡ accounts_to l.before

use Rattle.cbt_logs.proofs.Closed.{txn_between, txn_over, txn_unbegun}
use Rattle.cbt_logs.proofs.Snoc.{attempts_end_snoc}
use Rattle.cbt_logs.proofs.Spans.{newest_is}
use Rattle.cbt_logs.proofs.laws.transactions_end.Goals as goal

pub returns-clause-over : goal.returns-clause-over
returns-clause-over c = txn_over

pub returns-clause-reach : goal.returns-clause-reach
returns-clause-reach c = attempts_end_snoc

pub returns-clause-newest : goal.returns-clause-newest
returns-clause-newest c = newest_is

pub returns-clause-unbegun : goal.returns-clause-unbegun
returns-clause-unbegun c = txn_unbegun

pub returns-clause-between : goal.returns-clause-between
returns-clause-between c = txn_between

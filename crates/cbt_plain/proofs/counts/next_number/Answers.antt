use Rattle.cbt_plain.proofs.Counted.{zero-in, is-in}
use Rattle.std.proofs.Common.{ap, sym, ◌∙◌}
use Rattle.cbt_plain.specs.Counts.{count_of}
use Rattle.cbt_plain.proofs.counts.next_number.Goals as goal

pub returns-in_ok-insert-in-None-clause-room : goal.returns-in_ok-insert-in-None-clause-room
returns-in_ok-insert-in-None-clause-room c = is-in c.args.calls.now c.args.actor 0 c.insert.new.self c.in_ok-insert-in-None.ensures.ok

pub returns-in_ok-insert-in-None-clause-same : goal.returns-in_ok-insert-in-None-clause-same
returns-in_ok-insert-in-None-clause-same c a = ap (λ m. count_of m a) c.in_ok-insert-in-None.ensures.ok ∙ zero-in c.args.calls.now c.args.actor a (sym c.in-None.ensures)

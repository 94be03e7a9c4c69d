use Rattle.std.proofs.Common.{sym, ap, ◌∙◌}
use Rattle.cbt_atr.specs.EntriesRead.{entry_at}
use Rattle.cbt_atr.proofs.Walks.{next_entry}
use Rattle.cbt_atr.proofs.reading.entries_in.Goals as goal

pub loop-name-preserved : goal.loop-name-preserved
loop-name-preserved c =
    let m = c.loop-name-item.result in
    next_entry c.args.members.now c.loop-name.name-index m c.loop-name-test.true c.loop-name-item.is c.loop-name.entries c.push.new.self c.in_ok-entry_at.field-0
    (ap (λ n. entry_at (n, m.1)) (sym c.as_str.ensures) ∙ c.in_ok-entry_at.ensures) c.in_ok-push.ensures.ok c.loop-name.invariant

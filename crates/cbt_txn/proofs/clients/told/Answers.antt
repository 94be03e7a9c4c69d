use Rattle.std.proofs.Common.{◌≡◌, ◌+◌, take, slice_set, sym, ap, ◌∙◌, arith}
use Rattle.cbt_txn.specs.Clients.{told_in}
use Rattle.cbt_txn.proofs.Standing.{take_past}
use Rattle.cbt_txn.proofs.clients.told.Goals.{in-Some, in_default}
use Rattle.cbt_txn.proofs.clients.told.Goals as goal

pub returns-then-at-len : goal.returns-then-at-len
returns-then-at-len c =
    let is : c.match-txn.txns ≡ told_in c.args.txns c.args.at c.args.txn = elim c.match-txn.branch [
      | in-Some w ↦ w.txns-is ∙ w.set_log.ensures ∙ ap (λ k. slice_set c.args.txns c.args.at k) w.into_log.ensures ∙ ap (λ t. told_in c.args.txns c.args.at t) (sym w.in-Some.is)
      | in_default w ↦ w.txns-is ∙ ap (λ t. told_in c.args.txns c.args.at t) (sym w.in_default.is)
    ] in
    c.truncate.ensures ∙ ap (λ k. take (c.args.at + 1) k) is

pub returns-else-at-len : goal.returns-else-at-len
returns-else-at-len c =
    let is : c.match-txn.txns ≡ told_in c.args.txns c.args.at c.args.txn = elim c.match-txn.branch [
      | in-Some w ↦ w.txns-is ∙ w.set_log.ensures ∙ ap (λ k. slice_set c.args.txns c.args.at k) w.into_log.ensures ∙ ap (λ t. told_in c.args.txns c.args.at t) (sym w.in-Some.is)
      | in_default w ↦ w.txns-is ∙ ap (λ t. told_in c.args.txns c.args.at t) (sym w.in_default.is)
    ] in
    sym (take_past c.match-txn.txns c.args.at (omega (arith, c.len.ensures, c.if-at-len.false))) ∙ ap (λ k. take (c.args.at + 1) k) is

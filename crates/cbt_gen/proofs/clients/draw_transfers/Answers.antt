use Rattle.std.proofs.Common.{◌∙◌, ap}
use Rattle.cbt_gen.specs.Transfers.{transaction, plan_of}
use Rattle.cbt_gen.proofs.Many.{drawn-none, drawn-more}
use Rattle.cbt_gen.proofs.clients.draw_transfers.Goals as goal

pub loop-before-init : goal.loop-before-init
loop-before-init c = drawn-none (λ i. transaction c.args.accounts) c.args.stream.now c.new-txns.result c.new-txns.ensures

pub loop-before-preserved : goal.loop-before-preserved
loop-before-preserved c =
    drawn-more (λ i. transaction c.args.accounts) c.args.stream.now c.loop-before._before c.loop-before.txns c.push.new.self c.loop-before.stream c.draw-transfer.new.stream c.in_ok-plan.field-0
    c.loop-before.invariant (c.in_ok-plan.ensures ∙ ap plan_of c.draw-transfer.ensures.value) c.draw-transfer.ensures.behind c.in_ok-push.ensures.ok

use Rattle.cbt_gen.specs.Generated.{calls}
use Rattle.cbt_gen.proofs.Many.{drawn-none, drawn-more}
use Rattle.cbt_gen.proofs.order.draw_order.Goals as goal

pub loop-before-init : goal.loop-before-init
loop-before-init c = drawn-none (λ i. calls c.args.clients) c.args.stream.now c.new-order.result c.new-order.ensures

pub loop-before-preserved : goal.loop-before-preserved
loop-before-preserved c =
    drawn-more (λ i. calls c.args.clients) c.args.stream.now c.loop-before._before c.loop-before.order c.push.new.self c.loop-before.stream c.draw_calls.new.stream c.draw_calls.result
    c.loop-before.invariant c.draw_calls.ensures.value c.draw_calls.ensures.behind c.in_ok-push.ensures.ok

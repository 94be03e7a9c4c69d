use Rattle.cbt_gen.specs.Generated.{client}
use Rattle.cbt_gen.proofs.Many.{drawn-none, drawn-more}
use Rattle.cbt_gen.proofs.clients.draw_clients.Goals as goal

pub loop-before-init : goal.loop-before-init
loop-before-init c = drawn-none (client c.args.accounts c.args.transfers) c.args.stream.now c.new-clients.result c.new-clients.ensures

pub loop-before-preserved : goal.loop-before-preserved
loop-before-preserved c =
    drawn-more (client c.args.accounts c.args.transfers) c.args.stream.now c.loop-before.before c.loop-before.clients c.push.new.self c.loop-before.stream c.draw_client.new.stream c.in_ok-draw_client.field-0
    c.loop-before.invariant c.in_ok-draw_client.ensures.value c.in_ok-draw_client.ensures.behind c.in_ok-push.ensures.ok

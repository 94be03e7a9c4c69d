use Rattle.std.proofs.Common.{rules}
use Rattle.cbt_base.proofs.Rising.{copy-on}
use Rattle.cbt_base.proofs.map.MapDuplicate.copy.Goals as goal

pub loop-key-preserved : goal.loop-key-preserved
loop-key-preserved g c = copy-on g.K.Ord.cmp g.met.K.Ord.total c.args.self.now c.loop-key.second c.insert.new.self c.loop-key.key-iterator c.next.new.self
    c.in-Some.key.now c.in_ok-copy.field-0 c.in-Some.value.now c.in_ok-copy-2.field-0 c.iter-key-items.ensures.rises c.loop-key.invariant (search rules) c.in_ok-copy.ensures c.in_ok-copy-2.ensures c.in_ok-insert.ensures.ok

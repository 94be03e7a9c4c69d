use Rattle.std.proofs.Common.{◌<◌, length, subst, sym, ◌∙◌, refl, arith}
use Rattle.std.proofs.lemmas.List.{take_more}
use Rattle.cbt_sched.specs.Driving.{Follows, asks}
use Rattle.cbt_sched.specs.Turns.{callers}
use Rattle.cbt_sched.proofs.Following.{follows-further, follows-none}
use Rattle.cbt_sched.proofs.Keeping.{keeps-count, keeps-further, keeps-same}
use Rattle.cbt_sched.proofs.items.follow_items.Goals as goal

pub loop-item-init : goal.loop-item-init
loop-item-init g c = record {
  keeps = keeps-same;
  same_length = refl;
  follows = λ n agreed. follows-none c.args.refused.now _ _ _ n agreed;
}

pub loop-item-preserved : goal.loop-item-preserved
loop-item-preserved g c =
    let i = c.loop-item.invariant in
    let e = c.follow_item.ensures in
    record {
      keeps = keeps-further i.keeps (keeps-count i.same_length e.keeps);
      same_length = e.length ∙ i.same_length;
      follows = λ n agreed. (let item = e.follows n agreed in
          let low : c.loop-item.item-index < length c.as_slice-item-items.result.now = omega arith in
          subst (λ items. Follows items c.follow_item.new.refused (g.N.Node.marks c.args.node.now) (g.N.Node.marks c.follow_item.new.node)
          (callers (g.N.Node.history c.args.node.now)) (callers (g.N.Node.history c.follow_item.new.node))
          (asks g.A.Actor.step_now c.args.first c.args.actors.now) (asks g.A.Actor.step_now c.args.first c.follow_item.new.actors) n)
          (sym (take_more c.as_slice-item-items.result.now c.loop-item.item-index _ low))
          (follows-further _ _ c.loop-item.refused c.follow_item.new.refused _ _ _ _ _ _ _ _ _ n e.keeps.sticky (i.follows n item.agreed) item));
    }

use Rattle.std.proofs.Common.{◌++◌, take, ap, ◌∙◌, sym, arith}
use Rattle.std.proofs.KnownBytes.{Appends-trans}
use Rattle.cbt_streams.proofs.Moves.{part_more}
use Rattle.cbt_streams.proofs.whole.write_all.Goals as goal

pub loop-rest-preserved : goal.loop-rest-preserved
loop-rest-preserved g c =
    let so_far = c.loop-rest.invariant in
    let rest = c.loop-rest.rest.now in
    let count = c.in_ok-count.count in
    record {
      part = so_far.part ++ take count rest;
      whole = part_more c.args.bytes.now so_far.part rest count so_far.whole ∙ ap (λ l. (so_far.part ++ take count rest) ++ l) (sym c.split_at.ensures.back);
      written = Appends-trans _ _ _ so_far.part (take count rest) so_far.written c.in_ok-count.ensures.takes;
      later = omega (arith, so_far.later, c.write.ensures.later);
    }

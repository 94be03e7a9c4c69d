use Rattle.std.proofs.Common.{drop, arith}
use Rattle.std.proofs.lemmas.List.{length-take}
use Rattle.cbt_streams.proofs.Moves.{served}
use Rattle.cbt_streams.proofs.source.MemSourceSource.read.Goals as goal

pub returns-clause-moves : goal.returns-clause-moves
returns-clause-moves c =
    let count = c.min-count.result in
    let into = c.args.into.now in
    served c.args.self.now.bytes c.copy_from_slice.new.self (drop count into) c.args.self.now.at count
    (cc (c.copy_from_slice.ensures.after, c.split_at.ensures.back, c.min.ensures, c.as_slice-bytes.ensures))
    (omega (arith, c.copy_from_slice.ensures.len, length-take count into))

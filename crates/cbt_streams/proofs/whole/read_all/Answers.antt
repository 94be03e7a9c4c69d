use Rattle.std.proofs.Common.{arith}
use Rattle.std.proofs.lemmas.List.{length-take}
use Rattle.cbt_streams.proofs.Moves.{Consumes-none, ReadPast-from_reads, ReadUpTo-from_reads}
use Rattle.cbt_streams.proofs.whole.read_all.Goals as goal

pub returns-then-count-eq0-clause-whole : goal.returns-then-count-eq0-clause-whole
returns-then-count-eq0-clause-whole g c =
    let none = c.if-count-eq0.true in
    record {
      taken = Consumes-none _ (g.S.Source.left c.loop-bytes.src) _ c.loop-bytes.bytes c.read.new.into c.in_ok-count.count none c.loop-bytes.invariant.taken c.in_ok-count.ensures.moves;
      ended = c.in_ok-count.ensures.ended none;
    }

pub returns-then-count-limit-clause-long : goal.returns-then-count-limit-clause-long
returns-then-count-limit-clause-long g c = λ _.
    let within = c.in_ok-count.ensures.within in
    ReadPast-from_reads _ (g.S.Source.left c.loop-bytes.src) _ c.loop-bytes.bytes c.read.new.into c.args.limit c.in_ok-count.count
    c.loop-bytes.invariant.taken c.in_ok-count.ensures.moves
    (omega (arith, c.read.auto.into)) c.loop-bytes.invariant.within (omega arith)
    (omega (arith, c.min-room.ensures, c.saturating_add.ensures, length-take c.min-room.result c.loop-bytes.piece))

pub returns-in_err-extend_from_slice-clause-refused_after : goal.returns-in_err-extend_from_slice-clause-refused_after
returns-in_err-extend_from_slice-clause-refused_after g c = λ _.
    ReadUpTo-from_reads _ (g.S.Source.left c.loop-bytes.src) _ c.loop-bytes.bytes c.read.new.into c.args.limit c.in_ok-count.count
    c.loop-bytes.invariant.taken c.in_ok-count.ensures.moves c.loop-bytes.invariant.within (omega arith)

use Rattle.std.proofs.Common.{arith}
use Rattle.cbt_subdoc.proofs.Names.{boundary-plain}
use Rattle.cbt_subdoc.proofs.parsing.name.Goals as goal

pub split_at-requires : goal.split_at-requires
split_at-requires c =
    let bytes = c.as_bytes-in_default.ensures.value in
    boundary-plain c.args.text.now _ (rw bytes at c.plain_len-len.ensures.len) (omega (arith, c.as_bytes-in_default.ensures.len))

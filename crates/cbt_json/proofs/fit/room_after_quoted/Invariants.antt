use Rattle.std.proofs.Common.{◌≡◌, drop, length}
use Rattle.json.specs.Print.{escape, quoted}
use Rattle.cbt_json.specs.Fit.{left_of}
use Rattle.cbt_json.proofs.fit.room_after_quoted.Given as goal

abbrev pub invariant-loop-byte : goal.invariant-loop-byte
invariant-loop-byte l = left_of l.left (length (escape (drop l.byte-index l.text))) ≡ left_of l.fn.room (length (quoted l.text))

use Rattle.std.proofs.Common.{◌<◌, ap, refl, sym, length, get_or, arith}
use Rattle.std.proofs.lemmas.Str.{IsCharBoundary-start}
use Rattle.cbt_syntax.proofs.Digits.{boundary-digit, step-digit}
use Rattle.cbt_syntax.proofs.numbers.more_digits.Goals as goal

pub loop-at-init : goal.loop-at-init
loop-at-init c = record { same = refl; boundary = IsCharBoundary-start c.args.text.now c.utf8.text }

pub loop-at-preserved : goal.loop-at-preserved
loop-at-preserved c =
    let text = c.args.text.now in
    let bytes = c.as_bytes-byte-items.ensures.value in
    let byte = ap (λ bs. get_or bs c.loop-at.at 0) bytes in
    let within : c.loop-at.at < length text = omega (arith, c.as_bytes-byte-items.ensures.len) in
    record {
      same = step-digit _ _ _ _ text _ within byte (sym c.if-not-is_ascii_digit.ensures.value) c.in-Some.ensures c.loop-at.invariant.same;
      boundary = boundary-digit _ _ text c.utf8.text within byte (sym c.if-not-is_ascii_digit.ensures.value);
    }

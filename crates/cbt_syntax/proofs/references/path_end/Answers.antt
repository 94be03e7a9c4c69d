use Rattle.std.proofs.Common.{◌<◌, ap, refl, sym, ◌∙◌, length, get_or, arith}
use Rattle.std.proofs.lemmas.Str.{IsCharBoundary-start}
use Rattle.cbt_syntax.proofs.Steps.{path_end-step, boundary-step}
use Rattle.cbt_syntax.proofs.references.path_end.Goals as goal

pub loop-at-init : goal.loop-at-init
loop-at-init c = record { same = refl; boundary = λ _. IsCharBoundary-start c.args.text.now c.utf8.text }

pub loop-at-preserved : goal.loop-at-preserved
loop-at-preserved c =
    let text = c.args.text.now in
    let bytes = c.as_bytes-byte-items.ensures.value in
    let byte = ap (λ bs. get_or bs c.loop-at.at 0) bytes in
    let within : c.loop-at.at < length text = omega (arith, c.as_bytes-byte-items.ensures.len) in
    record {
      same = path_end-step c.loop-at.within _ _ _ _ text within byte (sym c.if-stops.ensures) c.led_to-within.ensures c.loop-at.invariant.same;
      boundary = λ led. boundary-step c.loop-at.within _ _ text c.utf8.text within byte (sym c.if-stops.ensures) (sym c.led_to-within.ensures ∙ led);
    }

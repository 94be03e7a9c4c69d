use Rattle.std.proofs.Common.{◌≡◌, Some, true≢false, sym, ap, ◌∙◌}
use Rattle.std.proofs.lemmas.Slice.Eq.{bytes_eq-Decides}
use Rattle.std.specs.Int.{to_be_bytes, w128}
use Rattle.uuid.specs.Text.{parsed}
use Rattle.cbt_base.specs.Ids.{id_text}
use Rattle.cbt_base.proofs.IdTexts.{parsed-id_text, number_of_text}
use Rattle.cbt_base.proofs.id.Id.read.Goals as goal

-- a text that does not parse is no number's
pub returns-in_default-clause-none : goal.returns-in_default-clause-none
returns-in_default-clause-none c = λ n fits is_text.
    true≢false (sym (c.in_default.ensures.ok.1 (to_be_bytes w128 n, ap parsed is_text ∙ parsed-id_text n)))

pub returns-in_default-clause-back : goal.returns-in_default-clause-back
returns-in_default-clause-back c = λ n fits is_text. absurd (returns-in_default-clause-none c n fits is_text)

pub returns-then-eq-clause-back : goal.returns-then-eq-clause-back
returns-then-eq-clause-back c = λ n fits is_text.
    ap Some (c.as_u128-number.ensures ∙ number_of_text n c.args.text.now c.in-Ok.id fits is_text c.in-Ok.ensures.bytes)

-- a number's text, parsed and written again, is the same text
pub returns-else-eq-clause-none : goal.returns-else-eq-clause-none
returns-else-eq-clause-none c = λ n fits is_text.
    let number = c.as_u128-number.ensures ∙ number_of_text n c.args.text.now c.in-Ok.id fits is_text c.in-Ok.ensures.bytes in
    let same : c.args.text.now ≡ c.written.result.now = is_text ∙ ap id_text (sym number) ∙ sym c.written.ensures in
    true≢false (sym ((bytes_eq-Decides c.args.text.now c.written.result.now).1 same) ∙ sym c.if-eq.ensures)

pub returns-else-eq-clause-back : goal.returns-else-eq-clause-back
returns-else-eq-clause-back c = λ n fits is_text. absurd (returns-else-eq-clause-none c n fits is_text)

use Rattle.std.proofs.Common.{codes, ap, ◌∙◌}
use Rattle.cbt_base.specs.Ids.{id_text, txn_number}
use Rattle.cbt_meta.proofs.Parts.{two}
use Rattle.cbt_meta.proofs.writing.id_part.Goals as goal

pub returns : goal.returns
returns c =
    let attempt = c.args.attempt in
    two (codes "atmpt") (codes "txn") (id_text attempt) (id_text (txn_number attempt)) c.new-fields.result c.put.new.members c.put-2.new.members c.new-fields.ensures
    c.in_ok-text.field-0 c.in_ok-text-2.field-0 c.in_ok-put.ensures c.in_ok-put-2.ensures c.in_ok-text.ensures (c.in_ok-text-2.ensures ∙ ap id_text c.txn_of.ensures)

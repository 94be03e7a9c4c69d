use Rattle.std.proofs.Common.{ap, ◌∙◌}
use Rattle.std.specs.List.{prefix_len}
use Rattle.cbt_lex.specs.Names.{is_name_byte}
use Rattle.cbt_syntax.proofs.Names.{boundary-name}
use Rattle.cbt_syntax.proofs.references.name_len.Goals as goal

pub returns-clause-boundary : goal.returns-clause-boundary
returns-clause-boundary c = boundary-name _ _ c.utf8.text (c.name_bytes.ensures ∙ ap (prefix_len is_name_byte) c.as_bytes.ensures.value)

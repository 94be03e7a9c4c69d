use Rattle.std.proofs.Common.{sym, ◌∙◌}
use lib.Utf8.{encode}
use Rattle.cbt_lex.proofs.Spaces.{none_skipped}
use Rattle.cbt_lex.proofs.words.past_spaces.Goals as goal

pub returns : goal.returns
unfolding encode
returns c = sym (none_skipped c.loop-rest.text.now (λ rest e. c.in_default.ensures.cases rest e)) ∙ c.loop-rest.invariant.0

use Rattle.cbt_syntax.proofs.Steps.{boundary-quote}
use Rattle.cbt_syntax.proofs.strings.escaped.Goals as goal

pub literal-requires : goal.literal-requires
literal-requires c = boundary-quote c.args.text.now _ c.in-Some.at c.utf8.text c.behind_first.ensures c.in-Some.ensures.quote.0 c.in-Some.ensures.quote.1

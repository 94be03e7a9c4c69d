use Rattle.std.proofs.Common.{sym, ap, ◌∙◌, Ok}
use Rattle.cbt_script.proofs.Attributed.{attributed_so, attributed_not}
use Rattle.cbt_script.proofs.documents.set_last_attrs.Goals as goal

pub returns-then-ne : goal.returns-then-ne
returns-then-ne c = attributed_not c.args.id.now c.args.attrs c.args.docs.now c.pop.new.self (c.in-Some.last, c.in-Some.body, c.in-Some._none) c.in-Some.ensures
    c.as_str.result.now c.as_str-2.result.now c.as_str.ensures c.as_str-2.ensures c.if-ne.ensures

pub returns : goal.returns
returns c = attributed_so c.args.id.now c.args.attrs c.args.docs.now c.pop.new.self (c.in-Some.last, c.in-Some.body, c.in-Some._none) c.in-Some.ensures
    c.as_str.result.now c.as_str-2.result.now c.as_str.ensures c.as_str-2.ensures c.if-ne.ensures ∙ ap (λ docs. Ok docs) (sym c.in_ok-push.ensures.ok)

use Rattle.std.proofs.Common.{◌∙◌, ap}
use Rattle.std.proofs.lemmas.Result.{IfOk-at_ok}
use Rattle.cbt_json.proofs.Tokens.{printed}
use Rattle.cbt_json.proofs.printing.print.Goals as goal

pub returns : goal.returns
returns c =
    let whole = IfOk-at_ok _ c.unwrap.ensures c.from_utf8.ensures.ok in
    printed _ _ _ _ _ _ _ (c.from_string.ensures ∙ ap (λ v. v.items) whole) c.into_inner-bytes.ensures.items
    (c.in_ok-write_tree.ensures.before ∙ c.new-out.ensures.before) c.new.ensures.items c.in_ok-write_tree.ensures.ok c.new-out.ensures.tokens

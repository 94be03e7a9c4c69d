use Rattle.std.proofs.Common.{◌≡◌, ◌∙◌, Some, ap, sym}
use Rattle.std.proofs.lemmas.Result.{IfOk-weaker}
use Rattle.serde_json.specs.View.{view}
use Rattle.cbt_json.specs.Trees.{data_of}
use Rattle.cbt_json.specs.Rules.{IsJson}
use Rattle.cbt_json.proofs.Read.{IsJson-read}
use Rattle.cbt_json.proofs.reading.parse.Goals as goal

pub returns-in-Ok-clause-keeps_rules : goal.returns-in-Ok-clause-keeps_rules
returns-in-Ok-clause-keeps_rules c =
    IfOk-weaker c.tree_of_value.result (λ t. data_of t ≡ view c.in-Ok.value) IsJson
    (λ t e. IsJson-read c.args.bytes.now t (c.in-Ok.ensures.ok.1 ∙ ap Some (sym e))) c.tree_of_value.ensures.ok

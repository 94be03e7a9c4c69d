use Rattle.std.proofs.Common.{sym, subst, arith}
use Rattle.std.proofs.lemmas.Grind.{common_steps}
use Rattle.cbt_script.specs.Rules.{IsScript}
use Rattle.cbt_gen.proofs.ScriptRules.{generated-kept}
use Rattle.cbt_gen.proofs.generator.gen_script.Goals as goal

pub returns-clause-script : goal.returns-clause-script
returns-clause-script c = grind (arith, common_steps)

pub returns-clause-rules : goal.returns-clause-rules
returns-clause-rules c =
    subst IsScript (sym (returns-clause-script c))
    (generated-kept c.args.seed c.args.clients c.args.accounts c.args.transfers c.requires.clients_some c.requires.clients_few c.requires.accounts_few c.requires.transfers_few
    c.requires.transactions_few)

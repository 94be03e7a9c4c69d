use Rattle.std.proofs.Common.{◌≡◌, ◌∙◌, ap, codes}
use Rattle.std.proofs.lemmas.Result.{IfOk-weaker}
use Rattle.clap.specs.Words.{App, app_of, with_rule}
use Rattle.cbt_words.specs.Commands.{gen_options}
use Rattle.cbt_words.specs.Options.{Kind, Word, alone, valued}
use Rattle.cbt_words.specs.Parsers.{app_with, bare_app, rule_for}
use Rattle.cbt_words.proofs.generator.gen_command.Goals as goal

-- one more option of a command that is known
more : (a b known : App) (o : Word × Kind) → a ≡ with_rule b (rule_for o) → b ≡ known → a ≡ with_rule known (rule_for o)
more a b known o is b-is = is ∙ ap (λ x. with_rule x (rule_for o)) b-is

pub returns : goal.returns
returns c =
    let one = more _ _ bare_app (codes "seed", valued) c.in_ok-command.ensures c.bare.ensures in
    let two = more _ _ _ (codes "clients", valued) c.in_ok-command-2.ensures one in
    let three = more _ _ _ (codes "accounts", valued) c.in_ok-command-3.ensures two in
    let four = more _ _ _ (codes "transfers", valued) c.in_ok-command-4.ensures three in
    IfOk-weaker c.with_flag.result _ (λ command. app_of command ≡ app_with gen_options) (λ command is. more _ _ _ (codes "sim", alone) is four) c.with_flag.ensures

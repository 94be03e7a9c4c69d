use Rattle.std.proofs.Common.{◌≡◌, ◌∙◌, ap, codes, refl, sym, subst, true}
use Rattle.clap.specs.Words.{App, is_simple_and_free, with_rule}
use Rattle.cbt_words.specs.Commands.{history_options}
use Rattle.cbt_words.specs.Options.{alone}
use Rattle.cbt_words.specs.Parsers.{Reads, app_with, bare_app, rule_for}
use Rattle.cbt_words.proofs.HistoryTaken.{history_refused, history_taken}
use Rattle.cbt_words.proofs.history.history_in.Goals as goal

is_simple : is_simple_and_free (app_with history_options) ≡ true
is_simple = refl

command_is : (a b : App) → a ≡ with_rule b (rule_for (codes "history", alone)) → b ≡ bare_app → a ≡ app_with history_options
command_is a b more bare = more ∙ ap (λ x. with_rule x (rule_for (codes "history", alone))) bare

pub matches_of-requires : goal.matches_of-requires
matches_of-requires c = ap is_simple_and_free (command_is _ _ c.in_ok-command.ensures c.bare.ensures) ∙ is_simple

pub returns-in-Some : goal.returns-in-Some
returns-in-Some c =
    let reads = subst (λ o. Reads (app_with history_options) c.args.options.now o) c.in-Some.is (subst (λ a. Reads a c.args.options.now c.in_ok-matches.field-0) (command_is _ _ c.in_ok-command.ensures c.bare.ensures) c.in_ok-matches.ensures) in
    sym (history_taken c.args.options.now c.in-Some.matches c.get_flag.result c.requires reads c.get_flag.ensures.value c.get_flag.ensures.other)

pub returns-in-None : goal.returns-in-None
returns-in-None c =
    let reads = subst (λ o. Reads (app_with history_options) c.args.options.now o) c.in-None.is (subst (λ a. Reads a c.args.options.now c.in_ok-matches.field-0) (command_is _ _ c.in_ok-command.ensures c.bare.ensures) c.in_ok-matches.ensures) in
    sym (history_refused c.args.options.now c.requires reads)

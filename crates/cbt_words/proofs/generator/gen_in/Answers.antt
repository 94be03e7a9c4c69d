use Rattle.std.proofs.Common.{◌≡◌, ◌∙◌, ap, refl, sym, subst, true}
use Rattle.clap.specs.Words.{is_simple_and_free}
use Rattle.cbt_words.specs.Commands.{gen_options}
use Rattle.cbt_words.specs.Parsers.{Reads, app_with}
use Rattle.cbt_words.proofs.GenTaken.{gen_refused, gen_taken}
use Rattle.cbt_words.proofs.generator.gen_in.Goals as goal

is_simple : is_simple_and_free (app_with gen_options) ≡ true
is_simple = refl

pub matches_of-requires : goal.matches_of-requires
matches_of-requires c = ap is_simple_and_free c.in_ok-command.ensures ∙ is_simple

pub returns-in-Some : goal.returns-in-Some
returns-in-Some c =
    let reads = subst (λ o. Reads (app_with gen_options) c.args.options.now o) c.in-Some.is (subst (λ a. Reads a c.args.options.now c.in_ok-matches.field-0) c.in_ok-command.ensures c.in_ok-matches.ensures) in
    gen_taken c.args.options.now c.in-Some.matches c.gen_of.result c.requires reads c.gen_of.ensures

pub returns-in-None : goal.returns-in-None
returns-in-None c =
    let reads = subst (λ o. Reads (app_with gen_options) c.args.options.now o) c.in-None.is (subst (λ a. Reads a c.args.options.now c.in_ok-matches.field-0) c.in_ok-command.ensures c.in_ok-matches.ensures) in
    sym (gen_refused c.args.options.now c.requires reads)

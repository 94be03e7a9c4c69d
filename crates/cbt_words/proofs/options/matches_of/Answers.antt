use Rattle.std.proofs.Common.{◌≡◌, true, subst, []}
use Rattle.std.proofs.lemmas.List.{map-id}
use Rattle.clap.specs.Words.{app_of, fault_of, found_of, is_simple, matches_of, rows_of}
use Rattle.clap.specs.Faults.{is_free_app}
use Rattle.clap.specs.Simple.{built}
use Rattle.clap.proofs.WalkLemmas.{both}
use Rattle.cbt_words.proofs.options.matches_of.Goals as goal

pub returns-in-Ok : goal.returns-in-Ok
returns-in-Ok c =
    let simple : is_simple (app_of c.args.command) ≡ true = (both (is_simple (app_of c.args.command)) (is_free_app (built (app_of c.args.command))) c.requires).0 in (
      subst (λ ws. fault_of (app_of c.args.command) ws ≡ []) (map-id c.args.words.now) (c.in-Ok.ensures.kinds c.requires),
      subst (λ ws. rows_of (found_of c.in-Ok.matches) ≡ matches_of (app_of c.args.command) ws) (map-id c.args.words.now) (c.in-Ok.ensures.matches simple).0,
    )

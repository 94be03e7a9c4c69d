-- Whether `--history` is given, by clap's matches.
use Rattle.std.proofs.Common.{◌≡◌, ◌∙◌, Bool, cond, true, false, refl, sym, ap, List, Option, Some, None, codes}
use Rattle.std.specs.Prelude.{option_map}
use Rattle.std.specs.Option.{option_map_or}
use Rattle.std.specs.Str.{bytes_eq}
use Rattle.clap.specs.Words.{found_of, one_text}
use Rattle.clap.specs.Walk.{one_of}
use Rattle.clap.specs.declared.parser.matches.ArgMatches.{ArgMatches}
use Rattle.cbt_words.specs.Commands.{history_in, history_options}
use Rattle.cbt_words.specs.Options.{Given, Kind, Word, alone, given_in, has_word, valued, was_given}
use Rattle.cbt_words.specs.Parsers.{Reads, app_with}
use Rattle.cbt_words.proofs.Reading.{Bad}
use Rattle.cbt_words.proofs.Taken.{flag_is, one_of-alone, refused, takes}

-- no option here has a value
none_bad : (given : Given) → Bad history_options given → ⊥
none_bad given bad = go (bytes_eq (codes "history") bad.name) bad.known
  where
    go : (t : Bool) → cond {A = Option (Word × Kind)} t (Some (codes "history", alone)) None ≡ Some (bad.name, valued) → ⊥
    go true e =
        let kinds : alone ≡ valued = ap (λ o. option_map_or (λ (p : Word × Kind). p.1) o alone) e in
        absurd (cc)
    go false e = absurd (cc)

pub history_refused : (words : List Word) → has_word (codes "--") words ≡ false → Reads (app_with history_options) words None → history_in words ≡ None
history_refused words no_end refuses = go (given_in history_options words) (refused history_options words no_end refuses)
  where
    go : (o : Option Given) → ((given : Given) → o ≡ Some given → Bad history_options given) → option_map (was_given (codes "history")) o ≡ None
    go None bad = refl
    go (Some given) bad = absurd (none_bad given (bad given refl))

pub history_taken : (words : List Word) (m : ArgMatches) (answer : Bool) → has_word (codes "--") words ≡ false → Reads (app_with history_options) words (Some m)
    → (one_text (found_of m) (codes "history") ≡ Some (codes "true") → answer ≡ true) → (one_text (found_of m) (codes "history") ≡ Some (codes "false") → answer ≡ false)
    → history_in words ≡ Some answer
history_taken words m answer no_end reads set unset =
    let taken = takes history_options words m no_end reads in
    ap (option_map (was_given (codes "history"))) taken.is
    ∙ ap (λ t. Some t) (sym (flag_is (found_of m) (codes "history") (was_given (codes "history") taken.given) answer
    (ap (one_of (codes "history")) taken.rows ∙ one_of-alone (codes "history") taken.given (taken.sound (codes "history") alone refl)) set unset))

-- What clap is asked: the command that has some options, and what it is that its matches are right.
use Rattle.std.specs.Prelude.{◌≡◌, Bool, true, if◌then◌else◌, List, [], map, Option, Some, None, codes}
use Rattle.clap.specs.Words.{App, Rule, fault_of, found_of, matches_of, new_app, new_rule, rows_of}
use Rattle.clap.specs.Simple.{on_top}
use Rattle.clap.specs.declared.builder.action.ArgAction.{ArgAction}
use Rattle.clap.specs.declared.builder.action.ArgAction.TheVariants.{SetTrue}
use Rattle.clap.specs.declared.parser.matches.ArgMatches.{ArgMatches}
use Rattle.cbt_words.specs.Options.{Kind, Options, Word, alone, valued}

abbrev pub action_for : Kind → Option ArgAction
action_for alone = Some SetTrue
action_for valued = None

-- the argument that is an option
abbrev pub rule_for : Word × Kind → Rule
rule_for o = record (new_rule o.0) { long = Some o.0; action = action_for o.1 }

-- a command that knows no option
abbrev pub bare_app : App
bare_app = on_top (λ s. record s { no_binary_name = true; disable_help_flag = true }) (new_app (codes "cbtx"))

-- the command that knows these
abbrev pub app_with : Options → App
app_with options = on_top (λ s. record s { rules = map rule_for options }) bare_app

-- what clap keeps of an option that stands alone
abbrev pub truth_text : Bool → Word
truth_text t = if t then codes "true" else codes "false"

-- the matches are there exactly where clap takes the words, and they are those of the words
abbrev pub Reads : App → List Word → Option ArgMatches → Type 0
Reads app words None = fault_of app words ≡ [] → ⊥
Reads app words (Some m) = (fault_of app words ≡ []) × (rows_of (found_of m) ≡ matches_of app words)

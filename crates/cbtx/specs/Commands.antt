-- What the commands of the program do: which of them read, which run a script, and what they write.
use Rattle.std.specs.Prelude.{ℕ, Bool, true, false, not, if◌then◌else◌, List, [], ◌++◌, Option, Some, None}
use Rattle.cbt_book.specs.declared.book.Book.{Book}
use Rattle.cbt_history.specs.Histories.{history_text}
use Rattle.cbt_report.specs.Report.{report_text}
use Rattle.cbt_report.specs.Summary.{summary_text}
use Rattle.cbt_script.specs.declared.script.Script.{Script}
use Rattle.cbt_words.specs.declared.command.Command.{Command}
use Rattle.cbt_words.specs.declared.command.Command.TheVariants.{Sim, Run, Gen}

-- words that are no command are usage, and so is `run`, which needs threads
abbrev pub is_usage : Option Command → Bool
is_usage None = true
is_usage (Some (Run history)) = true
is_usage (Some (Sim history)) = false
is_usage (Some (Gen seed clients accounts transfers sim)) = false

-- `sim` reads its script
abbrev pub reads : Option Command → Bool
reads None = false
reads (Some (Run history)) = false
reads (Some (Sim history)) = true
reads (Some (Gen seed clients accounts transfers sim)) = false

-- `gen` draws its script
abbrev pub draws : Option Command → Bool
draws None = false
draws (Some (Run history)) = false
draws (Some (Sim history)) = false
draws (Some (Gen seed clients accounts transfers sim)) = true

-- a script is run by `sim` and by `gen --sim`
abbrev pub runs : Option Command → Bool
runs None = false
runs (Some (Run history)) = false
runs (Some (Sim history)) = true
runs (Some (Gen seed clients accounts transfers sim)) = sim

-- a script is drawn and handed back by `gen` alone
abbrev pub hands_back : Option Command → Bool
hands_back None = false
hands_back (Some (Run history)) = false
hands_back (Some (Sim history)) = false
hands_back (Some (Gen seed clients accounts transfers sim)) = not sim

-- what is written of a run: the report, behind it the history where that is asked for, and the summary of a drawn script
abbrev pub run_text : Command → Script → Book → List ℕ
run_text (Run history) script book = report_text script book
run_text (Sim history) script book = report_text script book ++ (if history then history_text script book else [])
run_text (Gen seed clients accounts transfers sim) script book = summary_text book

abbrev pub told_text : Option Command → Script → Book → List ℕ
told_text None script book = []
told_text (Some command) script book = run_text command script book

use Rattle.std.proofs.Common.{IsUtf8, subst, ◌∙◌}
use Rattle.cbt_history.proofs.GoodHistories.{good_lines}
use Rattle.cbt_history.proofs.HistoriesBack.{all_lined}
use Rattle.cbt_history.proofs.laws.history_lines_are_good.Goals as goal

pub returns-clause-lines : goal.returns-clause-lines
returns-clause-lines c = c.requires ∙ all_lined c.args.script.now c.args.book.now.kept.opening c.args.book.now.kept.history

pub returns-clause-good : goal.returns-clause-good
returns-clause-good c = λ front back rest line is are few same some bad.
    good_lines c.args.script.now c.args.book.now.kept.opening c.args.book.now.kept.history is few are (subst IsUtf8 c.requires c.utf8.text) front back rest line same some bad

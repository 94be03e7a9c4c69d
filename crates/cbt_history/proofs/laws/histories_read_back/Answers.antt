use Rattle.std.proofs.Common.{IsUtf8, subst, ap, ◌∙◌}
use Rattle.cbt_history.specs.HistoriesRead.{history_of_text}
use Rattle.cbt_history.proofs.HistoriesBack.{read_back}
use Rattle.cbt_history.proofs.laws.histories_read_back.Goals as goal

pub returns : goal.returns
returns c =
    λ is are few. ap history_of_text c.requires
    ∙ read_back c.args.script.now c.args.book.now.kept.opening c.args.book.now.kept.history is few are (subst IsUtf8 c.requires c.utf8.text)

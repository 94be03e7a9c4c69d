use Rattle.cbt_commit.specs.Phases.{task_of}
use Rattle.cbt_commit.specs.declared.phases.FinishEnd.TheVariants.{Committed, EntryLost, NotCommitted, Unknown}
use Rattle.cbt_commit.proofs.Knowing.{ends_by, third_by}
use Rattle.cbt_commit.proofs.laws.commits_end_right.Goals as goal

pub returns-clause-committed : goal.returns-clause-committed
returns-clause-committed c finish mine place complete stands ended =
    let it = ends_by (task_of finish) finish.phase mine (Committed place complete) stands.runs ended in
    (it.0, it.1)

pub returns-clause-entry_lost : goal.returns-clause-entry_lost
returns-clause-entry_lost c finish mine place stands ended = (ends_by (task_of finish) finish.phase mine (EntryLost place) stands.runs ended).0

pub returns-clause-not_committed : goal.returns-clause-not_committed
returns-clause-not_committed c finish mine place stands ended =
    let it = ends_by (task_of finish) finish.phase mine (NotCommitted place) stands.runs ended in
    (it.third, it.only, it.last)

pub returns-clause-unknown : goal.returns-clause-unknown
returns-clause-unknown c finish mine commit reading stands ended =
    (ends_by (task_of finish) finish.phase mine (Unknown commit reading) stands.runs ended).0

pub returns-clause-third : goal.returns-clause-third
returns-clause-third c finish mine stands otherwise = third_by (task_of finish) finish.phase mine stands.runs otherwise

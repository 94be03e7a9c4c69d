use Rattle.cbt_core.proofs.runs.FreshOpenings.{lawful_run}
use Rattle.cbt_core.proofs.interleaving.Decisions.{never_both, commits_once, no_commit_decided}
use Rattle.cbt_core.proofs.laws.k1.Goals as goal

pub returns-clause-never_both : goal.returns-clause-never_both
returns-clause-never_both c case book lawful = never_both _ _ (lawful_run case book lawful)

pub returns-clause-once : goal.returns-clause-once
returns-clause-once c case book lawful = commits_once _ _ (lawful_run case book lawful)

pub returns-clause-undecided : goal.returns-clause-undecided
returns-clause-undecided c case book lawful = λ a i e at is. no_commit_decided _ _ (lawful_run case book lawful) i a e at is

use Rattle.cbt_core.proofs.runs.FreshOpenings.{lawful_run}
use Rattle.cbt_core.proofs.k6_once.Once.{one_commits, committed_of, none_of}
use Rattle.cbt_core.proofs.laws.k6.Goals as goal

pub returns : goal.returns
returns c = record {
  at_most_once = λ case book lawful follow. record {
    one = λ client txn j k p q one two. one_commits case book lawful.legal follow (lawful_run case book lawful) client txn j k p q one two;
    told = λ client txn log complete is end. committed_of case book lawful.legal follow (lawful_run case book lawful) client txn log complete is end;
    none = λ client txn j p log is tells it. none_of case book lawful.legal follow (lawful_run case book lawful) client txn j p log is tells it;
  };
}

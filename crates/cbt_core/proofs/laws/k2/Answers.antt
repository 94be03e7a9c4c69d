use Rattle.cbt_core.proofs.runs.FreshOpenings.{lawful_run}
use Rattle.cbt_core.proofs.k2_documents.OwnWrites.{commits_own_writes}
use Rattle.cbt_core.proofs.k2_documents.Tables.{documents}
use Rattle.cbt_core.proofs.laws.k2.Goals as goal

pub returns : goal.returns
returns c = record {
  documents = λ case book lawful follow i d low.
      documents case book lawful.legal follow
      (lawful_run case book lawful) i d;
  own_writes = λ case book lawful follow.
      commits_own_writes case book lawful.legal follow
      (lawful_run case book lawful);
}

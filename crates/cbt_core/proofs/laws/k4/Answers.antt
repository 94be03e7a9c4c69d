use Rattle.cbt_core.proofs.k4_cleanup.Ended.{attempts_leave}
use Rattle.cbt_core.proofs.k4_cleanup.Evicted.{lost_by_eviction}
use Rattle.cbt_core.proofs.runs.FreshOpenings.{lawful_run}
use Rattle.cbt_core.proofs.k4_cleanup.Passed.{passes_leave}
use Rattle.cbt_core.proofs.laws.k4.Goals as goal

pub returns : goal.returns
returns c = record {
  passes = λ case book lawful follow pass covered a i is ok listed after_end.
      passes_leave case book lawful.legal follow
      (lawful_run case book lawful) pass covered a i is ok listed after_end;
  attempts = λ case book lawful follow client txn try_no p i log e log_is tells at sends after_end.
      attempts_leave case book lawful.legal follow
      (lawful_run case book lawful) client txn try_no p i log e log_is tells at sends after_end;
  lost = λ case book lawful follow client txn try_no place log log_is end_is.
      lost_by_eviction case book lawful.legal follow
      (lawful_run case book lawful) client txn try_no place log log_is end_is;
}

use Rattle.cbt_core.proofs.runs.FreshOpenings.{lawful_run}
use Rattle.cbt_core.proofs.k5_updates.Updates.{no_update_lost}
use Rattle.cbt_core.proofs.laws.k5.Goals as goal

pub returns : goal.returns
returns c = record {
  none_lost = λ case book lawful follow a b p q t d commit_a over commit_b apart writes after_reading before.
      no_update_lost case book lawful.legal follow
      (lawful_run case book lawful) a b p q t d commit_a over commit_b apart writes after_reading before;
}

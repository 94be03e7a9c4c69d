use Rattle.cbtx.specs.Cases.{case_of}
use Rattle.cbtx.proofs.Right.{lawful}
use Rattle.cbtx.proofs.headline.runs_are_right.Goals as goal

pub returns : goal.returns
returns c script book run =
    let it = lawful c.openings_are_fresh.ensures c.fresh_openings.ensures.sound c.fresh_openings.ensures.fresh script book run in
    let case = case_of script in
    record {
      never_both = c.k1.ensures.never_both case book it;
      commits_once = c.k1.ensures.once case book it;
      no_commit_decided = c.k1.ensures.undecided case book it;
      documents = c.k2.ensures.documents case book it run.follow;
      own_writes = c.k2.ensures.own_writes case book it run.follow;
      answers = c.k3.ensures.answers case book it run.follow;
      moments = c.k3.ensures.moments case book it run.follow;
      contended = c.k3.ensures.contended case book it run.follow;
      moved = c.k3.ensures.moved case book it run.follow;
      blocked = c.k3.ensures.blocked case book it run.follow;
      passes = c.k4.ensures.passes case book it run.follow;
      attempts = c.k4.ensures.attempts case book it run.follow;
      entries_lost = c.k4.ensures.lost case book it run.follow;
      no_update_lost = c.k5.ensures.none_lost case book it run.follow;
      at_most_once = c.k6.ensures.at_most_once case book it run.follow;
    }

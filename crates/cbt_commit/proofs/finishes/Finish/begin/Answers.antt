use Rattle.std.proofs.Common.{ℕ, ◌≤◌, List, length, sym, subst}
use Rattle.cbt_commit.specs.Written.{Written}
use Rattle.cbt_attempt.specs.OwnWrites.{noted}
use Rattle.cbt_commit.specs.Standing.{begun}
use Rattle.cbt_commit.proofs.Copying.{listed_once, few_works}
use Rattle.cbt_commit.proofs.finishes.Finish.begin.Goals as goal

pub returns-clause-stands : goal.returns-clause-stands
returns-clause-stands c = record {
  listed = listed_once (noted c.args.attempt.now.writes) _ (record { works = c.in_ok-works.ensures.just; lists = c.in_ok-lists.ensures.named });
  runs = begun;
}

pub returns-clause-ready : goal.returns-clause-ready
returns-clause-ready c l well =
    record { own = noted c.args.attempt.now.writes; is_of = record { works = c.in_ok-works.ensures.just; lists = c.in_ok-lists.ensures.named }; well = well }

pub returns-clause-few : goal.returns-clause-few
returns-clause-few c =
    subst (λ (ws : List (List ℕ × Written)). length ws ≤ length c.args.attempt.now.writes) (sym c.in_ok-works.ensures.order) (few_works c.args.attempt.now.writes)

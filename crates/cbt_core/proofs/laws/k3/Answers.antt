use Rattle.cbt_core.proofs.k3_answers.Blocked.{blocked_by_another}
use Rattle.cbt_core.proofs.k3_answers.Contended.{contended_by_others}
use Rattle.cbt_core.proofs.runs.FreshOpenings.{lawful_run}
use Rattle.cbt_core.proofs.k3_answers.Moved.{moved_by_other}
use Rattle.cbt_core.proofs.k3_answers.RightAnswers.{answers_right, moments_rise}
use Rattle.cbt_core.proofs.laws.k3.Goals as goal

pub returns-clause-answers : goal.returns-clause-answers
returns-clause-answers c case book lawful follow client txn try_no n o log so it =
    answers_right case book lawful.legal follow
    (lawful_run case book lawful) client txn try_no n o log so it

pub returns-clause-moments : goal.returns-clause-moments
returns-clause-moments c case book lawful follow client log is =
    moments_rise case book lawful.legal follow
    (lawful_run case book lawful) client log is

pub returns-clause-contended : goal.returns-clause-contended
returns-clause-contended c case book lawful follow client txn try_no n o log so it answered =
    contended_by_others case book lawful.legal follow
    (lawful_run case book lawful) client txn try_no n o log so it answered

pub returns-clause-moved : goal.returns-clause-moved
returns-clause-moved c case book lawful follow client txn try_no n o log so it answered =
    moved_by_other case book lawful.legal follow
    (lawful_run case book lawful) client txn try_no n o log so it answered

pub returns-clause-blocked : goal.returns-clause-blocked
returns-clause-blocked c case book lawful follow client txn try_no n by o log so it answered =
    blocked_by_another case book lawful.legal follow
    (lawful_run case book lawful) client txn try_no n by o log so it answered

use Rattle.cbtx.specs.Cases.{case_of}
use Rattle.cbtx.proofs.still.still.Goals as goal

pub returns-clause-legal : goal.returns-clause-legal
returns-clause-legal g c script book s b = (c.obey.ensures.run script book s b).legal

pub returns-clause-licensed : goal.returns-clause-licensed
returns-clause-licensed g c script book s b = (c.obey.ensures.run script book s b).licensed

pub returns-clause-follow : goal.returns-clause-follow
returns-clause-follow g c script book s b = (c.obey.ensures.run script book s b).follow

pub returns-clause-never_both : goal.returns-clause-never_both
returns-clause-never_both g c script book s b = (c.runs_are_right.ensures script book (c.obey.ensures.run script book s b)).never_both

pub returns-clause-commits_once : goal.returns-clause-commits_once
returns-clause-commits_once g c script book s b = (c.runs_are_right.ensures script book (c.obey.ensures.run script book s b)).commits_once

pub returns-clause-no_commit_decided : goal.returns-clause-no_commit_decided
returns-clause-no_commit_decided g c script book s b = (c.runs_are_right.ensures script book (c.obey.ensures.run script book s b)).no_commit_decided

pub returns-clause-at_most_once : goal.returns-clause-at_most_once
returns-clause-at_most_once g c script book s b = (c.runs_are_right.ensures script book (c.obey.ensures.run script book s b)).at_most_once

pub returns-clause-documents : goal.returns-clause-documents
returns-clause-documents g c script book s b = (c.runs_are_right.ensures script book (c.obey.ensures.run script book s b)).documents

pub returns-clause-own_writes : goal.returns-clause-own_writes
returns-clause-own_writes g c script book s b = (c.runs_are_right.ensures script book (c.obey.ensures.run script book s b)).own_writes

pub returns-clause-answers : goal.returns-clause-answers
returns-clause-answers g c script book s b = (c.runs_are_right.ensures script book (c.obey.ensures.run script book s b)).answers

pub returns-clause-moments : goal.returns-clause-moments
returns-clause-moments g c script book s b = (c.runs_are_right.ensures script book (c.obey.ensures.run script book s b)).moments

pub returns-clause-no_update_lost : goal.returns-clause-no_update_lost
returns-clause-no_update_lost g c script book s b = (c.runs_are_right.ensures script book (c.obey.ensures.run script book s b)).no_update_lost

pub returns-clause-contended : goal.returns-clause-contended
returns-clause-contended g c script book s b = (c.runs_are_right.ensures script book (c.obey.ensures.run script book s b)).contended

pub returns-clause-moved : goal.returns-clause-moved
returns-clause-moved g c script book s b = (c.runs_are_right.ensures script book (c.obey.ensures.run script book s b)).moved

pub returns-clause-blocked : goal.returns-clause-blocked
returns-clause-blocked g c script book s b = (c.runs_are_right.ensures script book (c.obey.ensures.run script book s b)).blocked

pub returns-clause-passes : goal.returns-clause-passes
returns-clause-passes g c script book s b = (c.runs_are_right.ensures script book (c.obey.ensures.run script book s b)).passes

pub returns-clause-attempts : goal.returns-clause-attempts
returns-clause-attempts g c script book s b = (c.runs_are_right.ensures script book (c.obey.ensures.run script book s b)).attempts

pub returns-clause-entries_lost : goal.returns-clause-entries_lost
returns-clause-entries_lost g c script book s b = (c.runs_are_right.ensures script book (c.obey.ensures.run script book s b)).entries_lost

pub returns-clause-clients_complete : goal.returns-clause-clients_complete
returns-clause-clients_complete g c whole script book s b =
    c.completeness.ensures.clients (case_of script) book (c.obey.ensures.run script book s b).follow (c.obey.ensures.stops whole script book s b)

pub returns-clause-cleaners_complete : goal.returns-clause-cleaners_complete
returns-clause-cleaners_complete g c whole script book s b =
    c.completeness.ensures.cleaners (case_of script) book (c.obey.ensures.run script book s b).follow (c.obey.ensures.stops whole script book s b)

use Rattle.std.proofs.Common.{◌∷◌, [], inl, refl, arith}
use Rattle.cbt_base.specs.Ids.{attempt_number}
use Rattle.cbt_rows.specs.CleanerFreesPendingStage.{book, client_2, pass_1_1_1, plan_2_1, run_case}
use Rattle.cbt_rows.proofs.Named.{nothing}
use Rattle.cbt_rows.proofs.Premises.{met, its_pass}
use Rattle.cbt_rows.proofs.called.laws_where_cleaner_frees_pending_stage.Goals as goal

pub returns-clause-once : goal.returns-clause-once
returns-clause-once c = let it = met c.fresh_openings.ensures.sound c.fresh_openings.ensures.fresh in c.k1.ensures.once run_case book it.lawful

pub returns-clause-documents : goal.returns-clause-documents
returns-clause-documents c = let it = met c.fresh_openings.ensures.sound c.fresh_openings.ensures.fresh in c.k2.ensures.documents run_case book it.lawful it.follow

pub returns-clause-answers : goal.returns-clause-answers
returns-clause-answers c = let it = met c.fresh_openings.ensures.sound c.fresh_openings.ensures.fresh in c.k3.ensures.answers run_case book it.lawful it.follow

pub returns-clause-finished : goal.returns-clause-finished
returns-clause-finished c = let it = met c.fresh_openings.ensures.sound c.fresh_openings.ensures.fresh in c.k4.ensures.passes run_case book it.lawful it.follow pass_1_1_1 (attempt_number 1 1 1 ∷ []) (attempt_number 1 1 1) 7
    its_pass refl (inl refl) (omega arith)

pub returns-clause-none_lost : goal.returns-clause-none_lost
returns-clause-none_lost c = let it = met c.fresh_openings.ensures.sound c.fresh_openings.ensures.fresh in c.k5.ensures.none_lost run_case book it.lawful it.follow

pub returns-clause-at_most_once : goal.returns-clause-at_most_once
returns-clause-at_most_once c = let it = met c.fresh_openings.ensures.sound c.fresh_openings.ensures.fresh in c.k6.ensures.at_most_once run_case book it.lawful it.follow

-- the second client has no stop
pub returns-clause-complete : goal.returns-clause-complete
returns-clause-complete c = let it = met c.fresh_openings.ensures.sound c.fresh_openings.ensures.fresh in c.completeness.ensures.clients run_case book it.follow it.kept 2 (record { txns = plan_2_1 ∷ [] }) client_2 refl refl (λ e. nothing e)

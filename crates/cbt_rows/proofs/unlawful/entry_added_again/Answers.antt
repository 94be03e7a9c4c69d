use Rattle.std.proofs.Common.{inl, inr, [], refl, lit≤}
use Rattle.cbt_base.specs.Clock.{clock_of}
use Rattle.cbt_model.specs.Table.{row}
use Rattle.cbt_model.specs.History.{TakesEffect, CommitsAt, RollsBackAt}
use Rattle.cbt_rows.proofs.Never.{differ, some-none, plain_lost}
use Rattle.cbt_rows.specs.Unlawful.{no_docs, entry_again, attempt, call, add_entry}
use Rattle.cbt_rows.specs.Words.{lists_of}
use Rattle.cbt_model.specs.declared.steps.Step.TheVariants as step
use Rattle.cbt_rows.proofs.unlawful.entry_added_again.Goals as goal

first : CommitsAt no_docs entry_again attempt 1
unfolding row clock_of
first = record { event = call 1 (step.Commit 0 attempt (lists_of [] [] [])); takes = record { event = refl; not_lost = λ e. plain_lost e; done = refl }; is = refl }

rolled_back : RollsBackAt no_docs entry_again attempt 4
unfolding row clock_of
rolled_back = record { event = call 1 (step.Abort 0 attempt (lists_of [] [] [])); takes = record { event = refl; not_lost = λ e. plain_lost e; done = refl }; is = refl }

again : CommitsAt no_docs entry_again attempt 7
unfolding row clock_of
again = record { event = call 1 (step.Commit 0 attempt (lists_of [] [] [])); takes = record { event = refl; not_lost = λ e. plain_lost e; done = refl }; is = refl }

added : TakesEffect no_docs entry_again 0 (call 1 add_entry)
unfolding row clock_of
added = record { event = refl; not_lost = λ e. plain_lost e; done = refl }

added_again : TakesEffect no_docs entry_again 3 (call 1 add_entry)
unfolding row clock_of
added_again = record { event = refl; not_lost = λ e. plain_lost e; done = refl }

pub returns : goal.returns
unfolding row clock_of first rolled_back
returns c = record {
  both = λ never. never attempt 1 4 first rolled_back;
  twice = λ once. differ 1 7 refl (once attempt 1 7 first again);
  added = λ once. differ 0 3 refl (once.one attempt 0 3 (call 1 add_entry) (call 1 add_entry) added added_again refl refl);
  decided = λ once. differ 1 4 refl (once attempt 1 4 first.event rolled_back.event first.takes rolled_back.takes (inl refl) (inr refl));
  shown = λ stays. some-none _ (stays.dropped 1 3 4 0 (0, attempt) _ (lit≤ tt) (lit≤ tt) refl refl);
}

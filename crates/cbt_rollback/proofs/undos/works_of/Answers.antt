use Rattle.std.proofs.Common.{rules, ◌≡◌, ◌∙◌, ◌≤◌, ◌+◌, length, slice_get, is_some, Some, None}
use Rattle.std.specs.Str.{bytes_eq}
use Rattle.indexmap.proofs.CallerLemmas.{insert_entry-new}
use Rattle.cbt_attempt.specs.OwnWrites.{noted}
use Rattle.cbt_rollback.specs.Ready.{stamp_of}
use Rattle.cbt_rollback.proofs.Works.{copied_on, copied_all, copied_few, copied_order, grown}
use Rattle.cbt_rollback.proofs.undos.works_of.Goals as goal

pub returns-in_default-clause-copied : goal.returns-in_default-clause-copied
returns-in_default-clause-copied c =
    let past : slice_get c.args.attempt.now.writes c.loop-at.at ≡ None = search rules in
    copied_all c.args.attempt.now.writes c.loop-at.at c.loop-at.works.entries past c.loop-at.invariant

pub loop-at-preserved : goal.loop-at-preserved
loop-at-preserved c =
    let writes = c.args.attempt.now.writes in
    let found : slice_get writes c.loop-at.at ≡ Some (c.in_ok-copy.field-0, c.in-Some.field-0-1.now) = search rules in
    let stamp : stamp_of (noted writes c.in_ok-copy.field-0) ≡ c.stamp-stamp.result = search rules in
    let longer : length c.insert.new.self.entries ≤ length c.loop-at.works.entries + 1 = grown (is_some c.in_ok-insert.field-0) (length c.loop-at.works.entries) (length c.insert.new.self.entries) c.in_ok-insert.ensures.len in
    copied_on writes c.loop-at.at c.loop-at.works.entries c.insert.new.self.entries (c.in_ok-copy.field-0, c.in-Some.field-0-1.now) c.stamp-stamp.result found stamp
    c.in_ok-insert.ensures.updates.0 c.in_ok-insert.ensures.unique longer
    (λ none. c.in_ok-insert.ensures.entries ∙ insert_entry-new bytes_eq c.loop-at.works c.in_ok-copy.field-0 c.stamp-stamp.result none) c.loop-at.invariant

pub returns-in_default-clause-few : goal.returns-in_default-clause-few
returns-in_default-clause-few c = copied_few c.args.attempt.now.writes c.loop-at.at c.loop-at.works.entries c.loop-at.invariant

pub returns-in_default-clause-in_order : goal.returns-in_default-clause-in_order
returns-in_default-clause-in_order c distinct =
    let past : slice_get c.args.attempt.now.writes c.loop-at.at ≡ None = search rules in
    copied_order c.args.attempt.now.writes c.loop-at.at c.loop-at.works.entries past c.loop-at.invariant distinct

use Rattle.std.proofs.Common.{rules, ◌≡◌, ℕ, List, slice_get, Some, None}
use Rattle.cbt_attempt.specs.OwnWrites.{noted}
use Rattle.cbt_attempt.specs.declared.own.Own.{Own}
use Rattle.cbt_commit.specs.Ready.{copied, written_of}
use Rattle.cbt_commit.proofs.Copying.{copied_on, copied_all, copied_past, rest_on, rest_past, rest_none}
use Rattle.cbt_commit.proofs.works.works_of.Goals as goal

pub returns-in_default-clause-just : goal.returns-in_default-clause-just
returns-in_default-clause-just c =
    let past : slice_get c.args.attempt.now.writes c.loop-at.at ≡ None = search rules in
    copied_all c.args.attempt.now.writes c.loop-at.at c.loop-at.works.entries past c.loop-at.invariant.upto

pub returns-in_default-clause-order : goal.returns-in_default-clause-order
returns-in_default-clause-order c =
    let past : slice_get c.args.attempt.now.writes c.loop-at.at ≡ None = search rules in
    rest_none c.args.attempt.now.writes c.loop-at.at c.loop-at.works.entries (copied c.args.attempt.now.writes) past c.loop-at.invariant.rest

pub loop-at-preserved : goal.loop-at-preserved
loop-at-preserved c =
    let writes = c.args.attempt.now.writes in
    let e : List ℕ × Own = (c.in_ok-copy.field-0, c.in-Some.field-0-1.now) in
    let found : slice_get writes c.loop-at.at ≡ Some (c.in_ok-copy.field-0, c.in-Some.field-0-1.now) = search rules in
    let is_written : written_of (noted writes c.in_ok-copy.field-0) ≡ Some c.in-Some-2.work = search rules in
    record {
      upto = copied_on writes c.loop-at.at c.loop-at.works.entries c.insert.new.self.entries e c.in-Some-2.work found is_written
          c.in_ok-insert.ensures.updates.0 c.in_ok-insert.ensures.unique c.loop-at.invariant.upto;
      rest = rest_on writes c.loop-at.at c.loop-at.works.entries c.insert.new.self.entries (copied writes) e c.in-Some-2.work found
          is_written c.in_ok-insert.ensures.entries c.loop-at.invariant.rest;
    }

pub loop-at-preserved-in_default-2 : goal.loop-at-preserved-in_default-2
loop-at-preserved-in_default-2 c =
    let writes = c.args.attempt.now.writes in
    let e : List ℕ × Own = (c.in-Some.doc.now, c.in-Some.field-0-1.now) in
    let found : slice_get writes c.loop-at.at ≡ Some (c.in-Some.doc.now, c.in-Some.field-0-1.now) = search rules in
    let unknown : written_of (noted writes c.in-Some.doc.now) ≡ None = search rules in
    record {
      upto = copied_past writes c.loop-at.at c.loop-at.works.entries e found unknown c.loop-at.invariant.upto;
      rest = rest_past writes c.loop-at.at c.loop-at.works.entries (copied writes) e found unknown c.loop-at.invariant.rest;
    }

use Rattle.std.proofs.Common.{◌+◌, ◌<◌, ◌≤◌, length, drop, get_or, sym, ap, ◌∙◌, subst, arith}
use Rattle.std.proofs.lemmas.List.{drop_all}
use Rattle.cbt_txn.specs.Following.{Follows, GoesOn}
use Rattle.cbt_txn.proofs.Stepping.{comes_next}
use Rattle.cbt_txn.proofs.Telling.{between_done}
use Rattle.cbt_txn.specs.Licensing.{GoesWell, done, Owns}
use Rattle.cbt_txn.specs.declared.operations.Work.TheVariants as work
use Rattle.cbt_txn.proofs.Steps.{turned}
use Rattle.cbt_txn.proofs.operations.Operations.advance.Goals as goal
use Rattle.cbt_txn.specs.Bounds.{open_left}
use Rattle.cbt_txn.proofs.BoundsOpen.{begins_at, ends_at}

pub returns-clause-follows : goal.returns-clause-follows
returns-clause-follows c t l0 told same it =
    let now = c.loop-at.invariant.follows t l0 told same it in
    let long : length c.args.ops.now ≤ length c.loop-at.self.logs = omega (arith, c.loop-at.invariant.at_is, c.len-at-end.ensures, c.loop-at-test.false) in
    subst (λ n. Follows t n l0 told) (sym c.set_work.ensures)
    (between_done t c.loop-at.self l0 told now (ap (drop (length c.loop-at.self.logs)) same ∙ drop_all (length c.loop-at.self.logs) c.args.ops.now long))

pub returns-then-not-branch-clause-follows : goal.returns-then-not-branch-clause-follows
returns-then-not-branch-clause-follows c t l0 told same it =
    let now = c.loop-at.invariant.follows t l0 told same it in
    let within : c.loop-at.at < length c.args.ops.now = omega (arith, c.len-at-end.ensures, c.loop-at-test.true) in
    let next = comes_next t c.loop-at.self.logs c.args.ops.now c.loop-at.at c.index-as_slice-at.result same c.loop-at.invariant.at_is within (c.index-as_slice-at.is ∙ ap (λ k. get_or k c.loop-at.at c.index-as_slice-at.result) c.as_slice.ensures) now.good in
    subst (λ b. GoesOn b t c.begin_op.new.self l0 told) c.if-not-branch.true (c.in_ok-begin_op.ensures.follows t l0 told same next now)

pub loop-at-preserved : goal.loop-at-preserved
loop-at-preserved c = record {
  follows = λ t l0 told same it.
      let now = c.loop-at.invariant.follows t l0 told same it in
      let within : c.loop-at.at < length c.args.ops.now = omega (arith, c.len-at-end.ensures, c.loop-at-test.true) in
      let next = comes_next t c.loop-at.self.logs c.args.ops.now c.loop-at.at c.index-as_slice-at.result same c.loop-at.invariant.at_is within (c.index-as_slice-at.is ∙ ap (λ k. get_or k c.loop-at.at c.index-as_slice-at.result) c.as_slice.ensures) now.good in
      subst (λ b. GoesOn b t c.begin_op.new.self l0 told) c.if-not-branch.false (c.in_ok-begin_op.ensures.follows t l0 told same next now);
  at_is = c.in_ok-begin_op.ensures.more c.if-not-branch.false ∙ ap (λ n. n + 1) c.loop-at.invariant.at_is;
  behind = let more = c.in_ok-begin_op.ensures.more c.if-not-branch.false in omega (arith, more, c.loop-at.invariant.behind);
  attempt = c.in_ok-begin_op.ensures.attempt ∙ c.loop-at.invariant.attempt;
}

pub returns-clause-licensed : goal.returns-clause-licensed
returns-clause-licensed c who l owns well =
    turned who l c.loop-at.self c.set_work.new.self work.Done c.set_work.ensures (subst (λ a. Owns who a l) (sym c.loop-at.invariant.attempt) owns)
    (done (subst (λ a. GoesWell a l) (sym c.loop-at.invariant.attempt) well))

pub returns-then-not-branch-clause-licensed : goal.returns-then-not-branch-clause-licensed
returns-then-not-branch-clause-licensed c who l owns well =
    c.in_ok-begin_op.ensures.licensed who l (subst (λ a. Owns who a l) (sym c.loop-at.invariant.attempt) owns)
    (subst (λ a. GoesWell a l) (sym c.loop-at.invariant.attempt) well) c.if-not-branch.true

pub returns-clause-few : goal.returns-clause-few
returns-clause-few c =
    ends_at c.args.ops.now c.args.self.now c.loop-at.self c.set_work.new.self c.set_work.ensures c.loop-at.invariant.behind c.loop-at.invariant.attempt

pub returns-then-not-branch-clause-few : goal.returns-then-not-branch-clause-few
returns-then-not-branch-clause-few c =
    let within : c.loop-at.at < length c.args.ops.now = omega (arith, c.len-at-end.ensures, c.loop-at-test.true) in
    let behind : length c.args.self.now.logs ≤ c.loop-at.at = omega (arith, c.loop-at.invariant.behind, c.loop-at.invariant.at_is) in
    begins_at c.args.ops.now c.args.self.now c.loop-at.self c.loop-at.at (open_left c.args.ops.now c.begin_op.new.self) c.loop-at.invariant.at_is within behind
    c.loop-at.invariant.attempt (c.in_ok-begin_op.ensures.few c.if-not-branch.true)

use Rattle.std.proofs.Common.{◌+◌, Some, sym, subst}
use Rattle.cbt_book.specs.declared.cleaners.PassEnd.TheVariants as pass_end
use Rattle.cbt_book.specs.declared.cleaners.PassLog.{PassLog}
use Rattle.cbt_lost.specs.Tours.{GoesWith, IsCutOff}
use Rattle.cbt_lost.specs.declared.tours.Tour.{Tour}
use Rattle.cbt_lost.specs.declared.tours.Under.{Under}
use Rattle.cbt_lost.proofs.Outcomes.{err_always}
use Rattle.cbt_lost.proofs.Spanning.{between}
use Rattle.cbt_lost.proofs.Touring.{cut_before, goes_as, next_begins}
use Rattle.cbt_lost.proofs.tours.Tour.go_on.Goals as goal

-- no memory was found for the log of the next pass
pub returns-in_err-push-clause-halts : goal.returns-in_err-push-clause-halts
returns-in_err-push-clause-halts c base mine it =
    let t = c.args.self.now in
    err_always _ _ (subst (λ k. IsCutOff c.args.atrs (record t { passes = k }) base mine) (sym c.in_err-push.ensures.err) (cut_before c.args.atrs t base mine c.in-Some.atr it c.in-Some.ensures.some))

-- it begins
pub returns-clause-follows : goal.returns-clause-follows
returns-clause-follows c base mine past it =
    let t = c.args.self.now in
    let span = between c.args.past c.args.past in
    let u : Under = record { pass = c.begin.result; span = span } in
    let log : PassLog = record { atr = c.in-Some.atr; span = span; end = pass_end.CallFailed c.args.past } in
    subst (λ (k : Tour). GoesWith c.args.atrs k base mine k.under) (sym c.set_under.ensures)
    (goes_as c.args.atrs (record t { next = c.in-Some.atr + 1; passes = c.push.new.self }) base mine (Some u) u
    (next_begins c.args.atrs t base mine c.in-Some.atr c.args.past log c.push.new.self c.begin.result it past c.in-Some.ensures.some c.in_ok-push.ensures.ok c.begin.ensures.begun))

use Rattle.std.proofs.Common.{sym, subst}
use Rattle.cbt_core.specs.Clients.{FollowsPlan}
use Rattle.cbt_core.specs.Stops.{WasStopped}
use Rattle.cbt_txn.proofs.Standing.{asks_unstopped, log_follows, log_stopped}
use Rattle.cbt_txn.proofs.clients.Client.into_log.Goals as goal

pub returns-clause-follows : goal.returns-clause-follows
returns-clause-follows c l stands falls =
    let it = c.args.self in
    subst (λ k. FollowsPlan it.origin.actor it.origin.atrs it.origin.plan l (record { txns = k; calls = it.calls })) (sym c.told.ensures) (log_follows it l stands falls)

pub returns-clause-stopped : goal.returns-clause-stopped
returns-clause-stopped c l stands falls =
    let so = log_stopped c.args.self l stands falls in
    (λ was. so.0 (subst WasStopped c.told.ensures was), λ unended. subst WasStopped (sym c.told.ensures) (so.1 unended))

pub returns-clause-calls : goal.returns-clause-calls
returns-clause-calls c l stands = stands.counted

pub returns-clause-asks : goal.returns-clause-asks
returns-clause-asks c l stands falls = asks_unstopped c.args.self l stands falls

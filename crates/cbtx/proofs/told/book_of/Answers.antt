use Rattle.cbtx.proofs.Logs.{cleaners-both, clients-both}
use Rattle.cbtx.proofs.told.book_of.Goals as goal

pub returns-clause-clients : goal.returns-clause-clients
returns-clause-clients c =
    clients-both c.new-clients.result c.add_logs.new.clients c.add_logs-2.new.clients c.args.workers c.args.sweep
    c.new-clients.ensures c.in_ok-add_logs.ensures.clients c.in_ok-add_logs-2.ensures.clients

pub returns-clause-cleaners : goal.returns-clause-cleaners
returns-clause-cleaners c =
    cleaners-both c.new-cleaners.result c.add_logs.new.cleaners c.add_logs-2.new.cleaners c.args.workers c.args.sweep
    c.new-cleaners.ensures c.in_ok-add_logs.ensures.cleaners c.in_ok-add_logs-2.ensures.cleaners

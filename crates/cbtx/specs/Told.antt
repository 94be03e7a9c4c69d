-- What actors tell in their logs.
use Rattle.std.specs.Prelude.{List, [], ◌∷◌}
use Rattle.cbt_book.specs.declared.cleaners.CleanerLog.{CleanerLog}
use Rattle.cbt_book.specs.declared.clients.ClientLog.{ClientLog}
use Rattle.cbt_lost.specs.Cleaning.{cleaner_log_of}
use Rattle.cbtx.specs.declared.workers.Worker.{Worker}
use Rattle.cbtx.specs.declared.workers.Worker.TheVariants.{Transacts, Cleans}
use Rattle.cbt_txn.specs.Clients.{client_log_of}

-- the logs of the clients among actors, and of the cleaners, in their order
abbrev pub client_logs : List Worker → List ClientLog
client_logs [] = []
client_logs (Transacts c ∷ ws) = client_log_of c ∷ client_logs ws
client_logs (Cleans c ∷ ws) = client_logs ws

abbrev pub cleaner_logs : List Worker → List CleanerLog
cleaner_logs [] = []
cleaner_logs (Transacts c ∷ ws) = cleaner_logs ws
cleaner_logs (Cleans c ∷ ws) = cleaner_log_of c ∷ cleaner_logs ws

-- Logs of actors, one list behind another.
use Rattle.std.proofs.Common.{◌≡◌, List, [], ◌∷◌, ◌++◌, refl, sym, ap, ◌∙◌}
use Rattle.cbt_book.specs.declared.cleaners.CleanerLog.{CleanerLog}
use Rattle.cbt_book.specs.declared.clients.ClientLog.{ClientLog}
use Rattle.cbt_lost.specs.Cleaning.{cleaner_log_of}
use Rattle.cbt_txn.specs.Clients.{client_log_of}
use Rattle.cbtx.specs.Told.{cleaner_logs, client_logs}
use Rattle.cbtx.specs.declared.workers.Worker.{Worker}
use Rattle.cbtx.specs.declared.workers.Worker.TheVariants.{Transacts, Cleans}

pub client_logs-append : (xs ys : List Worker) → client_logs (xs ++ ys) ≡ client_logs xs ++ client_logs ys
client_logs-append [] ys = refl
client_logs-append (Transacts c ∷ xs) ys = ap (λ l. client_log_of c ∷ l) (client_logs-append xs ys)
client_logs-append (Cleans c ∷ xs) ys = client_logs-append xs ys

pub cleaner_logs-append : (xs ys : List Worker) → cleaner_logs (xs ++ ys) ≡ cleaner_logs xs ++ cleaner_logs ys
cleaner_logs-append [] ys = refl
cleaner_logs-append (Transacts c ∷ xs) ys = cleaner_logs-append xs ys
cleaner_logs-append (Cleans c ∷ xs) ys = ap (λ l. cleaner_log_of c ∷ l) (cleaner_logs-append xs ys)

-- the logs of both, put in one after the other
pub clients-both : (none one both : List ClientLog) (xs ys : List Worker) → none ≡ [] → one ≡ none ++ client_logs xs → both ≡ one ++ client_logs ys
    → both ≡ client_logs (xs ++ ys)
clients-both none one both xs ys empty first second =
    second ∙ ap (λ l. l ++ client_logs ys) (first ∙ ap (λ l. l ++ client_logs xs) empty) ∙ sym (client_logs-append xs ys)

pub cleaners-both : (none one both : List CleanerLog) (xs ys : List Worker) → none ≡ [] → one ≡ none ++ cleaner_logs xs → both ≡ one ++ cleaner_logs ys
    → both ≡ cleaner_logs (xs ++ ys)
cleaners-both none one both xs ys empty first second =
    second ∙ ap (λ l. l ++ cleaner_logs ys) (first ∙ ap (λ l. l ++ cleaner_logs xs) empty) ∙ sym (cleaner_logs-append xs ys)

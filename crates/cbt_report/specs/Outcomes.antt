-- How the end of a transaction is told.
use Rattle.std.specs.Prelude.{ℕ, List, codes, true, false}
use Rattle.cbt_book.specs.declared.clients.TxnEnd.{TxnEnd}
use Rattle.cbt_book.specs.declared.clients.TxnEnd.TheVariants as txn
use Rattle.cbt_book.specs.declared.clients.Why.{Why}
use Rattle.cbt_book.specs.declared.clients.Why.TheVariants as why

abbrev pub why_text : Why → List ℕ
why_text why.NotFound = codes "failed not-found"
why_text why.Exists = codes "failed exists"
why_text why.NeedFalse = codes "failed need-false"
why_text why.BadValue = codes "failed bad-value"

abbrev pub outcome_text : TxnEnd → List ℕ
outcome_text (txn.Committed true) = codes "committed"
outcome_text (txn.Committed false) = codes "committed incomplete"
outcome_text txn.Empty = codes "empty"
outcome_text txn.RolledBack = codes "rolled back"
outcome_text (txn.Failed why) = why_text why
outcome_text (txn.Expired now) = codes "expired"
outcome_text txn.TriesSpent = codes "tries spent"
outcome_text txn.Unknown = codes "unknown"
outcome_text (txn.CallFailed place) = codes "call failed"
outcome_text txn.Stopped = codes "stopped"

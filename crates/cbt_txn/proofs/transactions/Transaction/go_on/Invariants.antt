use Rattle.std.proofs.Common.{◌≡◌, ◌≤◌, List, ◌++◌, length}
use Rattle.cbt_model.specs.declared.events.Made.{Made}
use Rattle.cbt_book.specs.Numbers.{Identity}
use Rattle.cbt_book.specs.OwnLists.{Descends}
use Rattle.cbt_core.specs.Transactions.{TxnTerms}
use Rattle.cbt_txn.specs.Transactions.{IsMadeUnder, Tries, TxnMayGoOn}
use Rattle.cbt_txn.specs.TxnBounds.{txn_left}
use Rattle.cbt_txn.proofs.transactions.Transaction.go_on.Given as goal

-- its tries are so many, and stand as they stood
abbrev pub invariant-loop : goal.invariant-loop
invariant-loop l = record {
  follows : (who : Identity) (x : TxnTerms) (before mine : List Made) → IsMadeUnder x l.initial.self.terms → x.plan ≡ l.plan → Descends (mine ++ before)
      → TxnMayGoOn who l.initial.self (mine ++ before) → Tries x l.initial.self before mine → Tries x l.self before mine;
  licensed : (who : Identity) (calls : List Made) → TxnMayGoOn who l.initial.self calls → TxnMayGoOn who l.self calls;
  no_more : txn_left l.plan l.self ≤ txn_left l.plan l.initial.self;
  count : length l.self.attempts ≡ l.counter;
  terms : l.self.terms ≡ l.initial.self.terms;
  end : l.self.end ≡ l.initial.self.end;
}

use Rattle.std.proofs.Common.{◌≡◌, ◌≤◌, suc, List, None}
use Rattle.cbt_model.specs.declared.events.Made.{Made}
use Rattle.cbt_book.specs.OwnLists.{Descends}
use Rattle.cbt_book.specs.Spans.{past_of}
use Rattle.cbt_txn.specs.Clients.{IsBetween, due_left}
use Rattle.cbt_txn.specs.Transactions.{AreEarlier}
use Rattle.cbt_txn.proofs.clients.Client.advance.Given as goal

-- the transactions so far have ended without a call
abbrev pub invariant-loop-at : goal.invariant-loop-at
invariant-loop-at l = record {
  follows : (k : List Made) → l.past ≡ past_of k → Descends k → AreEarlier l.initial.self.origin.actor (suc l.initial.self.at) 1 k → IsBetween l.initial.self k
      → IsBetween l.self k;
  earlier : (k : List Made) → AreEarlier l.initial.self.origin.actor (suc l.initial.self.at) 1 k → AreEarlier l.initial.self.origin.actor (suc l.self.at) 1 k;
  no_more : due_left l.self ≤ due_left l.initial.self;
  at_is : l.self.at ≡ l._at;
  idle : l.self.txn ≡ None;
  rest : l.self ≡ record l.initial.self { txns = l.self.txns; at = l.self.at; txn = l.self.txn };
}

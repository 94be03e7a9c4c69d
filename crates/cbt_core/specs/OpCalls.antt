-- The calls of an operation, whether it was answered or cut off.
use Rattle.std.specs.Prelude.{◌≡◌, ℕ, false, List, [], count_by, None, Ok, Err}
use Rattle.cbt_model.specs.declared.documents.OpKind.{OpKind}
use Rattle.cbt_model.specs.declared.events.Made.{Made}
use Rattle.cbt_book.specs.Calls.{WriteTerms, GetCalls, WriteCalls, reads_doc}
use Rattle.cbt_core.specs.OpAnswers.{agrees_last}
use Rattle.cbt_core.specs.Walk.{AttemptTerms, Sofar, Request, Reads, Writes, Tests}

-- under what an attempt writes
abbrev pub write_terms : AttemptTerms → WriteTerms
write_terms t = record { id = t.id; atrs = t.atrs; hold = t.plan.hold }

-- a write reads its document only where it has no own write, and the attempt's last reading of it does not agree
pub data ReadsAnew (so : Sofar) (d : List ℕ) (kind : OpKind) (calls : List Made) : Type 0 where
  unread : count_by (λ m. reads_doc m.step) calls ≡ 0 → ReadsAnew so d kind calls
  unserved : so.own d ≡ None → agrees_last kind (so.read d) ≡ false → ReadsAnew so d kind calls

-- the calls of an operation that asks for this, after so much; a write whose expression has no value makes none, and so does a test
abbrev pub OpCalls : AttemptTerms → Sofar → Request → List Made → Type 0
OpCalls t so (Reads d name) calls = GetCalls d calls
OpCalls t so (Writes d kind (Ok content)) calls = WriteCalls (write_terms t) d calls × ReadsAnew so d kind calls
OpCalls t so (Writes d kind (Err part)) calls = calls ≡ []
OpCalls t so (Tests truth) calls = calls ≡ []

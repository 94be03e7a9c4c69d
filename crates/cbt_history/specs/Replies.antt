-- The text of a reply: a row for each form.
use Rattle.std.specs.Prelude.{ℕ, List, ◌++◌, length, codes, decimal}
use Rattle.cbt_model.specs.declared.entries.EntryState.{EntryState}
use Rattle.cbt_model.specs.declared.entries.EntryState.TheVariants.{Pending, Committed, Aborted}
use Rattle.cbt_model.specs.declared.steps.Reply.{Reply}
use Rattle.cbt_model.specs.declared.steps.Reply.TheVariants as reply

abbrev pub state_word : EntryState → List ℕ
state_word Pending = codes "PENDING"
state_word Committed = codes "COMMITTED"
state_word Aborted = codes "ABORTED"

-- what a reply is, and its stamp, its state or how many things it lists
abbrev pub reply_text : Reply → List ℕ
reply_text (reply.Doc cas body stage) = codes "doc " ++ decimal cas
reply_text reply.Absent = codes "absent"
reply_text (reply.Done cas) = codes "done " ++ decimal cas
reply_text (reply.CasMismatch have) = codes "cas-mismatch " ++ decimal have
reply_text reply.Exists = codes "exists"
reply_text (reply.Entry entry) = codes "entry " ++ state_word entry.state
reply_text reply.NoEntry = codes "no-entry"
reply_text reply.Decided = codes "decided"
reply_text (reply.Entries entries) = codes "entries " ++ decimal (length entries)
reply_text (reply.Clients rows) = codes "clients " ++ decimal (length rows)
reply_text reply.Failed = codes "failed"

-- A cleaner's pass over one transaction record.
use Rattle.std.specs.Prelude.{◌≡◌, ◌≢◌, ℕ, ◌+◌, ◌*◌, ◌≤◌, ◌⊎◌, Bool, true, false, ◌==◌, nat_lt, List, [], ◌∷◌, ◌++◌, length, map, filter, count_by}
use Rattle.std.specs.List.{sum_by}
use Rattle.cbt_base.specs.Clock.{ms_of}
use Rattle.cbt_model.specs.History.{is_done}
use Rattle.cbt_model.specs.declared.entries.Entry.{Entry}
use Rattle.cbt_model.specs.declared.entries.EntryState.TheVariants.{Pending}
use Rattle.cbt_model.specs.declared.entries.Lists.{Lists}
use Rattle.cbt_model.specs.declared.events.Made.{Made}
use Rattle.cbt_model.specs.declared.steps.Reply.{Reply}
use Rattle.cbt_model.specs.declared.steps.Reply.TheVariants as reply
use Rattle.cbt_model.specs.declared.steps.Step.{Step}
use Rattle.cbt_model.specs.declared.steps.Step.TheVariants as step
use Rattle.cbt_book.specs.OwnLists.{Once, Each, In, during}
use Rattle.cbt_book.specs.Outcomes.{EndsFailed}
use Rattle.cbt_book.specs.Shown.{ReadsEntry, FindsNoEntry}
use Rattle.cbt_book.specs.Spans.{IsSpan}
use Rattle.cbt_book.specs.declared.cleaners.PassEnd.{PassEnd}
use Rattle.cbt_book.specs.declared.cleaners.PassEnd.TheVariants as pass_end
use Rattle.cbt_book.specs.declared.cleaners.PassLog.{PassLog}

-- whether an entry has stood for longer than it may, at this time
abbrev pub is_expired : ℕ → Entry → Bool
is_expired now e = nat_lt (ms_of e.start + e.exp) now

-- the attempts of a record's entries that have expired, in their order
abbrev pub expired_in : List (ℕ × Entry) → ℕ → List ℕ
expired_in entries now = map (λ e. e.0) (filter (λ e. is_expired now e.1) entries)

-- answered Done, or that the entry is not there
abbrev pub IsDropped : Reply → Type 0
IsDropped r = (is_done r ≡ true) ⊎ (r ≡ reply.NoEntry)

-- the calls of a pass over record r finish attempt a
pub data Finishes (r a : ℕ) (calls : List Made) : Type 0 where
  -- its entry was dropped
  dropped : Once (λ m _. (guarded : Bool) × (m.step ≡ step.DropEntry r a guarded) × IsDropped m.answer.reply) calls → Finishes r a calls
  -- its entry was not there
  missing : Once (λ m _. FindsNoEntry r a m) calls → Finishes r a calls
  -- it was decided when it was to be dropped, and pending when it was read then, which never comes; and a drop of it was sent
  -- once more
  pending : Once (λ l between. (l.step ≡ step.DropEntry r a true)
      × Once (λ m before. ((e : Entry) × ReadsEntry r a e m × (e.state ≡ Pending))
      × Once (λ n _. (n.step ≡ step.DropEntry r a true) × (n.answer.reply ≡ reply.Decided)) before) between) calls → Finishes r a calls

-- the attempts that a pass covers by this answer to its reading of the record
abbrev pub covered_by : Reply → ℕ → List ℕ
covered_by (reply.Entries entries) now = expired_in entries now
covered_by _ now = []

-- whether a step drops the entry of attempt a
abbrev pub drops_entry_of : ℕ → Step → Bool
drops_entry_of a (step.DropEntry r b guarded) = a == b
drops_entry_of a _ = false

-- what a pass over record r that covers these attempts may call behind its reading of the record and these calls: readings of
-- documents and what takes stagings off; and for each covered attempt one reading and two drops of its entry
abbrev pub MayPass : ℕ → List ℕ → List Made → Step → Type 0
MayPass r covered past (step.ReadDoc d) = Unit {0}
MayPass r covered past (step.Publish d x body) = Unit {0}
MayPass r covered past (step.Delete d x) = Unit {0}
MayPass r covered past (step.Unstick d x) = Unit {0}
MayPass r covered past (step.ReadEntry q a) = (q ≡ r) × In a covered × (¬ Once (λ m _. m.step ≡ step.ReadEntry r a) past)
MayPass r covered past (step.DropEntry q a guarded) = (q ≡ r) × In a covered × (count_by (λ m. drops_entry_of a m.step) past ≤ 1)
MayPass r covered past _ = ⊥

-- whether a step of a pass is about a document
abbrev pub is_about_doc : Step → Bool
is_about_doc (step.ReadDoc d) = true
is_about_doc (step.Publish d x body) = true
is_about_doc (step.Delete d x) = true
is_about_doc (step.Unstick d x) = true
is_about_doc _ = false

-- the calls for the documents that lists name: a reading of each, and what takes the staging off
abbrev pub calls_for : Lists → ℕ
calls_for lists = 2 * (length lists.ins + length lists.rep + length lists.rem)

-- how many calls on documents follow from this answer at most: those for what the expired entries list, or the entry that was read
abbrev pub docs_due : Reply → ℕ → ℕ
docs_due (reply.Entries entries) now = sum_by (λ e. calls_for e.1.lists) (filter (λ e. is_expired now e.1) entries)
docs_due (reply.Entry e) now = calls_for e.lists
docs_due _ now = 0

-- the calls of a pass over record r, whether or not it has ended: a reading of the record, and after it calls of a pass alone
pub record PassCalls (r : ℕ) (first : Made) (later : List Made) : Type 0 where
  pub reads : first.step ≡ step.ReadAtr r
  pub only : Each (λ m past. MayPass r (covered_by first.answer.reply first.answer.now) past m.step) later
  pub documents : count_by (λ m. is_about_doc m.step) later ≤ sum_by (λ m. docs_due m.answer.reply m.answer.now) (later ++ first ∷ [])

-- a pass that ended Ok keeps the expired attempts of its first reading, each of which it has finished, and no call of it failed
pub record PassKept (r : ℕ) (first : Made) (calls : List Made) (covered : List ℕ) : Type 0 where
  pub entries : List (ℕ × Entry)
  pub shown : first.answer.reply ≡ reply.Entries entries
  pub covered_is : covered ≡ expired_in entries first.answer.now
  pub finished : (a : ℕ) → In a covered → Finishes r a calls
  pub answered : Each (λ m _. m.answer.reply ≢ reply.Failed) calls

-- a pass ends so: Ok, or by the first call that failed
abbrev pub EndsPass : ℕ → Made → List Made → PassEnd → Type 0
EndsPass r first calls (pass_end.Ok covered) = PassKept r first calls covered
EndsPass r first calls (pass_end.CallFailed place) = (it : EndsFailed place calls) × Each (λ m _. m.answer.reply ≢ reply.Failed) it.older

-- the log of a pass
pub record PassFollows (l : List Made) (at : ℕ) (log : PassLog) : Type 0 where
  pub spanned : IsSpan l at log.span
  pub first : Made
  pub later : List Made
  pub calls : during log.span l ≡ later ++ first ∷ []
  pub may : PassCalls log.atr first later
  pub ends : EndsPass log.atr first (during log.span l) log.end

-- one past the last place of passes that begin at `at`
abbrev pub passes_end : ℕ → List PassLog → ℕ
passes_end at [] = at
passes_end at (log ∷ logs) = passes_end log.span.to logs

-- passes follow one another
abbrev pub PassesFollow : List Made → ℕ → List PassLog → Type 0
PassesFollow l at [] = Unit {0}
PassesFollow l at (log ∷ logs) = PassFollows l at log × PassesFollow l log.span.to logs

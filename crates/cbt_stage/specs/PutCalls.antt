-- The calls of a put: of which kinds they are, and how many there may be.
use Rattle.std.specs.Prelude.{◌≡◌, ℕ, ◌≤◌, true, false, List, count_by}
use Rattle.cbt_model.specs.declared.events.Made.{Made}
use Rattle.cbt_book.specs.Calls.{reads_doc, reads_entry, adds_entry, writes_doc, MayWrite, WriteTerms}
use Rattle.cbt_book.specs.OwnLists.{Once, Each}
use Rattle.cbt_attempt.specs.declared.attempt.Attempt.{Attempt}

-- under what an attempt writes
abbrev pub terms_of : Attempt → WriteTerms
terms_of a = record { id = a.id; atrs = a.atrs; hold = a.exp }

-- a put's calls are those of a write, but for readings of the document: it asks for an entry four times at most, adds its own at
-- most once, and writes by its last call
pub record PutCalls (t : WriteTerms) (d : List ℕ) (calls : List Made) : Type 0 where
  pub only : Each (λ m _. MayWrite t d m.step) calls
  pub unread : Each (λ m _. reads_doc m.step ≡ false) calls
  pub entries : count_by (λ m. reads_entry m.step) calls ≤ 4
  pub added : count_by (λ m. adds_entry m.step) calls ≤ 1
  pub written_last : Each (λ m before. ¬ Once (λ n _. writes_doc n.step ≡ true) before) calls

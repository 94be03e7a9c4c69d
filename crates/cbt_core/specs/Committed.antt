-- The committed table: the opening's documents, with the write sets of committed attempts applied in the order of their commits.
use Rattle.std.specs.Prelude.{ℕ, List, [], ◌∷◌, length, take, reverse, Option, Some, None}
use Rattle.cbt_json.specs.declared.value.Json.{Json}
use Rattle.cbt_model.specs.History.{commits_below, commit_order}
use Rattle.cbt_model.specs.View.{view}
use Rattle.cbt_model.specs.declared.events.Event.{Event}
use Rattle.cbt_model.specs.declared.states.State.{State}

-- what a document is after a write set: its content there, or as it was
abbrev pub applied : Option (Option Json) → Option Json → Option Json
applied None old = old
applied (Some content) old = content

-- the table after these attempts, newest first, have committed
abbrev pub table_after : (ℕ → List ℕ → Option (Option Json)) → State → List ℕ → List ℕ → Option Json
table_after writes opening [] d = view opening d
table_after writes opening (a ∷ earlier) d = applied (writes a d) (table_after writes opening earlier d)

-- the table after the first i events
abbrev pub table_at : (ℕ → List ℕ → Option (Option Json)) → State → List Event → ℕ → List ℕ → Option Json
table_at writes s0 h i = table_after writes s0 (commits_below s0 h i)

-- the table after the first k commits
abbrev pub table_of : (ℕ → List ℕ → Option (Option Json)) → State → List Event → ℕ → List ℕ → Option Json
table_of writes s0 h k = table_after writes s0 (reverse (take k (commit_order s0 h)))

-- how many attempts commit among the first i events
abbrev pub commits_count : State → List Event → ℕ → ℕ
commits_count s0 h i = length (commits_below s0 h i)

-- What a path reaches in a tree, and what a look-up answers.
use Rattle.std.specs.Prelude.{◌≡◌, ◌-◌, List, [], ◌∷◌, length, slice_get, Option, Some, None, Result, Ok, Err}
use Rattle.std.specs.Borrow.{Bor}
use Rattle.cbt_json.specs.declared.tree.Tree.{Tree, out-Tree}
use Rattle.cbt_json.specs.declared.tree.Tree.TheOpen.{Tree-F}
use Rattle.cbt_subdoc.specs.declared.path.Part.{Part}
use Rattle.cbt_subdoc.specs.declared.path.Part.TheVariants.{Name, Place, Last}
use Rattle.cbt_subdoc.specs.declared.reaching.Miss.{Miss}
use Rattle.cbt_subdoc.specs.declared.reaching.Miss.TheVariants.{NotFound, Mismatch}
use Rattle.cbt_subdoc.specs.declared.looks.Look.{Look}
use Rattle.cbt_subdoc.specs.declared.looks.Look.TheVariants as look
use Rattle.cbt_subdoc.specs.declared.looks.LookAnswer.{LookAnswer}
use Rattle.cbt_subdoc.specs.declared.looks.LookAnswer.TheVariants as answer
use Rattle.cbt_subdoc.specs.Members.{member}

abbrev pub found : Option Tree → Result Tree Miss
found (Some t) = Ok t
found None = Err NotFound

-- what one part reaches: a name a member of an object, a place an item of a list
abbrev pub child : Part → Tree-F Tree → Result Tree Miss
child (Name name) (Tree-F.Object ms) = found (member name ms)
child (Place n) (Tree-F.List ts) = found (slice_get ts n)
child Last (Tree-F.List ts) = found (slice_get ts (length ts - 1))
child _ _ = Err Mismatch

abbrev pub onward : (Tree → Result Tree Miss) → Result Tree Miss → Result Tree Miss
onward next (Ok t) = next t
onward next (Err miss) = Err miss

-- what a path reaches; the first part that does not reach decides
abbrev pub reached : List Part → Tree → Result Tree Miss
reached [] t = Ok t
reached (part ∷ parts) t = onward (reached parts) (child part (out-Tree t))

-- how many items or members a value has
abbrev pub count_of : Tree-F Tree → LookAnswer
count_of (Tree-F.List ts) = answer.Count (length ts)
count_of (Tree-F.Object ms) = answer.Count (length ms)
count_of _ = answer.Mismatch

abbrev pub missed : Miss → LookAnswer
missed NotFound = answer.NotFound
missed Mismatch = answer.Mismatch

abbrev pub answer_of : (Tree → LookAnswer) → Result Tree Miss → LookAnswer
answer_of at (Ok t) = at t
answer_of at (Err miss) = missed miss

-- the answer to a look into a tree
abbrev pub look_answer : Tree → Look → LookAnswer
look_answer t (look.Exists path) = answer_of (λ _. answer.Yes) (reached path t)
look_answer t (look.Get path) = answer_of (λ v. answer.Found v) (reached path t)
look_answer t (look.Count path) = answer_of (λ v. count_of (out-Tree v)) (reached path t)

-- a value reached by reference
abbrev pub Reaches : Result (Bor Tree) Miss → Result Tree Miss → Type 0
Reaches (Ok v) r = r ≡ Ok v.now
Reaches (Err miss) r = r ≡ Err miss

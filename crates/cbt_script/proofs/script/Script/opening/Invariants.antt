use Rattle.std.proofs.Common.{◌≡◌, ◌+◌, [], drop}
use Rattle.cbt_script.specs.Opening.{docs_from}
use Rattle.cbt_script.proofs.script.Script.opening.Given as goal

-- the documents so far, with those that are left, are the whole
abbrev pub invariant-loop-id : goal.invariant-loop-id
invariant-loop-id l = record {
  counted : l.cas ≡ l.id-index;
  whole : docs_from (l.cas + 1) (drop l.id-index l.id-items) l.docs ≡ docs_from 1 l.id-items [];
}

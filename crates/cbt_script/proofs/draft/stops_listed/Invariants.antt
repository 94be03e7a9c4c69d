use Rattle.std.proofs.Common.{◌≡◌, ◌++◌}
use Rattle.cbt_script.proofs.draft.stops_listed.Given as goal

-- what is listed and what is left make the whole
abbrev pub invariant-loop-actor : goal.invariant-loop-actor
invariant-loop-actor l = l.list ++ l.actor-iterator ≡ l.stops

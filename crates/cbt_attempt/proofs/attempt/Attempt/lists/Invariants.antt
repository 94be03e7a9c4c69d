use Rattle.std.proofs.Common.{◌≡◌, ◌++◌}
use Rattle.cbt_model.specs.declared.documents.OpKind.TheVariants.{Insert, Replace, Remove}
use Rattle.cbt_attempt.specs.OwnWrites.{docs_of}
use Rattle.cbt_attempt.proofs.attempt.Attempt.lists.Given as goal

-- what is listed and what is left to list make the whole
abbrev pub invariant-loop-doc : goal.invariant-loop-doc
invariant-loop-doc l = record {
  ins : l.lists.ins ++ docs_of Insert l.doc-iterator ≡ docs_of Insert l.self.writes;
  rep : l.lists.rep ++ docs_of Replace l.doc-iterator ≡ docs_of Replace l.self.writes;
  rem : l.lists.rem ++ docs_of Remove l.doc-iterator ≡ docs_of Remove l.self.writes;
}

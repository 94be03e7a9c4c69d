-- What the calls of a try are after the operations that were answered.
use Rattle.std.specs.Prelude.{◌≡◌, true, ◌↔◌, List, Some}
use Rattle.cbt_model.specs.History.{commits}
use Rattle.cbt_model.specs.declared.events.Made.{Made}
use Rattle.cbt_book.specs.Closing.{MayClose, ThirdInVain}
use Rattle.cbt_book.specs.OwnLists.{Once, Each}
use Rattle.cbt_book.specs.Shown.{aborts}
use Rattle.cbt_book.specs.declared.clients.AttemptLog.{AttemptLog}
use Rattle.cbt_core.specs.Attempts.{CutFollows, HasEnded, MayKeep, MayRollBack, course_of}
use Rattle.cbt_core.specs.Walk.{AttemptTerms}

-- they are those of an operation that was cut off, `cut`, and then those that close the try
pub record ClosesWell (t : AttemptTerms) (log : AttemptLog) (closing cut : List Made) : Type 0 where
  pub cut_follows : CutFollows t (course_of t log cut closing) cut
  pub ended : HasEnded (course_of t log cut closing)
  pub closes : Each (λ m past. MayClose t.id past m.step) closing
  pub may_commit : Once (λ m _. commits m.step ≡ Some t.id) closing → MayKeep t (course_of t log cut closing)
  pub may_abort : Once (λ m _. aborts m.step ≡ Some t.id) closing → MayRollBack t (course_of t log cut closing)
  pub third : (log.not_committed ≡ true) ↔ ThirdInVain t.id closing

-- The runs of which the laws speak.
use Rattle.cbt_book.specs.declared.book.Book.{Book}
use Rattle.cbt_core.specs.Openings.{IsSound, AreFresh}
use Rattle.cbt_core.specs.Runs.{IsLegalRun, AreLicensed}
use Rattle.cbt_core.specs.declared.case.Case.{Case}

-- a legal run of licensed actors, from a sound opening to which every attempt is new
pub record IsLawfulRun (case : Case) (book : Book) : Type 0 where
  pub legal : IsLegalRun case book
  pub licensed : AreLicensed case book
  pub sound : IsSound case.opening
  pub fresh : AreFresh case.opening book.kept.history

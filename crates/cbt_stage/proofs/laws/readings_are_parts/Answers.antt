use Rattle.cbt_book.specs.OwnLists.{is_within}
use Rattle.cbt_stage.proofs.Parts.{newest, passing}
use Rattle.cbt_stage.proofs.laws.readings_are_parts.Goals as goal

pub returns-clause-newest : goal.returns-clause-newest
returns-clause-newest c = newest

pub returns-clause-during : goal.returns-clause-during
returns-clause-during c span l = passing (λ m. is_within span m.answer.place) l

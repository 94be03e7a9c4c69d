-- A read stands for its calls after each of them.
use Rattle.std.proofs.Common.{◌≡◌, true, List, ◌∷◌, Some}
use Rattle.cbt_model.specs.Fitting.{fits}
use Rattle.cbt_model.specs.declared.events.Answer.{Answer}
use Rattle.cbt_model.specs.declared.events.Made.{Made}
use Rattle.cbt_model.specs.declared.steps.Step.{Step}
use Rattle.cbt_read.specs.Phases.{step_of, after}
use Rattle.cbt_read.specs.Standing.{StandsFor}
use Rattle.cbt_read.specs.declared.gets.Get.{Get}
use Rattle.cbt_read.proofs.Counting.{bounded_on, few_on}
use Rattle.cbt_read.proofs.Knowing.{knows_on}

pub stands_on : (get : Get) (mine : List Made) (s : Step) (answer : Answer) → step_of get ≡ Some s → fits s answer.reply ≡ true → StandsFor get mine
    → StandsFor (record { doc = get.doc; phase = after get.phase answer.place answer.reply }) (record { step = s; answer = answer } ∷ mine)
stands_on get mine s answer asked fit stands =
    let m : Made = record { step = s; answer = answer } in
    record {
      knows = knows_on get.doc get.phase mine m asked fit stands.knows;
      bounded = bounded_on get.doc get.phase mine m asked stands.knows;
      few = few_on get.doc get.phase mine m asked stands.few;
    }

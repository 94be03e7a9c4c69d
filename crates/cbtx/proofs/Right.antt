-- A run of a script is one of which the laws speak.
use Rattle.std.proofs.Common.{ℕ, List}
use Rattle.cbt_book.specs.declared.book.Book.{Book}
use Rattle.cbt_core.specs.Lawful.{IsLawfulRun}
use Rattle.cbt_core.specs.Openings.{IsSound, AreFresh}
use Rattle.cbt_json.specs.declared.tree.Tree.{Tree}
use Rattle.cbt_model.specs.Fresh.{IsFresh}
use Rattle.cbt_model.specs.declared.events.Event.{Event}
use Rattle.cbt_model.specs.declared.states.State.{State}
use Rattle.cbt_script.specs.Opening.{opening_of}
use Rattle.cbt_script.specs.declared.script.Script.{Script}
use Rattle.cbtx.specs.Cases.{case_of}
use Rattle.cbtx.specs.Headline.{IsRunOf}

pub lawful : ((docs : List (List ℕ × Tree × Tree)) → IsFresh (opening_of docs)) → ((s : State) → IsFresh s → IsSound s)
    → ((s : State) (h : List Event) → IsFresh s → AreFresh s h) → (script : Script) (book : Book) → IsRunOf script book → IsLawfulRun (case_of script) book
lawful unwritten sound fresh script book run = record {
  legal = run.legal;
  licensed = run.licensed;
  sound = sound (opening_of script.docs) (unwritten script.docs);
  fresh = fresh (opening_of script.docs) book.kept.history (unwritten script.docs);
}

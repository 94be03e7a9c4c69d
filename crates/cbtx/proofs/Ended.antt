-- How a run of the program ended.
use Rattle.std.proofs.Common.{◌≡◌, ℕ, ◌⊎◌, ⊎_elim, false, true, List, Option, Some, None, is_some, Result, Ok, Err, refl, sym, ap, ◌∙◌, subst}
use Rattle.cbt_streams.specs.Streams.{ReadWhole}
use Rattle.cbt_book.specs.declared.book.Book.{Book}
use Rattle.cbt_script.specs.Reading.{script_of}
use Rattle.cbt_script.specs.declared.cause.Bad.{Bad}
use Rattle.cbt_script.specs.declared.cause.ScriptFault.{ScriptFault}
use Rattle.cbt_script.specs.declared.cause.ScriptFault.TheVariants as fault
use Rattle.cbt_script.specs.declared.script.Script.{Script}
use Rattle.cbt_words.specs.declared.command.Command.{Command}
use Rattle.cbt_words.specs.declared.command.Command.TheVariants.{Sim, Run, Gen}
use Rattle.cbtx.specs.Commands.{draws, hands_back, reads, run_text, runs}
use Rattle.cbtx.specs.Statuses.{IsCut, IsCutOff, Refuses, is_told, bad_line}

pub same_some : {A : Type 0} (x y : A) → Some x ≡ Some y → x ≡ y
same_some x y is = cc

abbrev no_room : Result Script ScriptFault
no_room = Err fault.NoMemory

-- what was read is what the bytes are
pub read_is : (input bytes : List ℕ) (s : Script) → input ≡ bytes → (Ok s ≡ script_of input) ⊎ (Ok s ≡ no_room) → script_of bytes ≡ Ok s
read_is input bytes s same told =
    ⊎_elim (λ (is : Ok s ≡ script_of input). ap script_of (sym same) ∙ sym is) (λ (out : Ok s ≡ no_room). cc) told

abbrev refused_by : Bad → Result Script ScriptFault
refused_by bad = Err (fault.Bad bad)

pub bad_is : (input bytes : List ℕ) (bad : Bad) → input ≡ bytes → (refused_by bad ≡ script_of input) ⊎ (refused_by bad ≡ no_room) → script_of bytes ≡ refused_by bad
bad_is input bytes bad same told =
    ⊎_elim (λ (is : refused_by bad ≡ script_of input). ap script_of (sym same) ∙ sym is) (λ (out : refused_by bad ≡ no_room). cc) told

module _ (left left' : Option (List ℕ)) (bytes : List ℕ) (read : ReadWhole left left' bytes) where
  -- the line on the first bad line is due
  abbrev pub refuses_bad : (bad : Bad) → script_of bytes ≡ refused_by bad → Refuses left left' (bad_line bad)
  refuses_bad bad is = record { input = bytes; read = read; bad = bad; is = is; line = refl }

-- what reads runs
pub runs_too : (command : Command) → reads (Some command) ≡ true → runs (Some command) ≡ true
runs_too (Sim history) is = refl
runs_too (Run history) is = absurd (cc)
runs_too (Gen seed clients accounts transfers sim) is = absurd (cc)

-- what is drawn is run or handed back
pub hands_back_else : (command : Command) → draws (Some command) ≡ true → (runs (Some command) ≡ true → ⊥) → hands_back (Some command) ≡ true
hands_back_else (Sim history) drawn not_run = absurd (cc)
hands_back_else (Run history) drawn not_run = absurd (cc)
hands_back_else (Gen seed clients accounts transfers true) drawn not_run = absurd (not_run refl)
hands_back_else (Gen seed clients accounts transfers false) drawn not_run = refl

-- the sink failed while what is told of a run was written
pub cut_off : (command : Command) (left left' taken taken' : Option (List ℕ)) (faults faults' : ℕ) (s : Script) (script : Option Script) (book : Option Book)
    → runs (Some command) ≡ true → is_some book ≡ true → is_some script ≡ is_some book → ((t : Script) → script ≡ Some t → t ≡ s)
    → ((b : Book) → book ≡ Some b → IsCut taken taken' faults faults' (run_text command s b))
    → IsCutOff (Some command) left left' taken taken' faults faults' script book
cut_off command left left' taken taken' faults faults' s (Some t) (Some b) ran there together same told = record {
  text = run_text command t b;
  due = is_told ran t b refl refl refl;
  cut = subst (λ x. IsCut taken taken' faults faults' (run_text command x b)) (sym (same t refl)) (told b refl);
}
cut_off command left left' taken taken' faults faults' s None (Some b) ran there together same told = absurd (cc)
cut_off command left left' taken taken' faults faults' s script None ran there together same told = absurd (cc)

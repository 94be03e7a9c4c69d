-- A written event has no line feed.
use Rattle.std.proofs.Common.{◌≡◌, ℕ, ◌^◌, ◌<◌, Bool, true, false, ltb, List, ◌++◌, Option, Some, None, codes, decimal, refl, arith}
use Rattle.std.specs.List.{list_all}
use Rattle.std.proofs.lemmas.Bool.{ltb-true}
use Rattle.cbt_base.specs.Ids.{IsDocId, id_text}
use Rattle.cbt_json.specs.declared.tree.Tree.{Tree}
use Rattle.cbt_json.specs.Trees.{text_of}
use Rattle.cbt_lex.proofs.ByRecursion.{all_weaker, all_behind, all_pass}
use Rattle.cbt_lex.proofs.DecimalsBack.{decimal_word}
use Rattle.cbt_lex.proofs.LinesBack.{NoFeed}
use Rattle.cbt_lex.proofs.WordsBack.{one_line_word}
use Rattle.cbt_model.specs.declared.documents.OpKind.{OpKind}
use Rattle.cbt_model.specs.declared.documents.OpKind.TheVariants.{Insert, Replace, Remove}
use Rattle.cbt_model.specs.declared.documents.Stage.{Stage}
use Rattle.cbt_model.specs.declared.events.Event.{Event}
use Rattle.cbt_model.specs.declared.events.Fate.{Fate}
use Rattle.cbt_model.specs.declared.events.Fate.TheVariants.{Plain, Lost, Late}
use Rattle.cbt_model.specs.declared.steps.Expect.{Expect}
use Rattle.cbt_model.specs.declared.steps.Expect.TheVariants as expect
use Rattle.cbt_model.specs.declared.steps.Reply.{Reply}
use Rattle.cbt_model.specs.declared.steps.Step.{Step}
use Rattle.cbt_model.specs.declared.steps.Step.TheVariants as step
use Rattle.cbt_script.proofs.IdsBack.{id_word}
use Rattle.cbt_script.proofs.TextsBack.{json_one_line}
use Rattle.cbt_history.specs.Events.{fate_word, head_text, event_line}
use Rattle.cbt_history.specs.NameLists.{lists_tree, ids_tree}
use Rattle.cbt_history.specs.Replies.{reply_text}
use Rattle.cbt_history.specs.Rules.{Is16, Is64, IsExpect, IsContent, IsStage, IsStep, IsTold, IsEvent}
use Rattle.cbt_history.specs.Steps.{expect_word, kind_word, content_text, stage_text, guard_word, at_cas, of_entry, step_text}
use Rattle.cbt_history.proofs.IdWords.{id_text_word}
use Rattle.cbt_history.proofs.NameLists.{lists_json, ids_json}
use Rattle.cbt_history.proofs.RepliesBack.{reply_one_line}

both : (a b : List ℕ) → NoFeed a → NoFeed b → NoFeed (a ++ b)
both a b one two = all_behind (λ (x : ℕ). x ≡ 10 → ⊥) a b one two

above : (b : ℕ) → ltb 10 b ≡ true → b ≡ 10 → ⊥
above b is same = let up : 10 < b = ltb-true 10 b is in omega arith

literal : (text : List ℕ) → list_all (ltb 10) text ≡ true → NoFeed text
literal text is = all_weaker above text (all_pass (ltb 10) text is)

-- a text, a space and another text
spaced : (a b : List ℕ) → NoFeed a → NoFeed b → NoFeed (a ++ codes " " ++ b)
spaced a b one two = both (a ++ codes " ") b (both a (codes " ") one (literal (codes " ") refl)) two

number : (n : ℕ) → Is64 n → NoFeed (decimal n)
number n fits = one_line_word (decimal n) (decimal_word n fits)

number_16 : (n : ℕ) → Is16 n → NoFeed (decimal n)
number_16 n low = number n (omega arith)

id : (n : ℕ) → NoFeed (id_text n)
id n = one_line_word (id_text n) (id_text_word n)

doc : (name : List ℕ) → IsDocId name → NoFeed name
doc name is = one_line_word name (id_word name is)

-- ---- steps

expect_line : (e : Expect) → IsExpect e → NoFeed (expect_word e)
expect_line expect.New is = literal (codes "new") refl
expect_line (expect.Cas cas) is = number cas is

kind_line : (k : OpKind) → NoFeed (kind_word k)
kind_line Insert = literal (codes "insert") refl
kind_line Replace = literal (codes "replace") refl
kind_line Remove = literal (codes "remove") refl

content_line : (content : Option Tree) → IsContent content → NoFeed (content_text content)
content_line None is = literal (codes "-") refl
content_line (Some content) is = json_one_line content is

stage_line : (stage : Stage) → IsStage stage → NoFeed (stage_text stage)
stage_line stage is =
    spaced (id_text stage.attempt ++ codes " " ++ decimal stage.atr ++ codes " " ++ kind_word stage.kind) (content_text stage.content)
    (spaced (id_text stage.attempt ++ codes " " ++ decimal stage.atr) (kind_word stage.kind)
    (spaced (id_text stage.attempt) (decimal stage.atr) (id stage.attempt) (number_16 stage.atr is.1)) (kind_line stage.kind))
    (content_line stage.content is.2)

guard_line : (guarded : Bool) → NoFeed (guard_word guarded)
guard_line true = literal (codes "guarded") refl
guard_line false = literal (codes "plain") refl

-- a word, with the space behind it, and a document at a stamp
at_cas_line : (word name : List ℕ) (cas : ℕ) → list_all (ltb 10) word ≡ true → IsDocId name → Is64 cas → NoFeed (at_cas word name cas)
at_cas_line word name cas is named fits = spaced (word ++ name) (decimal cas) (both word name (literal word is) (doc name named)) (number cas fits)

-- a word, with the space behind it, and an entry
of_entry_line : (word : List ℕ) (atr attempt : ℕ) → list_all (ltb 10) word ≡ true → Is16 atr → NoFeed (of_entry word atr attempt)
of_entry_line word atr attempt is low = spaced (word ++ decimal atr) (id_text attempt) (both word (decimal atr) (literal word is) (number_16 atr low)) (id attempt)

step_line : (s : Step) → IsStep s → NoFeed (step_text s)
step_line (step.ReadDoc name) is = both (codes "read-doc ") name (literal (codes "read-doc ") refl) (doc name is)
step_line (step.Stage name e stage) is =
    spaced (codes "stage " ++ name ++ codes " " ++ expect_word e) (stage_text stage)
    (spaced (codes "stage " ++ name) (expect_word e) (both (codes "stage ") name (literal (codes "stage ") refl) (doc name is.0)) (expect_line e is.1)) (stage_line stage is.2)
step_line (step.Publish name cas body) is = spaced (at_cas (codes "publish ") name cas) (text_of body) (at_cas_line (codes "publish ") name cas refl is.0 is.1) (json_one_line body is.2)
step_line (step.Delete name cas) is = at_cas_line (codes "delete ") name cas refl is.0 is.1
step_line (step.Unstick name cas) is = at_cas_line (codes "unstick ") name cas refl is.0 is.1
step_line (step.ReadEntry atr attempt) is = of_entry_line (codes "read-entry ") atr attempt refl is.0
step_line (step.AddEntry atr attempt exp) is = spaced (of_entry (codes "add-entry ") atr attempt) (decimal exp) (of_entry_line (codes "add-entry ") atr attempt refl is.0) (number exp is.2)
step_line (step.Commit atr attempt lists) is =
    spaced (of_entry (codes "commit ") atr attempt) (text_of (lists_tree lists)) (of_entry_line (codes "commit ") atr attempt refl is.0) (json_one_line (lists_tree lists) (lists_json lists))
step_line (step.Abort atr attempt lists) is =
    spaced (of_entry (codes "abort ") atr attempt) (text_of (lists_tree lists)) (of_entry_line (codes "abort ") atr attempt refl is.0) (json_one_line (lists_tree lists) (lists_json lists))
step_line (step.DropEntry atr attempt guarded) is =
    spaced (of_entry (codes "drop-entry ") atr attempt) (guard_word guarded) (of_entry_line (codes "drop-entry ") atr attempt refl is.0) (guard_line guarded)
step_line (step.ReadAtr atr) is = both (codes "read-atr ") (decimal atr) (literal (codes "read-atr ") refl) (number_16 atr is)
step_line step.ReadClients is = literal (codes "read-clients") refl
step_line (step.Beat me expires atrs gone) is =
    spaced (codes "beat " ++ id_text me ++ codes " " ++ decimal expires ++ codes " " ++ decimal atrs) (text_of (ids_tree gone))
    (spaced (codes "beat " ++ id_text me ++ codes " " ++ decimal expires) (decimal atrs)
    (spaced (codes "beat " ++ id_text me) (decimal expires) (both (codes "beat ") (id_text me) (literal (codes "beat ") refl) (id me)) (number expires is.1))
    (number_16 atrs is.2))
    (json_one_line (ids_tree gone) (ids_json gone))

-- ---- events

fate_line : (f : Fate) → NoFeed (fate_word f)
fate_line Plain = literal (codes "plain") refl
fate_line Lost = literal (codes "lost") refl
fate_line Late = literal (codes "late") refl

head_line : (place : ℕ) (e : Event) → Is64 place → IsEvent e → NoFeed (head_text place e)
head_line place e low is =
    let actor : e.actor < 2 ^ 32 = is.actor in
    spaced (decimal place ++ codes " " ++ decimal e.actor ++ codes " " ++ decimal e.reading) (fate_word e.fate)
    (spaced (decimal place ++ codes " " ++ decimal e.actor) (decimal e.reading)
    (spaced (decimal place) (decimal e.actor) (number place low) (number e.actor (omega arith))) (number e.reading is.reading))
    (fate_line e.fate)

pub event_one_line : (place : ℕ) (e : Event) (r : Reply) → Is64 place → IsEvent e → IsTold r → NoFeed (event_line place e r)
event_one_line place e r low is told =
    both (head_text place e ++ codes " " ++ step_text e.step ++ codes " = ") (reply_text r)
    (both (head_text place e ++ codes " " ++ step_text e.step) (codes " = ")
    (spaced (head_text place e) (step_text e.step) (head_line place e low is) (step_line e.step is.step)) (literal (codes " = ") refl))
    (reply_one_line r told)

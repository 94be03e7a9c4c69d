-- A reply that is written is of a form that may stand behind its step.
use Rattle.std.proofs.Common.{◌≡◌, ℕ, ◌^◌, ◌<◌, Bool, true, false, cond, nat_eq, nat_lt, ◌&&◌, not, List, ◌∷◌, ◌++◌, length, Option, Some, None, codes, decimal, is_some, refl, ap, ◌∙◌, arith}
use Rattle.std.specs.List.{AllByRecursion, list_all}
use Rattle.std.proofs.lemmas.Bool.Decides.{nat_tests}
use Rattle.cbt_base.specs.Clock.{clock_mutated}
use Rattle.cbt_json.specs.declared.value.Json.{Json}
use Rattle.cbt_lex.specs.Decimals.{is_digit, number_of}
use Rattle.cbt_lex.proofs.ByRecursion.{all_weaker, all_behind, all_pass}
use Rattle.cbt_lex.proofs.DecimalsBack.{number_of-decimal, decimal_digits}
use Rattle.cbt_lex.proofs.LinesBack.{NoFeed}
use Rattle.cbt_lex.proofs.Pieces.{Lacking}
use Rattle.cbt_lex.proofs.WordsBack.{no_space, is_solid, word_literal}
use Rattle.cbt_model.specs.History.{by_fate, row_at_event, outcome}
use Rattle.cbt_model.specs.Keys.{doc_at, entry_at}
use Rattle.cbt_model.specs.Table.{Row, read_doc_row, stage_row, publish_row, delete_row, unstick_row, read_entry_row, add_entry_row, decide_row, drop_entry_row, is_pending, may_drop, row}
use Rattle.cbt_model.specs.declared.documents.DocState.{DocState}
use Rattle.cbt_model.specs.declared.documents.Stage.{Stage}
use Rattle.cbt_model.specs.declared.entries.Entry.{Entry}
use Rattle.cbt_model.specs.declared.entries.EntryState.{EntryState}
use Rattle.cbt_model.specs.declared.entries.EntryState.TheVariants.{Pending, Committed, Aborted}
use Rattle.cbt_model.specs.declared.entries.Lists.{Lists}
use Rattle.cbt_model.specs.declared.events.Event.{Event}
use Rattle.cbt_model.specs.declared.events.Fate.{Fate}
use Rattle.cbt_model.specs.declared.events.Fate.TheVariants.{Plain, Lost, Late}
use Rattle.cbt_model.specs.declared.states.State.{State}
use Rattle.cbt_model.specs.declared.steps.Expect.{Expect}
use Rattle.cbt_model.specs.declared.steps.Expect.TheVariants as expect
use Rattle.cbt_model.specs.declared.steps.Reply.{Reply}
use Rattle.cbt_model.specs.declared.steps.Reply.TheVariants as reply
use Rattle.cbt_model.specs.declared.steps.Step.{Step}
use Rattle.cbt_model.specs.declared.steps.Step.TheVariants as step
use Rattle.cbt_history.specs.declared.reply_forms.ReplyForm.{ReplyForm}
use Rattle.cbt_history.specs.declared.reply_forms.ReplyForm.TheVariants as form
use Rattle.cbt_history.specs.Replies.{state_word, reply_text}
use Rattle.cbt_history.specs.RepliesRead.{form_with_field, form_alone, is_state, is_field, with_field, form_by_word, reply_form, answers_read_doc, answers_stage, answers_unstage, answers_read_entry, answers_add_entry, answers_decide, may_answer, form_answers, answers}
use Rattle.cbt_history.specs.Rules.{IsTold}
use Rattle.cbt_history.proofs.FieldsBack.{word_next, word_last}

-- ---- forms

-- the form of a reply
abbrev form_of_reply : Reply → ReplyForm
form_of_reply (reply.Doc cas body stage) = form.Doc
form_of_reply reply.Absent = form.Absent
form_of_reply (reply.Done cas) = form.Done
form_of_reply (reply.CasMismatch have) = form.CasMismatch
form_of_reply reply.Exists = form.Exists
form_of_reply (reply.Entry entry) = form.Entry
form_of_reply reply.NoEntry = form.NoEntry
form_of_reply reply.Decided = form.Decided
form_of_reply (reply.Entries entries) = form.Entries
form_of_reply (reply.Clients rows) = form.Clients
form_of_reply reply.Failed = form.Failed

spaced : (word field : List ℕ) (f : ReplyForm) → is_solid word ≡ true → form_with_field word ≡ Some f → is_field f field ≡ true → reply_form (word ++ 32 ∷ field) ≡ Some f
spaced word field f solid is fits =
    ap (λ o. form_by_word o (word ++ 32 ∷ field)) (word_next word field (no_space word (word_literal word solid)))
    ∙ ap (λ o. with_field o field) is ∙ ap (λ t. cond t (Some f) None) fits

alone : (word : List ℕ) (f : ReplyForm) → is_solid word ≡ true → form_alone word ≡ Some f → reply_form word ≡ Some f
alone word f solid is = ap (λ o. form_by_word o word) (word_last word (no_space word (word_literal word solid))) ∙ is

number_there : (n : ℕ) → n < 2 ^ 64 → is_some (number_of (decimal n)) ≡ true
number_there n fits = ap is_some (number_of-decimal n fits)

state_there : (state : EntryState) → is_state (state_word state) ≡ true
state_there Pending = refl
state_there Committed = refl
state_there Aborted = refl

told_form : (r : Reply) → IsTold r → reply_form (reply_text r) ≡ Some (form_of_reply r)
told_form (reply.Doc cas body stage) told = spaced (codes "doc") (decimal cas) form.Doc refl refl (number_there cas told)
told_form reply.Absent told = alone (codes "absent") form.Absent refl refl
told_form (reply.Done cas) told = spaced (codes "done") (decimal cas) form.Done refl refl (number_there cas told)
told_form (reply.CasMismatch have) told = spaced (codes "cas-mismatch") (decimal have) form.CasMismatch refl refl (number_there have told)
told_form reply.Exists told = alone (codes "exists") form.Exists refl refl
told_form (reply.Entry entry) told = spaced (codes "entry") (state_word entry.state) form.Entry refl refl (state_there entry.state)
told_form reply.NoEntry told = alone (codes "no-entry") form.NoEntry refl refl
told_form reply.Decided told = alone (codes "decided") form.Decided refl refl
told_form (reply.Entries entries) told = spaced (codes "entries") (decimal (length entries)) form.Entries refl refl (number_there (length entries) told)
told_form (reply.Clients rows) told = spaced (codes "clients") (decimal (length rows)) form.Clients refl refl (number_there (length rows) told)
told_form reply.Failed told = alone (codes "failed") form.Failed refl refl

-- ---- rows of the table

-- either reply of a test may answer
either : (F : ReplyForm → Bool) (b : Bool) (one two : Row) → F (form_of_reply one.reply) ≡ true → F (form_of_reply two.reply) ≡ true → F (form_of_reply (cond b one two).reply) ≡ true
either F true one two first second = first
either F false one two first second = second

read_doc_answers : (o : Option DocState) → answers_read_doc (form_of_reply (read_doc_row o).reply) ≡ true
read_doc_answers None = refl
read_doc_answers (Some d) = refl

stage_answers : (c : ℕ) (d : List ℕ) (e : Expect) (stage : Stage) (o : Option DocState) → answers_stage (form_of_reply (stage_row c d e stage o).reply) ≡ true
stage_answers c d expect.New stage (Some old) = refl
stage_answers c d expect.New stage None = refl
stage_answers c d (expect.Cas x) stage None = refl
stage_answers c d (expect.Cas x) stage (Some old) = either answers_stage (nat_eq old.cas x) _ _ refl refl

publish_answers : (c : ℕ) (d : List ℕ) (x : ℕ) (body : Json) (o : Option DocState) → answers_unstage (form_of_reply (publish_row c d x body o).reply) ≡ true
publish_answers c d x body None = refl
publish_answers c d x body (Some old) = either answers_unstage (nat_eq old.cas x) _ _ refl refl

delete_answers : (c : ℕ) (d : List ℕ) (x : ℕ) (o : Option DocState) → answers_unstage (form_of_reply (delete_row c d x o).reply) ≡ true
delete_answers c d x None = refl
delete_answers c d x (Some old) = either answers_unstage (nat_eq old.cas x) _ _ refl refl

unstick_answers : (c : ℕ) (d : List ℕ) (x : ℕ) (o : Option DocState) → answers_unstage (form_of_reply (unstick_row c d x o).reply) ≡ true
unstick_answers c d x None = refl
unstick_answers c d x (Some old) = either answers_unstage (nat_eq old.cas x) _ _ refl refl

read_entry_answers : (o : Option Entry) → answers_read_entry (form_of_reply (read_entry_row o).reply) ≡ true
read_entry_answers None = refl
read_entry_answers (Some e) = refl

add_entry_answers : (c : ℕ) (key : ℕ × ℕ) (exp : ℕ) (o : Option Entry) → answers_add_entry (form_of_reply (add_entry_row c key exp o).reply) ≡ true
add_entry_answers c key exp None = refl
add_entry_answers c key exp (Some e) = refl

decide_answers : (c : ℕ) (key : ℕ × ℕ) (state : EntryState) (lists : Lists) (o : Option Entry) → answers_decide (form_of_reply (decide_row c key state lists o).reply) ≡ true
decide_answers c key state lists None = refl
decide_answers c key state lists (Some e) = either answers_decide (is_pending e.state) _ _ refl refl

drop_answers : (c : ℕ) (key : ℕ × ℕ) (guarded : Bool) (o : Option Entry) → answers_decide (form_of_reply (drop_entry_row c key guarded o).reply) ≡ true
drop_answers c key guarded None = refl
drop_answers c key guarded (Some e) = either answers_decide (may_drop guarded e.state) _ _ refl refl

row_answers : (s : State) (c : ℕ) (st : Step) → may_answer st (form_of_reply (row s c st).reply) ≡ true
unfolding row
row_answers s c (step.ReadDoc d) = read_doc_answers (doc_at s d)
row_answers s c (step.Stage d e stage) = stage_answers c d e stage (doc_at s d)
row_answers s c (step.Publish d x body) = publish_answers c d x body (doc_at s d)
row_answers s c (step.Delete d x) = delete_answers c d x (doc_at s d)
row_answers s c (step.Unstick d x) = unstick_answers c d x (doc_at s d)
row_answers s c (step.ReadEntry r a) = read_entry_answers (entry_at s (r, a))
row_answers s c (step.AddEntry r a exp) = add_entry_answers c (r, a) exp (entry_at s (r, a))
row_answers s c (step.Commit r a lists) = decide_answers c (r, a) Committed lists (entry_at s (r, a))
row_answers s c (step.Abort r a lists) = decide_answers c (r, a) Aborted lists (entry_at s (r, a))
row_answers s c (step.DropEntry r a guarded) = drop_answers c (r, a) guarded (entry_at s (r, a))
row_answers s c (step.ReadAtr r) = refl
row_answers s c step.ReadClients = refl
row_answers s c (step.Beat me expires n gone) = refl

-- each step may fail
failed_answers : (st : Step) → may_answer st form.Failed ≡ true
failed_answers (step.ReadDoc d) = refl
failed_answers (step.Stage d e stage) = refl
failed_answers (step.Publish d x body) = refl
failed_answers (step.Delete d x) = refl
failed_answers (step.Unstick d x) = refl
failed_answers (step.ReadEntry r a) = refl
failed_answers (step.AddEntry r a exp) = refl
failed_answers (step.Commit r a lists) = refl
failed_answers (step.Abort r a lists) = refl
failed_answers (step.DropEntry r a guarded) = refl
failed_answers (step.ReadAtr r) = refl
failed_answers step.ReadClients = refl
failed_answers (step.Beat me expires n gone) = refl

fate_answers : (f : Fate) (st : Step) (it : Row) → may_answer st (form_of_reply it.reply) ≡ true → may_answer st (form_of_reply (by_fate f it).reply) ≡ true
fate_answers Plain st it is = is
fate_answers Lost st it is = failed_answers st
fate_answers Late st it is = failed_answers st

pub answers_back : (s : State) (e : Event) → IsTold (outcome s e).reply → answers e.step (reply_text (outcome s e).reply) ≡ true
answers_back s e told =
    ap (form_answers e.step) (told_form (outcome s e).reply told) ∙ fate_answers e.fate e.step (row_at_event s e) (row_answers s (clock_mutated s.last e.reading) e.step)

-- ---- the bytes of replies

-- neither `=` nor a line feed
abbrev is_reply_byte : ℕ → Bool
is_reply_byte b = nat_lt 10 b && not (nat_eq b 61)

abbrev AreReplyBytes : List ℕ → Type 0
AreReplyBytes text = AllByRecursion (λ b. is_reply_byte b ≡ true) text

digit_fine : (b : ℕ) → is_digit b ≡ true → is_reply_byte b ≡ true
digit_fine b is = grind (arith, nat_tests)

literal : (word : List ℕ) → list_all is_reply_byte word ≡ true → AreReplyBytes word
literal word is = all_pass is_reply_byte word is

counted : (word : List ℕ) (n : ℕ) → list_all is_reply_byte word ≡ true → n < 2 ^ 64 → AreReplyBytes (word ++ decimal n)
counted word n is fits = all_behind (λ b. is_reply_byte b ≡ true) word (decimal n) (literal word is) (all_weaker digit_fine (decimal n) (decimal_digits n fits))

state_bytes : (state : EntryState) → AreReplyBytes (codes "entry " ++ state_word state)
state_bytes Pending = literal (codes "entry PENDING") refl
state_bytes Committed = literal (codes "entry COMMITTED") refl
state_bytes Aborted = literal (codes "entry ABORTED") refl

reply_bytes : (r : Reply) → IsTold r → AreReplyBytes (reply_text r)
reply_bytes (reply.Doc cas body stage) told = counted (codes "doc ") cas refl told
reply_bytes reply.Absent told = literal (codes "absent") refl
reply_bytes (reply.Done cas) told = counted (codes "done ") cas refl told
reply_bytes (reply.CasMismatch have) told = counted (codes "cas-mismatch ") have refl told
reply_bytes reply.Exists told = literal (codes "exists") refl
reply_bytes (reply.Entry entry) told = state_bytes entry.state
reply_bytes reply.NoEntry told = literal (codes "no-entry") refl
reply_bytes reply.Decided told = literal (codes "decided") refl
reply_bytes (reply.Entries entries) told = counted (codes "entries ") (length entries) refl told
reply_bytes (reply.Clients rows) told = counted (codes "clients ") (length rows) refl told
reply_bytes reply.Failed told = literal (codes "failed") refl

no_sign : (b : ℕ) → is_reply_byte b ≡ true → b ≡ 61 → ⊥
no_sign b is same = grind (arith, nat_tests)

no_end : (b : ℕ) → is_reply_byte b ≡ true → b ≡ 10 → ⊥
no_end b is same = grind (arith, nat_tests)

pub reply_no_sign : (r : Reply) → IsTold r → Lacking 61 (reply_text r)
reply_no_sign r told = all_weaker no_sign (reply_text r) (reply_bytes r told)

pub reply_one_line : (r : Reply) → IsTold r → NoFeed (reply_text r)
reply_one_line r told = all_weaker no_end (reply_text r) (reply_bytes r told)

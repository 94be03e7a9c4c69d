-- A step that is written is read back.
use Rattle.std.proofs.Common.{◌≡◌, ℕ, Bool, true, false, cond, nat_le, List, ◌∷◌, ◌++◌, length, Option, Some, None, codes, decimal, bytes_eq, refl, ap, ◌∙◌, subst, arith}
use Rattle.std.specs.List.{AllByRecursion}
use Rattle.std.proofs.lemmas.Slice.Eq.{bytes_eq-Decides}
use Rattle.cbt_base.specs.Ids.{IsDocId, id_text}
use Rattle.cbt_json.specs.declared.tree.Tree.{Tree}
use Rattle.cbt_json.specs.Rules.{IsJson}
use Rattle.cbt_json.specs.Trees.{text_of}
use Rattle.cbt_lex.specs.Decimals.{is_digit}
use Rattle.cbt_lex.proofs.DecimalsBack.{decimal_digits, decimal_word}
use Rattle.cbt_lex.proofs.WordsBack.{NoSpace, no_space, is_solid, word_literal}
use Rattle.cbt_model.specs.Bodies.{body_fits_of}
use Rattle.cbt_model.specs.Fitting.{content_fits, stage_fits, step_fits}
use Rattle.cbt_model.specs.declared.documents.OpKind.{OpKind}
use Rattle.cbt_model.specs.declared.documents.OpKind.TheVariants.{Insert, Replace, Remove}
use Rattle.cbt_model.specs.declared.documents.Stage.{Stage}
use Rattle.cbt_model.specs.declared.entries.Lists.{Lists}
use Rattle.cbt_model.specs.declared.steps.Expect.{Expect}
use Rattle.cbt_model.specs.declared.steps.Expect.TheVariants as expect
use Rattle.cbt_model.specs.declared.steps.Step.{Step}
use Rattle.cbt_model.specs.declared.steps.Step.TheVariants as step
use Rattle.cbt_script.proofs.IdsBack.{id_word}
use Rattle.cbt_history.specs.declared.step_forms.StepForm.{StepForm}
use Rattle.cbt_history.specs.declared.step_forms.StepForm.TheVariants as form
use Rattle.cbt_history.specs.Fields.{word_field, number_in, number_field, id_in, id_field, doc_field, body_in}
use Rattle.cbt_history.specs.NameLists.{lists_text, ids_text}
use Rattle.cbt_history.specs.NamesRead.{lists_in, gone_in}
use Rattle.cbt_history.specs.Readings.{◌>>=◌}
use Rattle.cbt_history.specs.Rules.{Is16, Is64, IsId, IsExpect, IsContent, IsStage, AreLists, IsStep}
use Rattle.cbt_history.specs.StepForms.{form_of}
use Rattle.cbt_history.specs.Steps.{expect_word, kind_word, content_text, stage_text, guard_word, of_entry, step_text}
use Rattle.cbt_history.specs.StepsRead.{max_16, max_64, read_doc_in, at_cas_in, publish_in, delete_in, unstick_in, stamped, expect_in, kind_in, held, content_in, stage_in, staging_in, entry_in, entry_field, read_entry_in, add_entry_in, commit_in, abort_in, guard_in, drop_entry_in, read_atr_in, beat_in, fields_in, by_form, by_word, step_in}
use Rattle.cbt_history.proofs.FieldsBack.{word_next, word_last, number_back, number_next, id_next, doc_back, doc_next, body_back}
use Rattle.cbt_history.proofs.IdWords.{id_text_word}
use Rattle.cbt_history.proofs.Names.{id_found}
use Rattle.cbt_history.proofs.NamesBack.{lists_back, gone_back}
use Rattle.cbt_history.proofs.Nested.{nest4, nest6, nest7, nest8}

-- a field, and what is read behind it
pub onward : {A B : Type 0} {o : Option A} {x : A} {y : Option B} (next : A → Option B) → o ≡ Some x → next x ≡ y → o >>= next ≡ y
onward next is more = ap (λ o. o >>= next) is ∙ more

pub words_differ : (a b : List ℕ) → (a ≡ b → ⊥) → bytes_eq a b ≡ false
words_differ a b other = go (bytes_eq a b) refl
  where
    go : (t : Bool) → bytes_eq a b ≡ t → t ≡ false
    go true same = absurd (other ((bytes_eq-Decides a b).0 same))
    go false same = refl

-- ---- fields

number_16 : (n : ℕ) (rest : List ℕ) → Is16 n → number_field max_16 (decimal n ++ 32 ∷ rest) ≡ Some (n, rest)
number_16 n rest low = number_next max_16 n rest (omega arith) (omega arith)

number_64 : (n : ℕ) (rest : List ℕ) → Is64 n → number_field max_64 (decimal n ++ 32 ∷ rest) ≡ Some (n, rest)
number_64 n rest low = number_next max_64 n rest (omega arith) low

last_64 : (n : ℕ) → Is64 n → number_in max_64 (decimal n) ≡ Some n
last_64 n low = number_back max_64 n (omega arith) low

id_first : (n : ℕ) (rest : List ℕ) → IsId n → id_field (id_text n ++ 32 ∷ rest) ≡ Some (n, rest)
id_first n rest fits = id_next n rest fits (no_space (id_text n) (id_text_word n))

doc_first : (doc rest : List ℕ) → IsDocId doc → doc_field (doc ++ 32 ∷ rest) ≡ Some (doc, rest)
doc_first doc rest is = doc_next doc rest is (no_space doc (id_word doc is))

-- ---- steps of one document

read_doc_back : (doc : List ℕ) → IsDocId doc → read_doc_in doc ≡ Some (step.ReadDoc doc)
unfolding read_doc_in
read_doc_back doc is = onward (λ d. Some (step.ReadDoc d)) (doc_back doc is) refl

at_cas_back : (doc : List ℕ) (cas : ℕ) → IsDocId doc → Is64 cas → at_cas_in (doc ++ 32 ∷ decimal cas) ≡ Some (doc, cas)
unfolding at_cas_in
at_cas_back doc cas is fits =
    onward (λ d. number_in max_64 d.1 >>= (λ c. Some (d.0, c))) (doc_first doc (decimal cas) is) (onward (λ c. Some (doc, c)) (last_64 cas fits) refl)

publish_back : (doc : List ℕ) (cas : ℕ) (body : Tree) → IsDocId doc → Is64 cas → IsJson body → body_fits_of body ≡ true
    → publish_in (doc ++ 32 ∷ (decimal cas ++ 32 ∷ text_of body)) ≡ Some (step.Publish doc cas body)
unfolding publish_in
publish_back doc cas body is fits json fit =
    onward (λ d. number_field max_64 d.1 >>= (λ c. body_in c.1 >>= (λ b. Some (step.Publish d.0 c.0 b)))) (doc_first doc (decimal cas ++ 32 ∷ text_of body) is)
    (onward (λ c. body_in c.1 >>= (λ b. Some (step.Publish doc c.0 b))) (number_64 cas (text_of body) fits)
    (onward (λ b. Some (step.Publish doc cas b)) (body_back body json fit) refl))

delete_back : (doc : List ℕ) (cas : ℕ) → IsDocId doc → Is64 cas → delete_in (doc ++ 32 ∷ decimal cas) ≡ Some (step.Delete doc cas)
unfolding delete_in
delete_back doc cas is fits = onward (λ at. Some (step.Delete at.0 at.1)) (at_cas_back doc cas is fits) refl

unstick_back : (doc : List ℕ) (cas : ℕ) → IsDocId doc → Is64 cas → unstick_in (doc ++ 32 ∷ decimal cas) ≡ Some (step.Unstick doc cas)
unfolding unstick_in
unstick_back doc cas is fits = onward (λ at. Some (step.Unstick at.0 at.1)) (at_cas_back doc cas is fits) refl

-- ---- stagings

-- no number is the word `new`
no_new : (cas : ℕ) → Is64 cas → decimal cas ≡ codes "new" → ⊥
no_new cas fits same =
    let digits = subst (AllByRecursion (λ b. is_digit b ≡ true)) same (decimal_digits cas fits) in
    let first : is_digit 110 ≡ true = digits.0 in
    absurd (cc)

expect_back : (e : Expect) → IsExpect e → expect_in (expect_word e) ≡ Some e
expect_back expect.New is = refl
expect_back (expect.Cas cas) is =
    ap (λ t. cond t (Some expect.New) (stamped (number_in max_64 (decimal cas)))) (words_differ (decimal cas) (codes "new") (no_new cas is)) ∙ ap stamped (last_64 cas is)

expect_space : (e : Expect) → IsExpect e → NoSpace (expect_word e)
expect_space expect.New is = no_space (codes "new") (word_literal (codes "new") refl)
expect_space (expect.Cas cas) is = no_space (decimal cas) (decimal_word cas is)

kind_back : (k : OpKind) → kind_in (kind_word k) ≡ Some k
kind_back Insert = refl
kind_back Replace = refl
kind_back Remove = refl

kind_solid : (k : OpKind) → is_solid (kind_word k) ≡ true
kind_solid Insert = refl
kind_solid Replace = refl
kind_solid Remove = refl

content_back : (k : OpKind) (content : Option Tree) → IsContent content → content_fits k content ≡ true → content_in k (content_text content) ≡ Some content
content_back Insert None is fits = absurd (cc)
content_back Insert (Some content) is fits = ap held (body_back content is fits)
content_back Replace None is fits = absurd (cc)
content_back Replace (Some content) is fits = ap held (body_back content is fits)
content_back Remove None is fits = refl
content_back Remove (Some content) is fits = absurd (cc)

stage_back : (stage : Stage) → IsStage stage → stage_fits stage ≡ true
    → stage_in (id_text stage.attempt ++ 32 ∷ (decimal stage.atr ++ 32 ∷ (kind_word stage.kind ++ 32 ∷ content_text stage.content))) ≡ Some stage
unfolding stage_in
stage_back stage is fits =
    let content = content_text stage.content in
    let kind = kind_word stage.kind ++ 32 ∷ content in
    onward (λ a. number_field max_16 a.1 >>= (λ r. word_field r.1 >>= (λ w. kind_in w.0 >>= (λ k. content_in k w.1 >>= (λ c.
    Some (record { attempt = a.0; atr = r.0; kind = k; content = c })))))) (id_first stage.attempt (decimal stage.atr ++ 32 ∷ kind) is.0)
    (onward (λ r. word_field r.1 >>= (λ w. kind_in w.0 >>= (λ k. content_in k w.1 >>= (λ c.
    Some (record { attempt = stage.attempt; atr = r.0; kind = k; content = c }))))) (number_16 stage.atr kind is.1)
    (onward (λ w. kind_in w.0 >>= (λ k. content_in k w.1 >>= (λ c.
    Some (record { attempt = stage.attempt; atr = stage.atr; kind = k; content = c }))))
    (word_next (kind_word stage.kind) content (no_space (kind_word stage.kind) (word_literal (kind_word stage.kind) (kind_solid stage.kind))))
    (onward (λ k. content_in k content >>= (λ c. Some (record { attempt = stage.attempt; atr = stage.atr; kind = k; content = c }))) (kind_back stage.kind)
    (onward (λ c. Some (record { attempt = stage.attempt; atr = stage.atr; kind = stage.kind; content = c })) (content_back stage.kind stage.content is.2 fits) refl))))

stage_text_back : (stage : Stage) → IsStage stage → stage_fits stage ≡ true → stage_in (stage_text stage) ≡ Some stage
stage_text_back stage is fits =
    ap stage_in (nest7 (id_text stage.attempt) (codes " ") (decimal stage.atr) (codes " ") (kind_word stage.kind) (codes " ") (content_text stage.content)) ∙ stage_back stage is fits

staging_back : (doc : List ℕ) (e : Expect) (stage : Stage) → IsDocId doc → IsExpect e → IsStage stage → stage_fits stage ≡ true
    → staging_in (doc ++ 32 ∷ (expect_word e ++ 32 ∷ stage_text stage)) ≡ Some (step.Stage doc e stage)
unfolding staging_in
staging_back doc e stage is expects staged fits =
    onward (λ d. word_field d.1 >>= (λ w. expect_in w.0 >>= (λ x. stage_in w.1 >>= (λ s. Some (step.Stage d.0 x s))))) (doc_first doc (expect_word e ++ 32 ∷ stage_text stage) is)
    (onward (λ w. expect_in w.0 >>= (λ x. stage_in w.1 >>= (λ s. Some (step.Stage doc x s)))) (word_next (expect_word e) (stage_text stage) (expect_space e expects))
    (onward (λ x. stage_in (stage_text stage) >>= (λ s. Some (step.Stage doc x s))) (expect_back e expects)
    (onward (λ s. Some (step.Stage doc e s)) (stage_text_back stage staged fits) refl)))

-- ---- steps of one entry

entry_back : (atr attempt : ℕ) → Is16 atr → IsId attempt → entry_in (decimal atr ++ 32 ∷ id_text attempt) ≡ Some (atr, attempt)
unfolding entry_in
entry_back atr attempt low fits =
    onward (λ r. id_in r.1 >>= (λ a. Some (r.0, a))) (number_16 atr (id_text attempt) low) (onward (λ a. Some (atr, a)) (id_found (id_text attempt) attempt fits refl) refl)

entry_first : (atr attempt : ℕ) (rest : List ℕ) → Is16 atr → IsId attempt → entry_field (decimal atr ++ 32 ∷ (id_text attempt ++ 32 ∷ rest)) ≡ Some (atr, attempt, rest)
unfolding entry_field
entry_first atr attempt rest low fits =
    onward (λ r. id_field r.1 >>= (λ a. Some (r.0, a.0, a.1))) (number_16 atr (id_text attempt ++ 32 ∷ rest) low)
    (onward (λ a. Some (atr, a.0, a.1)) (id_first attempt rest fits) refl)

read_entry_back : (atr attempt : ℕ) → Is16 atr → IsId attempt → read_entry_in (decimal atr ++ 32 ∷ id_text attempt) ≡ Some (step.ReadEntry atr attempt)
unfolding read_entry_in
read_entry_back atr attempt low fits = onward (λ e. Some (step.ReadEntry e.0 e.1)) (entry_back atr attempt low fits) refl

module _ (atr attempt : ℕ) (low : Is16 atr) (fits : IsId attempt) where
  add_entry_back : (exp : ℕ) → Is64 exp → add_entry_in (decimal atr ++ 32 ∷ (id_text attempt ++ 32 ∷ decimal exp)) ≡ Some (step.AddEntry atr attempt exp)
  unfolding add_entry_in
  add_entry_back exp is =
      onward (λ e. number_in max_64 e.2 >>= (λ x. Some (step.AddEntry e.0 e.1 x))) (entry_first atr attempt (decimal exp) low fits)
      (onward (λ x. Some (step.AddEntry atr attempt x)) (last_64 exp is) refl)

  commit_back : (lists : Lists) → AreLists lists → commit_in (decimal atr ++ 32 ∷ (id_text attempt ++ 32 ∷ lists_text lists)) ≡ Some (step.Commit atr attempt lists)
  unfolding commit_in
  commit_back lists are =
      onward (λ e. lists_in e.2 >>= (λ l. Some (step.Commit e.0 e.1 l))) (entry_first atr attempt (lists_text lists) low fits)
      (onward (λ l. Some (step.Commit atr attempt l)) (lists_back lists are) refl)

  abort_back : (lists : Lists) → AreLists lists → abort_in (decimal atr ++ 32 ∷ (id_text attempt ++ 32 ∷ lists_text lists)) ≡ Some (step.Abort atr attempt lists)
  unfolding abort_in
  abort_back lists are =
      onward (λ e. lists_in e.2 >>= (λ l. Some (step.Abort e.0 e.1 l))) (entry_first atr attempt (lists_text lists) low fits)
      (onward (λ l. Some (step.Abort atr attempt l)) (lists_back lists are) refl)

  guard_back : (guarded : Bool) → guard_in (guard_word guarded) ≡ Some guarded
  guard_back true = refl
  guard_back false = refl

  drop_entry_back : (guarded : Bool) → drop_entry_in (decimal atr ++ 32 ∷ (id_text attempt ++ 32 ∷ guard_word guarded)) ≡ Some (step.DropEntry atr attempt guarded)
  unfolding drop_entry_in
  drop_entry_back guarded =
      onward (λ e. guard_in e.2 >>= (λ g. Some (step.DropEntry e.0 e.1 g))) (entry_first atr attempt (guard_word guarded) low fits)
      (onward (λ g. Some (step.DropEntry atr attempt g)) (guard_back guarded) refl)

-- ---- steps of a record

read_atr_back : (atr : ℕ) → Is16 atr → read_atr_in (decimal atr) ≡ Some (step.ReadAtr atr)
unfolding read_atr_in
read_atr_back atr low = onward (λ a. Some (step.ReadAtr a)) (number_back max_16 atr (omega arith) (omega arith)) refl

beat_back : (me expires atrs : ℕ) (gone : List ℕ) → IsId me → Is64 expires → Is16 atrs → AllByRecursion IsId gone → nat_le (length gone) 12 ≡ true
    → beat_in (id_text me ++ 32 ∷ (decimal expires ++ 32 ∷ (decimal atrs ++ 32 ∷ ids_text gone))) ≡ Some (step.Beat me expires atrs gone)
unfolding beat_in
beat_back me expires atrs gone is late low ids few =
    let more = decimal atrs ++ 32 ∷ ids_text gone in
    onward (λ m. number_field max_64 m.1 >>= (λ x. number_field max_16 x.1 >>= (λ a. gone_in a.1 >>= (λ g. Some (step.Beat m.0 x.0 a.0 g))))) (id_first me (decimal expires ++ 32 ∷ more) is)
    (onward (λ x. number_field max_16 x.1 >>= (λ a. gone_in a.1 >>= (λ g. Some (step.Beat me x.0 a.0 g)))) (number_64 expires more late)
    (onward (λ a. gone_in a.1 >>= (λ g. Some (step.Beat me expires a.0 g))) (number_16 atrs (ids_text gone) low)
    (onward (λ g. Some (step.Beat me expires atrs g)) (gone_back gone ids few) refl)))

-- ---- all

-- a step with fields is read by its first word
formed : (word rest : List ℕ) (f : StepForm) → is_solid word ≡ true → form_of word ≡ Some f → step_in (word ++ 32 ∷ rest) ≡ fields_in f rest
formed word rest f solid is =
    ap (λ o. by_word o (word ++ 32 ∷ rest)) (word_next word rest (no_space word (word_literal word solid))) ∙ ap (λ o. by_form o rest) is

alone : step_in (codes "read-clients") ≡ Some step.ReadClients
alone = ap (λ o. by_word o (codes "read-clients")) (word_last (codes "read-clients") (no_space (codes "read-clients") (word_literal (codes "read-clients") refl)))

-- an entry, and what stands behind it
entry_nested : (word more : List ℕ) (atr attempt : ℕ) → of_entry word atr attempt ++ codes " " ++ more ≡ word ++ (decimal atr ++ 32 ∷ (id_text attempt ++ 32 ∷ more))
entry_nested word more atr attempt = nest6 word (decimal atr) (codes " ") (id_text attempt) (codes " ") more

pub step_back : (s : Step) → IsStep s → step_fits s ≡ true → step_in (step_text s) ≡ Some s
unfolding form_of
step_back (step.ReadDoc doc) is fits = formed (codes "read-doc") doc form.ReadDoc refl refl ∙ read_doc_back doc is
step_back (step.Stage doc e stage) is fits =
    ap step_in (nest6 (codes "stage ") doc (codes " ") (expect_word e) (codes " ") (stage_text stage))
    ∙ formed (codes "stage") (doc ++ 32 ∷ (expect_word e ++ 32 ∷ stage_text stage)) form.Stage refl refl ∙ staging_back doc e stage is.0 is.1 is.2 fits
step_back (step.Publish doc cas body) is fits =
    ap step_in (nest6 (codes "publish ") doc (codes " ") (decimal cas) (codes " ") (text_of body))
    ∙ formed (codes "publish") (doc ++ 32 ∷ (decimal cas ++ 32 ∷ text_of body)) form.Publish refl refl ∙ publish_back doc cas body is.0 is.1 is.2 fits
step_back (step.Delete doc cas) is fits =
    ap step_in (nest4 (codes "delete ") doc (codes " ") (decimal cas)) ∙ formed (codes "delete") (doc ++ 32 ∷ decimal cas) form.Delete refl refl ∙ delete_back doc cas is.0 is.1
step_back (step.Unstick doc cas) is fits =
    ap step_in (nest4 (codes "unstick ") doc (codes " ") (decimal cas)) ∙ formed (codes "unstick") (doc ++ 32 ∷ decimal cas) form.Unstick refl refl ∙ unstick_back doc cas is.0 is.1
step_back (step.ReadEntry atr attempt) is fits =
    ap step_in (nest4 (codes "read-entry ") (decimal atr) (codes " ") (id_text attempt))
    ∙ formed (codes "read-entry") (decimal atr ++ 32 ∷ id_text attempt) form.ReadEntry refl refl ∙ read_entry_back atr attempt is.0 is.1
step_back (step.AddEntry atr attempt exp) is fits =
    ap step_in (entry_nested (codes "add-entry ") (decimal exp) atr attempt)
    ∙ formed (codes "add-entry") (decimal atr ++ 32 ∷ (id_text attempt ++ 32 ∷ decimal exp)) form.AddEntry refl refl ∙ add_entry_back atr attempt is.0 is.1 exp is.2
step_back (step.Commit atr attempt lists) is fits =
    ap step_in (entry_nested (codes "commit ") (lists_text lists) atr attempt)
    ∙ formed (codes "commit") (decimal atr ++ 32 ∷ (id_text attempt ++ 32 ∷ lists_text lists)) form.Commit refl refl ∙ commit_back atr attempt is.0 is.1 lists is.2
step_back (step.Abort atr attempt lists) is fits =
    ap step_in (entry_nested (codes "abort ") (lists_text lists) atr attempt)
    ∙ formed (codes "abort") (decimal atr ++ 32 ∷ (id_text attempt ++ 32 ∷ lists_text lists)) form.Abort refl refl ∙ abort_back atr attempt is.0 is.1 lists is.2
step_back (step.DropEntry atr attempt guarded) is fits =
    ap step_in (entry_nested (codes "drop-entry ") (guard_word guarded) atr attempt)
    ∙ formed (codes "drop-entry") (decimal atr ++ 32 ∷ (id_text attempt ++ 32 ∷ guard_word guarded)) form.DropEntry refl refl ∙ drop_entry_back atr attempt is.0 is.1 guarded
step_back (step.ReadAtr atr) is fits = formed (codes "read-atr") (decimal atr) form.ReadAtr refl refl ∙ read_atr_back atr is
step_back step.ReadClients is fits = alone
step_back (step.Beat me expires atrs gone) is fits =
    ap step_in (nest8 (codes "beat ") (id_text me) (codes " ") (decimal expires) (codes " ") (decimal atrs) (codes " ") (ids_text gone))
    ∙ formed (codes "beat") (id_text me ++ 32 ∷ (decimal expires ++ 32 ∷ (decimal atrs ++ 32 ∷ ids_text gone))) form.Beat refl refl
    ∙ beat_back me expires atrs gone is.0 is.1 is.2 is.3 fits

-- What the fields of a line give keeps the rules of its kind, and what is left behind a field has no line feed where the line has none.
use Rattle.std.proofs.Common.{◌≡◌, ◌≢◌, ℕ, ◌==◌, Bool, true, false, cond, not, ◌&&◌, nat_le, IsTrue, List, length, codes, is_none, Option, Some, None, Result, Ok, Err, bytes_eq, refl}
use Rattle.std.proofs.lemmas.Bool.{and_parts, leb-true, not-true}
use Rattle.std.proofs.lemmas.Slice.Eq.{bytes_eq-Decides}
use Rattle.cbt_base.specs.Ids.{IsDocId, id_fault}
use Rattle.cbt_json.specs.declared.fault.JsonFault.{JsonFault}
use Rattle.cbt_json.specs.declared.fault.JsonFault.TheVariants as json_fault
use Rattle.cbt_json.specs.declared.tree.Tree.{Tree}
use Rattle.cbt_json.specs.Reading.{json_of}
use Rattle.cbt_json.specs.Rules.{IsJson}
use Rattle.cbt_json.proofs.Read.{json_of-rules}
use Rattle.cbt_lex.specs.Decimals.{number_of}
use Rattle.cbt_lex.specs.Names.{is_name}
use Rattle.cbt_lex.specs.Words.{word_and_rest}
use Rattle.cbt_lex.proofs.OneLine.{rest-one_line}
use Rattle.cbt_lex.specs.Lines.{IsOneLine}
use Rattle.cbt_script.specs.declared.cause.Cause.{Cause}
use Rattle.cbt_script.specs.declared.cause.Cause.TheVariants.{Form, Name, Id, Number, Big}
use Rattle.cbt_script.specs.Causes.{◌>>=◌, require}
use Rattle.cbt_script.specs.Fields.{word_field, name_field, actor_field, within, number_in, number_field, option_field, fixed_field, end_field, id_field, fits_body, fit_body, body_field}
use Rattle.cbt_script.specs.Rules.{IsWithin, IsActorName, IsBody}

-- ---- what holds of all that a reading gives

abbrev pub Keeps : {A : Type 0} → (A → Type 0) → Result A Cause → Type 0
Keeps P (Ok x) = P x
Keeps P (Err why) = Unit {0}

pub keeps-any : {A : Type 0} (r : Result A Cause) → Keeps (λ x. Unit {0}) r
keeps-any (Ok x) = tt
keeps-any (Err why) = tt

pub keeps-bind : {A B : Type 0} (P : A → Type 0) (Q : B → Type 0) (r : Result A Cause) (f : A → Result B Cause) → Keeps P r → ((x : A) → P x → Keeps Q (f x)) → Keeps Q (r >>= f)
keeps-bind P Q (Ok x) f is then = then x is
keeps-bind P Q (Err why) f is then = tt

pub keeps-cond : {A : Type 0} (P : A → Type 0) (c : Bool) (r s : Result A Cause) → (c ≡ true → Keeps P r) → (c ≡ false → Keeps P s) → Keeps P (cond c r s)
keeps-cond P true r s first second = first refl
keeps-cond P false r s first second = second refl

pub keeps-require : (t : Bool) (why : Cause) → Keeps (λ u. t ≡ true) (require t why)
keeps-require true why = refl
keeps-require false why = tt

-- behind a test
pub keeps-required : {B : Type 0} (Q : B → Type 0) (t : Bool) (why : Cause) (r : Result B Cause) → (t ≡ true → Keeps Q r) → Keeps Q (require t why >>= (λ u. r))
keeps-required Q t why r then = keeps-bind (λ u. t ≡ true) Q (require t why) (λ u. r) (keeps-require t why) (λ u is. then is)

-- behind the end of a line
pub keeps-ended : {B : Type 0} (Q : B → Type 0) (text : List ℕ) (r : Result B Cause) → Keeps Q r → Keeps Q (end_field text >>= (λ u. r))
keeps-ended Q text r is = keeps-required Q (length text == 0) Form r (λ e. is)

-- ---- words and names

-- a field that keeps its rule, and a rest that has no line feed where there was none
abbrev pub Field : {A : Type 0} → (A → Type 0) → List ℕ → A × List ℕ → Type 0
Field P text x = P x.0 × (IsOneLine text → IsOneLine x.1)

pub word-kept : (text : List ℕ) → Keeps (Field (λ w. Unit {0}) text) (word_field text)
word-kept text = keeps-cond (Field (λ w. Unit {0}) text) (length text == 0) (Err Form) (Ok (word_and_rest text)) (λ e. tt) (λ e. (tt, rest-one_line text))

pub name-kept : (text : List ℕ) → Keeps (Field (λ n. IsTrue (is_name n)) text) (name_field text)
unfolding name_field
name-kept text =
    keeps-bind (Field (λ w. Unit {0}) text) (Field (λ n. IsTrue (is_name n)) text) (word_field text) _ (word-kept text)
    (λ w behind. keeps-required (Field (λ n. IsTrue (is_name n)) text) (is_name w.0) Name (Ok w) (λ is. (is, behind.1)))

differs : (x y : List ℕ) → not (bytes_eq x y) ≡ true → x ≢ y
differs x y e same = let is : bytes_eq x y ≡ true = (bytes_eq-Decides x y).1 same in let no = not-true (bytes_eq x y) e in cc

pub actor-kept : (text : List ℕ) → Keeps (Field IsActorName text) (actor_field text)
unfolding actor_field
actor-kept text =
    keeps-bind (Field (λ n. IsTrue (is_name n)) text) (Field IsActorName text) (name_field text) _ (name-kept text)
    (λ n is. keeps-required (Field IsActorName text) (not (bytes_eq n.0 (codes "sweep"))) Name (Ok n) (λ other. ((is.0, differs n.0 (codes "sweep") other), is.1)))

pub fixed-kept : (wanted text : List ℕ) → Keeps (λ rest. IsOneLine text → IsOneLine rest) (fixed_field wanted text)
unfolding fixed_field
fixed-kept wanted text =
    keeps-bind (Field (λ w. Unit {0}) text) (λ rest. IsOneLine text → IsOneLine rest) (word_field text) _ (word-kept text)
    (λ w is. keeps-required (λ rest. IsOneLine text → IsOneLine rest) (bytes_eq w.0 wanted) Form (Ok w.1) (λ e. is.1))

none-is : {A : Type 0} (o : Option A) → is_none o ≡ true → o ≡ None
none-is (Some x) e = absurd (cc)
none-is None e = refl

pub id-kept : (text : List ℕ) → Keeps (Field IsDocId text) (id_field text)
unfolding id_field
id-kept text =
    keeps-bind (Field (λ w. Unit {0}) text) (Field IsDocId text) (word_field text) _ (word-kept text)
    (λ w is. keeps-required (Field IsDocId text) (is_none (id_fault w.0)) Id (Ok w) (λ good. (none-is (id_fault w.0) good, is.1)))

-- ---- numbers

within-kept : (least most : ℕ) (o : Option ℕ) → Keeps (IsWithin least most) (within least most o)
within-kept least most None = tt
within-kept least most (Some n) =
    keeps-cond (IsWithin least most) (nat_le least n && nat_le n most) (Ok n) (Err Number)
    (λ e. let parts = and_parts (nat_le least n) (nat_le n most) e in (leb-true least n parts.0, leb-true n most parts.1)) (λ e. tt)

pub number_in-kept : (least most : ℕ) (word : List ℕ) → Keeps (IsWithin least most) (number_in least most word)
number_in-kept least most word = within-kept least most (number_of word)

pub number-kept : (least most : ℕ) (text : List ℕ) → Keeps (λ n. IsWithin least most n.0) (number_field least most text)
unfolding number_field
number-kept least most text =
    keeps-bind (Field (λ w. Unit {0}) text) (λ n. IsWithin least most n.0) (word_field text) _ (word-kept text)
    (λ w is. keeps-bind (IsWithin least most) (λ n. IsWithin least most n.0) (number_in least most w.0) _ (number_in-kept least most w.0) (λ n good. good))

pub option-kept : (name : List ℕ) (most default : ℕ) (text : List ℕ) → IsWithin 1 most default → Keeps (λ n. IsWithin 1 most n.0) (option_field name most default text)
option-kept name most default text good =
    keeps-cond (λ n. IsWithin 1 most n.0) (bytes_eq (word_and_rest text).0 name) (number_field 1 most (word_and_rest text).1) (Ok (default, text))
    (λ e. number-kept 1 most (word_and_rest text).1) (λ e. good)

-- ---- bodies

fit-kept : (r : Result Tree JsonFault) → ((tree : Tree) → r ≡ Ok tree → IsJson tree) → Keeps IsBody (fit_body r)
fit-kept (Ok tree) rules = keeps-cond IsBody (fits_body tree) (Ok tree) (Err Big) (λ fits. (rules tree refl, fits)) (λ e. tt)
fit-kept (Err json_fault.NotJson) rules = tt
fit-kept (Err json_fault.NotWhole) rules = tt
fit-kept (Err json_fault.NoMemory) rules = tt

pub body-kept : (text : List ℕ) → Keeps IsBody (body_field text)
body-kept text = keeps-cond IsBody (length text == 0) (Err Form) (fit_body (json_of text)) (λ e. tt) (λ e. fit-kept (json_of text) (json_of-rules text))

-- An expression is evaluated from the left, term after term.
use Rattle.std.proofs.Common.{◌≡◌, ℕ, ◌+◌, List, [], ◌∷◌, Option, None, Result, Ok, Err, refl, sym, ap, ◌∙◌}
use Rattle.cbt_json.specs.declared.value.Json.{Json}
use Rattle.cbt_expr.specs.declared.expressions.Sign.{Sign}
use Rattle.cbt_expr.specs.Forms.{Form, joined, TermForm, joined_all, parts}
use Rattle.cbt_expr.specs.Values.{added, of_part, operated, valued, term_valued}

-- the terms of an expression up to some place, as a form of their own with its value, and those that are left
pub record Summed (bound : List ℕ → Option Json) (before : ℕ) (whole : Form) (left : List (Sign × TermForm)) (sum : Json) (passed : ℕ) : Type 0 where
  pub form : Form
  pub is_whole : joined_all form left ≡ whole
  pub has_value : valued bound before form ≡ Ok sum
  pub is_passed : passed ≡ before + parts form

-- further terms leave a fault as it is
pub fault_stays : (bound : List ℕ → Option Json) (before : ℕ) (form : Form) (rest : List (Sign × TermForm)) (part : ℕ)
    → valued bound before form ≡ Err part → valued bound before (joined_all form rest) ≡ Err part
fault_stays bound before form [] part e = e
fault_stays bound before form (x ∷ xs) part e =
    fault_stays bound before (joined form x.0 x.1) xs part (ap (λ v. operated (before + parts form + 1) (added x.0) v (term_valued bound (before + parts form + 1) x.1)) e)

module _ (bound : List ℕ → Option Json) (before : ℕ) (whole : Form) (left : List (Sign × TermForm)) (sum : Json) (passed : ℕ) (so : Summed bound before whole left sum passed) where
  module _ (sign : Sign) (term : TermForm) (rest : List (Sign × TermForm)) (is : left ≡ (sign, term) ∷ rest) (operator : ℕ) (number : operator ≡ passed + 1) where
    whole_fault : (right : Result Json ℕ) (part : ℕ) → term_valued bound operator term ≡ right → operated operator (added sign) (Ok sum) right ≡ Err part → valued bound before whole ≡ Err part
    whole_fault right part e fault =
        let at : before + parts so.form + 1 ≡ operator = ap (λ n. n + 1) (sym so.is_passed) ∙ sym number in
        let joins : valued bound before (joined so.form sign term) ≡ operated operator (added sign) (Ok sum) right =
        ap (λ n. operated n (added sign) (valued bound before so.form) (term_valued bound n term)) at
        ∙ ap (λ v. operated operator (added sign) v (term_valued bound operator term)) so.has_value
        ∙ ap (operated operator (added sign) (Ok sum)) e in
        ap (valued bound before) (sym so.is_whole ∙ ap (joined_all so.form) is) ∙ fault_stays bound before (joined so.form sign term) rest part (joins ∙ fault)

    -- the right operand has no value
    pub term_fault : (part : ℕ) → term_valued bound operator term ≡ Err part → valued bound before whole ≡ Err part
    term_fault part e = whole_fault (Err part) part e refl

    -- the operator has none
    pub operator_fault : (right : Json) → term_valued bound operator term ≡ Ok right → added sign sum right ≡ None → valued bound before whole ≡ Err operator
    operator_fault right e none = whole_fault (Ok right) operator e (ap (of_part operator) none)

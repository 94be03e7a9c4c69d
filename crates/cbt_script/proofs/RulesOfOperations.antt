-- The operations of a transaction keep their rules.
use Rattle.std.proofs.Common.{◌≡◌, ℕ, ◌==◌, IsTrue, List, [], ◌∷◌, ◌++◌, length, codes, Ok, Err, refl}
use Rattle.cbt_base.specs.Ids.{IsDocId}
use Rattle.cbt_expr.specs.declared.expressions.Cond.{Cond}
use Rattle.cbt_expr.specs.declared.expressions.Expr.{Expr}
use Rattle.cbt_expr.specs.declared.plans.Op.{Op}
use Rattle.cbt_lex.specs.Lines.{IsOneLine}
use Rattle.cbt_lex.specs.Names.{is_name}
use Rattle.cbt_script.specs.declared.cause.Cause.TheVariants as cause
use Rattle.cbt_script.specs.declared.keywords.Operation.{Operation}
use Rattle.cbt_script.specs.declared.keywords.Operation.TheVariants.{Get, Insert, Replace, Remove, Need}
use Rattle.cbt_syntax.specs.Bound.{is_bound_in}
use Rattle.cbt_syntax.specs.Readings.{Outcome}
use Rattle.cbt_syntax.specs.Rules.{IsExpr, IsCond}
use Rattle.cbt_syntax.specs.Texts.{expr_text, cond_text}
use Rattle.cbt_syntax.specs.Whole.{expr_of, cond_of}
use Rattle.cbt_syntax.specs.declared.fault.SyntaxFault.TheVariants.{NotWhole, Malformed, Unbound, NoMemory}
use Rattle.cbt_syntax.proofs.WellRead.{expr_of-rules, cond_of-rules}
use Rattle.cbt_syntax.proofs.OneLine.{expr_of-one_line, cond_of-one_line}
use Rattle.cbt_script.specs.Clients.{bound_by}
use Rattle.cbt_script.specs.Fields.{id_field, fixed_field, name_field}
use Rattle.cbt_script.specs.Operations.{Bound, told, expr_field, cond_field, get_field, insert_field, replace_field, remove_field, need_field, op_field}
use Rattle.cbt_script.specs.Rules.{IsOperation, AreOperations}
use Rattle.cbt_script.proofs.RulesOfFields.{Keeps, Field, keeps-bind, keeps-cond, keeps-ended, name-kept, fixed-kept, id-kept}

-- ---- expressions and conditions

told-kept : {A : Type 0} (P : A → Type 0) (r : Outcome A) → ((x : A) → r ≡ Ok x → P x) → Keeps P (told r)
told-kept P (Ok x) is = is x refl
told-kept P (Err NotWhole) is = tt
told-kept P (Err Malformed) is = tt
told-kept P (Err Unbound) is = tt
told-kept P (Err NoMemory) is = tt

module _ (bound : Bound) where
  abbrev IsValue : Expr → Type 0
  IsValue value = IsExpr (is_bound_in bound) value × IsOneLine (expr_text value)

  abbrev IsTest : Cond → Type 0
  IsTest cond = IsCond (is_bound_in bound) cond × IsOneLine (cond_text cond)

  expr-kept : (text : List ℕ) → IsOneLine text → Keeps IsValue (expr_field bound text)
  expr-kept text one =
      keeps-cond IsValue (length text == 0) (Err cause.Form) (told (expr_of (is_bound_in bound) text)) (λ e. tt)
      (λ e. told-kept IsValue (expr_of (is_bound_in bound) text) (λ x is. (expr_of-rules (is_bound_in bound) text x is, expr_of-one_line (is_bound_in bound) text x one is)))

  cond-kept : (text : List ℕ) → IsOneLine text → Keeps IsTest (cond_field bound text)
  cond-kept text one =
      keeps-cond IsTest (length text == 0) (Err cause.Form) (told (cond_of (is_bound_in bound) text)) (λ e. tt)
      (λ e. told-kept IsTest (cond_of (is_bound_in bound) text) (λ x is. (cond_of-rules (is_bound_in bound) text x is, cond_of-one_line (is_bound_in bound) text x one is)))

  -- ---- operations

  get-kept : (rest : List ℕ) → Keeps (IsOperation bound) (get_field rest)
  unfolding get_field
  get-kept rest =
      keeps-bind (Field IsDocId rest) (IsOperation bound) (id_field rest) _ (id-kept rest)
      (λ id named. keeps-bind (λ behind. IsOneLine id.1 → IsOneLine behind) (IsOperation bound) (fixed_field (codes "as") id.1) _ (fixed-kept (codes "as") id.1)
      (λ behind one. keeps-bind (Field (λ n. IsTrue (is_name n)) behind) (IsOperation bound) (name_field behind) _ (name-kept behind)
      (λ name is. keeps-ended (IsOperation bound) name.1 _ (named.0, is.0))))

  insert-kept : (rest : List ℕ) → IsOneLine rest → Keeps (IsOperation bound) (insert_field bound rest)
  unfolding insert_field
  insert-kept rest one =
      keeps-bind (Field IsDocId rest) (IsOperation bound) (id_field rest) _ (id-kept rest)
      (λ id named. keeps-bind IsValue (IsOperation bound) (expr_field bound id.1) _ (expr-kept id.1 (named.1 one)) (λ value is. (named.0, is.0, is.1)))

  replace-kept : (rest : List ℕ) → IsOneLine rest → Keeps (IsOperation bound) (replace_field bound rest)
  unfolding replace_field
  replace-kept rest one =
      keeps-bind (Field IsDocId rest) (IsOperation bound) (id_field rest) _ (id-kept rest)
      (λ id named. keeps-bind IsValue (IsOperation bound) (expr_field bound id.1) _ (expr-kept id.1 (named.1 one)) (λ value is. (named.0, is.0, is.1)))

  remove-kept : (rest : List ℕ) → Keeps (IsOperation bound) (remove_field rest)
  unfolding remove_field
  remove-kept rest =
      keeps-bind (Field IsDocId rest) (IsOperation bound) (id_field rest) _ (id-kept rest) (λ id named. keeps-ended (IsOperation bound) id.1 _ named.0)

  need-kept : (rest : List ℕ) → IsOneLine rest → Keeps (IsOperation bound) (need_field bound rest)
  unfolding need_field
  need-kept rest one = keeps-bind IsTest (IsOperation bound) (cond_field bound rest) _ (cond-kept rest one) (λ cond is. is)

  pub op-kept : (which : Operation) (rest : List ℕ) → IsOneLine rest → Keeps (IsOperation bound) (op_field which bound rest)
  op-kept Get rest one = get-kept rest
  op-kept Insert rest one = insert-kept rest one
  op-kept Replace rest one = replace-kept rest one
  op-kept Remove rest one = remove-kept rest
  op-kept Need rest one = need-kept rest one

-- ---- operations, one behind another

-- the names that are bound behind operations
abbrev pub bound_behind : Bound → List Op → Bound
bound_behind bound [] = bound
bound_behind bound (o ∷ ops) = bound_behind (bound_by o bound) ops

pub bound-push : (bound : Bound) (ops : List Op) (o : Op) → bound_behind bound (ops ++ o ∷ []) ≡ bound_by o (bound_behind bound ops)
bound-push bound [] o = refl
bound-push bound (p ∷ ops) o = bound-push (bound_by p bound) ops o

pub operations-push : (bound : Bound) (ops : List Op) (o : Op) → AreOperations bound ops → IsOperation (bound_behind bound ops) o → AreOperations bound (ops ++ o ∷ [])
operations-push bound [] o are is = (is, tt)
operations-push bound (p ∷ ops) o are is = (are.0, operations-push (bound_by p bound) ops o are.1 is)

-- The printed operations are read back.
use Rattle.std.proofs.Common.{◌≡◌, ℕ, suc, ◌+◌, ◌*◌, ◌<◌, ◌≤◌, true, cond, ltb, leb, List, [], ◌∷◌, ◌++◌, length, Some, Ok, Err, codes, refl, sym, ap, ◌∙◌, arith, append_assoc, append-nil, length-append}
use Rattle.std.proofs.lemmas.Bool.{ne_eqb, lt-leb, le-ltb, or_from}
use Rattle.cbt_base.specs.Ids.{IsDocId}
use Rattle.cbt_expr.specs.declared.expressions.Cond.{Cond}
use Rattle.cbt_expr.specs.declared.expressions.Expr.{Expr}
use Rattle.cbt_expr.specs.declared.plans.ClientPlan.{ClientPlan}
use Rattle.cbt_expr.specs.declared.plans.Op.{Op}
use Rattle.cbt_expr.specs.declared.plans.Op.TheVariants as op
use Rattle.cbt_expr.specs.declared.plans.TxnPlan.{TxnPlan}
use Rattle.cbt_lex.proofs.NamesBack.{name_word}
use Rattle.cbt_lex.proofs.Spaces.{behind_space}
use Rattle.cbt_lex.proofs.WordsBack.{word_literal, led_word, led_last}
use Rattle.cbt_lex.specs.Names.{is_name}
use Rattle.cbt_script.specs.declared.cause.Cause.TheVariants.{Form, Limit}
use Rattle.cbt_script.specs.declared.clients.Terms.{Terms}
use Rattle.cbt_script.specs.declared.documents.Documents.{Documents}
use Rattle.cbt_script.specs.declared.draft.Draft.{Draft}
use Rattle.cbt_script.specs.declared.draft.Group.TheVariants as group
use Rattle.cbt_script.specs.declared.keywords.Keyword.TheVariants as k
use Rattle.cbt_script.specs.declared.keywords.Operation.{Operation}
use Rattle.cbt_script.specs.declared.keywords.Operation.TheVariants.{Get, Insert, Replace, Remove, Need}
use Rattle.cbt_script.specs.declared.settings.Settings.{Settings}
use Rattle.cbt_script.specs.Causes.{◌>>=◌}
use Rattle.cbt_script.specs.Clients.{bound_by, with_operation, add_operation}
use Rattle.cbt_script.specs.Course.{Actors, no_course}
use Rattle.cbt_script.specs.Drafts.{operation_line}
use Rattle.cbt_script.specs.Fields.{fixed_field, name_field, end_field}
use Rattle.cbt_script.specs.Keywords.{keyword_of}
use Rattle.cbt_script.specs.Operations.{Bound, told, expr_field, cond_field, get_field, insert_field, replace_field, remove_field, need_field, op_field}
use Rattle.cbt_script.specs.Printed.{op_line, op_lines}
use Rattle.cbt_script.specs.Reading.{taken}
use Rattle.cbt_script.specs.Rules.{IsOperation, AreOperations}
use Rattle.cbt_syntax.specs.Bound.{is_bound_in}
use Rattle.cbt_syntax.specs.Rules.{IsExpr, IsCond}
use Rattle.cbt_syntax.specs.Texts.{expr_text, cond_text}
use Rattle.cbt_syntax.specs.Whole.{expr_of, cond_of}
use Rattle.cbt_syntax.proofs.ReadBack.{expr_of-text, cond_of-text}
use Rattle.cbt_script.proofs.Drafted.{drafted, drafted_on}
use Rattle.cbt_script.proofs.ExprsBack.{expr_edged, cond_edged}
use Rattle.cbt_script.proofs.KeywordsBack.{line_taken}
use Rattle.cbt_script.proofs.FieldsBack.{id_field-next, fixed_field-next, id_field-last, name_field-last}
use Rattle.cbt_script.proofs.IdsBack.{id_word}

abbrev pub Client : Type 0
Client = List ℕ × ClientPlan

expr_back : (bound : Bound) (e : Expr) → IsExpr (is_bound_in bound) e → expr_field bound (expr_text e) ≡ Ok e
expr_back bound e is =
    let some : 0 < length (expr_text e) = (expr_edged (is_bound_in bound) e is).some in
    ap (λ b. cond b (Err Form) (told (expr_of (is_bound_in bound) (expr_text e)))) (ne_eqb (length (expr_text e)) 0 (λ z. omega arith)) ∙ ap told (expr_of-text (is_bound_in bound) e is)

cond_back : (bound : Bound) (c : Cond) → IsCond (is_bound_in bound) c → cond_field bound (cond_text c) ≡ Ok c
cond_back bound c is =
    let some : 0 < length (cond_text c) = (cond_edged (is_bound_in bound) c is).some in
    ap (λ b. cond b (Err Form) (told (cond_of (is_bound_in bound) (cond_text c)))) (ne_eqb (length (cond_text c)) 0 (λ z. omega arith)) ∙ ap told (cond_of-text (is_bound_in bound) c is)

-- ---- each operation by its fields

get_back : (id name : List ℕ) → IsDocId id → is_name name ≡ true → get_field (id ++ 32 ∷ (codes "as " ++ name)) ≡ Ok (op.Get id name)
unfolding get_field
get_back id name fit named =
    let word = name_word name named in
    ap (λ r. r >>= (λ i. fixed_field (codes "as") i.1 >>= (λ b. name_field b >>= (λ n. end_field n.1 >>= (λ _. Ok (op.Get i.0 n.0))))))
    (id_field-next id (32 ∷ (codes "as " ++ name)) (id_word id fit) refl fit)
    ∙ ap (λ r. r >>= (λ b. name_field b >>= (λ n. end_field n.1 >>= (λ _. Ok (op.Get id n.0)))))
    (fixed_field-next (codes "as") (32 ∷ name) (word_literal (codes "as") refl) refl ∙ ap Ok (behind_space name (led_last name word)))
    ∙ ap (λ r. r >>= (λ n. end_field n.1 >>= (λ _. Ok (op.Get id n.0)))) (name_field-last name word named)

insert_back : (bound : Bound) (id : List ℕ) (e : Expr) → IsDocId id → IsExpr (is_bound_in bound) e → insert_field bound (id ++ 32 ∷ expr_text e) ≡ Ok (op.Insert id e)
unfolding insert_field
insert_back bound id e fit is =
    ap (λ r. r >>= (λ i. expr_field bound i.1 >>= (λ v. Ok (op.Insert i.0 v))))
    (id_field-next id (32 ∷ expr_text e) (id_word id fit) refl fit ∙ ap (λ x. Ok (id, x)) (behind_space (expr_text e) (expr_edged (is_bound_in bound) e is).led))
    ∙ ap (λ r. r >>= (λ v. Ok (op.Insert id v))) (expr_back bound e is)

replace_back : (bound : Bound) (id : List ℕ) (e : Expr) → IsDocId id → IsExpr (is_bound_in bound) e → replace_field bound (id ++ 32 ∷ expr_text e) ≡ Ok (op.Replace id e)
unfolding replace_field
replace_back bound id e fit is =
    ap (λ r. r >>= (λ i. expr_field bound i.1 >>= (λ v. Ok (op.Replace i.0 v))))
    (id_field-next id (32 ∷ expr_text e) (id_word id fit) refl fit ∙ ap (λ x. Ok (id, x)) (behind_space (expr_text e) (expr_edged (is_bound_in bound) e is).led))
    ∙ ap (λ r. r >>= (λ v. Ok (op.Replace id v))) (expr_back bound e is)

remove_back : (id : List ℕ) → IsDocId id → remove_field id ≡ Ok (op.Remove id)
unfolding remove_field
remove_back id fit = ap (λ r. r >>= (λ i. end_field i.1 >>= (λ _. Ok (op.Remove i.0)))) (id_field-last id (id_word id fit) fit)

need_back : (bound : Bound) (c : Cond) → IsCond (is_bound_in bound) c → need_field bound (cond_text c) ≡ Ok (op.Need c)
unfolding need_field
need_back bound c is = ap (λ r. r >>= (λ x. Ok (op.Need x))) (cond_back bound c is)

-- ---- lines of operations

-- the names that are bound behind operations
abbrev pub bound_after : List Op → Bound → Bound
bound_after [] bound = bound
bound_after (o ∷ ops) bound = bound_after ops (bound_by o bound)

module _ (st : Settings) (ds : Documents) where
  -- inside a transaction
  abbrev pub inner : Actors → List Client → List ℕ → List TxnPlan → Terms → List Op → Bound → ℕ → Draft
  inner actors done last txns terms ops bound tried = record {
    group = group.Clients;
    settings = st;
    documents = ds;
    actors = actors;
    clients = record { done = done; last = Some last; txns = txns; under_way = Some terms; ops = ops; bound = bound; tried = tried };
    course = no_course;
  }

  module _ (actors : Actors) (done : List Client) (last : List ℕ) (txns : List TxnPlan) (terms : Terms) where
    module _ (ops : List Op) (bound : Bound) (tried : ℕ) (few : length ops < 256) (room : tried + terms.tries ≤ 16384) where
      abbrev here : Draft
      here = inner actors done last txns terms ops bound tried

      abbrev past : Op → Draft
      past o = inner actors done last txns terms (ops ++ o ∷ []) (bound_by o bound) (tried + terms.tries)

      added : (which : Operation) (o : Op) (rest : List ℕ) → op_field which bound rest ≡ Ok o → operation_line which here rest ≡ Ok (past o)
      unfolding operation_line add_operation
      added which o rest is =
          ap (λ r. (r >>= (λ x. with_operation terms.tries x here.clients)) >>= (λ c. Ok (record here { clients = c }))) is
          ∙ ap (λ t. cond t (Err Limit) (Ok (record here.clients { ops = ops ++ o ∷ []; bound = bound_by o bound; tried = tried + terms.tries })) >>= (λ c. Ok (record here { clients = c })))
          (or_from (leb 256 (length ops)) (ltb 16384 (tried + terms.tries)) (lt-leb 256 (length ops) few) (le-ltb 16384 (tried + terms.tries) room))

      op_taken : (o : Op) → IsOperation bound o → taken here (op_line o) ≡ Ok (past o)
      unfolding keyword_of
      op_taken (op.Get id name) is =
          let rest = id ++ 32 ∷ (codes "as " ++ name) in
          ap (λ x. taken here (codes "get " ++ x)) (append_assoc id (codes " as ") name)
          ∙ line_taken here 103 (codes "et") rest (k.Operation Get) refl refl refl (led_word id (32 ∷ (codes "as " ++ name)) (id_word id is.0))
          ∙ added Get (op.Get id name) rest (get_back id name is.0 is.1)
      op_taken (op.Insert id value) is =
          let rest = id ++ 32 ∷ expr_text value in
          ap (λ x. taken here (codes "insert " ++ x)) (append_assoc id (32 ∷ []) (expr_text value))
          ∙ line_taken here 105 (codes "nsert") rest (k.Operation Insert) refl refl refl (led_word id (32 ∷ expr_text value) (id_word id is.0))
          ∙ added Insert (op.Insert id value) rest (insert_back bound id value is.0 is.1)
      op_taken (op.Replace id value) is =
          let rest = id ++ 32 ∷ expr_text value in
          ap (λ x. taken here (codes "replace " ++ x)) (append_assoc id (32 ∷ []) (expr_text value))
          ∙ line_taken here 114 (codes "eplace") rest (k.Operation Replace) refl refl refl (led_word id (32 ∷ expr_text value) (id_word id is.0))
          ∙ added Replace (op.Replace id value) rest (replace_back bound id value is.0 is.1)
      op_taken (op.Remove id) is =
          line_taken here 114 (codes "emove") id (k.Operation Remove) refl refl refl (led_last id (id_word id is)) ∙ added Remove (op.Remove id) id (remove_back id is)
      op_taken (op.Need c) is =
          line_taken here 110 (codes "eed") (cond_text c) (k.Operation Need) refl refl refl (cond_edged (is_bound_in bound) c is.0).led ∙ added Need (op.Need c) (cond_text c) (need_back bound c is.0)

    pub ops_back : (ops more : List Op) (bound : Bound) (tried : ℕ) → AreOperations bound more → length ops + length more ≤ 256 → tried + length more * terms.tries ≤ 16384
        → drafted (inner actors done last txns terms ops bound tried) (op_lines more) ≡ Ok (inner actors done last txns terms (ops ++ more) (bound_after more bound) (tried + length more * terms.tries))
    ops_back ops [] bound tried are few room =
        let same : tried ≡ tried + 0 * terms.tries = omega arith in
        ap (λ x. Ok (inner actors done last txns terms x bound tried)) (sym (append-nil ops)) ∙ ap (λ n. Ok (inner actors done last txns terms (ops ++ []) bound n)) same
    ops_back ops (o ∷ more) bound tried are few room =
        let e = length-append ops (o ∷ []) in
        let same : tried + terms.tries + length more * terms.tries ≡ tried + suc (length more) * terms.tries = omega arith in
        let some : tried + terms.tries ≤ 16384 = omega arith in
        let next = inner actors done last txns terms (ops ++ o ∷ []) (bound_by o bound) (tried + terms.tries) in
        let end = inner actors done last txns terms (ops ++ o ∷ more) (bound_after more (bound_by o bound)) (tried + suc (length more) * terms.tries) in
        drafted_on (inner actors done last txns terms ops bound tried) next end (op_line o) (op_lines more) (op_taken ops bound tried (omega arith) some o are.0)
        (ops_back (ops ++ o ∷ []) more (bound_by o bound) (tried + terms.tries) are.1 (omega arith) (omega arith)
        ∙ ap (λ x. Ok (inner actors done last txns terms x (bound_after more (bound_by o bound)) (tried + terms.tries + length more * terms.tries))) (append_assoc ops (o ∷ []) more)
        ∙ ap (λ n. Ok (inner actors done last txns terms (ops ++ o ∷ more) (bound_after more (bound_by o bound)) n)) same)

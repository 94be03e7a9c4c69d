-- How the canonical texts of expressions and conditions begin and end.
use Rattle.std.proofs.Common.{◌≡◌, ℕ, ◌<◌, Bool, true, false, cond, ltb, List, [], ◌∷◌, ◌++◌, length, Option, Some, None, decimal, codes, refl, sym, ap, ◌∙◌, arith, append_assoc, append-nil}
use Rattle.std.specs.List.{list_all}
use Rattle.std.proofs.lemmas.Bool.{and_parts, ltb-true}
use Rattle.std.proofs.lemmas.Bool.Decides.{nat_tests}
use Rattle.serde_json.specs.Data.{Num, Data, number}
use Rattle.cbt_json.specs.Rules.{is_whole}
use Rattle.cbt_json.specs.Trees.{data_of}
use Rattle.cbt_subdoc.specs.declared.path.Part.{Part}
use Rattle.cbt_subdoc.specs.declared.path.Part.TheVariants.{Name, Place, Last}
use Rattle.cbt_subdoc.specs.Written.{doubled}
use Rattle.cbt_expr.specs.declared.expressions.Expr.{Expr}
use Rattle.cbt_expr.specs.declared.expressions.Cond.{Cond}
use Rattle.cbt_expr.specs.declared.expressions.Cond.TheVariants.{Compare, Has, Lacks}
use Rattle.cbt_expr.specs.Forms.{Form, one, joined, TermForm, plain, list, object, reference, Items, no_items, item, Members, no_members, member, form_of}
use Rattle.cbt_lex.proofs.ByRecursion.{all_weaker, all_pass}
use Rattle.cbt_lex.proofs.LinesBack.{Closes, closes_at, closes_behind, closes_same, IsEdged, opened, edged_append}
use Rattle.cbt_lex.proofs.NamesBack.{name_word}
use Rattle.cbt_lex.proofs.WordsBack.{closes_word}
use Rattle.cbt_syntax.specs.Conditions.{max_levels}
use Rattle.cbt_syntax.specs.References.{is_word_byte}
use Rattle.cbt_syntax.specs.Rules.{is_scalar, IsForm, IsTerm, IsExpr, IsCond}
use Rattle.cbt_syntax.specs.Texts.{is_word, name_text, part_text, path_text, maybe_path_text, sign_text, string_text, comma, form_text, term_text, items_text, members_text, expr_text, cmp_text, cond_text}
use Rattle.cbt_script.proofs.TextsBack.{data_edged}

-- ---- paths

word_above : (b : ℕ) → is_word_byte b ≡ true → 32 < b
word_above b is = grind (arith, nat_tests)

name_closes_if : (t : Bool) (name : List ℕ) → is_word name ≡ t → Closes (cond t name (96 ∷ (doubled name ++ 96 ∷ [])))
name_closes_if true name is =
    let p = and_parts (ltb 0 (length name)) (list_all is_word_byte name) is in
    closes_word name (record { some = ltb-true 0 (length name) p.0; solid = all_weaker word_above name (all_pass is_word_byte name p.1) })
name_closes_if false name is = closes_at (96 ∷ doubled name) 96 (omega arith)

part_closes : (part : Part) → Closes (part_text part)
part_closes (Name name) = closes_behind (codes ".") (name_text name) (name_closes_if (is_word name) name refl)
part_closes (Place n) = closes_behind (codes "[") (decimal n ++ codes "]") (closes_at (decimal n) 93 (omega arith))
part_closes Last = closes_at (codes "[-1") 93 (omega arith)

path_closes : (text : List ℕ) (parts : List Part) → Closes text → Closes (text ++ path_text parts)
path_closes text [] closes = closes_same (text ++ []) text (append-nil text) closes
path_closes text (part ∷ parts) closes =
    closes_same (text ++ (part_text part ++ path_text parts)) (text ++ part_text part ++ path_text parts) (sym (append_assoc text (part_text part) (path_text parts)))
    (path_closes (text ++ part_text part) parts (closes_behind text (part_text part) (part_closes part)))

maybe_path_closes : (text : List ℕ) (path : Option (List Part)) → Closes text → Closes (text ++ maybe_path_text path)
maybe_path_closes text None closes = closes_same (text ++ []) text (append-nil text) closes
maybe_path_closes text (Some parts) closes = path_closes text parts closes

-- ---- terms

expr_items_close : (more : Bool) (forms : Items) → Closes (items_text more forms)
expr_items_close more no_items = closes_at [] 93 (omega arith)
expr_items_close more (item form forms) = closes_behind (comma more) (form_text form ++ items_text true forms) (closes_behind (form_text form) (items_text true forms) (expr_items_close true forms))

expr_members_close : (more : Bool) (ms : Members) → Closes (members_text more ms)
expr_members_close more no_members = closes_at [] 125 (omega arith)
expr_members_close more (member name form ms) =
    closes_behind (comma more) (string_text name ++ (58 ∷ (form_text form ++ members_text true ms)))
    (closes_behind (string_text name) (58 ∷ (form_text form ++ members_text true ms))
    (closes_behind (58 ∷ []) (form_text form ++ members_text true ms) (closes_behind (form_text form) (members_text true ms) (expr_members_close true ms))))

scalar_number : (d : Data) (n : Num) → is_scalar d ≡ true → d ≡ number n → is_whole n ≡ true
scalar_number d n scalar is = ap is_scalar (sym is) ∙ scalar

term_edged : (bound : List ℕ → Bool) (n : ℕ) (term : TermForm) → IsTerm bound n term → IsEdged (term_text term)
term_edged bound n (plain json) is = data_edged (data_of json) (λ m same. scalar_number (data_of json) m is same)
term_edged bound n (list forms) is = opened 91 (items_text false forms) (omega arith) (expr_items_close false forms)
term_edged bound n (object ms) is = opened 123 (members_text false ms) (omega arith) (expr_members_close false ms)
term_edged bound n (reference name path) is = opened 64 (name ++ maybe_path_text path) (omega arith) (maybe_path_closes name path (closes_word name (name_word name is.0.0)))

form_edged : (bound : List ℕ → Bool) (n : ℕ) (form : Form) → IsForm bound n form → IsEdged (form_text form)
form_edged bound n (one term) is = term_edged bound n term is
form_edged bound n (joined form sign term) is =
    edged_append (form_text form) (sign_text sign ++ term_text term) (form_edged bound n form is.0) (closes_behind (sign_text sign) (term_text term) (term_edged bound n term is.1).closes)

pub expr_edged : (bound : List ℕ → Bool) (expr : Expr) → IsExpr bound expr → IsEdged (expr_text expr)
expr_edged bound expr is = form_edged bound max_levels (form_of expr) is

pub cond_edged : (bound : List ℕ → Bool) (c : Cond) → IsCond bound c → IsEdged (cond_text c)
cond_edged bound (Compare left cmp right) is =
    edged_append (expr_text left) (cmp_text cmp ++ expr_text right) (expr_edged bound left is.0) (closes_behind (cmp_text cmp) (expr_text right) (expr_edged bound right is.1).closes)
cond_edged bound (Has name) is = opened 115 (codes "ome " ++ name) (omega arith) (closes_behind (codes "ome ") name (closes_word name (name_word name is.0)))
cond_edged bound (Lacks name) is = opened 110 (codes "one " ++ name) (omega arith) (closes_behind (codes "one ") name (closes_word name (name_word name is.0)))

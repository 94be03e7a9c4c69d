-- The documents of a script's opening fit.
use Rattle.std.proofs.Common.{◌≡◌, ℕ, ◌+◌, Bool, true, false, cond, ◌&&◌, IsTrue, List, [], ◌∷◌, Some, sym, ap, ◌∙◌}
use Rattle.std.proofs.lemmas.List.Elements.{All-head, All-tail}
use Rattle.std.proofs.lemmas.Option.{none-some}
use Rattle.std.specs.List.{All}
use Rattle.std.specs.Ordering.{is_eq}
use Rattle.cbt_base.specs.Keyed.{at_key, with_pair}
use Rattle.cbt_base.proofs.Maps.{at_key-with_pair}
use Rattle.cbt_json.specs.declared.tree.Tree.{Tree}
use Rattle.cbt_model.specs.Bodies.{body_fits_of}
use Rattle.cbt_model.specs.Fitting.{HasFitBodies, HasFitAttributes, doc_fits}
use Rattle.cbt_model.specs.Keys.{doc_cmp}
use Rattle.cbt_model.specs.declared.documents.DocState.{DocState}
use Rattle.cbt_model.proofs.Orders.{doc_order}
use Rattle.cbt_script.specs.Fields.{fits_body}
use Rattle.cbt_script.specs.Opening.{docs_from, first_state, opening_of}
use Rattle.cbt_script.specs.Rules.{IsDocument}

-- each of these documents fits
record AreFit (docs : List (List ℕ × DocState)) : Type 0 where
  pub bodies : (id : List ℕ) (d : DocState) → at_key doc_cmp docs id ≡ Some d → doc_fits d ≡ true
  pub attributes : (id : List ℕ) (d : DocState) → at_key doc_cmp docs id ≡ Some d → body_fits_of d.attrs ≡ true

same_doc : (x y : DocState) → Some x ≡ Some y → x ≡ y
same_doc x y same = cc

fit-is : (tree : Tree) → IsTrue (fits_body tree) → body_fits_of tree ≡ true
unfolding body_fits_of
fit-is tree fits = fits

one_more : (next : ℕ) (docs : List (List ℕ × DocState)) (id : List ℕ) (body attrs : Tree) → body_fits_of body ≡ true → body_fits_of attrs ≡ true
    → AreFit docs → AreFit (with_pair doc_cmp docs id (first_state next body attrs))
one_more next docs id body attrs body_fits attrs_fit before = record {
  bodies = λ q d at. body_by q d (is_eq (doc_cmp q id)) (sym (at_key-with_pair doc_cmp doc_order.total docs id new q) ∙ at);
  attributes = λ q d at. attrs_by q d (is_eq (doc_cmp q id)) (sym (at_key-with_pair doc_cmp doc_order.total docs id new q) ∙ at);
}
  where
    new : DocState
    new = first_state next body attrs

    body_by : (q : List ℕ) (d : DocState) (b : Bool) → cond b (Some new) (at_key doc_cmp docs q) ≡ Some d → doc_fits d ≡ true
    body_by q d true at = ap doc_fits (sym (same_doc new d at)) ∙ ap (λ b. b && true) body_fits
    body_by q d false at = before.bodies q d at

    attrs_by : (q : List ℕ) (d : DocState) (b : Bool) → cond b (Some new) (at_key doc_cmp docs q) ≡ Some d → body_fits_of d.attrs ≡ true
    attrs_by q d true at = ap (λ (x : DocState). body_fits_of x.attrs) (sym (same_doc new d at)) ∙ attrs_fit
    attrs_by q d false at = before.attributes q d at

all_fit : (next : ℕ) (ds : List (List ℕ × Tree × Tree)) (docs : List (List ℕ × DocState)) → All IsDocument ds → AreFit docs → AreFit (docs_from next ds docs)
all_fit next [] docs known before = before
all_fit next (d ∷ ds) docs known before =
    let this = All-head IsDocument d ds known in
    all_fit (next + 1) ds (with_pair doc_cmp docs d.0 (first_state next d.1 d.2)) (All-tail IsDocument d ds known)
    (one_more next docs d.0 d.1 d.2 (fit-is d.1 this.1.1) (fit-is d.2 this.2.1) before)

opening-fits : (docs : List (List ℕ × Tree × Tree)) → All IsDocument docs → AreFit (docs_from 1 docs [])
opening-fits docs known = all_fit 1 docs [] known (record { bodies = λ id d at. absurd (none-some d at); attributes = λ id d at. absurd (none-some d at) })

pub bodies-fit : (docs : List (List ℕ × Tree × Tree)) → All IsDocument docs → HasFitBodies (opening_of docs)
bodies-fit docs known = record { each = λ id d at. (opening-fits docs known).bodies id d at }

pub attributes-fit : (docs : List (List ℕ × Tree × Tree)) → All IsDocument docs → HasFitAttributes (opening_of docs)
attributes-fit docs known = record { each = λ id d at. (opening-fits docs known).attributes id d at }

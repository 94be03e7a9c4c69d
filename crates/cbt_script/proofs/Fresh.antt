-- The opening of a script is fresh.
use Rattle.std.proofs.Common.{◌≡◌, ℕ, suc, ◌+◌, ◌<◌, Bool, true, false, cond, List, [], ◌∷◌, length, Some, None, refl, sym, ap, ◌∙◌, subst, arith}
use Rattle.std.proofs.lemmas.Option.{none-some}
use Rattle.std.specs.List.Sorted.{IsStrictlySortedBy}
use Rattle.std.specs.Ordering.{is_eq}
use Rattle.cbt_base.specs.Keyed.{Rises, at_key, with_pair}
use Rattle.cbt_base.proofs.Maps.{at_key-with_pair, rises-with_pair}
use Rattle.cbt_json.specs.declared.tree.Tree.{Tree}
use Rattle.cbt_model.specs.Fresh.{IsFresh}
use Rattle.cbt_model.specs.Keys.{doc_cmp}
use Rattle.cbt_model.specs.declared.documents.DocState.{DocState}
use Rattle.cbt_model.proofs.Orders.{doc_order}
use Rattle.cbt_script.specs.Opening.{docs_from, first_state, opening_of}

-- documents in their order, none of them staged, each with a CAS below this one
record Unwritten (next : ℕ) (docs : List (List ℕ × DocState)) : Type 0 where
  pub rises : Rises doc_cmp docs
  pub unstaged : (id : List ℕ) (d : DocState) → at_key doc_cmp docs id ≡ Some d → d.stage ≡ None
  pub below : (id : List ℕ) (d : DocState) → at_key doc_cmp docs id ≡ Some d → d.cas < next

same_doc : (x y : DocState) → Some x ≡ Some y → x ≡ y
same_doc x y same = cc

one_more : (next : ℕ) (docs : List (List ℕ × DocState)) (id : List ℕ) (body attrs : Tree) → Unwritten next docs
    → Unwritten (next + 1) (with_pair doc_cmp docs id (first_state next body attrs))
one_more next docs id body attrs before = record {
  rises = rises-with_pair doc_cmp doc_order.total docs id new before.rises;
  unstaged = λ q d at. by_key q d (is_eq (doc_cmp q id)) (sym (at_key-with_pair doc_cmp doc_order.total docs id new q) ∙ at);
  below = λ q d at. below_key q d (is_eq (doc_cmp q id)) (sym (at_key-with_pair doc_cmp doc_order.total docs id new q) ∙ at);
}
  where
    new : DocState
    new = first_state next body attrs

    by_key : (q : List ℕ) (d : DocState) (b : Bool) → cond b (Some new) (at_key doc_cmp docs q) ≡ Some d → d.stage ≡ None
    by_key q d true at = ap (λ (x : DocState). x.stage) (sym (same_doc new d at))
    by_key q d false at = before.unstaged q d at

    below_key : (q : List ℕ) (d : DocState) (b : Bool) → cond b (Some new) (at_key doc_cmp docs q) ≡ Some d → d.cas < next + 1
    below_key q d true at = let is : d.cas ≡ next = ap (λ (x : DocState). x.cas) (sym (same_doc new d at)) in omega arith
    below_key q d false at = let low = before.below q d at in omega arith

all : (next : ℕ) (ds : List (List ℕ × Tree × Tree)) (docs : List (List ℕ × DocState)) → Unwritten next docs → Unwritten (next + length ds) (docs_from next ds docs)
all next [] docs before = subst (λ n. Unwritten n docs) (at_end next) before
  where
    at_end : (n : ℕ) → n ≡ n + 0
    at_end n = omega arith
all next (d ∷ ds) docs before =
    subst (λ n. Unwritten n (docs_from (next + 1) ds (with_pair doc_cmp docs d.0 (first_state next d.1 d.2)))) (at_end next (length ds))
    (all (next + 1) ds (with_pair doc_cmp docs d.0 (first_state next d.1 d.2)) (one_more next docs d.0 d.1 d.2 before))
  where
    at_end : (n k : ℕ) → n + 1 + k ≡ n + suc k
    at_end n k = omega arith

-- nobody has written in the state before a script's run
pub openings-fresh : (docs : List (List ℕ × Tree × Tree)) → IsFresh (opening_of docs)
unfolding IsStrictlySortedBy
openings-fresh docs = record {
  ordered = record { docs = written.rises; entries = tt; clients = tt };
  entries = refl;
  clients = refl;
  unstaged = λ id d at. written.unstaged id d at;
  low = λ id d at. let below = written.below id d at in omega arith;
}
  where
    written : Unwritten (1 + length docs) (docs_from 1 docs [])
    written = all 1 docs [] (record { rises = tt; unstaged = λ id d at. absurd (none-some d at); below = λ id d at. absurd (none-some d at) })

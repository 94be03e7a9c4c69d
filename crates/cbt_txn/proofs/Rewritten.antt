-- What a write over an own write is.
use Rattle.std.proofs.Common.{◌≡◌, ℕ, List, Option, Some, None, refl, sym, ap, ◌∙◌, subst}
use Rattle.std.proofs.lemmas.Option.{none-some}
use Rattle.cbt_json.specs.declared.value.Json.{Json}
use Rattle.cbt_model.specs.declared.documents.OpKind.{OpKind}
use Rattle.cbt_core.proofs.runs.Past.{some_same}
use Rattle.cbt_attempt.specs.OwnWrites.{noted}
use Rattle.cbt_attempt.specs.declared.attempt.Attempt.{Attempt}
use Rattle.cbt_attempt.specs.declared.own.Own.{Own}
use Rattle.cbt_stage.specs.Rewrites.{over_cas, over_own, rewrite_of, takes_back, written_over}
use Rattle.cbt_stage.specs.declared.rewrites.Rewrite.{Rewrite}

pub record RewriteIs (a : Attempt) (d : List ℕ) (kind : OpKind) (content : Option Json) (own : Own) (it : Rewrite) : Type 0 where
  pub doc_is : it.doc ≡ d
  pub of_attempt : it.attempt ≡ a.id
  pub cas_is : own.cas ≡ Some it.cas
  pub back_is : it.back ≡ takes_back kind own.kind
  pub write_is : it.write ≡ written_over own kind content

pub rewrite_is : (a : Attempt) (d : List ℕ) (kind : OpKind) (content : Option Json) (own : Own) (it : Rewrite) → noted a.writes d ≡ Some own
    → Some it ≡ rewrite_of a d kind content → RewriteIs a d kind content own it
rewrite_is a d kind content own it own_is is = by_sent a.sent (is ∙ ap (λ o. over_own a d kind content a.sent o) own_is)
  where
    by_cas : (atr : ℕ) (cas : Option ℕ) → own.cas ≡ cas → Some it ≡ over_cas a d kind content own atr cas → RewriteIs a d kind content own it
    by_cas atr None cas_is is = absurd (none-some it (sym is))
    by_cas atr (Some cas) cas_is is =
        subst (λ it. RewriteIs a d kind content own it) (sym (some_same is))
        (record { doc_is = refl; of_attempt = refl; cas_is = cas_is; back_is = refl; write_is = refl })

    by_sent : (sent : Option ℕ) → Some it ≡ over_own a d kind content sent (Some own) → RewriteIs a d kind content own it
    by_sent None is = absurd (none-some it (sym is))
    by_sent (Some atr) is = by_cas atr own.cas refl is

use Rattle.std.proofs.Common.{◌≡◌, ℕ, inl, inr, List, [], ◌∷◌, Option, Some, None, refl, sym, true, false, subst}
use Rattle.cbt_model.specs.declared.documents.OpKind.TheVariants.{Replace}
use Rattle.cbt_model.specs.declared.steps.Expect.{Expect}
use Rattle.cbt_model.specs.declared.steps.Expect.TheVariants as expect
use Rattle.cbt_model.specs.declared.steps.Step.TheVariants as step
use Rattle.cbt_book.specs.OwnLists.{Once, during}
use Rattle.cbt_book.specs.ReadAt.{Reading, IsReadAt}
use Rattle.cbt_book.specs.Outcomes.{DoneAt, expected}
use Rattle.cbt_book.specs.declared.operations.When.TheVariants as when
use Rattle.cbt_core.specs.OpAnswers.{StagesOver, over_reading, over_own, StandsOn, on_earlier, on_own}
use Rattle.cbt_core.specs.Walk.{LastRead, nothing_yet, noted}
use Rattle.cbt_rows.specs.Changes.{first_try, fresh_list, get_first, got_first, staged_over, read_again, read_first}
use Rattle.cbt_rows.specs.OneReplace as one
use Rattle.cbt_rows.proofs.Never.{no_bool, differ, some-none}
use Rattle.cbt_rows.proofs.Requested.{answered_as, replaces-n2}
use Rattle.cbt_rows.proofs.Readings.{no_moment, no_cas}
use Rattle.cbt_rows.specs.Words.{doc_a, n}
use Rattle.cbt_rows.proofs.unplanned.bases_of_another_reading.Goals as goal

same-moment : {x y : ℕ} → when.At x ≡ when.At y → x ≡ y
same-moment e = cc

at-own : {t : ℕ} → when.At t ≡ when.Own → ⊥
at-own e = cc

stands-elsewhere : (it : Reading) → when.At 1 ≡ when.At it.moment
    → StandsOn one.made_1 nothing_yet doc_a Replace it (one.m2 ∷ one.m1 ∷ one.m0 ∷ []) → ⊥
stands-elsewhere it base (on_earlier last is good read value moment) = some-none last (sym is)
stands-elsewhere it base (on_own none read good) =
    no_moment doc_a (record it { moment = 1 }) (one.m2 ∷ one.m1 ∷ one.m0 ∷ []) refl (subst (λ t. IsReadAt doc_a (record it { moment = t }) (one.m2 ∷
    one.m1 ∷ one.m0 ∷ [])) (sym (same-moment base)) read)

staged-elsewhere : StagesOver first_try one.made_1 nothing_yet doc_a Replace (Some (n 2)) (one.m2 ∷ one.m1 ∷ one.m0 ∷ []) (when.At 1) one.m2.step → ⊥
staged-elsewhere (over_reading it stage own stands base carries is) = stands-elsewhere it base stands
staged-elsewhere (over_own w x stage own again has base carries is) = at-own base

not_done : {A : Type 0} → false ≡ true → A
not_done e = absurd (no_bool (sym e))

elsewhere : Once (λ m _. DoneAt 2 m × StagesOver first_try one.made_1 nothing_yet doc_a Replace (Some (n 2)) (one.m2 ∷ one.m1 ∷ one.m0 ∷ [])
    (when.At 1) m.step) (one.m2 ∷ one.m1 ∷ one.m0 ∷ []) → ⊥
elsewhere (inl (done, over)) = staged-elsewhere over
elsewhere (inr (inl (done, over))) = differ 1 2 refl done.0
elsewhere (inr (inr (inl (done, over)))) = differ 0 2 refl done.0
elsewhere (inr (inr (inr h))) = h

cas-of : {x : ℕ} {o : Option ℕ} → expect.Cas x ≡ expected o → o ≡ Some x
cas-of {o = None} e = absurd (no_cas_new e)
  where
    no_cas_new : {x : ℕ} → expect.Cas x ≡ expect.New → ⊥
    no_cas_new e = cc
cas-of {o = Some y} e = same e
  where
    same : {x y : ℕ} → expect.Cas x ≡ expect.Cas y → Some y ≡ Some x
    same e = cc

expects : {d : List ℕ} {a b : Expect} {s t : _} → step.Stage d a s ≡ step.Stage d b t → a ≡ b
expects e = cc

stands-fresh : (it : Reading) → it.cas ≡ Some 1003945984 → StandsOn fresh_list (noted get_first got_first nothing_yet) doc_a Replace it (staged_over
    ∷ read_again ∷ one.m1 ∷ []) → ⊥
stands-fresh it cas (on_earlier last is good read value moment) =
    no_cas doc_a it (read_first ∷ []) 1003945984 cas refl (subst (λ (r : LastRead). IsReadAt doc_a it (during r.span fresh_list)) (sym (same-read
    is)) read)
  where
    same-read : {x y : LastRead} → Some x ≡ Some y → x ≡ y
    same-read e = cc
stands-fresh it cas (on_own none read good) = no_bool none

staged-fresh : StagesOver first_try fresh_list (noted get_first got_first nothing_yet) doc_a Replace (Some (n 2)) (staged_over ∷ read_again ∷ one.m1
    ∷ []) (when.At 0) staged_over.step → ⊥
staged-fresh (over_reading it stage own stands base carries is) = stands-fresh it (cas-of (expects is)) stands
staged-fresh (over_own w x stage own again has base carries is) = at-own base

fresh : Once (λ m _. DoneAt 8 m × StagesOver first_try fresh_list (noted get_first got_first nothing_yet) doc_a Replace (Some (n 2)) (staged_over ∷
    read_again ∷ one.m1 ∷ []) (when.At 0) m.step) (staged_over ∷ read_again ∷ one.m1 ∷ []) → ⊥
fresh (inl (done, over)) = staged-fresh over
fresh (inr (inl (done, over))) = differ 7 8 refl done.0
fresh (inr (inr (inl (done, over)))) = differ 1 8 refl done.0
fresh (inr (inr (inr h))) = h

pub returns : goal.returns
returns c = record { elsewhere = λ it. elsewhere (answered_as (replaces-n2 doc_a) it); fresh_read = λ it. fresh (answered_as (replaces-n2 doc_a) it) }

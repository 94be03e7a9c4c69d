use Rattle.std.proofs.Common.{◌≡◌, ℕ, inl, List, [], ◌∷◌, Option, Some, None, refl, sym, ap, ◌∙◌}
use Rattle.cbt_model.specs.declared.documents.Stage.{Stage}
use Rattle.cbt_model.specs.declared.documents.OpKind.TheVariants.{Replace}
use Rattle.cbt_model.specs.declared.entries.EntryState.TheVariants.{Committed}
use Rattle.cbt_model.specs.declared.events.Made.{Made}
use Rattle.cbt_rows.specs.Changes.{first_attempt, staged_again}
use Rattle.cbt_rows.specs.ReaderMeetsCommitOfRewrittenStage as rewritten
use Rattle.cbt_rows.specs.Words.{doc_a, n, stage_of, lists_of, entry_of}
use Rattle.cbt_rows.proofs.Never.{differ}
use Rattle.cbt_book.specs.Outcomes.{ChangesHands, once, again}
use Rattle.cbt_book.specs.Calls.{shown_cas}
use Rattle.cbt_rows.proofs.misread.hands_that_change.Goals as goal

some-number : {x y : ℕ} → Some x ≡ Some y → x ≡ y
some-number e = cc

head_cas : List Made → Option ℕ
head_cas [] = None
head_cas (m ∷ l) = shown_cas m.answer.reply

third_cas : List Made → Option ℕ
third_cas (m ∷ asked ∷ older) = head_cas older
third_cas _ = None

-- the newest reading shows the CAS
head-is : (d : List ℕ) (k x : ℕ) (stage : Stage) (l : List Made) → ChangesHands d k x stage l → head_cas l ≡ Some x
unfolding head_cas
head-is d k x stage l (once x0 s m body h) = ap shown_cas h.1
head-is d k x stage l (again j x0 y old s m asked older body h ne after before) = ap shown_cas h.1

-- the reading before shows another
two-differ : (d : List ℕ) (k x : ℕ) (stage : Stage) (l : List Made) → ChangesHands d k x stage l → (k ≡ 1 → ⊥) → third_cas l ≡ Some x → ⊥
unfolding third_cas
two-differ d k x stage l (once x0 s m body h) more same = more refl
two-differ d k x stage l (again j x0 y old s m asked older body h ne after before) more same = ne (some-number (sym same ∙ head-is d j x0 old older before))

stays : ¬ ChangesHands doc_a 2 1003945984 staged_again (rewritten.m9 ∷ rewritten.m8 ∷ rewritten.m7 ∷ [])
unfolding head_cas third_cas
stays h = two-differ doc_a 2 1003945984 staged_again (rewritten.m9 ∷ rewritten.m8 ∷ rewritten.m7 ∷ []) h (differ 2 1 refl) refl

pub returns : goal.returns
returns c = record {
  changes = again 1 1001979904 1003945984 (stage_of first_attempt 0 Replace (Some (n 2))) staged_again rewritten.m7 rewritten.m6 (rewritten.m3 ∷ []) (Some (n 1)) (refl, refl)
      (differ 1003945984 1001979904 refl) (inl (entry_of Committed 1000996864 15000 (lists_of [] (doc_a ∷ []) []), (refl, refl), refl))
      (once 1001979904 (stage_of first_attempt 0 Replace (Some (n 2))) rewritten.m3 (Some (n 1)) (refl, refl));
  stays = stays;
}

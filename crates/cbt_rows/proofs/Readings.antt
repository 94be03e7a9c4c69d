-- What a reading needs, as tests of the calls.
use Rattle.std.proofs.Common.{◌≡◌, ℕ, Bool, true, false, ◌==◌, ◌&&◌, ◌||◌, inl, inr, List, [], ◌∷◌, Option, Some, None, refl, sym, ap, ◌∙◌}
use Rattle.std.specs.List.{list_any}
use Rattle.cbt_json.specs.declared.value.Json.{Json}
use Rattle.cbt_model.specs.declared.documents.Stage.{Stage}
use Rattle.cbt_model.specs.declared.events.Made.{Made}
use Rattle.cbt_model.specs.declared.steps.Step.{Step}
use Rattle.cbt_book.specs.OwnLists.{Once}
use Rattle.cbt_book.specs.ReadAt.{Reading, IsReadAt, absent, unstaged, uncommitted, committed, dead}
use Rattle.cbt_book.specs.Shown.{ReadsDoc, FindsNoDoc, ReadsEntry, FindsNoEntry}
use Rattle.cbt_book.specs.Calls.{reads_doc, reads_entry}
use Rattle.cbt_rows.proofs.Needs.{shows_cas}
use Rattle.cbt_rows.proofs.Never.{never, same-number, some-none}

-- what stands before some step stands in the list
pub once_later : (P R : Made → List Made → Type 0) → ((m : Made) (before : List Made) → P m before → Once R before) → (l : List Made) → Once P l → Once R l
once_later P R later [] h = h
once_later P R later (m ∷ l) (inl h) = inr (later m l h)
once_later P R later (m ∷ l) (inr h) = inr (once_later P R later l h)

abbrev pub reads : Step → Bool
reads st = reads_doc st || reads_entry st

-- whether a step is a reading at this place
abbrev pub reads_at : ℕ → Made → Bool
reads_at t m = m.answer.place == t && reads m.step

and-true : {b c : Bool} → b ≡ true → c ≡ true → (b && c) ≡ true
and-true {b = true} {c = true} p q = refl
and-true {b = true} {c = false} p q = q
and-true {b = false} {c = true} p q = p
and-true {b = false} {c = false} p q = p

at-place : (t : ℕ) (m : Made) → m.answer.place ≡ t → reads m.step ≡ true → reads_at t m ≡ true
at-place t m at is = and-true (ap (λ p. p == t) at ∙ same-number t) is

module _ (d : List ℕ) (it : Reading) (l : List Made) where
  -- nothing was read at a place where there is no reading
  pub no_moment : list_any (reads_at it.moment) l ≡ false → ¬ IsReadAt d it l
  no_moment none (absent value cas by gone h) =
      never (λ m _. (m.answer.place ≡ it.moment) × FindsNoDoc d m) (reads_at it.moment) (λ m past p. at-place it.moment m p.0 (ap reads p.1.0)) l none h
  no_moment none (unstaged x cas by gone h) =
      never (λ m _. (m.answer.place ≡ it.moment) × ReadsDoc d x it.value None m) (reads_at it.moment) (λ m past p. at-place it.moment m p.0 (ap reads p.1.0)) l none h
  no_moment none (uncommitted x stage e cas by gone ne h) =
      never (λ n _. (n.answer.place ≡ it.moment) × ReadsDoc d x it.value (Some stage) n) (reads_at it.moment) (λ m past p. at-place it.moment m p.0 (ap reads p.1.0)) l none
      (once_later _ (λ n _. (n.answer.place ≡ it.moment) × ReadsDoc d x it.value (Some stage) n) (λ m before p. p.1) l h)
  no_moment none (committed x stage e cas by gone value is h) =
      never (λ n earlier. (n.answer.place ≡ it.moment) × ReadsEntry stage.atr stage.attempt e n × Once (λ k _. (body : Option Json) × ReadsDoc d x body (Some stage) k) earlier)
      (reads_at it.moment) (λ m past p. at-place it.moment m p.0 (ap reads p.1.0)) l none
      (once_later _ (λ n earlier. (n.answer.place ≡ it.moment) × ReadsEntry stage.atr stage.attempt e n × Once (λ k _. (body : Option Json) × ReadsDoc d x body (Some stage) k) earlier)
      (λ m before p. p.1) l h)
  no_moment none (dead x stage cas by gone h) =
      never (λ m before. (m.answer.place ≡ it.moment) × ((again : Option Stage) × ReadsDoc d x it.value again m)
      × Once (λ n earlier. FindsNoEntry stage.atr stage.attempt n × Once (λ k _. (body : Option Json) × ReadsDoc d x body (Some stage) k) earlier) before)
      (reads_at it.moment) (λ m past p. at-place it.moment m p.0 (ap reads p.1.1.0)) l none h

  some-same : {a b : ℕ} → Some a ≡ Some b → a ≡ b
  some-same e = cc

  shows : (x y : ℕ) (body : Option Json) (stage : Option Stage) (m : Made) → it.cas ≡ Some x → it.cas ≡ Some y → ReadsDoc d x body stage m → shows_cas y m.answer.reply ≡ true
  shows x y body stage m at is h = ap (shows_cas y) h.1 ∙ ap (λ z. z == y) (some-same (sym at ∙ is)) ∙ same-number y

  -- nothing was read at a CAS that no reading shows
  pub no_cas : (y : ℕ) → it.cas ≡ Some y → list_any (λ m. shows_cas y m.answer.reply) l ≡ false → ¬ IsReadAt d it l
  no_cas y is none (absent value cas by gone h) = some-none y (sym is ∙ cas)
  no_cas y is none (unstaged x cas by gone h) =
      never (λ m _. (m.answer.place ≡ it.moment) × ReadsDoc d x it.value None m) (λ m. shows_cas y m.answer.reply) (λ m past p. shows x y it.value None m cas is p.1) l none h
  no_cas y is none (uncommitted x stage e cas by gone ne h) =
      never (λ n _. (n.answer.place ≡ it.moment) × ReadsDoc d x it.value (Some stage) n) (λ m. shows_cas y m.answer.reply) (λ m past p. shows x y it.value (Some stage) m cas is p.1) l none
      (once_later _ (λ n _. (n.answer.place ≡ it.moment) × ReadsDoc d x it.value (Some stage) n) (λ m before p. p.1) l h)
  no_cas y is none (committed x stage e cas by gone value at h) =
      never (λ m before. ((body : Option Json) × (again : Option Stage) × ReadsDoc d x body again m)
      × Once (λ n earlier. (n.answer.place ≡ it.moment) × ReadsEntry stage.atr stage.attempt e n
      × Once (λ k _. (body : Option Json) × ReadsDoc d x body (Some stage) k) earlier) before)
      (λ m. shows_cas y m.answer.reply) (λ m past p. shows x y p.0.0 p.0.1 m cas is p.0.2) l none h
  no_cas y is none (dead x stage cas by gone h) =
      never (λ m before. (m.answer.place ≡ it.moment) × ((again : Option Stage) × ReadsDoc d x it.value again m)
      × Once (λ n earlier. FindsNoEntry stage.atr stage.attempt n × Once (λ k _. (body : Option Json) × ReadsDoc d x body (Some stage) k) earlier) before)
      (λ m. shows_cas y m.answer.reply) (λ m past p. shows x y it.value p.1.0 m cas is p.1.1) l none h

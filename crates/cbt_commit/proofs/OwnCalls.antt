-- Words on own lists, carried over from one word to another.
use Rattle.std.proofs.Common.{◌≡◌, ℕ, suc, ◌+◌, true, false, cond, is_some, inl, inr, ⊎_elim, List, ◌∷◌, [], count_by, ap, subst, ◌∙◌, arith}
use Rattle.std.proofs.lemmas.List.Sums.{sum_by-cons}
use Rattle.cbt_model.specs.History.{commits}
use Rattle.cbt_model.specs.declared.events.Made.{Made}
use Rattle.cbt_book.specs.OwnLists.{Once, Kept, Each, In}

-- what is so of each call
pub none_of : (P Q : Made → Type 0) (l : List Made) → ((m : Made) → P m → Q m → ⊥) → Each (λ m _. P m) l → Once (λ m _. Q m) l → ⊥
none_of P Q [] apart each once = once
none_of P Q (m ∷ l) apart each once = ⊎_elim (λ here. apart m each.0 here) (λ later. none_of P Q l apart each.1 later) once

pub each_weaker : (P Q : Made → Type 0) (l : List Made) → ((m : Made) → P m → Q m) → Each (λ m _. P m) l → Each (λ m _. Q m) l
each_weaker P Q [] weaker each = record {}
each_weaker P Q (m ∷ l) weaker each = (weaker m each.0, each_weaker P Q l weaker each.1)

-- what is so of one call
pub once_weaker : (P Q : Made → List Made → Type 0) (l : List Made) → ((m : Made) (past : List Made) → P m past → Q m past) → Once P l → Once Q l
once_weaker P Q [] weaker once = once
once_weaker P Q (m ∷ l) weaker once = ⊎_elim (λ here. inl (weaker m l here)) (λ later. inr (once_weaker P Q l weaker later)) once

pub in_once : (P : Made → Type 0) (it : Made) (l : List Made) → In it l → P it → Once (λ m _. P m) l
in_once P it [] there holds = there
in_once P it (m ∷ l) there holds = ⊎_elim (λ here. inl (subst P here holds)) (λ later. inr (in_once P it l later holds)) there

-- what is so of a call and was not undone since
pub kept_weaker : (P Q U V : Made → List Made → Type 0) (l : List Made) → ((m : Made) (past : List Made) → P m past → Q m past)
    → ((m : Made) (past : List Made) → V m past → U m past) → Kept P U l → Kept Q V l
kept_weaker P Q U V [] weaker wider kept = kept
kept_weaker P Q U V (m ∷ l) weaker wider kept =
    ⊎_elim (λ here. inl (weaker m l here)) (λ later. inr (λ undone. later.0 (wider m l undone), kept_weaker P Q U V l weaker wider later.1)) kept

pub kept_once : (P Q U : Made → List Made → Type 0) (l : List Made) → ((m : Made) (past : List Made) → P m past → Q m past) → Kept P U l → Once Q l
kept_once P Q U [] weaker kept = kept
kept_once P Q U (m ∷ l) weaker kept = ⊎_elim (λ here. inl (weaker m l here)) (λ later. inr (kept_once P Q U l weaker later.1)) kept

-- how often commits were sent
abbrev pub sends : List Made → ℕ
sends l = count_by (λ m. is_some (commits m.step)) l

pub sends_more : (m : Made) (l : List Made) → is_some (commits m.step) ≡ true → sends (m ∷ l) ≡ suc (sends l)
sends_more m l is = sum_by-cons (λ (x : Made). cond (is_some (commits x.step)) 1 0) m l ∙ ap (λ b. cond b 1 0 + sends l) is ∙ omega arith

pub sends_same : (m : Made) (l : List Made) → is_some (commits m.step) ≡ false → sends (m ∷ l) ≡ sends l
sends_same m l is = sum_by-cons (λ (x : Made). cond (is_some (commits x.step)) 1 0) m l ∙ ap (λ b. cond b 1 0 + sends l) is ∙ omega arith

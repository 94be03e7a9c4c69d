-- That an opening in which nobody has written is sound, and that a legal run of licensed actors from a sound opening is lawful.
use Rattle.std.proofs.Common.{◌≡◌, ℕ, ◌-◌, List, [], ◌∷◌, length, Some, refl, sym, ap, ◌∙◌, subst}
use Rattle.std.proofs.lemmas.Option.{none-some}
use Rattle.cbt_base.specs.Ids.{cleaner_number}
use Rattle.cbt_base.specs.Keyed.{at_key}
use Rattle.cbt_model.specs.Fresh.{IsFresh}
use Rattle.cbt_model.specs.Keys.{entry_cmp, id_cmp, entry_at, row_at}
use Rattle.cbt_model.specs.declared.entries.ClientRow.{ClientRow}
use Rattle.cbt_model.specs.declared.entries.Entry.{Entry}
use Rattle.cbt_model.specs.declared.events.Event.{Event}
use Rattle.cbt_model.specs.declared.states.State.{State}
use Rattle.cbt_book.specs.declared.book.Book.{Book}
use Rattle.cbt_core.specs.Openings.{IsSound, AreFresh}
use Rattle.cbt_core.specs.Lawful.{IsLawfulRun}
use Rattle.cbt_core.specs.declared.case.Case.{Case}
use Rattle.cbt_core.proofs.runs.Lawful.{Lawful}

empty_list : {X : Type 0} (l : List X) → length l ≡ 0 → l ≡ []
empty_list [] none = refl
empty_list (x ∷ l) none = absurd (cc)

module _ (s : State) (fresh : IsFresh s) where
  no_entry : (key : ℕ × ℕ) (e : Entry) → entry_at s key ≡ Some e → ⊥
  no_entry key e at = none-some e (sym (ap (λ m. at_key entry_cmp m key) (empty_list s.entries fresh.entries)) ∙ at)

  no_row : (id : ℕ) (row : ClientRow) → row_at s id ≡ Some row → ⊥
  no_row id row at = none-some row (sym (ap (λ m. at_key id_cmp m id) (empty_list s.clients fresh.clients)) ∙ at)

  pub fresh-sound : IsSound s
  fresh-sound = record {
    ordered = fresh.ordered;
    docs = fresh.low;
    starts = λ key e at. absurd (no_entry key e at);
    rows = λ id row at. absurd (no_row id row at);
    one = λ r q a e f at there. absurd (no_entry (r, a) e at);
    named = λ d x stage r e at staged there. absurd (no_entry (r, stage.attempt) e there);
    committed = λ d x stage e at staged there state. absurd (no_entry (stage.atr, stage.attempt) e there);
    aborted = λ d x stage e at staged there state. absurd (no_entry (stage.atr, stage.attempt) e there);
  }

  pub fresh-attempts : (h : List Event) → AreFresh s h
  fresh-attempts h = record {
    no_entry = λ i r a e x at adds there. no_entry (r, a) x there;
    no_staging = λ i a e d x stage at adds there staged. absurd (none-some stage (sym (fresh.unstaged d x there) ∙ staged));
  }

-- a legal run of licensed actors from a sound opening, in which the attempts are new
pub lawful_run : (case : Case) (book : Book) → IsLawfulRun case book → Lawful book.kept.opening book.kept.history
lawful_run case book run = record {
  sound = subst (λ s. IsSound s) (sym run.legal.opening) run.sound;
  fresh = subst (λ s. AreFresh s book.kept.history) (sym run.legal.opening) run.fresh;
  cleaner = λ actor. cleaner_number (actor - length case.plans);
  licensed = run.licensed;
  fits = run.legal.history.keeps.fitting;
}

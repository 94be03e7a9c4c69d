-- What a client's own list shows of an attempt it shows also with a further call.
use Rattle.std.proofs.Common.{◌≡◌, ◌≢◌, ℕ, true, inl, inr, ⊎_elim, List, ◌∷◌, Some, None, refl, ap, sym, ◌∙◌, subst}
use Rattle.std.proofs.lemmas.Option.{none-some}
use Rattle.cbt_model.specs.History.{is_done}
use Rattle.cbt_model.specs.declared.documents.OpKind.{OpKind}
use Rattle.cbt_model.specs.declared.events.Made.{Made}
use Rattle.cbt_model.specs.declared.steps.Expect.{Expect}
use Rattle.cbt_model.specs.declared.steps.Reply.TheVariants as reply
use Rattle.cbt_model.specs.declared.steps.Step.{Step}
use Rattle.cbt_model.specs.declared.steps.Step.TheVariants as step
use Rattle.cbt_book.specs.Licence.{StagesFor, MayHaveStaged}
use Rattle.cbt_book.specs.Numbers.{Identity}
use Rattle.cbt_book.specs.ReadAt.{Reading, IsReadAt}
use Rattle.cbt_book.specs.Shown.{adds, decides, AddsEntry}
use Rattle.cbt_attempt.specs.Notes.{stage_of, HasStaged, IsNoStaging, IsQuiet, NotesAll, NotesWrites}
use Rattle.cbt_attempt.specs.OwnWrites.{noted, with_noted, without_noted, SetsNote}
use Rattle.cbt_attempt.specs.declared.attempt.Attempt.{Attempt}
use Rattle.cbt_attempt.specs.declared.own.Own.{Own}
use Rattle.cbt_attempt.proofs.Notes.{writes_begin, writes_kept, writes_unstaged, writes_staged, writes_failed, writes_taken_back, writes_unstick_failed, all_quiet, all_entered, all_staged, all_taken_back}
use Rattle.cbt_stage.specs.Ready.{IsPart}
use Rattle.cbt_txn.specs.Following.{NotedOnce}
use Rattle.cbt_txn.specs.Licensing.{GoesWell, Owns}
use Rattle.cbt_txn.proofs.Noting.{by_id, gone_here, gone_other, once_gone, once_set, set_here, set_other}

some_same : {X : Type 0} {x y : X} → Some x ≡ Some y → x ≡ y
some_same both = cc

-- what is noted of one document became this
pub sets_note : {V : Type 0} (notes : List (List ℕ × V)) (d : List ℕ) (v : V) → SetsNote (noted notes) (noted (with_noted notes d v)) d (Some v)
sets_note notes d v = record { here = set_here notes d v; others = λ q apart. set_other notes d v q apart }

pub unsets_note : {V : Type 0} (notes : List (List ℕ × V)) (d : List ℕ) → NotedOnce notes → SetsNote (noted notes) (noted (without_noted notes d)) d None
unsets_note notes d once = record { here = gone_here notes d once; others = λ q apart. gone_other notes d q apart }

-- a step that neither writes for an attempt, nor adds its entry or decides it
pub record IsNeutral (a : ℕ) (s : Step) : Type 0 where
  pub quiet : IsQuiet a s
  pub unadded : adds s ≢ Some a
  pub undecided : decides s ≢ Some a

pub quiet_stages_none : (a : ℕ) (s : Step) → IsQuiet a s → IsNoStaging a s
quiet_stages_none a (step.Unstick d x) quiet = tt
quiet_stages_none a s quiet = quiet

module _ (a : Attempt) (m : Made) (l : List Made) where
  -- no more is staged by a call that stages nothing for the attempt
  none_staged : IsNoStaging a.id m.step → ¬ HasStaged a.id l → ¬ HasStaged a.id (m ∷ l)
  none_staged none older once =
      ⊎_elim (λ (here : (k : OpKind) × (d : List ℕ) × StagesFor a.id k d m). subst (λ s. IsNoStaging a.id s) here.2.2 none here.2.3) older once

  -- no call for the attempt
  pub owns_neutral : (who : Identity) → IsNeutral a.id m.step → Owns who a l → Owns who a (m ∷ l)
  owns_neutral who neutral it =
      let none = quiet_stages_none a.id m.step neutral.quiet in
      record {
        own = it.own;
        undecided = λ once. ⊎_elim neutral.undecided it.undecided once;
        unsent = λ unsent once. ⊎_elim neutral.unadded (it.unsent unsent) once;
        unstaged = λ unsent. none_staged none (it.unstaged unsent);
        unwritten = it.unwritten;
        sent = λ r is. inr (it.sent r is);
        writes = λ r is. writes_unstaged a.id r (noted a.writes) l m none (it.writes r is);
        read = λ d seen is. let old = it.read d seen is in (old.0, inl old.1, old.2);
        written_once = it.written_once;
        read_once = it.read_once;
      }

  pub well_quiet : IsQuiet a.id m.step → GoesWell a l → GoesWell a (m ∷ l)
  well_quiet quiet it = record {
    added = λ r is. inr (it.added r is);
    notes = λ r is. all_quiet a.id r (noted a.writes) l m quiet (it.notes r is);
  }

  -- its entry is sent
  module _ (who : Identity) (r : ℕ) (unsent : a.sent ≡ None) (it : Owns who a l) where
    abbrev Sent : Attempt
    Sent = record a { sent = Some r }

    pub owns_sent : (exp : ℕ) → m.step ≡ step.AddEntry r a.id exp → Owns who Sent (m ∷ l)
    owns_sent exp is = record {
      own = it.own;
      undecided = λ once. ⊎_elim (λ here. none-some a.id (sym (ap decides is) ∙ here)) it.undecided once;
      unsent = λ none. absurd (none-some r (sym none));
      unstaged = λ none. absurd (none-some r (sym none));
      unwritten = λ d none. absurd (none-some r (sym none));
      sent = λ q same. inl (exp, is ∙ ap (λ k. step.AddEntry k a.id exp) (some_same same));
      writes = λ q same. writes_begin a.id q (noted a.writes) (m ∷ l) (λ d. it.unwritten d unsent)
          (none_staged (subst (IsNoStaging a.id) (sym is) tt) (it.unstaged unsent));
      read = λ d seen at. let old = it.read d seen at in (old.0, inl old.1, old.2);
      written_once = it.written_once;
      read_once = it.read_once;
    }

    pub well_sent : AddsEntry r a.id m → GoesWell Sent (m ∷ l)
    well_sent entered = record {
      added = λ q same. inl (subst (λ k. AddsEntry k a.id m) (some_same same) entered);
      notes = λ q same. all_entered a.id q (noted a.writes) l m (subst (λ k. AddsEntry k a.id m) (some_same same) entered) (λ d. it.unwritten d unsent)
          (it.unstaged unsent);
    }

  -- its entry was sent before, and it writes
  module _ (who : Identity) (r : ℕ) (sent : a.sent ≡ Some r) (it : Owns who a l) where
    -- what it has noted of its own writes is right still
    pub owns_wrote : (writes : List (List ℕ × Own)) → NotedOnce writes → decides m.step ≡ None → NotesWrites a.id r (noted writes) (m ∷ l)
        → Owns who (record a { writes = writes }) (m ∷ l)
    owns_wrote writes once undecided notes = record {
      own = it.own;
      undecided = λ some. ⊎_elim (λ here. none-some a.id (sym undecided ∙ here)) it.undecided some;
      unsent = λ none. absurd (none-some r (sym none ∙ sent));
      unstaged = λ none. absurd (none-some r (sym none ∙ sent));
      unwritten = λ d none. absurd (none-some r (sym none ∙ sent));
      sent = λ q is. inr (it.sent q is);
      writes = λ q is. subst (λ k. NotesWrites a.id k (noted writes) (m ∷ l)) (some_same (sym sent ∙ is)) notes;
      read = λ d seen at. let old = it.read d seen at in (old.0, inl old.1, old.2);
      written_once = once;
      read_once = it.read_once;
    }

    -- a call that stages nothing may have failed or not
    pub owns_refused : decides m.step ≡ None → ((d : List ℕ) → ¬ MayHaveStaged a.id d m) → Owns who a (m ∷ l)
    owns_refused undecided none = owns_wrote a.writes it.written_once undecided (writes_kept a.id r (noted a.writes) l m none (it.writes r sent))

    -- a staging
    module _ (d : List ℕ) (e : Expect) (w : Own) (is : m.step ≡ step.Stage d e (stage_of a.id r w)) where
      -- as it is noted with a CAS
      abbrev Stamped : ℕ → Own
      Stamped x = record { kind = w.kind; content = w.content; cas = Some x }

      pub owns_staged : (x : ℕ) → m.answer.reply ≡ reply.Done x → Owns who (record a { writes = with_noted a.writes d (Stamped x) }) (m ∷ l)
      owns_staged x done =
          owns_wrote (with_noted a.writes d (Stamped x)) (once_set a.writes d (Stamped x) it.written_once) (ap decides is)
          (writes_staged a.id r (noted a.writes) l m (noted (with_noted a.writes d (Stamped x))) d e (Stamped x) (sets_note a.writes d (Stamped x)) x is done refl
          (it.writes r sent))

      pub well_staged : (x : ℕ) → m.answer.reply ≡ reply.Done x → GoesWell a l → GoesWell (record a { writes = with_noted a.writes d (Stamped x) }) (m ∷ l)
      well_staged x done well = record {
        added = λ q same. inr (well.added q same);
        notes = λ q same. subst (λ k. NotesAll a.id k (noted (with_noted a.writes d (Stamped x))) (m ∷ l)) (some_same (sym sent ∙ same))
            (all_staged a.id r (noted a.writes) l m (noted (with_noted a.writes d (Stamped x))) d e (Stamped x) (sets_note a.writes d (Stamped x)) x is done refl
            (well.notes r sent));
      }

      -- nobody knows whether it took effect
      pub owns_staged_unknown : w.cas ≡ None → Owns who (record a { writes = with_noted a.writes d w }) (m ∷ l)
      owns_staged_unknown unknown =
          owns_wrote (with_noted a.writes d w) (once_set a.writes d w it.written_once) (ap decides is)
          (writes_failed a.id r (noted a.writes) l m (noted (with_noted a.writes d w)) d w (sets_note a.writes d w) e (stage_of a.id r w) is unknown
          (it.writes r sent))

    -- an unstick
    module _ (d : List ℕ) (x : ℕ) (is : m.step ≡ step.Unstick d x) where
      abbrev TakenBack : Attempt
      TakenBack = record a { writes = without_noted a.writes d; seen = without_noted a.seen d }

      pub owns_taken_back : is_done m.answer.reply ≡ true → Owns who TakenBack (m ∷ l)
      owns_taken_back done =
          let wrote = owns_wrote (without_noted a.writes d) (once_gone a.writes d it.written_once) (ap decides is)
          (writes_taken_back a.id r (noted a.writes) l m (noted (without_noted a.writes d)) d x is done (unsets_note a.writes d it.written_once)
          (it.writes r sent)) in
          record {
            own = wrote.own;
            undecided = wrote.undecided;
            unsent = wrote.unsent;
            unstaged = wrote.unstaged;
            unwritten = wrote.unwritten;
            sent = wrote.sent;
            writes = wrote.writes;
            read = λ q seen at. still_read q seen at;
            written_once = wrote.written_once;
            read_once = once_gone a.seen d it.read_once;
          }
        where
          still_read : (q : List ℕ) (seen : Reading) → noted (without_noted a.seen d) q ≡ Some seen → (part : List Made) × IsPart part (m ∷ l) × IsReadAt q seen part
          still_read q seen at =
              by_id q d (λ same. absurd (none-some seen (sym (ap (noted (without_noted a.seen d)) same ∙ gone_here a.seen d it.read_once) ∙ at)))
              (λ apart. let old = it.read q seen (sym (gone_other a.seen d q apart) ∙ at) in (old.0, inl old.1, old.2))

      pub well_taken_back : (w : Own) → noted a.writes d ≡ Some w → w.cas ≡ Some x → is_done m.answer.reply ≡ true → GoesWell a l → GoesWell TakenBack (m ∷ l)
      well_taken_back w at cas done well = record {
        added = λ q same. inr (well.added q same);
        notes = λ q same. subst (λ k. NotesAll a.id k (noted (without_noted a.writes d)) (m ∷ l)) (some_same (sym sent ∙ same))
            (all_taken_back a.id r (noted a.writes) l m (noted (without_noted a.writes d)) d x is done (unsets_note a.writes d it.written_once) w at cas
            (well.notes r sent));
      }

      pub owns_unstick_unknown : (w : Own) → w.cas ≡ None → Owns who (record a { writes = with_noted a.writes d w }) (m ∷ l)
      owns_unstick_unknown w unknown =
          owns_wrote (with_noted a.writes d w) (once_set a.writes d w it.written_once) (ap decides is)
          (writes_unstick_failed a.id r (noted a.writes) l m (noted (with_noted a.writes d w)) d w (sets_note a.writes d w) x is unknown (it.writes r sent))

-- a reading is noted
module _ (who : Identity) (a : Attempt) (l : List Made) (d : List ℕ) (seen : Reading) where
  abbrev Noticed : Attempt
  Noticed = record a { seen = with_noted a.seen d seen }

  pub owns_noticed : (part : List Made) → IsPart part l → IsReadAt d seen part → Owns who a l → Owns who Noticed l
  owns_noticed part is reads it = record {
    own = it.own;
    undecided = it.undecided;
    unsent = it.unsent;
    unstaged = it.unstaged;
    unwritten = it.unwritten;
    sent = it.sent;
    writes = it.writes;
    read = λ q other at. now_read q other at;
    written_once = it.written_once;
    read_once = once_set a.seen d seen it.read_once;
  }
    where
      now_read : (q : List ℕ) (other : Reading) → noted (with_noted a.seen d seen) q ≡ Some other → (p : List Made) × IsPart p l × IsReadAt q other p
      now_read q other at =
          by_id q d
          (λ same. let it_is : seen ≡ other = some_same (sym (set_here a.seen d seen) ∙ ap (noted (with_noted a.seen d seen)) (sym same) ∙ at) in
          (part, is, subst (λ k. IsReadAt k other part) (sym same) (subst (λ k. IsReadAt d k part) it_is reads)))
          (λ apart. it.read q other (sym (set_other a.seen d seen q apart) ∙ at))

  pub well_noticed : GoesWell a l → GoesWell Noticed l
  well_noticed it = record { added = it.added; notes = it.notes }

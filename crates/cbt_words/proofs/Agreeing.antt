-- clap's walk over all words agrees with the reading of them.
use Rattle.std.proofs.Common.{◌≡◌, ◌∙◌, Bool, cond, true, false, ◌||◌, refl, sym, ap, ap₂, subst, List, [], ◌∷◌, Option, Some, None, codes}
use Rattle.std.specs.Prelude.{fold, option_and_then}
use Rattle.std.specs.Str.{bytes_eq}
use Rattle.clap.specs.Faults.{built_fault, check_fault, fault_of, level_fault, turn_fault, walk_fault}
use Rattle.clap.specs.Kinds.{Kinds, or_else}
use Rattle.clap.specs.Simple.{App, matches_of}
use Rattle.clap.specs.Walk.{Held, Row, Rule, Walk, finished, nothing_held, settled, walk, walked, with_default}
use Rattle.clap.specs.declared.error.kind.ErrorKind.{ErrorKind}
use Rattle.clap.specs.declared.error.kind.ErrorKind.TheVariants.{MissingRequiredArgument}
use Rattle.clap.proofs.FaultLemmas.{leaf_fault}
use Rattle.cbt_words.specs.Options.{Given, Options, Reading, Word, complete, given_in, has_word, word_met, words_met}
use Rattle.cbt_words.specs.Parsers.{app_with}
use Rattle.cbt_words.proofs.Rules.{defaults_fault-none, filled-rules, none_required, rows_for, rules}
use Rattle.cbt_words.proofs.Reading.{Bad, IsSound, bad_ends, ends, none_sound}
use Rattle.cbt_words.proofs.Walking.{Doomed, Fails, Stands, Steps, fails_first, idle_at, or_else-assoc, or_else-nil, settles, shape, steps, turn_dooms, waiting_fails}

no_word : (a b : Bool) → (a || b) ≡ false → (a ≡ false) × (b ≡ false)
no_word true b e = absurd (cc)
no_word false b e = (refl, e)

module _ (options : Options) where
  abbrev pub walk_end : Walk → List Word → Held
  walk_end w words = (fold (walked (rules options) []) w words).held

  -- what clap finds from a place of the walk on, and the rows that it has in the end
  abbrev pub fault_from : Walk → List Word → Kinds
  fault_from w words = or_else (walk_fault (shape options) [] w words) (settles options (walk_end w words))

  abbrev pub rows_from : Walk → List Word → List Row
  rows_from w words = (settled (rules options) (walk_end w words)).rows

  fault_from-next : (w : Walk) (word : Word) (words : List Word)
      → fault_from w (word ∷ words) ≡ or_else (turn_fault (shape options) [] w word) (fault_from (walked (rules options) [] w word) words)
  unfolding walk_fault
  fault_from-next w word words =
      or_else-assoc (turn_fault (shape options) [] w word) (walk_fault (shape options) [] (walked (rules options) [] w word) words) (settles options (walk_end w (word ∷ words)))

  fault_from-end : (w : Walk) → fault_from w [] ≡ settles options w.held
  unfolding walk_fault
  fault_from-end w = refl

  -- clap takes the words exactly where they are options, or refuses one whose value is no number
  abbrev pub Agrees : Kinds → List Row → Option Given → Type 0
  Agrees [] rows None = ⊥
  Agrees [] rows (Some given) = (rows ≡ rows_for given) × IsSound options given
  Agrees (k ∷ ks) rows None = Unit {0}
  Agrees (k ∷ ks) rows (Some given) = Bad options given

  agrees_failed : (ks : Kinds) (rows : List Row) → Fails ks → Agrees ks rows None
  agrees_failed [] rows f = absurd f
  agrees_failed (k ∷ ks) rows f = tt

  doomed : (words : List Word) (w : Walk) → Doomed options w → has_word (codes "--") words ≡ false → Fails (fault_from w words)
  doomed [] w (h, is, f, none) no_end = subst Fails (sym (fault_from-end w ∙ ap (λ (v : Walk). settles options v.held) is)) f
  doomed (word ∷ words) w dooms no_end =
      subst Fails (sym (fault_from-next w word words)) (fails_first _ _ (turn_dooms options w word dooms (no_word (bytes_eq word (codes "--")) _ no_end).0))

  bad_agrees : (k : ErrorKind) (ks : Kinds) (rows : List Row) (given : Given) (waiting : Option Word) (words : List Word) → Bad options given → Agrees (k ∷ ks) rows (ends options given waiting words)
  bad_agrees k ks rows given waiting words bad = go (ends options given waiting words) (λ final. bad_ends options words given final waiting bad)
    where
      go : (o : Option Given) → ((final : Given) → o ≡ Some final → Bad options final) → Agrees (k ∷ ks) rows o
      go None behind = tt
      go (Some final) behind = behind final refl

  abbrev AgreesFrom : List Word → Type 0
  AgreesFrom words = (given : Given) (waiting : Option Word) (w : Walk) → Stands options given waiting w → Agrees (fault_from w words) (rows_from w words) (ends options given waiting words)

  next_agrees : (words : List Word) (ks : Kinds) (w : Walk) (o : Option Reading) → Steps options ks w o → has_word (codes "--") words ≡ false → AgreesFrom words
      → Agrees (or_else ks (fault_from w words)) (rows_from w words) (option_and_then complete (option_and_then (λ r. words_met options r.0 r.1 words) o))
  next_agrees words [] w None dooms no_end behind = agrees_failed (fault_from w words) _ (doomed words w dooms no_end)
  next_agrees words [] w (Some r) stands no_end behind = behind r.0 r.1 w stands
  next_agrees words (k ∷ ks) w None step no_end behind = tt
  next_agrees words (k ∷ ks) w (Some r) bad no_end behind = bad_agrees k ks (rows_from w words) r.0 r.1 words bad

  agrees : (words : List Word) → has_word (codes "--") words ≡ false → AgreesFrom words
  agrees [] no_end given None w (h, is, holds, sound) =
      subst (λ (v : Walk). Agrees (fault_from v []) (settled (rules options) v.held).rows (Some given)) (sym is)
      (subst (λ ks. Agrees ks (settled (rules options) h).rows (Some given)) (sym (fault_from-end (idle_at h) ∙ holds.passes)) (holds.rows, sound))
  agrees [] no_end given (Some name) w (is, known, sound) =
      agrees_failed (fault_from w []) _ (subst Fails (sym (fault_from-end w ∙ ap (λ (v : Walk). settles options v.held) is)) (waiting_fails options given name known))
  agrees (word ∷ words) no_end given waiting w stands =
      let parts = no_word (bytes_eq word (codes "--")) _ no_end in
      subst (λ ks. Agrees ks (rows_from w (word ∷ words)) (ends options given waiting (word ∷ words))) (sym (fault_from-next w word words))
      (next_agrees words (turn_fault (shape options) [] w word) (walked (rules options) [] w word) (word_met options given waiting word)
      (steps options given waiting w word stands parts.0) parts.1 (agrees words parts.1))

  -- ---- the whole command

  abbrev built_app : List Rule → App
  built_app rs = record { top = record (shape options) { rules = rs }; subs = [] }

  level_fault-is : (words : List Word) → level_fault (shape options) [] nothing_held words false [] ≡ fault_from (idle_at nothing_held) words
  level_fault-is words =
      let h = walk_end (idle_at nothing_held) words in
      let rows = (settled (rules options) h).rows in
      ap₂ (λ d c. or_else (walk_fault (shape options) [] (idle_at nothing_held) words) (or_else (settles options h) (or_else d c)))
      (defaults_fault-none rows options) (required (finished (rules options) h))
      ∙ ap (or_else (walk_fault (shape options) [] (idle_at nothing_held) words)) (or_else-nil (settles options h))
    where
      required : (rows : List Row) → check_fault (shape options) rows false ≡ []
      required rows = ap (λ t. cond t (MissingRequiredArgument ∷ []) []) (none_required rows options)

  pub fault_of-is : (words : List Word) → fault_of (app_with options) words ≡ fault_from (idle_at nothing_held) words
  fault_of-is words =
      ap (λ rs. built_fault (built_app rs) nothing_held words) (filled-rules 1 options) ∙ leaf_fault (built_app (rules options)) nothing_held words refl ∙ level_fault-is words

  -- the rows of the options that were given, and of defaults behind them
  pub matches_of-is : (words : List Word) → matches_of (app_with options) words ≡ fold with_default (rows_from (idle_at nothing_held) words) (rules options)
  matches_of-is words = ap (λ rs. finished rs (walk rs [] nothing_held words).held) (filled-rules 1 options)

  pub clap_agrees : (words : List Word) → has_word (codes "--") words ≡ false
      → Agrees (fault_of (app_with options) words) (rows_from (idle_at nothing_held) words) (given_in options words)
  clap_agrees words no_end =
      subst (λ ks. Agrees ks (rows_from (idle_at nothing_held) words) (given_in options words)) (sym (fault_of-is words))
      (agrees words no_end [] None (idle_at nothing_held) (nothing_held, refl, record { passes = refl; rows = refl; skip = refl }, none_sound options))

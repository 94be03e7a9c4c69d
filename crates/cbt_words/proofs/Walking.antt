-- clap's walk over words, beside the reading of them.
use Rattle.std.proofs.Common.{◌≡◌, ◌∙◌, ◌⊎◌, inl, inr, ℕ, Bool, zero, suc, cond, true, false, ◌&&◌, refl, sym, ap, ap₂, subst, List, [], ◌∷◌, ◌++◌, length, drop, nat_lt, Option, Some, None, codes}
use Rattle.std.specs.Prelude.{encode_utf8, option_and_then, option_map, slice_get}
use Rattle.std.specs.Option.{option_map_or}
use Rattle.std.specs.Str.{bytes_eq, chars}
use Rattle.std.proofs.lemmas.List.{map-append}
use Rattle.clap.specs.Faults.{bundle_fault, bundle_step_fault, flag_word_fault, flags_fault, long_fault, positional_fault, settle_fault, short_fault, step_fault, stray_fault, turn_fault, use_fault}
use Rattle.clap.specs.Kinds.{Kinds, or_else}
use Rattle.clap.specs.Lexer.{long_of, short_of}
use Rattle.clap.specs.Simple.{Shape, new_shape}
use Rattle.clap.specs.Walk.{Held, Outcome, Row, Rule, Step, Waiting, Walk, after_flag, after_step, arg_by_id, arg_by_long, bundle_met, bundle_step, has_row, idle, long_met as clap_long_met, long_or_other, option, option_word, plain, plain_word, pushed, settled, short_or_plain, trailing, used, used_by_id, value, walked}
use Rattle.clap.specs.declared.error.kind.ErrorKind.TheVariants.{ArgumentConflict}
use Rattle.clap.specs.declared.parser.matches.ValueSource.TheVariants.{CommandLine}
use Rattle.cbt_lex.specs.Decimals.{number_of}
use Rattle.cbt_words.specs.Options.{Given, Kind, Options, Reading, Word, alone, use_met, valued, was_given, with_given, word_met}
use Rattle.cbt_words.proofs.Rules.{built_rule, by_id, by_index, by_long, by_short, found_again, has_row-given, option_named, own_name, row_for, rows_for, rules, with_values-new}
use Rattle.cbt_words.proofs.Reading.{Bad, Fits, IsSound, long_met, long_number, more_sound, short_number, value-new, word_met-long}

-- ---- kinds of error

abbrev pub Fails : Kinds → Type 0
Fails [] = ⊥
Fails (k ∷ ks) = Unit {0}

pub fails_first : (a b : Kinds) → Fails a → Fails (or_else a b)
fails_first [] b f = absurd f
fails_first (k ∷ ks) b f = tt

fails_then : (a b : Kinds) → Fails b → Fails (or_else a b)
fails_then [] b f = f
fails_then (k ∷ ks) b f = tt

pub or_else-nil : (a : Kinds) → or_else a [] ≡ a
or_else-nil [] = refl
or_else-nil (k ∷ ks) = refl

pub or_else-assoc : (a b c : Kinds) → or_else (or_else a b) c ≡ or_else a (or_else b c)
or_else-assoc [] b c = refl
or_else-assoc (k ∷ ks) b c = refl

-- ---- one use of an option

use_fault-alone : (name : Word) (rows : List Row) → use_fault false (built_rule (name, alone)) [] rows ≡ cond (has_row name rows) (ArgumentConflict ∷ []) []
use_fault-alone name rows = go (has_row name rows)
  where
    go : (t : Bool) → or_else (cond (t && true) (ArgumentConflict ∷ []) []) [] ≡ cond t (ArgumentConflict ∷ []) []
    go true = refl
    go false = refl

use_fault-valued : (name text : Word) (rows : List Row) → use_fault false (built_rule (name, valued)) (text ∷ []) rows ≡ cond (has_row name rows) (ArgumentConflict ∷ []) []
use_fault-valued name text rows = go (has_row name rows)
  where
    go : (t : Bool) → or_else (cond (t && true) (ArgumentConflict ∷ []) []) [] ≡ cond t (ArgumentConflict ∷ []) []
    go true = refl
    go false = refl

used-alone : (name : Word) (rows : List Row) → has_row name rows ≡ false → used (built_rule (name, alone)) [] rows ≡ rows ++ row_for (name, None) ∷ []
used-alone name rows new = with_values-new name CommandLine (codes "true") rows new

used-valued : (name text : Word) (rows : List Row) → has_row name rows ≡ false → used (built_rule (name, valued)) (text ∷ []) rows ≡ rows ++ row_for (name, Some text) ∷ []
used-valued name text rows new = with_values-new name CommandLine text rows new

-- ---- where the walk stands

abbrev pub shape : Options → Shape
shape options = record (new_shape (codes "cbtx")) {
  rules = rules options;
  no_binary_name = true;
  disable_help_flag = true;
  disable_help_subcommand = true;
  is_built = true;
}

abbrev pub idle_at : Held → Walk
idle_at h = record { held = h; waiting = idle; position = 1; is_trailing = false; stopped = None }

-- an option waits for its value
abbrev pub held_waiting : Given → Word → Held
held_waiting given name = record { rows = rows_for given; pending = Some (name, []); skip = 0 }

abbrev pub waiting_at : Given → Word → Walk
waiting_at given name = record { held = held_waiting given name; waiting = option name; position = 1; is_trailing = false; stopped = None }

module _ (options : Options) where
  -- what clap finds when it uses what is pending
  abbrev pub settles : Held → Kinds
  settles h = settle_fault (rules options) false h

  abbrev pub settled_rows : Held → List Row
  settled_rows h = (settled (rules options) h).rows

  -- what is held is the options given
  pub record Holds (given : Given) (h : Held) : Type 0 where
    pub passes : settles h ≡ []
    pub rows : settled_rows h ≡ rows_for given
    pub skip : h.skip ≡ 0

  abbrev pub Stands : Given → Option Word → Walk → Type 0
  Stands given None w = (h : Held) × (w ≡ idle_at h) × Holds given h × IsSound options given
  Stands given (Some name) w = (w ≡ waiting_at given name) × (option_named name options ≡ Some (name, valued)) × IsSound options given

  -- what is pending will be refused
  abbrev pub Doomed : Walk → Type 0
  Doomed w = (h : Held) × (w ≡ idle_at h) × Fails (settles h) × (h.skip ≡ 0)

  -- what clap does at a word, beside what the word says
  abbrev pub Steps : Kinds → Walk → Option Reading → Type 0
  Steps [] w None = Doomed w
  Steps [] w (Some r) = Stands r.0 r.1 w
  Steps (k ∷ ks) w None = Unit {0}
  Steps (k ∷ ks) w (Some r) = Bad options r.0

  steps_failed : (ks : Kinds) (w : Walk) → Fails ks → Steps ks w None
  steps_failed [] w f = absurd f
  steps_failed (k ∷ ks) w f = tt

  steps_bad : (ks : Kinds) (w : Walk) (r : Reading) → Fails ks → Bad options r.0 → Steps ks w (Some r)
  steps_bad [] w r f bad = absurd f
  steps_bad (k ∷ ks) w r f bad = bad

  -- ---- a word that is no option, where nothing waits

  stray : (h : Held) → Fails (step_fault (shape options) 1 h value)
  stray h = subst (λ a. Fails (option_map_or (λ (r : Rule). positional_fault (rules options) false r h) a (stray_fault (shape options)))) (sym (by_index options 1)) tt

  -- what comes of a word after its flag word: the fault of the step, and the walk
  abbrev after : Waiting → Word → Held → Held × Outcome → Held × Step
  after waiting word h p = after_flag (rules options) waiting word p.0 p.1

  abbrev step_of_pair : Held × Step → Kinds
  step_of_pair p = step_fault (shape options) 1 p.0 p.1

  bundle_strays : (k : ℕ) (flags word : Word) (h : Held)
      → Fails (or_else (flags_fault (rules options) false k flags 0 h) (step_of_pair (after idle word h (bundle_met (rules options) k flags 0 plain h))))
  unfolding flags_fault bundle_met
  bundle_strays zero flags word h = stray h
  bundle_strays (suc k) flags word h = go (slice_get (chars flags) 0)
    where
      go : (o : Option ℕ) → Fails (or_else (bundle_step_fault (rules options) false o flags 0 h (flags_fault (rules options) false k))
          (step_of_pair (after idle word h (bundle_step (rules options) o flags 0 plain h (bundle_met (rules options) k)))))
      go None = stray h
      go (Some x) = fails_first _ _ (subst (λ a. Fails (short_fault (rules options) false a (drop (length (encode_utf8 x)) flags) h (flags_fault (rules options) false k (drop (length (encode_utf8 x)) flags) 0))) (sym (by_short options x)) tt)

  -- a word that does not begin with two hyphens is refused
  word_strays : (sh : Option Word) (word : Word) (h : Held) → h.skip ≡ 0
      → Fails (or_else (option_map_or (λ flags. bundle_fault (rules options) false flags h) sh []) (step_of_pair (short_or_plain (rules options) idle word sh h)))
  word_strays None word h none = stray h
  word_strays (Some flags) word h none =
      subst (λ n. Fails (or_else (flags_fault (rules options) false (length flags) flags n (record h { skip = 0 }))
      (step_of_pair (after idle word h (bundle_met (rules options) (length flags) flags n plain (record h { skip = 0 }))))))
      (sym none) (bundle_strays (length flags) flags word (record h { skip = 0 }))

  -- ---- a word where nothing waits

  abbrev fault_by : Option Rule → Option Word → Word → Held → Kinds
  fault_by a v word h = or_else (long_fault (rules options) false a v h) (step_of_pair (after idle word h (clap_long_met (rules options) a v h)))

  abbrev walk_by : Option Rule → Option Word → Word → Held → Walk
  walk_by a v word h =
      let p = after idle word h (clap_long_met (rules options) a v h) in
      after_step (rules options) word (idle_at h) p.0 p.1

  -- one more option is held
  held_more : (given : Given) (name : Word) (kind : Kind) (v : Option Word) (h : Held) (w : Walk) (rows : List Row) (ks : Kinds) → Holds given h → IsSound options given
      → option_named name options ≡ Some (name, kind) → Fits (Some (name, v)) kind
      → w ≡ idle_at (record h { rows = rows; pending = None })
      → (has_row name (settled_rows h) ≡ false → rows ≡ settled_rows h ++ row_for (name, v) ∷ [])
      → ks ≡ cond (has_row name (settled_rows h)) (ArgumentConflict ∷ []) []
      → Steps ks w (with_given given name v)
  held_more given name kind v h w rows ks holds sound known fits w-is rows-are ks-are =
      let tests : has_row name (settled_rows h) ≡ was_given name given = ap (has_row name) holds.rows ∙ has_row-given name given in
      subst (λ k. Steps k w (with_given given name v)) (sym (ks-are ∙ ap (λ t. cond t (ArgumentConflict ∷ []) []) tests)) (go (was_given name given) tests)
    where
      go : (t : Bool) → has_row name (settled_rows h) ≡ t → Steps (cond t (ArgumentConflict ∷ []) []) w (cond t None (Some (given ++ (name, v) ∷ [], None)))
      go true e = tt
      go false e = (
        record h { rows = rows; pending = None },
        w-is,
        record {
          passes = refl;
          rows = rows-are e ∙ ap (λ rs. rs ++ row_for (name, v) ∷ []) holds.rows ∙ sym (map-append row_for given ((name, v) ∷ []));
          skip = holds.skip;
        },
        more_sound options given name kind v sound known fits,
      )

  known_steps : (given : Given) (h : Held) (name : Word) (kind : Kind) (v : Option Word) (word : Word) → Holds given h → IsSound options given
      → option_named name options ≡ Some (name, kind)
      → Steps (fault_by (Some (built_rule (name, kind))) v word h) (walk_by (Some (built_rule (name, kind))) v word h) (use_met given name kind v)
  known_steps given h name alone None word holds sound known =
      held_more given name alone None h _ (used (built_rule (name, alone)) [] (settled_rows h)) _ holds sound known refl refl (used-alone name (settled_rows h))
      (or_else-nil _ ∙ ap (λ ks. or_else ks (use_fault false (built_rule (name, alone)) [] (settled_rows h))) holds.passes ∙ use_fault-alone name (settled_rows h))
  known_steps given h name alone (Some text) word holds sound known = tt
  known_steps given h name valued (Some text) word holds sound known =
      held_more given name valued (Some text) h _ (used (built_rule (name, valued)) (text ∷ []) (settled_rows h)) _ holds sound known refl refl (used-valued name text (settled_rows h))
      (or_else-nil _ ∙ ap (λ ks. or_else ks (use_fault false (built_rule (name, valued)) (text ∷ []) (settled_rows h))) holds.passes ∙ use_fault-valued name text (settled_rows h))
  known_steps given h name valued None word holds sound known =
      subst (λ k. Steps k (walk_by (Some (built_rule (name, valued))) None word h) (Some (given, Some name))) (sym (or_else-nil _ ∙ holds.passes)) (
        ap₂ (λ rows n. idle_waiting rows n) holds.rows holds.skip,
        known,
        sound,
      )
    where
      idle_waiting : List Row → ℕ → Walk
      idle_waiting rows n = record { held = record { rows = rows; pending = Some (name, []); skip = n }; waiting = option name; position = 1; is_trailing = false; stopped = None }

  long_steps : (given : Given) (h : Held) (o : Option (Word × Kind)) (v : Option Word) (word : Word) → Holds given h → IsSound options given
      → ((p : Word × Kind) → o ≡ Some p → option_named p.0 options ≡ Some p)
      → Steps (fault_by (option_map built_rule o) v word h) (walk_by (option_map built_rule o) v word h) (option_and_then (λ o. use_met given o.0 o.1 v) o)
  long_steps given h None v word holds sound known = tt
  long_steps given h (Some p) v word holds sound known = known_steps given h p.0 p.1 v word holds sound (known p refl)

  abbrev fault_at : Waiting → Bool → Option (Word × Option Word) → Word → Held → Kinds
  fault_at waiting t l word h = or_else (cond t [] (flag_word_fault (rules options) false l word h)) (step_of_pair (cond t (h, trailing 1) (long_or_other (rules options) waiting word l h)))

  abbrev met_at : Waiting → Bool → Option (Word × Option Word) → Word → Held → Held × Step
  met_at waiting t l word h = cond t (h, trailing 1) (long_or_other (rules options) waiting word l h)

  idle_steps : (given : Given) (h : Held) (l : Option (Word × Option Word)) (word : Word) → Holds given h → IsSound options given
      → Steps (fault_at idle false l word h) (after_step (rules options) word (idle_at h) (met_at idle false l word h).0 (met_at idle false l word h).1) (long_met options given l)
  idle_steps given h None word holds sound = steps_failed _ _ (word_strays (short_of word) word h holds.skip)
  idle_steps given h (Some p) word holds sound =
      subst (λ a. Steps (fault_by a p.1 word h) (walk_by a p.1 word h) (option_and_then (λ o. use_met given o.0 o.1 p.1) (option_named p.0 options))) (sym (by_long options p.0))
      (long_steps given h (option_named p.0 options) p.1 word holds sound (λ o. found_again options p.0 o))

  -- ---- a word where an option waits for its value

  pub waiting_fails : (given : Given) (name : Word) → option_named name options ≡ Some (name, valued) → Fails (settles (held_waiting given name))
  waiting_fails given name known =
      subst (λ a. Fails (option_map_or (λ (r : Rule). use_fault false r [] (rows_for given)) a [])) (sym (by_id options name ∙ ap (option_map built_rule) known)) tt

  -- an option behind an option that waits
  long_fails : (h : Held) (o : Option (Word × Kind)) (v : Option Word) → Fails (settles h) → Fails (long_fault (rules options) false (option_map built_rule o) v h)
  long_fails h None v f = tt
  long_fails h (Some o) v f = go o.0 o.1 v
    where
      go : (name : Word) (kind : Kind) (v : Option Word) → Fails (long_fault (rules options) false (Some (built_rule (name, kind))) v h)
      go name alone None = fails_first (settles h) (use_fault false (built_rule (name, alone)) [] (settled_rows h)) f
      go name alone (Some text) = tt
      go name valued None = f
      go name valued (Some text) = fails_first (settles h) (use_fault false (built_rule (name, valued)) (text ∷ []) (settled_rows h)) f

  long_word_fails : (h : Held) (name : Word) (v : Option Word) → Fails (settles h) → Fails (long_fault (rules options) false (arg_by_long (rules options) name) v h)
  long_word_fails h name v f = subst (λ a. Fails (long_fault (rules options) false a v h)) (sym (by_long options name)) (long_fails h (option_named name options) v f)

  -- clap either takes the word as the value, or refuses it, and then it is no number
  abbrev Turned : Kinds → Walk → Word → Held → Word → Type 0
  Turned ks w name h word = ((ks ≡ []) × (w ≡ idle_at (pushed name word h))) ⊎ (Fails ks × (number_of word ≡ None))

  module _ (given : Given) (name : Word) (known : option_named name options ≡ Some (name, valued)) where
    abbrev held : Held
    held = held_waiting given name

    abbrev turned_by : Kinds → Held × Step → Word → Type 0
    turned_by ks p word = Turned (or_else ks (step_of_pair p)) (after_step (rules options) word (waiting_at given name) p.0 p.1) name held word

    found : arg_by_id (rules options) name ≡ Some (built_rule (name, valued))
    found = by_id options name ∙ ap (option_map built_rule) known

    pushed_by : (word : Word) → option_word (arg_by_id (rules options) name) name word held ≡ (pushed name word held, idle)
    pushed_by word =
        ap (λ a. option_word a name word held) found
        ∙ ap (λ t. (pushed name word held, cond (nat_lt (cond t 1 0) 1) (option name) idle)) (own_name name)

    taken : (word : Word) → turned_by [] (plain_word (rules options) (option name) word held) word
    taken word = inl (refl, ap (λ (p : Held × Waiting). record (waiting_at given name) { held = p.0; waiting = p.1 }) (pushed_by word))

    bundle_turns : (k : ℕ) (flags word : Word) → number_of word ≡ None
        → turned_by (flags_fault (rules options) false k flags 0 held) (after (option name) word held (bundle_met (rules options) k flags 0 plain held)) word
    unfolding flags_fault bundle_met
    bundle_turns zero flags word no_number = taken word
    bundle_turns (suc k) flags word no_number = go (slice_get (chars flags) 0)
      where
        go : (o : Option ℕ) → turned_by (bundle_step_fault (rules options) false o flags 0 held (flags_fault (rules options) false k))
            (after (option name) word held (bundle_step (rules options) o flags 0 plain held (bundle_met (rules options) k))) word
        go None = taken word
        go (Some x) = inr (fails_first _ _ (subst (λ a. Fails (short_fault (rules options) false a (drop (length (encode_utf8 x)) flags) held (flags_fault (rules options) false k (drop (length (encode_utf8 x)) flags) 0))) (sym (by_short options x)) tt), no_number)

    other_turns : (sh : Option Word) (word : Word) → ((flags : Word) → sh ≡ Some flags → number_of word ≡ None)
        → turned_by (option_map_or (λ flags. bundle_fault (rules options) false flags held) sh []) (short_or_plain (rules options) (option name) word sh held) word
    other_turns None word hyphen = taken word
    other_turns (Some flags) word hyphen = bundle_turns (length flags) flags word (hyphen flags refl)

    word_turns : (l : Option (Word × Option Word)) (word : Word) → ((p : Word × Option Word) → l ≡ Some p → number_of word ≡ None)
        → turned_by (flag_word_fault (rules options) false l word held) (long_or_other (rules options) (option name) word l held) word
    word_turns None word hyphen = other_turns (short_of word) word (short_number word)
    word_turns (Some p) word hyphen = inr (fails_first _ _ (long_word_fails held p.0 p.1 (waiting_fails given name known)), hyphen p refl)

    pushed_settles : (word : Word) → settles (pushed name word held) ≡ cond (was_given name given) (ArgumentConflict ∷ []) []
    pushed_settles word =
        ap (λ a. option_map_or (λ (r : Rule). use_fault false r (word ∷ []) (rows_for given)) a []) found
        ∙ use_fault-valued name word (rows_for given) ∙ ap (λ t. cond t (ArgumentConflict ∷ []) []) (has_row-given name given)

    value_steps : (ks : Kinds) (w : Walk) (word : Word) → Turned ks w name held word → IsSound options given → Steps ks w (with_given given name (Some word))
    value_steps ks w word (inl (passes, stands)) sound = subst (λ k. Steps k w (with_given given name (Some word))) (sym passes) (go (was_given name given) refl)
      where
        go : (t : Bool) → was_given name given ≡ t → Steps [] w (cond t None (Some (given ++ (name, Some word) ∷ [], None)))
        go true e = (pushed name word held, stands, subst Fails (sym (pushed_settles word ∙ ap (λ t. cond t (ArgumentConflict ∷ []) []) e)) tt, refl)
        go false e = (
          pushed name word held,
          stands,
          record {
            passes = pushed_settles word ∙ ap (λ t. cond t (ArgumentConflict ∷ []) []) e;
            rows = ap (λ a. used_by_id a (word ∷ []) (rows_for given)) found ∙ used-valued name word (rows_for given) (has_row-given name given ∙ e)
                ∙ sym (map-append row_for given ((name, Some word) ∷ []));
            skip = refl;
          },
          more_sound options given name valued (Some word) sound known refl,
        )
    value_steps ks w word (inr (fails, no_number)) sound = go (was_given name given) refl
      where
        go : (t : Bool) → was_given name given ≡ t → Steps ks w (cond t None (Some (given ++ (name, Some word) ∷ [], None)))
        go true e = steps_failed ks w fails
        go false e = steps_bad ks w (given ++ (name, Some word) ∷ [], None) fails (record {
          name = name;
          text = word;
          known = known;
          value = value-new name (Some word) given e (own_name name);
          no_number = no_number;
        })

  -- ---- any word but two hyphens alone

  pub steps : (given : Given) (waiting : Option Word) (w : Walk) (word : Word) → Stands given waiting w → bytes_eq word (codes "--") ≡ false
      → Steps (turn_fault (shape options) [] w word) (walked (rules options) [] w word) (word_met options given waiting word)
  unfolding walked
  steps given None w word (h, is, holds, sound) no_end =
      subst (λ v. Steps (turn_fault (shape options) [] v word) (walked (rules options) [] v word) (word_met options given None word)) (sym is)
      (subst (λ o. Steps (turn_fault (shape options) [] (idle_at h) word) (walked (rules options) [] (idle_at h) word) o) (sym (word_met-long options given word no_end))
      (subst (λ t. Steps (fault_at idle t (long_of word) word h) (after_step (rules options) word (idle_at h) (met_at idle t (long_of word) word h).0 (met_at idle t (long_of word) word h).1) (long_met options given (long_of word)))
      (sym no_end) (idle_steps given h (long_of word) word holds sound)))
  steps given (Some name) w word (is, known, sound) no_end =
      let h = held_waiting given name in
      subst (λ v. Steps (turn_fault (shape options) [] v word) (walked (rules options) [] v word) (with_given given name (Some word))) (sym is)
      (subst (λ t. Steps (fault_at (option name) t (long_of word) word h) (after_step (rules options) word (waiting_at given name) (met_at (option name) t (long_of word) word h).0 (met_at (option name) t (long_of word) word h).1) (with_given given name (Some word)))
      (sym no_end) (value_steps given name known _ _ word (word_turns given name known (long_of word) word (long_number word)) sound))

  -- what is doomed is refused at the next word
  dooms : (h : Held) (l : Option (Word × Option Word)) (word : Word) → Fails (settles h) → h.skip ≡ 0 → Fails (fault_at idle false l word h)
  dooms h None word f none = word_strays (short_of word) word h none
  dooms h (Some p) word f none = fails_first _ _ (long_word_fails h p.0 p.1 f)

  pub turn_dooms : (w : Walk) (word : Word) → Doomed w → bytes_eq word (codes "--") ≡ false → Fails (turn_fault (shape options) [] w word)
  turn_dooms w word (h, is, f, none) no_end =
      subst (λ v. Fails (turn_fault (shape options) [] v word)) (sym is) (subst (λ t. Fails (fault_at idle t (long_of word) word h)) (sym no_end) (dooms h (long_of word) word f none))

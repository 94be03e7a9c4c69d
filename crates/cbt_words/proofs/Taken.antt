-- What the matches of options say, where clap takes the words, and what it is where it does not.
use Rattle.std.proofs.Common.{◌≡◌, ◌∙◌, Bool, cond, true, false, ◌||◌, refl, sym, ap, subst, List, [], ◌∷◌, ◌++◌, slice_get, Option, Some, None, codes, is_some, true≢false}
use Rattle.std.specs.Prelude.{find, fold, option_and_then, option_map}
use Rattle.std.specs.Option.{option_or}
use Rattle.std.specs.List.{list_any}
use Rattle.std.specs.Str.{bytes_eq}
use Rattle.std.proofs.lemmas.List.Folds.{find-append}
use Rattle.clap.specs.Words.{fault_of, found_of, one_text, rows_of}
use Rattle.clap.specs.Kinds.{Kinds}
use Rattle.clap.specs.Walk.{Row, default_rows, first_of, has_row, more_values, nothing_held, one_of, row_text, with_default}
use Rattle.clap.specs.declared.builder.value_parser.Reading.TheVariants.{AsWritten}
use Rattle.clap.specs.declared.parser.matches.ArgMatches.{ArgMatches}
use Rattle.clap.specs.declared.parser.matches.Found.{Found}
use Rattle.clap.specs.declared.parser.matches.ValueSource.TheVariants.{DefaultValue}
use Rattle.clap.proofs.WalkLemmas.{find-map, one_text-rows}
use Rattle.cbt_words.specs.Options.{Given, Options, Word, alone, given_in, valued, value_of, has_word, was_given}
use Rattle.cbt_words.specs.Parsers.{Reads, app_with, truth_text}
use Rattle.cbt_words.proofs.Rules.{at_row-missing, built_rule, has_row-given, own_name, row_for, rows_for, rules, text_in}
use Rattle.cbt_words.proofs.Reading.{Bad, Fits, IsSound, found_given, none_found}
use Rattle.cbt_words.proofs.Walking.{idle_at}
use Rattle.cbt_words.proofs.Agreeing.{Agrees, clap_agrees, matches_of-is, rows_from}

module _ (options : Options) where
  -- the options that words give, and the rows of clap's matches
  pub record Takes (words : List Word) (m : ArgMatches) : Type 0 where
    pub given : Given
    pub is : given_in options words ≡ Some given
    pub rows : rows_of (found_of m) ≡ fold with_default (rows_for given) (rules options)
    pub sound : IsSound options given

  pub takes : (words : List Word) (m : ArgMatches) → has_word (codes "--") words ≡ false → Reads (app_with options) words (Some m) → Takes words m
  takes words m no_end (passes, rows) =
      go (given_in options words) refl (subst (λ ks. Agrees options ks (rows_from options (idle_at nothing_held) words) (given_in options words)) passes (clap_agrees options words no_end))
    where
      go : (o : Option Given) → given_in options words ≡ o → Agrees options [] (rows_from options (idle_at nothing_held) words) o → Takes words m
      go None is no_given = absurd no_given
      go (Some given) is (same, sound) = record {
        given = given;
        is = is;
        rows = rows ∙ matches_of-is options words ∙ ap (λ rs. fold with_default rs (rules options)) same;
        sound = sound;
      }

  -- where clap refuses the words they are no options, or a value is no number
  pub refused : (words : List Word) → has_word (codes "--") words ≡ false → Reads (app_with options) words None
      → (given : Given) → given_in options words ≡ Some given → Bad options given
  refused words no_end refuses given is =
      go (fault_of (app_with options) words) refuses (subst (Agrees options (fault_of (app_with options) words) (rows_from options (idle_at nothing_held) words)) is (clap_agrees options words no_end))
    where
      go : (ks : Kinds) → (ks ≡ [] → ⊥) → Agrees options ks (rows_from options (idle_at nothing_held) words) (Some given) → Bad options given
      go [] fails a = absurd (fails refl)
      go (k ∷ ks) fails bad = bad

-- ---- an option that stands alone

some_found : {X : Type 0} (p : X → Bool) (xs : List X) → find p xs ≡ None → list_any p xs ≡ false
some_found p [] e = refl
some_found p (x ∷ xs) e = go (p x) e (some_found p xs)
  where
    go : (t : Bool) → cond t (Some x) (find p xs) ≡ None → (find p xs ≡ None → list_any p xs ≡ false) → (t || list_any p xs) ≡ false
    go true e behind = absurd (cc)
    go false e behind = behind e

one_of-given : (name : Word) (given : Given) → was_given name given ≡ true → Fits (found_given name given) alone → one_of name (rows_for given) ≡ Some (codes "true")
one_of-given name given is fits =
    ap (option_and_then row_text) (sym (find-map (λ (r : Row). bytes_eq r.id name) row_for given))
    ∙ go (found_given name given) (some_found (λ g. bytes_eq g.0 name) given) fits
  where
    go : (o : Option (Word × Option Word)) → (o ≡ None → was_given name given ≡ false) → Fits o alone
        → option_and_then row_text (option_map row_for o) ≡ Some (codes "true")
    go None missing e = absurd (true≢false (sym is ∙ missing refl))
    go (Some g) missing e = value g.1 e
      where
        value : (v : Option Word) → v ≡ None → row_text (row_for (g.0, v)) ≡ Some (codes "true")
        value None e = refl
        value (Some v) e = absurd (cc)

default_row : Word → Row
default_row name = record { id = name; values = codes "false" ∷ []; count = None; source = Some DefaultValue; reading = AsWritten }

-- an option that stands alone has a default, where it was not given
with_default-alone : (name : Word) (given : Given)
    → with_default (rows_for given) (built_rule (name, alone)) ≡ cond (was_given name given) (rows_for given) (rows_for given ++ default_row name ∷ [])
unfolding default_row
with_default-alone name given =
    go (has_row name (rows_for given)) refl ∙ ap (λ t. cond t (rows_for given) (rows_for given ++ default_row name ∷ [])) (has_row-given name given)
  where
    go : (t : Bool) → has_row name (rows_for given) ≡ t
        → cond t (rows_for given) (default_rows name AsWritten (codes "false" ∷ []) (rows_for given)) ≡ cond t (rows_for given) (rows_for given ++ default_row name ∷ [])
    go true is = refl
    go false is = at_row-missing name (more_values DefaultValue (codes "false" ∷ [])) (default_row name ∷ []) (rows_for given) is

-- a search past the rows of what was given
find_past : (name other : Word) (given : Given) → was_given name given ≡ false
    → find (λ r. bytes_eq r.id name) (rows_for given ++ default_row other ∷ []) ≡ cond (bytes_eq other name) (Some (default_row other)) None
unfolding default_row
find_past name other given new =
    find-append (λ (r : Row). bytes_eq r.id name) (rows_for given) (default_row other ∷ [])
    ∙ ap (λ o. option_or o (cond (bytes_eq other name) (Some (default_row other)) None)) (none_found (λ (r : Row). bytes_eq r.id name) (rows_for given) (has_row-given name given ∙ new))

pub one_of-alone : (name : Word) (given : Given) → Fits (found_given name given) alone
    → one_of name (with_default (rows_for given) (built_rule (name, alone))) ≡ Some (truth_text (was_given name given))
unfolding default_row
one_of-alone name given fits = ap (one_of name) (with_default-alone name given) ∙ go (was_given name given) refl
  where
    go : (t : Bool) → was_given name given ≡ t → one_of name (cond t (rows_for given) (rows_for given ++ default_row name ∷ [])) ≡ Some (truth_text t)
    go true is = one_of-given name given is fits
    go false is =
        ap (option_and_then row_text) (find_past name name given is) ∙ ap (λ t. option_and_then row_text (cond t (Some (default_row name)) None)) (own_name name)

-- what `get_flag` answers
pub flag_is : (f : Found) (id : Word) (t answer : Bool) → one_of id (rows_of f) ≡ Some (truth_text t)
    → (one_text f id ≡ Some (codes "true") → answer ≡ true) → (one_text f id ≡ Some (codes "false") → answer ≡ false) → answer ≡ t
flag_is f id true answer e given not_given = given (one_text-rows f id ∙ e)
flag_is f id false answer e given not_given = not_given (one_text-rows f id ∙ e)

-- ---- an option that has a value

first_text : Row → Option Word
first_text r = slice_get r.values 0

pub with_default-valued : (name : Word) (rows : List Row) → with_default rows (built_rule (name, valued)) ≡ rows
with_default-valued name rows = go (has_row name rows)
  where
    go : (t : Bool) → cond t rows rows ≡ rows
    go true = refl
    go false = refl

first_of-given : (name : Word) (given : Given) → Fits (found_given name given) valued → first_of name (rows_for given) ≡ value_of name given
unfolding first_text
first_of-given name given fits =
    ap (option_and_then first_text) (sym (find-map (λ (r : Row). bytes_eq r.id name) row_for given)) ∙ go (found_given name given) fits
  where
    go : (o : Option (Word × Option Word)) → Fits o valued → option_and_then first_text (option_map row_for o) ≡ option_and_then (λ g. g.1) o
    go None e = refl
    go (Some g) e = value g.1 e
      where
        value : (v : Option Word) → is_some v ≡ true → Some (text_in v) ≡ v
        value None e = absurd (true≢false (sym e))
        value (Some v) e = refl

-- its value, where another option may have its default
pub first_of-valued : (name other : Word) (given : Given) → bytes_eq other name ≡ false → Fits (found_given name given) valued
    → first_of name (with_default (rows_for given) (built_rule (other, alone))) ≡ value_of name given
unfolding default_row first_text
first_of-valued name other given differ fits =
    ap (first_of name) (with_default-alone other given) ∙ go (was_given other given) ∙ first_of-given name given fits
  where
    go : (t : Bool) → first_of name (cond t (rows_for given) (rows_for given ++ default_row other ∷ [])) ≡ first_of name (rows_for given)
    go true = refl
    go false =
        ap (option_and_then first_text) (find-append (λ (r : Row). bytes_eq r.id name) (rows_for given) (default_row other ∷ [])
        ∙ ap (λ t. option_or (find (λ r. bytes_eq r.id name) (rows_for given)) (cond t (Some (default_row other)) None)) differ
        ∙ or_none (find (λ r. bytes_eq r.id name) (rows_for given)))
      where
        or_none : (o : Option Row) → option_or o None ≡ o
        or_none None = refl
        or_none (Some r) = refl

-- What clap makes of the rules of options, and the rows of those that were given.
use Rattle.std.proofs.Common.{◌≡◌, ◌∙◌, ℕ, Bool, cond, true, false, not, ◌&&◌, ◌||◌, refl, sym, ap, List, [], ◌∷◌, ◌++◌, map, append-nil, Option, Some, None, true≢false}
use Rattle.std.specs.Prelude.{codes, find, option_map}
use Rattle.std.specs.List.{list_any}
use Rattle.std.specs.Str.{bytes_eq}
use Rattle.std.proofs.lemmas.Slice.Eq.{bytes_eq-Decides}
use Rattle.clap.specs.Faults.{default_fault, defaults_fault, given_default_fault}
use Rattle.clap.specs.Kinds.{or_else}
use Rattle.clap.specs.Simple.{filled, filled_from}
use Rattle.clap.specs.Takes.{is_given}
use Rattle.clap.specs.Walk.{Row, Rule, arg_by_id, arg_by_index, arg_by_long, arg_by_short, at_row, has_row, is_empty, more_values, with_default, with_values, without}
use Rattle.clap.specs.declared.builder.value_parser.Reading.TheVariants.{AsWritten}
use Rattle.clap.specs.declared.parser.matches.ValueSource.{ValueSource}
use Rattle.clap.specs.declared.parser.matches.ValueSource.TheVariants.{CommandLine}
use Rattle.clap.proofs.WalkLemmas.{list_any-map}
use Rattle.cbt_words.specs.Options.{Given, Kind, Options, Word, alone, valued, was_given}
use Rattle.cbt_words.specs.Parsers.{rule_for}

-- an option's rule with what clap fills in
abbrev pub built_rule : Word × Kind → Rule
built_rule o = filled (rule_for o)

abbrev pub rules : Options → List Rule
rules options = map built_rule options

pub filled-rules : (i : ℕ) (options : Options) → filled_from i (map rule_for options) ≡ rules options
filled-rules i [] = refl
filled-rules i (o ∷ options) = ap (λ rs. built_rule o ∷ rs) (filled-rules i options)

-- ---- searches

find-same : {X Y : Type 0} (p : Y → Bool) (q : X → Bool) (f : X → Y) → ((x : X) → p (f x) ≡ q x) → (xs : List X)
    → find p (map f xs) ≡ option_map f (find q xs)
find-same p q f same [] = refl
find-same p q f same (x ∷ xs) = ap (λ t. cond t (Some (f x)) (find p (map f xs))) (same x) ∙ go (q x) (find-same p q f same xs)
  where
    go : (t : Bool) → find p (map f xs) ≡ option_map f (find q xs) → cond t (Some (f x)) (find p (map f xs)) ≡ option_map f (cond t (Some x) (find q xs))
    go true e = refl
    go false e = e

find-none : {X Y : Type 0} (p : Y → Bool) (f : X → Y) → ((x : X) → p (f x) ≡ false) → (xs : List X) → find p (map f xs) ≡ None
find-none p f none [] = refl
find-none p f none (x ∷ xs) = ap (λ t. cond t (Some (f x)) (find p (map f xs))) (none x) ∙ find-none p f none xs

pub or_false : (t : Bool) → (t || false) ≡ t
or_false true = refl
or_false false = refl

-- the option of a name
abbrev pub option_named : Word → Options → Option (Word × Kind)
option_named name options = find (λ o. bytes_eq o.0 name) options

pub by_long : (options : Options) (name : Word) → arg_by_long (rules options) name ≡ option_map built_rule (option_named name options)
by_long options name = find-same _ (λ o. bytes_eq o.0 name) built_rule (λ o. or_false (bytes_eq o.0 name)) options

pub by_id : (options : Options) (name : Word) → arg_by_id (rules options) name ≡ option_map built_rule (option_named name options)
by_id options name = find-same _ (λ o. bytes_eq o.0 name) built_rule (λ o. refl) options

pub by_short : (options : Options) (x : ℕ) → arg_by_short (rules options) x ≡ None
by_short options x = find-none _ built_rule (λ o. refl) options

pub by_index : (options : Options) (i : ℕ) → arg_by_index (rules options) i ≡ None
by_index options i = find-none _ built_rule (λ o. refl) options

-- what a search finds passes
pub found_passes : {X : Type 0} (p : X → Bool) (xs : List X) (x : X) → find p xs ≡ Some x → p x ≡ true
found_passes p [] x e = absurd (cc)
found_passes p (y ∷ ys) x e = go (p y) refl e (found_passes p ys x)
  where
    go : (t : Bool) → p y ≡ t → cond t (Some y) (find p ys) ≡ Some x → (find p ys ≡ Some x → p x ≡ true) → p x ≡ true
    go true is e behind = let same : y ≡ x = cc in ap p (sym same) ∙ is
    go false is e behind = behind e

pub same_name : (a b : Word) → bytes_eq a b ≡ true → a ≡ b
same_name a b e = (bytes_eq-Decides a b).0 e

pub own_name : (a : Word) → bytes_eq a a ≡ true
own_name a = (bytes_eq-Decides a a).1 refl

-- the option that was found is found by its own name
pub found_again : (options : Options) (name : Word) (o : Word × Kind) → option_named name options ≡ Some o → option_named o.0 options ≡ Some o
found_again options name o e =
    ap (λ n. option_named n options) (same_name o.0 name (found_passes (λ o. bytes_eq o.0 name) options o e)) ∙ e

-- ---- rows

abbrev pub text_in : Option Word → Word
text_in None = codes "true"
text_in (Some value) = value

-- the row of an option that was given
abbrev pub row_for : Word × Option Word → Row
row_for g = record { id = g.0; values = text_in g.1 ∷ []; count = None; source = Some CommandLine; reading = AsWritten }

abbrev pub rows_for : Given → List Row
rows_for given = map row_for given

pub has_row-given : (name : Word) (given : Given) → has_row name (rows_for given) ≡ was_given name given
has_row-given name given = sym (list_any-map (λ (r : Row). bytes_eq r.id name) row_for given)

pub at_row-missing : (id : Word) (change : Row → List Row) (missing rows : List Row) → has_row id rows ≡ false → at_row id change missing rows ≡ rows ++ missing
at_row-missing id change missing [] new = refl
at_row-missing id change missing (r ∷ rows) new = go (bytes_eq r.id id) new (at_row-missing id change missing rows)
  where
    go : (t : Bool) → (t || has_row id rows) ≡ false → (has_row id rows ≡ false → at_row id change missing rows ≡ rows ++ missing)
        → cond t (change r ++ rows) (r ∷ at_row id change missing rows) ≡ r ∷ (rows ++ missing)
    go true new behind = absurd (true≢false new)
    go false new behind = ap (λ rs. r ∷ rs) (behind new)

-- the values of an argument that has no row yet
pub with_values-new : (id : Word) (source : ValueSource) (value : Word) (rows : List Row) → has_row id rows ≡ false
    → with_values id AsWritten source (value ∷ []) (without id rows) ≡ rows ++ record { id = id; values = value ∷ []; count = None; source = Some source; reading = AsWritten } ∷ []
with_values-new id source value rows new =
    ap (with_values id AsWritten source (value ∷ [])) (at_row-missing id (λ _. []) [] rows new ∙ append-nil rows) ∙ at_row-missing id (more_values source (value ∷ [])) _ rows new

-- ---- defaults

defaults-pass : (rows : List Row) (o : Word × Kind) → default_fault rows (built_rule o) ≡ []
defaults-pass rows o = go o.0 o.1 (has_row o.0 rows)
  where
    go : (name : Word) (kind : Kind) (t : Bool)
        → cond (t || is_empty (built_rule (name, kind)).defaults) [] (given_default_fault (built_rule (name, kind)) (built_rule (name, kind)).defaults) ≡ []
    go name alone true = refl
    go name alone false = refl
    go name valued true = refl
    go name valued false = refl

pub defaults_fault-none : (rows : List Row) (options : Options) → defaults_fault rows (rules options) ≡ []
unfolding defaults_fault
defaults_fault-none rows [] = refl
defaults_fault-none rows (o ∷ options) =
    ap (λ ks. or_else ks (defaults_fault (with_default rows (built_rule o)) (rules options))) (defaults-pass rows o) ∙ defaults_fault-none (with_default rows (built_rule o)) options

-- no option has to be given
pub none_required : (rows : List Row) (options : Options) → list_any (λ a. a.required && not (is_given a.id rows)) (rules options) ≡ false
none_required rows [] = refl
none_required rows (o ∷ options) = none_required rows options

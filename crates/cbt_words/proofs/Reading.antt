-- What the reading of options keeps, and words that are no numbers.
use Rattle.std.proofs.Common.{◌≡◌, ◌∙◌, ℕ, Bool, cond, true, false, ◌&&◌, ◌||◌, refl, sym, ap, subst, take, drop, codes, List, [], ◌∷◌, ◌++◌, Option, Some, None, is_some, true≢false, eqb-true, nat_eq}
use Rattle.std.specs.Prelude.{find, option_and_then}
use Rattle.std.specs.Option.{option_map_or, option_or}
use Rattle.std.specs.List.{list_any}
use Rattle.std.specs.Str.{bytes_eq}
use Rattle.std.proofs.lemmas.List.Folds.{find-append}
use Rattle.clap.specs.Lexer.{long_of, long_of_rest, short_of, short_of_rest, strip_byte}
use Rattle.cbt_lex.specs.Decimals.{number_of}
use Rattle.cbt_words.specs.Options.{Given, Kind, Options, Reading, Word, alone, complete, use_met, valued, value_in, name_in, value_of, was_given, with_given, word_met, words_met}
use Rattle.cbt_words.proofs.Rules.{option_named, same_name}

-- ---- values

pub none_found : {X : Type 0} (p : X → Bool) (xs : List X) → list_any p xs ≡ false → find p xs ≡ None
none_found p [] e = refl
none_found p (x ∷ xs) e = go (p x) e (none_found p xs)
  where
    go : (t : Bool) → (t || list_any p xs) ≡ false → (list_any p xs ≡ false → find p xs ≡ None) → cond t (Some x) (find p xs) ≡ None
    go true e behind = absurd (true≢false e)
    go false e behind = behind e

abbrev value_first : Option (Word × Option Word) → Option Word
value_first found = option_and_then (λ g. g.1) found

abbrev one_more : Word → Word → Option Word → Option (Word × Option Word)
one_more name other value = cond (bytes_eq other name) (Some (other, value)) None

value_of-append : (name other : Word) (value : Option Word) (given : Given)
    → value_of name (given ++ (other, value) ∷ []) ≡ value_first (option_or (find (λ g. bytes_eq g.0 name) given) (one_more name other value))
value_of-append name other value given = ap value_first (find-append (λ g. bytes_eq g.0 name) given ((other, value) ∷ []))

-- one more option does not hide a value
value-stays : (name other text : Word) (value : Option Word) (given : Given) → value_of name given ≡ Some text → value_of name (given ++ (other, value) ∷ []) ≡ Some text
value-stays name other text value given is = value_of-append name other value given ∙ go (find (λ g. bytes_eq g.0 name) given) is
  where
    go : (o : Option (Word × Option Word)) → value_first o ≡ Some text → value_first (option_or o (one_more name other value)) ≡ Some text
    go None e = absurd (cc)
    go (Some g) e = e

-- the value of an option that was not given before
pub value-new : (name : Word) (value : Option Word) (given : Given) → was_given name given ≡ false → bytes_eq name name ≡ true → value_of name (given ++ (name, value) ∷ []) ≡ value
value-new name value given new own =
    value_of-append name name value given ∙ ap (λ o. value_first (option_or o (one_more name name value))) (none_found (λ g. bytes_eq g.0 name) given new)
    ∙ ap (λ t. value_first (cond t (Some (name, value)) None)) own

-- ---- what is kept

-- an option that was given has a value where its kind has one
abbrev pub Fits : Option (Word × Option Word) → Kind → Type 0
Fits None kind = Unit {0}
Fits (Some g) alone = g.1 ≡ None
Fits (Some g) valued = is_some g.1 ≡ true

abbrev pub found_given : Word → Given → Option (Word × Option Word)
found_given name given = find (λ g. bytes_eq g.0 name) given

module _ (options : Options) where
  abbrev pub IsSound : Given → Type 0
  IsSound given = (name : Word) (kind : Kind) → option_named name options ≡ Some (name, kind) → Fits (found_given name given) kind

  pub none_sound : IsSound []
  none_sound name kind is = tt

  pub more_sound : (given : Given) (name : Word) (kind : Kind) (value : Option Word) → IsSound given → option_named name options ≡ Some (name, kind)
      → Fits (Some (name, value)) kind → IsSound (given ++ (name, value) ∷ [])
  more_sound given name kind value sound known fits other of is =
      subst (λ o. Fits o of) (sym (find-append (λ g. bytes_eq g.0 other) given ((name, value) ∷ []))) (go (found_given other given) (sound other of is) (bytes_eq name other) refl)
    where
      go : (o : Option (Word × Option Word)) → Fits o of → (t : Bool) → bytes_eq name other ≡ t → Fits (option_or o (cond t (Some (name, value)) None)) of
      go (Some g) e t is-t = e
      go None e false is-t = tt
      go None e true is-t =
          let same : name ≡ other = same_name name other is-t in
          let both : Some (name, kind) ≡ Some (other, of) = sym known ∙ ap (λ n. option_named n options) same ∙ is in
          subst (Fits (Some (name, value))) (ap (λ o. option_map_or (λ (p : Word × Kind). p.1) o alone) both) fits

  -- an option's value is no number
  pub record Bad (given : Given) : Type 0 where
    pub name : Word
    pub text : Word
    pub known : option_named name options ≡ Some (name, valued)
    pub value : value_of name given ≡ Some text
    pub no_number : number_of text ≡ None

  bad-given : (given : Given) (name : Word) (value : Option Word) (r : Reading) → Bad given → with_given given name value ≡ Some r → Bad r.0
  bad-given given name value r bad e = go (was_given name given) e
    where
      go : (t : Bool) → cond t None (Some (given ++ (name, value) ∷ [], None)) ≡ Some r → Bad r.0
      go true e = absurd (cc)
      go false e =
          let same : (given ++ (name, value) ∷ []) ≡ r.0 = cc in
          record {
            name = bad.name;
            text = bad.text;
            known = bad.known;
            value = ap (value_of bad.name) (sym same) ∙ value-stays bad.name name bad.text value given bad.value;
            no_number = bad.no_number;
          }

  bad-use : (given : Given) (name : Word) (kind : Kind) (value : Option Word) (r : Reading) → Bad given → use_met given name kind value ≡ Some r → Bad r.0
  bad-use given name alone None r bad e = bad-given given name None r bad e
  bad-use given name alone (Some v) r bad e = absurd (cc)
  bad-use given name valued None r bad e =
      let same : given ≡ r.0 = cc in
      subst Bad same bad
  bad-use given name valued (Some v) r bad e = bad-given given name (Some v) r bad e

  bad-word : (given : Given) (waiting : Option Word) (word : Word) (r : Reading) → Bad given → word_met options given waiting word ≡ Some r → Bad r.0
  bad-word given (Some name) word r bad e = bad-given given name (Some word) r bad e
  bad-word given None word r bad e = go (bytes_eq (take 2 word) (codes "--")) e
    where
      found : (o : Option (Word × Kind)) → option_and_then (λ o. use_met given o.0 o.1 (value_in (drop 2 word))) o ≡ Some r → Bad r.0
      found None e = absurd (cc)
      found (Some o) e = bad-use given o.0 o.1 (value_in (drop 2 word)) r bad e

      go : (t : Bool) → cond t (option_and_then (λ o. use_met given o.0 o.1 (value_in (drop 2 word))) (option_named (name_in (drop 2 word)) options)) None ≡ Some r → Bad r.0
      go true e = found (option_named (name_in (drop 2 word)) options) e
      go false e = absurd (cc)

  -- the options that are given in the end
  abbrev pub ends : Given → Option Word → List Word → Option Given
  ends given waiting words = option_and_then complete (words_met options given waiting words)

  pub bad_ends : (words : List Word) (given final : Given) (waiting : Option Word) → Bad given → ends given waiting words ≡ Some final → Bad final
  bad_ends [] given final None bad e = let same : given ≡ final = cc in subst Bad same bad
  bad_ends [] given final (Some name) bad e = absurd (cc)
  bad_ends (word ∷ words) given final waiting bad e =
      go (word_met options given waiting word) (bad-word given waiting word) (λ given waiting. bad_ends words given final waiting) e
    where
      go : (o : Option Reading) → ((r : Reading) → Bad given → o ≡ Some r → Bad r.0) → ((given : Given) (waiting : Option Word) → Bad given → ends given waiting words ≡ Some final → Bad final)
          → option_and_then complete (option_and_then (λ r. words_met options r.0 r.1 words) o) ≡ Some final → Bad final
      go None keeps behind e = absurd (cc)
      go (Some r) keeps behind e = behind r.0 r.1 (keeps r bad refl) e

-- ---- words that begin with a hyphen

hyphen_number : (bs : List ℕ) → number_of (45 ∷ bs) ≡ None
hyphen_number [] = refl
hyphen_number (b ∷ bs) = refl

hyphen_first : (word : Word) (rest : Word) → strip_byte 45 word ≡ Some rest → number_of word ≡ None
hyphen_first [] rest e = absurd (cc)
hyphen_first (b ∷ bs) rest e = go (nat_eq b 45) refl e
  where
    go : (t : Bool) → nat_eq b 45 ≡ t → cond t (Some bs) None ≡ Some rest → number_of (b ∷ bs) ≡ None
    go true is e = ap (λ x. number_of (x ∷ bs)) (eqb-true b 45 is) ∙ hyphen_number bs
    go false is e = absurd (cc)

pub long_number : (word : Word) (p : Word × Option Word) → long_of word ≡ Some p → number_of word ≡ None
long_number word p e = go (strip_byte 45 word) (hyphen_first word) e
  where
    go : (o : Option Word) → ((rest : Word) → o ≡ Some rest → number_of word ≡ None) → option_and_then long_of_rest (option_and_then (strip_byte 45) o) ≡ Some p → number_of word ≡ None
    go None first e = absurd (cc)
    go (Some rest) first e = first rest refl

pub short_number : (word flags : Word) → short_of word ≡ Some flags → number_of word ≡ None
short_number word flags e = go (strip_byte 45 word) (hyphen_first word) e
  where
    go : (o : Option Word) → ((rest : Word) → o ≡ Some rest → number_of word ≡ None) → option_and_then short_of_rest o ≡ Some flags → number_of word ≡ None
    go None first e = absurd (cc)
    go (Some rest) first e = first rest refl

-- ---- a word that names an option

abbrev pub long_met : Options → Given → Option (Word × Option Word) → Option Reading
long_met options given l = option_and_then (λ p. option_and_then (λ o. use_met given o.0 o.1 p.1) (option_named p.0 options)) l

pub word_met-long : (options : Options) (given : Given) (word : Word) → bytes_eq word (codes "--") ≡ false → word_met options given None word ≡ long_met options given (long_of word)
word_met-long options given [] no_end = refl
word_met-long options given (a ∷ []) no_end = go (nat_eq a 45)
  where
    go : (t : Bool) → cond (t && false) (option_and_then (λ o. use_met given o.0 o.1 (value_in [])) (option_named (name_in []) options)) None
        ≡ long_met options given (option_and_then long_of_rest (option_and_then (strip_byte 45) (cond t (Some []) None)))
    go true = refl
    go false = refl
word_met-long options given (a ∷ b ∷ rest) no_end = first (nat_eq a 45) no_end
  where
    second : (t : Bool) (text : Word) → (t && bytes_eq text []) ≡ false
        → cond (t && true) (option_and_then (λ o. use_met given o.0 o.1 (value_in text)) (option_named (name_in text) options)) None
        ≡ long_met options given (option_and_then long_of_rest (cond t (Some text) None))
    second true [] e = absurd (true≢false e)
    second true (c ∷ cs) e = refl
    second false text e = refl

    first : (t : Bool) → (t && (nat_eq b 45 && bytes_eq rest [])) ≡ false
        → cond (t && (nat_eq b 45 && true)) (option_and_then (λ o. use_met given o.0 o.1 (value_in rest)) (option_named (name_in rest) options)) None
        ≡ long_met options given (option_and_then long_of_rest (option_and_then (strip_byte 45) (cond t (Some (b ∷ rest)) None)))
    first true e = second (nat_eq b 45) rest e
    first false e = refl

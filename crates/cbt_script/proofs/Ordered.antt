-- The items of an order line, one after another.
use Rattle.std.proofs.Common.{◌≡◌, ℕ, ◌<◌, List, length, Result, Ok, Err, sym, ap, ◌∙◌, arith}
use Rattle.cbt_lex.specs.Lines.{skip_spaces}
use Rattle.cbt_lex.specs.Words.{word_and_rest, words_of}
use Rattle.cbt_lex.proofs.Onward.{words_onward, rest_is_shorter, rest_is_led}
use Rattle.cbt_script.specs.declared.cause.Cause.{Cause}
use Rattle.cbt_script.specs.declared.course.Course.{Course}
use Rattle.cbt_script.specs.declared.cause.LineFault.{LineFault}
use Rattle.cbt_script.specs.declared.cause.LineFault.TheVariants.{Refused, NoMemory}
use Rattle.cbt_script.specs.Causes.{and_then, Steps}
use Rattle.cbt_script.specs.Course.{Actors, add_item, add_items}

module _ (actors : Actors) (c : Course) (rest word more : List ℕ) (parts : (word, more) ≡ word_and_rest rest) (some : 0 < length rest) (led : skip_spaces rest ≡ rest) where
  first_item : add_items actors c (words_of rest) ≡ and_then (add_item actors c word) (λ d. add_items actors d (words_of more))
  first_item = ap (add_items actors c) (words_onward rest some led)
      ∙ ap (λ (p : List ℕ × List ℕ). and_then (add_item actors c p.0) (λ d. add_items actors d (words_of p.1))) (sym parts)

  pub taken : (d : Course) → add_item actors c word ≡ Ok d → add_items actors d (words_of more) ≡ add_items actors c (words_of rest)
  taken d is = sym (first_item ∙ ap (λ r. and_then r (λ d. add_items actors d (words_of more))) is)

  pub refused : (why : Cause) → add_item actors c word ≡ Err why → add_items actors c (words_of rest) ≡ Err why
  refused why is = first_item ∙ ap (λ r. and_then r (λ d. add_items actors d (words_of more))) is

  pub onward : skip_spaces more ≡ more
  onward = ap (λ (p : List ℕ × List ℕ). skip_spaces p.1) parts ∙ rest_is_led rest ∙ ap (λ (p : List ℕ × List ℕ). p.1) (sym parts)

  pub shorter : length more < length rest
  shorter = let e = ap (λ (p : List ℕ × List ℕ). length p.1) parts in let l = rest_is_shorter rest some in omega arith

-- where one item is refused, all are
pub all_refused : (actors : Actors) (c new : Course) (rest word more : List ℕ) (parts : (word, more) ≡ word_and_rest rest) (some : 0 < length rest) (led : skip_spaces rest ≡ rest)
    (first : Result Course Cause) → add_items actors c (words_of rest) ≡ first → (fault : LineFault)
    → Steps (Err fault) new (add_item actors c word) → Steps (Err fault) new first
all_refused actors c new rest word more parts some led first same (Refused why) is = sym same ∙ refused actors c rest word more parts some led why is
all_refused actors c new rest word more parts some led first same NoMemory is = tt

-- The printed settings are read back.
use Rattle.std.proofs.Common.{◌≡◌, ℕ, ◌^◌, ◌<◌, ◌≤◌, [], ◌∷◌, ◌++◌, Option, Some, None, Ok, decimal, codes, refl, ap, ◌∙◌, arith, append_assoc}
use Rattle.cbt_lex.proofs.DecimalsBack.{decimal_word}
use Rattle.cbt_lex.proofs.Spaces.{behind_space}
use Rattle.cbt_lex.proofs.WordsBack.{led_word, led_last}
use Rattle.cbt_script.specs.declared.draft.Draft.{Draft}
use Rattle.cbt_script.specs.declared.keywords.Keyword.TheVariants as k
use Rattle.cbt_script.specs.declared.keywords.Setting.TheVariants.{Atrs, Expiry, Tries, Lapse, Clock}
use Rattle.cbt_script.specs.declared.script.Script.{Script}
use Rattle.cbt_script.specs.declared.settings.Settings.{Settings}
use Rattle.cbt_script.specs.Causes.{◌>>=◌, and_then}
use Rattle.cbt_script.specs.Drafts.{start, setting_line}
use Rattle.cbt_script.specs.Fields.{number_field, end_field}
use Rattle.cbt_script.specs.Keywords.{keyword_of}
use Rattle.cbt_script.specs.Printed.{labelled, clock_lines, settings_lines}
use Rattle.cbt_script.specs.Reading.{taken}
use Rattle.cbt_script.specs.Rules.{IsLine, IsScript}
use Rattle.cbt_script.specs.Settings.{no_settings, max_time, max_ms, set_atrs, set_expiry, set_tries, set_lapse, set_clock}
use Rattle.cbt_script.proofs.Drafted.{drafted, drafted_on}
use Rattle.cbt_script.proofs.KeywordsBack.{line_taken}
use Rattle.cbt_script.proofs.FieldsBack.{number_field-next, number_field-last}

abbrev pub with_settings : Settings → Draft
with_settings s = record start { settings = s }

module _ (n : ℕ) where
  atrs_taken : 1 ≤ n → n ≤ 1024 → taken (with_settings no_settings) (labelled (codes "atrs ") n) ≡ Ok (with_settings (record no_settings { atrs = Some n }))
  unfolding keyword_of setting_line set_atrs
  atrs_taken low high =
      let below : n < 2 ^ 64 = omega arith in
      line_taken (with_settings no_settings) 97 (codes "trs") (decimal n) (k.Setting Atrs) refl refl refl (led_last (decimal n) (decimal_word n below))
      ∙ ap (λ r. (r >>= (λ m. end_field m.1 >>= (λ _. Ok (record no_settings { atrs = Some m.0 })))) >>= (λ s. Ok (with_settings s))) (number_field-last 1 1024 n low high below)

  expiry_taken : (a : ℕ) → 1 ≤ n → n ≤ max_time
      → taken (with_settings (record no_settings { atrs = Some a })) (labelled (codes "expiry ") n) ≡ Ok (with_settings (record no_settings { atrs = Some a; expiry = Some n }))
  unfolding keyword_of setting_line set_expiry
  expiry_taken a low high =
      let below : n < 2 ^ 64 = omega arith in
      let old = record no_settings { atrs = Some a } in
      line_taken (with_settings old) 101 (codes "xpiry") (decimal n) (k.Setting Expiry) refl refl refl (led_last (decimal n) (decimal_word n below))
      ∙ ap (λ r. (r >>= (λ m. end_field m.1 >>= (λ _. Ok (record old { expiry = Some m.0 })))) >>= (λ s. Ok (with_settings s))) (number_field-last 1 max_time n low high below)

  tries_taken : (a e : ℕ) → 1 ≤ n → n ≤ 16
      → taken (with_settings (record no_settings { atrs = Some a; expiry = Some e })) (labelled (codes "tries ") n) ≡ Ok (with_settings (record no_settings { atrs = Some a; expiry = Some e; tries = Some n }))
  unfolding keyword_of setting_line set_tries
  tries_taken a e low high =
      let below : n < 2 ^ 64 = omega arith in
      let old = record no_settings { atrs = Some a; expiry = Some e } in
      line_taken (with_settings old) 116 (codes "ries") (decimal n) (k.Setting Tries) refl refl refl (led_last (decimal n) (decimal_word n below))
      ∙ ap (λ r. (r >>= (λ m. end_field m.1 >>= (λ _. Ok (record old { tries = Some m.0 })))) >>= (λ s. Ok (with_settings s))) (number_field-last 1 16 n low high below)

  lapse_taken : (a e t : ℕ) → 1 ≤ n → n ≤ max_time
      → taken (with_settings (record no_settings { atrs = Some a; expiry = Some e; tries = Some t })) (labelled (codes "lapse ") n)
      ≡ Ok (with_settings (record no_settings { atrs = Some a; expiry = Some e; tries = Some t; lapse = Some n }))
  unfolding keyword_of setting_line set_lapse
  lapse_taken a e t low high =
      let below : n < 2 ^ 64 = omega arith in
      let old = record no_settings { atrs = Some a; expiry = Some e; tries = Some t } in
      line_taken (with_settings old) 108 (codes "apse") (decimal n) (k.Setting Lapse) refl refl refl (led_last (decimal n) (decimal_word n below))
      ∙ ap (λ r. (r >>= (λ m. end_field m.1 >>= (λ _. Ok (record old { lapse = Some m.0 })))) >>= (λ s. Ok (with_settings s))) (number_field-last 1 max_time n low high below)

-- the settings of a script that is read
abbrev pub all_settings : Script → Settings
all_settings s = record { atrs = Some s.atrs; expiry = Some s.expiry; tries = Some s.tries; lapse = Some s.lapse; line = s.line }

module _ (a e t l first step : ℕ) where
  abbrev before : Settings
  before = record no_settings { atrs = Some a; expiry = Some e; tries = Some t; lapse = Some l }

  clock_taken : first ≤ max_ms → step ≤ 1000000 → taken (with_settings before) (codes "clock " ++ decimal first ++ codes " " ++ decimal step) ≡ Ok (with_settings (record before { line = Some (first, step) }))
  unfolding keyword_of setting_line set_clock
  clock_taken high small =
      let below : first < 2 ^ 64 = omega arith in
      let also : step < 2 ^ 64 = omega arith in
      let rest = decimal first ++ 32 ∷ decimal step in
      let last = decimal_word step also in
      ap (λ x. taken (with_settings before) (codes "clock " ++ x)) (append_assoc (decimal first) (32 ∷ []) (decimal step))
      ∙ line_taken (with_settings before) 99 (codes "lock") rest (k.Setting Clock) refl refl refl (led_word (decimal first) (32 ∷ decimal step) (decimal_word first below))
      ∙ ap (λ r. (r >>= (λ m. number_field 0 1000000 m.1 >>= (λ n. end_field n.1 >>= (λ _. Ok (record before { line = Some (m.0, n.0) }))))) >>= (λ s. Ok (with_settings s)))
      (number_field-next 0 max_ms first (32 ∷ decimal step) (omega arith) high below refl ∙ ap (λ x. Ok (first, x)) (behind_space (decimal step) (led_last (decimal step) last)))
      ∙ ap (λ r. (r >>= (λ n. end_field n.1 >>= (λ _. Ok (record before { line = Some (first, n.0) })))) >>= (λ s. Ok (with_settings s)))
      (number_field-last 0 1000000 step (omega arith) small also)

clocks : (a e t l : ℕ) (line : Option (ℕ × ℕ)) → IsLine line → drafted (with_settings (before a e t l 0 0)) (clock_lines line) ≡ Ok (with_settings (record no_settings { atrs = Some a; expiry = Some e; tries = Some t; lapse = Some l; line = line }))
clocks a e t l None is = refl
clocks a e t l (Some line) is = ap (λ r. and_then r (λ x. Ok x)) (clock_taken a e t l line.0 line.1 is.0 is.1)

pub settings_back : (s : Script) → IsScript s → drafted start (settings_lines s) ≡ Ok (with_settings (all_settings s))
settings_back s is =
    let end = with_settings (all_settings s) in
    let s0 = with_settings no_settings in
    let s1 = with_settings (record no_settings { atrs = Some s.atrs }) in
    let s2 = with_settings (record no_settings { atrs = Some s.atrs; expiry = Some s.expiry }) in
    let s3 = with_settings (record no_settings { atrs = Some s.atrs; expiry = Some s.expiry; tries = Some s.tries }) in
    let s4 = with_settings (before s.atrs s.expiry s.tries s.lapse 0 0) in
    let l4 = clock_lines s.line in
    let l3 = labelled (codes "lapse ") s.lapse ∷ l4 in
    let l2 = labelled (codes "tries ") s.tries ∷ l3 in
    let l1 = labelled (codes "expiry ") s.expiry ∷ l2 in
    drafted_on s0 s1 end (labelled (codes "atrs ") s.atrs) l1 (atrs_taken s.atrs is.atrs.0 is.atrs.1)
    (drafted_on s1 s2 end (labelled (codes "expiry ") s.expiry) l2 (expiry_taken s.expiry s.atrs is.expiry.0 is.expiry.1)
    (drafted_on s2 s3 end (labelled (codes "tries ") s.tries) l3 (tries_taken s.tries s.atrs s.expiry is.tries.0 is.tries.1)
    (drafted_on s3 s4 end (labelled (codes "lapse ") s.lapse) l4 (lapse_taken s.lapse s.atrs s.expiry s.tries is.lapse.0 is.lapse.1)
    (clocks s.atrs s.expiry s.tries s.lapse s.line is.line))))

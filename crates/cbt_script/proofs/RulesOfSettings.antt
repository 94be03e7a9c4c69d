-- The settings of a draft keep their rules.
use Rattle.std.proofs.Common.{ℕ, ◌&&◌, is_none, List, Option, Some, None}
use Rattle.std.specs.Option.{unwrap_or}
use Rattle.cbt_script.specs.declared.cause.Cause.TheVariants.{Word, Twice}
use Rattle.cbt_script.specs.declared.keywords.Setting.{Setting}
use Rattle.cbt_script.specs.declared.keywords.Setting.TheVariants.{Atrs, Expiry, Tries, Lapse, Clock}
use Rattle.cbt_script.specs.declared.settings.Settings.{Settings}
use Rattle.cbt_script.specs.Fields.{number_field}
use Rattle.cbt_script.specs.Rules.{IsWithin, IsLine}
use Rattle.cbt_script.specs.Settings.{no_settings, max_time, max_ms, none_from_tries, set_atrs, set_expiry, set_tries, set_lapse, set_clock, set_setting}
use Rattle.cbt_script.proofs.RulesOfFields.{Keeps, keeps-bind, keeps-required, keeps-ended, number-kept}

-- a number within two limits, where there is one
abbrev pub IsMaybe : ℕ → ℕ → Option ℕ → Type 0
IsMaybe least most None = Unit {0}
IsMaybe least most (Some n) = IsWithin least most n

pub record AreSettings (s : Settings) : Type 0 where
  pub atrs : IsMaybe 1 1024 s.atrs
  pub expiry : IsMaybe 1 max_time s.expiry
  pub tries : IsMaybe 1 16 s.tries
  pub lapse : IsMaybe 1 max_time s.lapse
  pub line : IsLine s.line

pub no-settings : AreSettings no_settings
no-settings = record { atrs = tt; expiry = tt; tries = tt; lapse = tt; line = tt }

-- a setting that was not given
pub or-default : (least most default : ℕ) (o : Option ℕ) → IsWithin least most default → IsMaybe least most o → IsWithin least most (unwrap_or o default)
or-default least most default None good is = good
or-default least most default (Some n) good is = is

atrs-kept : (s : Settings) (rest : List ℕ) → AreSettings s → Keeps AreSettings (set_atrs s rest)
unfolding set_atrs
atrs-kept s rest are =
    keeps-required AreSettings (is_none s.atrs) Twice _ (λ e. keeps-required AreSettings (is_none s.expiry && none_from_tries s) Word _
    (λ e. keeps-bind (λ n. IsWithin 1 1024 n.0) AreSettings (number_field 1 1024 rest) _ (number-kept 1 1024 rest)
    (λ n is. keeps-ended AreSettings n.1 _ (record { atrs = is; expiry = are.expiry; tries = are.tries; lapse = are.lapse; line = are.line }))))

expiry-kept : (s : Settings) (rest : List ℕ) → AreSettings s → Keeps AreSettings (set_expiry s rest)
unfolding set_expiry
expiry-kept s rest are =
    keeps-required AreSettings (is_none s.expiry) Twice _ (λ e. keeps-required AreSettings (none_from_tries s) Word _
    (λ e. keeps-bind (λ n. IsWithin 1 max_time n.0) AreSettings (number_field 1 max_time rest) _ (number-kept 1 max_time rest)
    (λ n is. keeps-ended AreSettings n.1 _ (record { atrs = are.atrs; expiry = is; tries = are.tries; lapse = are.lapse; line = are.line }))))

tries-kept : (s : Settings) (rest : List ℕ) → AreSettings s → Keeps AreSettings (set_tries s rest)
unfolding set_tries
tries-kept s rest are =
    keeps-required AreSettings (is_none s.tries) Twice _ (λ e. keeps-required AreSettings (is_none s.lapse && is_none s.line) Word _
    (λ e. keeps-bind (λ n. IsWithin 1 16 n.0) AreSettings (number_field 1 16 rest) _ (number-kept 1 16 rest)
    (λ n is. keeps-ended AreSettings n.1 _ (record { atrs = are.atrs; expiry = are.expiry; tries = is; lapse = are.lapse; line = are.line }))))

lapse-kept : (s : Settings) (rest : List ℕ) → AreSettings s → Keeps AreSettings (set_lapse s rest)
unfolding set_lapse
lapse-kept s rest are =
    keeps-required AreSettings (is_none s.lapse) Twice _ (λ e. keeps-required AreSettings (is_none s.line) Word _
    (λ e. keeps-bind (λ n. IsWithin 1 max_time n.0) AreSettings (number_field 1 max_time rest) _ (number-kept 1 max_time rest)
    (λ n is. keeps-ended AreSettings n.1 _ (record { atrs = are.atrs; expiry = are.expiry; tries = are.tries; lapse = is; line = are.line }))))

clock-kept : (s : Settings) (rest : List ℕ) → AreSettings s → Keeps AreSettings (set_clock s rest)
unfolding set_clock
clock-kept s rest are =
    keeps-required AreSettings (is_none s.line) Twice _
    (λ e. keeps-bind (λ n. IsWithin 0 max_ms n.0) AreSettings (number_field 0 max_ms rest) _ (number-kept 0 max_ms rest)
    (λ start first. keeps-bind (λ n. IsWithin 0 1000000 n.0) AreSettings (number_field 0 1000000 start.1) _ (number-kept 0 1000000 start.1)
    (λ step second. keeps-ended AreSettings step.1 _ (record { atrs = are.atrs; expiry = are.expiry; tries = are.tries; lapse = are.lapse; line = (first.1, second.1) }))))

pub setting-kept : (which : Setting) (s : Settings) (rest : List ℕ) → AreSettings s → Keeps AreSettings (set_setting which s rest)
setting-kept Atrs s rest are = atrs-kept s rest are
setting-kept Expiry s rest are = expiry-kept s rest are
setting-kept Tries s rest are = tries-kept s rest are
setting-kept Lapse s rest are = lapse-kept s rest are
setting-kept Clock s rest are = clock-kept s rest are

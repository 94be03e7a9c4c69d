-- The settings: each at most once, in the order atrs, expiry, tries, lapse, clock.
use Rattle.std.specs.Prelude.{ℕ, ◌-◌, ◌^◌, Bool, ◌&&◌, is_none, List, Some, None, Result, Ok}
use Rattle.cbt_script.specs.declared.cause.Cause.{Cause}
use Rattle.cbt_script.specs.declared.cause.Cause.TheVariants.{Word, Twice}
use Rattle.cbt_script.specs.declared.keywords.Setting.{Setting}
use Rattle.cbt_script.specs.declared.keywords.Setting.TheVariants.{Atrs, Expiry, Tries, Lapse, Clock}
use Rattle.cbt_script.specs.declared.settings.Settings.{Settings}
use Rattle.cbt_script.specs.Causes.{◌>>=◌, require}
use Rattle.cbt_script.specs.Fields.{number_field, end_field}

abbrev pub no_settings : Settings
no_settings = record { atrs = None; expiry = None; tries = None; lapse = None; line = None }

-- an expiry, a hold or a lapse is a day at most
abbrev pub max_time : ℕ
max_time = 86400000

-- the last millisecond that a clock begins at or is moved ahead by
abbrev pub max_ms : ℕ
max_ms = 2 ^ 43 - 1

-- none of the tries and what stands behind them is there
abbrev pub none_from_tries : Settings → Bool
none_from_tries s = is_none s.tries && is_none s.lapse && is_none s.line

-- `atrs N`
unfoldable pub set_atrs : Settings → List ℕ → Result Settings Cause
set_atrs s rest = do
  _ ← require (is_none s.atrs) Twice
  _ ← require (is_none s.expiry && none_from_tries s) Word
  n ← number_field 1 1024 rest
  _ ← end_field n.1
  Ok (record s { atrs = Some n.0 })

-- `expiry N`
unfoldable pub set_expiry : Settings → List ℕ → Result Settings Cause
set_expiry s rest = do
  _ ← require (is_none s.expiry) Twice
  _ ← require (none_from_tries s) Word
  n ← number_field 1 max_time rest
  _ ← end_field n.1
  Ok (record s { expiry = Some n.0 })

-- `tries N`
unfoldable pub set_tries : Settings → List ℕ → Result Settings Cause
set_tries s rest = do
  _ ← require (is_none s.tries) Twice
  _ ← require (is_none s.lapse && is_none s.line) Word
  n ← number_field 1 16 rest
  _ ← end_field n.1
  Ok (record s { tries = Some n.0 })

-- `lapse N`
unfoldable pub set_lapse : Settings → List ℕ → Result Settings Cause
set_lapse s rest = do
  _ ← require (is_none s.lapse) Twice
  _ ← require (is_none s.line) Word
  n ← number_field 1 max_time rest
  _ ← end_field n.1
  Ok (record s { lapse = Some n.0 })

-- `clock START STEP`
unfoldable pub set_clock : Settings → List ℕ → Result Settings Cause
set_clock s rest = do
  _ ← require (is_none s.line) Twice
  start ← number_field 0 max_ms rest
  step ← number_field 0 1000000 start.1
  _ ← end_field step.1
  Ok (record s { line = Some (start.0, step.0) })

abbrev pub set_setting : Setting → Settings → List ℕ → Result Settings Cause
set_setting Atrs s rest = set_atrs s rest
set_setting Expiry s rest = set_expiry s rest
set_setting Tries s rest = set_tries s rest
set_setting Lapse s rest = set_lapse s rest
set_setting Clock s rest = set_clock s rest

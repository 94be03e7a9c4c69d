-- The case of a script: what its run is given, as far as the laws over runs speak of it.
use Rattle.std.specs.Prelude.{ℕ, ◌+◌, length, map, unwrap_or}
use Rattle.cbt_core.specs.Runs.{sweeps}
use Rattle.cbt_core.specs.declared.case.Case.{Case}
use Rattle.cbt_script.specs.Opening.{opening_of}
use Rattle.cbt_script.specs.declared.script.Script.{Script}

abbrev pub case_of : Script → Case
case_of script = record {
  opening = opening_of script.docs;
  line = script.line;
  faults = script.faults;
  stops = script.stops;
  plans = map (λ client. client.1) script.clients;
  actors = length script.clients + length script.cleaners + sweeps script.sweep;
  atrs = script.atrs;
  lapse = script.lapse;
  rounds = map (λ cleaner. cleaner.1) script.cleaners;
  sweep = script.sweep;
}

-- by how much the clock is moved ahead before the sweep
abbrev pub ahead_of : Script → ℕ
ahead_of script = unwrap_or script.sweep 0

-- Fit bodies, as a test.
use Rattle.std.specs.Prelude.{Bool, ◌&&◌, nat_le, length}
use Rattle.cbt_json.specs.Rules.{max_body_bytes, max_body_levels}
use Rattle.cbt_json.specs.Trees.{levels, text_of}
use Rattle.cbt_json.specs.declared.value.Json.{Json}

-- whether a value is a fit body: its text has at most 4,096 bytes, and it has at most 100 levels
unfoldable pub body_fits_of : Json → Bool
body_fits_of body = nat_le (length (text_of body)) max_body_bytes && nat_le (levels body) max_body_levels

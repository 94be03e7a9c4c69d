-- What is noted of an own write.
use Rattle.std.specs.Prelude.{ℕ, Option}
use Rattle.cbt_json.specs.declared.value.Json.{Json}
use Rattle.cbt_model.specs.declared.documents.OpKind.{OpKind}

-- the last staging of a document that may stand
pub record Noted : Type 0 where
  pub kind : OpKind
  pub content : Option Json
  -- the CAS that it had; none where the last call on it failed
  pub cas : Option ℕ

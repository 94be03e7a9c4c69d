-- What was staged of a document.
use Rattle.std.specs.Prelude.{ℕ, Option}
use Rattle.cbt_json.specs.declared.value.Json.{Json}

-- a staging as it is published: the CAS that it had, and its content, which is missing where the document is to go
pub record Written : Type 0 where
  pub cas : ℕ
  pub content : Option Json

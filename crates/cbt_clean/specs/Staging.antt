-- What is staged of a document.
use Rattle.std.specs.Prelude.{ℕ, Option}
use Rattle.cbt_json.specs.declared.value.Json.{Json}

-- a staging as a reading showed it: the CAS of its document, and its content, which is missing where the document is to go
pub record Staging : Type 0 where
  pub cas : ℕ
  pub content : Option Json

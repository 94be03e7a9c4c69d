use Rattle.std.proofs.Common.{◌≡◌, ℕ, ◌^◌, ◌<◌, List, Option, Some, None, sym}
use Rattle.std.specs.Prelude.{IfSome, IfNone}
use Rattle.cbt_base.specs.Ids.{id_text}
use Rattle.cbt_shape.specs.Names.{id_in}
use Rattle.cbt_shape.proofs.IdNames.{id_read, id_missing}
use Rattle.cbt_shape.proofs.names.id_of_text.Goals as goal

by_result : (text : List ℕ) (r : Option ℕ) → IfSome r (λ id. text ≡ id_text id) → IfNone r ((n : ℕ) → n < 2 ^ 128 → text ≡ id_text n → ⊥)
    → ((n : ℕ) → n < 2 ^ 128 → text ≡ id_text n → r ≡ Some n) → r ≡ id_in text
by_result text (Some id) some none back = sym (id_read text id some back)
by_result text None some none back = sym (id_missing text none)

pub returns : goal.returns
returns c = by_result c.args.text.now c.read.result c.read.ensures.some c.read.ensures.none c.read.ensures.back

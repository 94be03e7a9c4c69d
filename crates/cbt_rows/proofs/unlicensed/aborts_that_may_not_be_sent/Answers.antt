use Rattle.std.proofs.Common.{ℕ, inl, inr, List, [], refl}
use Rattle.cbt_model.specs.declared.documents.OpKind.TheVariants.{Insert, Replace, Remove}
use Rattle.cbt_book.specs.Licence.{IsListed}
use Rattle.cbt_model.specs.declared.steps.Expect.TheVariants as expect
use Rattle.cbt_rows.specs.Changes.{own_staging}
use Rattle.cbt_rows.specs.Words.{doc_a, lists_of}
use Rattle.cbt_rows.proofs.unlicensed.aborts_that_may_not_be_sent.Goals as goal

unlisted : (d : List ℕ) → ¬ IsListed d (lists_of [] [] [])
unlisted d (Insert, h) = h
unlisted d (Replace, h) = h
unlisted d (Remove, h) = h

pub returns : goal.returns
returns c may = unlisted doc_a (may.named doc_a (inl ((Replace, (expect.Cas 1, own_staging, refl, refl, refl)), inr refl)))

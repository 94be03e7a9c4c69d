use Rattle.std.proofs.Common.{rules, ◌∙◌, ap, ℕ, List, filter}
use Rattle.std.proofs.lemmas.Fn.{filter_same}
use Rattle.cbt_model.specs.declared.entries.Entry.{Entry}
use Rattle.cbt_book.specs.Passes.{is_expired}
use Rattle.cbt_clean.proofs.waiting.expired_of.Goals as goal

pub returns : goal.returns
returns c =
    c.from_vec.ensures ∙ filter_same _ (λ (e : ℕ × Entry). is_expired c.args.now e.1) _ (λ x b f' k. search rules) _ _ c.retain.ensures.filtered
    ∙ ap (λ (l : List (ℕ × Entry)). filter (λ e. is_expired c.args.now e.1) l) c.into_vec-entries.ensures

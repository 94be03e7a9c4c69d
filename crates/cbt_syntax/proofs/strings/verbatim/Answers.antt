use Rattle.std.proofs.Common.{sym, ap, ◌∙◌, ◌∷◌, [], Some, lit<}
use Rattle.std.proofs.lemmas.Str.Pattern.{split_parts}
use Rattle.std.specs.List.{list_all}
use Rattle.cbt_syntax.specs.Strings.{is_verbatim}
use Rattle.cbt_syntax.proofs.Behind.{behind-split}
use Rattle.cbt_syntax.proofs.Verbatim.{string_at-verbatim}
use Rattle.cbt_syntax.proofs.strings.verbatim.Goals as goal

pub returns-then-are_verbatim : goal.returns-then-are_verbatim
returns-then-are_verbatim c =
    let text = behind-split (34 ∷ []) _ _ (sym c.in_ok-behind.ensures) in
    let parts = split_parts 34 c.in_ok-behind.field-0.now (Some (c.in_ok-front.front, c.in_ok-front.rest)) c.in_ok-front.ensures.cases (lit< tt) in
    string_at-verbatim _ _ _ (text ∙ ap (λ w. 34 ∷ w) parts.0) (ap (list_all is_verbatim) (sym c.as_bytes.ensures.value) ∙ sym c.are_verbatim.ensures ∙ c.if-are_verbatim.true)

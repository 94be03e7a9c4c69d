use Rattle.std.proofs.Common.{◌∙◌, ap, sym, rules}
use Rattle.std.proofs.lemmas.Int.{to_z-of_z}
use mir.Val.{SFits}
use mir.Syntax.{w128}
use Rattle.cbt_json.specs.declared.tree.Tree.TheVariants as tree
use Rattle.cbt_json.proofs.Numbers.{IsNumber-signed_decimal_wide}
use Rattle.cbt_json.proofs.Tokens.{list_written, object_written}
use Rattle.cbt_json.proofs.printing.+write.Goals as goal

pub write_tree-number-requires : goal.write_tree-number-requires
write_tree-number-requires t c =
    let fits : SFits w128 c.in-Whole.n = search rules in
    rw (c.format.ensures.text, to_z-of_z w128 c.in-Whole.n fits) (IsNumber-signed_decimal_wide _ fits)

pub write_tree-returns-in_ok-write_items-in-List-clause-ok : goal.write_tree-returns-in_ok-write_items-in-List-clause-ok
write_tree-returns-in_ok-write_items-in-List-clause-ok t c =
    list_written _ _ _ _ c.as_slice.result.now (c.in-List.is ∙ ap tree.List (sym c.as_slice.ensures)) c.in_ok-begin_array-in-List.ensures.ok c.in_ok-write_items-in-List.ensures.ok

pub write_tree-returns-in_ok-write_members-in-Object-clause-ok : goal.write_tree-returns-in_ok-write_members-in-Object-clause-ok
write_tree-returns-in_ok-write_members-in-Object-clause-ok t c =
    object_written _ _ _ _ c.as_slice-in-Object.result.now (c.in-Object.is ∙ ap tree.Object (sym c.as_slice-in-Object.ensures)) c.in_ok-begin_object-in-Object.ensures.ok c.in_ok-write_members-in-Object.ensures.ok

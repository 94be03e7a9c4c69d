use Rattle.std.proofs.Common.{◌∙◌, ap, sym}
use Rattle.cbt_json.specs.declared.tree.Tree.TheVariants as tree
use Rattle.cbt_json.proofs.Alike.{items_apart, members_apart, objects_eq}
use Rattle.cbt_json.proofs.same.+same.Goals as goal

pub same_items-returns-then-items-others : goal.same_items-returns-then-items-others
same_items-returns-then-items-others t c = items_apart c.args.items.now c.args.others.now c.if-items-others.true

pub same_members-returns-then-members-others : goal.same_members-returns-then-members-others
same_members-returns-then-members-others t c = members_apart c.args.members.now c.args.others.now c.if-members-others.true

pub same_tree-returns-in-Object-other : goal.same_tree-returns-in-Object-other
same_tree-returns-in-Object-other t c =
    c.same_members.ensures
    ∙ objects_eq _ _ c.as_slice-in-Object-other.result.now c.as_slice-in-Object-other-2.result.now
    (c.in-Object.is ∙ ap tree.Object (sym c.as_slice-in-Object-other.ensures)) (c.in-Object-other.is ∙ ap tree.Object (sym c.as_slice-in-Object-other-2.ensures))

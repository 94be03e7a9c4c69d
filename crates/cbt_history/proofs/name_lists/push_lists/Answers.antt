use Rattle.std.proofs.Common.{sym, subst}
use Rattle.cbt_json.specs.Rules.{IsJson}
use Rattle.cbt_history.proofs.NameLists.{lists_json}
use Rattle.cbt_history.proofs.name_lists.push_lists.Goals as goal

pub push_tree-requires : goal.push_tree-requires
push_tree-requires c = subst IsJson (sym c.in_ok-tree.ensures) (lists_json c.args.lists.now)

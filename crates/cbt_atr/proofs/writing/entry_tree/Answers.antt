use Rattle.cbt_json.specs.declared.tree.Tree.TheVariants as tree
use Rattle.cbt_atr.proofs.SoundEntries.{entry-is, sound-entry}
use Rattle.cbt_atr.proofs.writing.entry_tree.Goals as goal

pub returns-clause-rules : goal.returns-clause-rules
returns-clause-rules c =
    sound-entry c.args.id c.args.entry.now (tree.Object c.put_last.new.fields) c.whole_tree.ensures.fits
    (entry-is c.args.id c.args.entry.now c.whole_tree.result c.new-fields.result c.put.new.members c.put_lists.new.fields c.put_last.new.fields
    c.new-fields.ensures c.in_ok-put.ensures c.whole_tree.ensures.value c.in_ok-put_lists.ensures c.in_ok-put_last.ensures)

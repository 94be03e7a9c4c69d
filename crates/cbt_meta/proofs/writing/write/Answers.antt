use Rattle.std.proofs.Common.{codes, refl}
use Rattle.cbt_json.specs.declared.tree.Tree.TheVariants as tree
use Rattle.cbt_subdoc.proofs.Inside.{IsSome-json}
use Rattle.cbt_meta.specs.Stagings.{atr_fields, id_fields}
use Rattle.cbt_meta.proofs.Parts.{three, json-whole}
use Rattle.cbt_meta.proofs.writing.write.Goals as goal

pub unwrap-requires : goal.unwrap-requires
unwrap-requires c =
    let stage = c.args.stage.now in
    let op = c.in_ok-op_part.field-0 in
    let whole = three (tree.Object (atr_fields stage.atr)) (tree.Object (id_fields stage.attempt)) op (codes "atr") (codes "id") (codes "op")
    c.new-members.result c.put.new.members c.put-2.new.members c.put-3.new.members c.in_ok-atr_part.field-0 c.in_ok-id_part.field-0 op
    c.new-members.ensures c.in_ok-put.ensures c.in_ok-put-2.ensures c.in_ok-put-3.ensures c.in_ok-atr_part.ensures c.in_ok-id_part.ensures refl in
    IsSome-json c.of.result (tree.Object c.put-3.new.members) c.of.ensures.none
    (json-whole stage.atr stage.attempt op (tree.Object c.put-3.new.members) c.in_ok-op_part.ensures.rules whole)

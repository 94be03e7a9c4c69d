use Rattle.std.proofs.Common.{sym, ap, ◌∙◌, ◌∷◌, ◌++◌, [], map, take}
use Rattle.std.proofs.lemmas.List.{map_more}
use Rattle.cbt_base.specs.Ids.{id_text}
use Rattle.cbt_json.specs.declared.tree.Tree.TheVariants as tree
use Rattle.cbt_history.proofs.name_lists.ids_tree.Goals as goal

pub loop-id-preserved : goal.loop-id-preserved
loop-id-preserved c =
    let so_far = map (λ id. tree.Text (id_text id)) (take c.loop-id.id-index c.args.ids.now) in
    c.in_ok-push.ensures.ok ∙ ap (λ t. c.loop-id.names ++ tree.Text t ∷ []) c.in_ok-text.ensures
    ∙ ap (λ names. names ++ tree.Text (id_text c.id-item.result) ∷ []) c.loop-id.invariant
    ∙ ap (λ id. so_far ++ tree.Text (id_text id) ∷ []) c.id-item.is
    ∙ sym (map_more (λ id. tree.Text (id_text id)) c.args.ids.now c.loop-id.id-index c.id-item.result c.loop-id-test.true)

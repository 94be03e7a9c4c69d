use Rattle.std.proofs.Common.{◌∷◌, ◌++◌, [], take, map, sym, ap, ap₂, ◌∙◌, subst}
use Rattle.std.proofs.lemmas.List.{map_more, take_more, take_all}
use Rattle.std.specs.List.{AllByRecursion}
use Rattle.cbt_lex.proofs.ByRecursion.{all_behind}
use Rattle.cbt_shape.proofs.Sound.{AreSound}
use Rattle.cbt_atr.specs.Entries.{written_entry}
use Rattle.cbt_atr.proofs.SoundEntries.{Fit, one_more, sound-entries}
use Rattle.cbt_atr.proofs.writing.members_of.Goals as goal

pub loop-id-preserved : goal.loop-id-preserved
loop-id-preserved c =
    let entries = c.args.entries.now in
    let i = c.loop-id.id-index in
    let item = c.loop-id-item.result in
    let entry = c.in_ok-entry.entry in
    let low = c.loop-id-test.true in
    record {
      all = c.in_ok-push.ensures.ok
          ∙ ap₂ (λ ms m. ms ++ m ∷ []) c.loop-id.invariant.all (ap₂ (λ n t. (n, t)) c.in_ok-name.ensures.name c.in_ok-entry.ensures.value ∙ ap written_entry c.loop-id-item.is)
          ∙ sym (map_more written_entry entries i item low);
      sound = subst (AreSound 3) (sym c.in_ok-push.ensures.ok) (one_more 3 c.loop-id.members c.in_ok-name.name entry c.loop-id.invariant.sound c.in_ok-entry.ensures.rules);
      fit = subst (AllByRecursion Fit) (sym (take_more entries i item low))
          (all_behind Fit (take i entries) _ c.loop-id.invariant.fit (subst Fit c.loop-id-item.is c.name_of.ensures.fits, tt));
    }

pub returns-clause-rules : goal.returns-clause-rules
returns-clause-rules c =
    let entries = c.args.entries.now in
    let all = take_all c.loop-id.id-index entries c.loop-id-test.false in
    sound-entries entries c.loop-id.members (subst (AllByRecursion Fit) all c.loop-id.invariant.fit) c.requires (c.loop-id.invariant.all ∙ ap (map written_entry) all) c.loop-id.invariant.sound

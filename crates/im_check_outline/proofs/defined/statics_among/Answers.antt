use Rattle.std.proofs.Common.{[], map, drop, ◌+◌, ap, sym, ◌∙◌}
use Rattle.im_check_name_map.specs.im_rules.Outline as o
use Rattle.im_check_outline.specs.Walked.{outlined_of}
use Rattle.im_check_outline.proofs.Walks.{objects-told, next}
use Rattle.im_check_outline.proofs.defined.statics_among.Goals as goal

pub loop-item-preserved : goal.loop-item-preserved
loop-item-preserved c =
    let items = c.args.items.now in
    let all = map outlined_of items in
    let told = objects-told all c.in_ok-defined.defined c.in_ok-defined.ensures in
    let step = c.in_ok-done.ensures all (map outlined_of (drop (c.loop-item.item-index + 1) items)) told in
    let here = next items c.loop-item.item-index c.item-item.result c.loop-item-test.true c.item-item.is in
    sym step ∙ ap (λ rest. o.objects_among all c.loop-item.done (map outlined_of rest)) (sym here) ∙ c.loop-item.invariant

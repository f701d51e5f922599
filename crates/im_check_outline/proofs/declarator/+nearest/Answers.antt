use Rattle.std.proofs.Common.{ap, sym, ◌∙◌}
use Rattle.im_ctree.specs.Shape.{core_of}
use Rattle.im_ctree.specs.declared.declarator.Declarator.{out-Declarator}
use Rattle.im_check_name_map.specs.im_rules.Outline as o
use Rattle.im_check_outline.specs.Walked.{nearest_of}
use Rattle.im_check_outline.proofs.Shapes.{nearest_shape}
use Rattle.im_check_outline.proofs.declarator.+nearest.Goals as goal

pub nearest-returns : goal.nearest-returns
nearest-returns t c =
    let d = c.args.d.now in
    let round = rw (c.deref.ensures.value, c.deref-2.ensures.value) at c.round_core.ensures in
    c.inner_or.ensures
    ∙ ap (λ a. o.inner_or a (nearest_of c.round_core.result)) c.nearest_in.ensures
    ∙ ap (o.inner_or (o.nearest_in (core_of (out-Declarator d).core))) round
    ∙ sym (nearest_shape d)

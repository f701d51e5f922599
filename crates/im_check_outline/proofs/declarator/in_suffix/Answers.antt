use Rattle.std.proofs.Common.{ap, sym, ◌∙◌}
use Rattle.im_check_name_map.specs.im_rules.Outline as o
use Rattle.im_ctree_parts.specs.Lists.{parameters_from, with_suffix}
use Rattle.im_ctree_parts.proofs.Shapes.{function_suffix}
use Rattle.im_check_outline.proofs.declarator.in_suffix.Goals as goal

pub returns-in-Function : goal.returns-in-Function
returns-in-Function c = λ rest. λ bare.
    let suffix = c.args.suffix.now in
    ap (λ ps. o.parameters (parameters_from ps)) c.deref.ensures.value
    ∙ sym (ap (λ s. o.suffix_or s bare) (ap (λ k. with_suffix suffix.at k rest) c.in-Function.is ∙ function_suffix suffix.at c.in-Function.parameters rest))

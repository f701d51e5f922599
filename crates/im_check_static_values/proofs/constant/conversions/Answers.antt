use Rattle.std.proofs.Common.{ap, sym, ◌∙◌}
use Rattle.im_typed.specs.ProgramOf.{expr_of}
use Rattle.im_check_static_values.specs.Chains.{converted}
use Rattle.im_check_static_values.proofs.Conversions.{one_more}
use Rattle.im_check_static_values.proofs.constant.conversions.Goals as goal

pub loop-kind-preserved : goal.loop-kind-preserved
loop-kind-preserved c = λ types.
    let more = one_more c.pop.new.self.items c.loop-kind.kinds.items c.in-Some.kind (expr_of types c.loop-kind.whole.tree) c.in-Some.ensures.items in
    ap (converted c.pop.new.self.items) (c.in_ok-whole.ensures types) ∙ sym more ∙ c.loop-kind.invariant types

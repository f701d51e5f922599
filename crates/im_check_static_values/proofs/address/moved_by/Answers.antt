use Rattle.std.proofs.Common.{ap, sym, ◌∙◌}
use Rattle.std.specs.Option.{option_map}
use Rattle.im_check_static_values.specs.Spots.{spot_in, stepped}
use Rattle.im_check_static_values.proofs.Stepping.{one_more}
use Rattle.im_check_static_values.proofs.address.moved_by.Goals as goal

pub loop-step-preserved : goal.loop-step-preserved
loop-step-preserved g c =
    let size = g.S.Sizes.size c.args.sizes.now in
    let more = one_more size c.pop.new.self.items c.loop-step.steps.items c.in-Some.step (option_map spot_in c.loop-step.spot) c.in-Some.ensures.items in
    ap (stepped size c.pop.new.self.items) c.in_ok-spot.ensures ∙ sym more ∙ c.loop-step.invariant

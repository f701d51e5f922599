use Rattle.std.proofs.Common.{◌≡◌, length}
use Rattle.std.specs.Option.{option_map}
use Rattle.im_check_static_values.specs.Spots.{spot_in, stepped}
use Rattle.im_check_static_values.proofs.address.moved_by.Given as goal

abbrev pub invariant-loop-step : goal.invariant-loop-step
invariant-loop-step g l =
    stepped (g.S.Sizes.size l.sizes) l.steps.items (option_map spot_in l.spot) ≡ stepped (g.S.Sizes.size l.sizes) l.initial.steps.items (option_map spot_in l.fn.from)

abbrev pub decreases-loop-step : goal.decreases-loop-step
decreases-loop-step g l = length l.steps.items

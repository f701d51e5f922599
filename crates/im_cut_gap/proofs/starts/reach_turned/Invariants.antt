use Rattle.std.proofs.Common.{take, Some}
use Rattle.im_cut_gap.specs.Starts.{RaisedWhere, is_turned, turn_cost}
use Rattle.im_cut_gap.proofs.starts.reach_turned.Given as goal

-- costs are raised behind the loop edges so far
abbrev pub invariant-loop-block : goal.invariant-loop-block
invariant-loop-block l = RaisedWhere (is_turned (take l.block-index l.blocks)) (Some turn_cost) l.initial.costs.items l.costs.items

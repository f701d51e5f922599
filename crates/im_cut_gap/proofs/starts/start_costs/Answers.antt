use Rattle.std.proofs.Common.{List, Some, subst}
use Rattle.im_block.specs.declared.code.Block.{Block}
use Rattle.im_cut_gap.specs.Starts.{RaisedWhere, is_turned, turn_cost}
use Rattle.im_cut_gap.proofs.Tables.{are_starts}
use Rattle.im_cut_gap.proofs.starts.start_costs.Goals as goal

pub returns-clause-starts : goal.returns-clause-starts
returns-clause-starts c =
    let f = c.args.function.now in
    are_starts f.entry f.blocks.items c.in_ok-costs.costs.items c.reach.new.costs.items c.reach_turned.new.costs.items c.in_ok-costs.ensures.blank c.reach.ensures.raises
    (subst (λ (xs : List Block). RaisedWhere (is_turned xs) (Some turn_cost) c.reach.new.costs.items c.reach_turned.new.costs.items) c.deref.ensures.value c.reach_turned.ensures.raises)

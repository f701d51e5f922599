use Rattle.std.proofs.Common.{rules, slice_index}
use Rattle.im_gap.specs.Walks.{IsHeight}
use Rattle.im_gap.specs.Graph.{successors_of, weight_of}
use Rattle.im_gap.proofs.Several.{greatest_more, start_in}
use Rattle.im_gap.proofs.starts.longest.Goals as goal

pub returns-in-None-clause-endless : goal.returns-in-None-clause-endless
returns-in-None-clause-endless c = λ q. (slice_index c.args.starts.now c.loop-start.start-index, start_in c.args.starts.now c.loop-start.start-index c.loop-start-test.true, c.in_ok-height_from.ensures.endless c.in-None.is)

pub loop-start-preserved : goal.loop-start-preserved
loop-start-preserved c =
    let h : IsHeight (successors_of c.args.graph.now) (weight_of c.args.graph.now) (slice_index c.args.starts.now c.loop-start.start-index) c.in-Some.height = search rules in (
      search rules,
      greatest_more _ _ c.args.starts.now c.loop-start.start-index _ c.in-Some.height _ c.loop-start.invariant.1 c.loop-start-test.true h c.higher-best.ensures.left c.higher-best.ensures.right c.higher-best.ensures.one,
      search rules,
      search rules,
    )

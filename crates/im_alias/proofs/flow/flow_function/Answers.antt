use Rattle.std.proofs.Common.{◌≡◌, ◌+◌, ◌<◌, length, take, Some, sym, ap, subst, arith}
use Rattle.std.specs.Prelude.{slice_get}
use Rattle.im_block.specs.Wellformed.{accesses_of_blocks}
use Rattle.im_alias.specs.PointsAt.{PointsAt, Fit}
use Rattle.im_alias.specs.Scan.{FlowedBlocks}
use Rattle.im_alias.proofs.Lists.{got}
use Rattle.im_alias.proofs.Turns.{blocks_end}
use Rattle.im_alias.proofs.Units.{part_after, blocks_full}
use Rattle.im_alias.proofs.Whole.{blocks_next}
use Rattle.im_alias.proofs.flow.flow_function.Goals as goal

pub flow_block-requires-clause-there : goal.flow_block-requires-clause-there
flow_block-requires-clause-there c =
    let xs = c.args.function.now.blocks.items in
    let k = c.loop-block.block-index in
    let within : k < length c.deref-block-items.result.now = omega arith in
    record { function_there = c.requires.there; b = k; block_there = got xs c.deref-block-items.result.now k c.block-item.result c.deref-block-items.ensures.value within c.block-item.is }

pub loop-block-preserved : goal.loop-block-preserved
loop-block-preserved c =
    let l = c.loop-block in
    let u = c.args.unit.now in
    let i = c.args.number in
    let f = c.args.function.now in
    let xs = f.blocks.items in
    let k = l.block-index in
    let block = c.block-item.result in
    let more = c.in_ok-more.more in
    let t = c.flow_block.new.table in
    let h = c.in_ok-more.ensures in
    let within : k < length c.deref-block-items.result.now = omega arith in
    let next : k < k + 1 = omega arith in
    let there : slice_get xs k ≡ Some block = got xs c.deref-block-items.result.now k block c.deref-block-items.ensures.value within c.block-item.is in
    let P = λ (p : PointsAt). Fit p u.functions.items (p.register i) i block.lines.items block.exit in
    record {
      part = part_after u P l.table t more c.requires.code l.invariant.part h.flowed (blocks_full u c.requires.code (length l.table.objects.items) l.invariant.part.shape.objects (k + 1) i f c.requires.there k block next there);
      flowed = subst (λ e. FlowedBlocks (k + 1) u i xs (accesses_of_blocks (take (k + 1) xs)) c.args.table.now t c.args.found.now c.flow_block.new.found e) (sym c.either-changed.ensures)
          (blocks_next u i xs k block c.args.table.now l.table t c.args.found.now l.found c.flow_block.new.found l.changed more there l.invariant.flowed h);
    }

pub returns : goal.returns
returns c =
    let l = c.loop-block in
    let u = c.args.unit.now in
    let xs = c.args.function.now.blocks.items in
    let same : length c.deref-block-items.result.now ≡ length xs = ap length c.deref-block-items.ensures.value in
    let whole : l.block-index ≡ length xs = omega arith in
    blocks_end u c.args.number l.block-index xs c.args.table.now l.table c.args.found.now l.found l.changed whole l.invariant.flowed

use Rattle.std.proofs.Common.{◌≡◌, ℕ, ◌+◌, ◌*◌, ◌<◌, List, suc, length, arith, subst, get_or, take, take_all, ap, ◌∙◌}
use Rattle.std.specs.Prelude.{slice_set}
use Rattle.im_block.specs.declared.code.Block.{Block}
use Rattle.im_alloc_relation.specs.Homes.{Home, numbers_kept, needed}
use Rattle.im_alloc_relation.specs.Placing.{PlacedBlock}
use Rattle.im_alloc_laws.specs.Numbered.{numbers_of_blocks}
use Rattle.im_alloc_intervals.specs.Homes.{home_at}
use Rattle.im_alloc.specs.Places.{FitsBlock}
use Rattle.im_alloc.proofs.Steps.{item_all, BlocksMore, blocks_more, blocks_done}
use Rattle.im_alloc.proofs.placing.place_blocks.Goals as goal

pub place_block-requires : goal.place_block-requires
place_block-requires c =
    let l = c.loop-block in
    item_all FitsBlock c.args.blocks.now l.blocks l.block-index c.block-item.result (omega arith) l.invariant.left c.requires

pub loop-block-preserved : goal.loop-block-preserved
loop-block-preserved c =
    let l = c.loop-block in
    let h : ℕ → Home = home_at c.args.homes.now in
    let old : List Block = c.args.blocks.now in
    let within : l.block-index < length l.blocks = omega arith in
    let k = c.in_ok-next.ensures in
    let was : Block = get_or l.blocks l.block-index c.block-item.result in
    let one = subst (λ n. PlacedBlock h n was c.place_block.new.block) l.invariant.next_is k.placed in
    let m = blocks_more h c.args.number l.block-index old l.blocks c.block-item.result c.place_block.new.block within l.invariant.done l.invariant.left one in
    let count : ℕ = numbers_of_blocks (take l.block-index old) + numbers_kept * suc (length (needed was.exit was.lines.items)) in
    let next : suc l.block-index ≡ l.block-index + 1 = omega arith in
    let n = subst (λ j. BlocksMore h c.args.number j count old (slice_set l.blocks l.block-index c.place_block.new.block)) next m in
    let counted = n.counted in
    let before = l.invariant.next_is in
    let after = k.next_is in
    record { done = n.done; left = n.left; next_is = omega arith }

pub returns : goal.returns
returns c =
    let l = c.loop-block in
    let h : ℕ → Home = home_at c.args.homes.now in
    let old : List Block = c.args.blocks.now in
    let whole = take_all l.block-index old c.loop-block-test.false in
    record {
      placed = blocks_done h c.args.number l.block-index old l.blocks (omega arith) l.invariant.done l.invariant.left;
      next_is = l.invariant.next_is ∙ ap (λ (q : List Block). c.args.number + numbers_of_blocks q) whole;
    }

use Rattle.std.proofs.Common.{◌≡◌, ◌+◌, ◌<◌, ℕ, List, Option, suc, length, arith, subst, refl, get_or}
use Rattle.std.specs.Prelude.{slice_set}
use Rattle.im_promote.specs.Homes.{homes_from, RewritesBlock}
use Rattle.im_block.proofs.Unitwise.{ZipTo, zip_more}
use Rattle.im_promote.proofs.rewrite.rewrite.Goals as goal

pub loop-block-preserved : goal.loop-block-preserved
loop-block-preserved c =
    let l = c.loop-block in
    let t = c.loop-block-test.true in
    let old = c.args.function.now in
    let within : l.block-index < length l.block-items = omega arith in
    let one : RewritesBlock (homes_from old.first_object c.args.homes.now.of.items) (get_or l.block-items l.block-index c.block-item.result) c.rewrite_block.new.block =
    subst (λ (z : List (Option ℕ)). RewritesBlock (homes_from old.first_object z) (get_or l.block-items l.block-index c.block-item.result) c.rewrite_block.new.block) c.deref.ensures.value c.rewrite_block.ensures in
    let m = zip_more (RewritesBlock (homes_from old.first_object c.args.homes.now.of.items)) l.block-index old.blocks.items l.block-items c.block-item.result c.rewrite_block.new.block within l.invariant.blocks one in
    let next : suc l.block-index ≡ l.block-index + 1 = omega arith in
    record {
      first_is = refl;
      blocks = subst (λ j. ZipTo (RewritesBlock (homes_from old.first_object c.args.homes.now.of.items)) j old.blocks.items (slice_set l.block-items l.block-index c.rewrite_block.new.block)) next m;
    }

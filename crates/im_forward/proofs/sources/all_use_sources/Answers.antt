use Rattle.std.proofs.Common.{◌≡◌, ◌+◌, ◌<◌, suc, length, refl, arith, subst, sym, get_or}
use Rattle.std.specs.Prelude.{slice_set}
use Rattle.std.specs.List.{AllZip}
use Rattle.std.proofs.lemmas.List.{with_items_is}
use Rattle.im_alloc_placed.specs.Placeable.{first_free}
use Rattle.im_forward.specs.Known.{UsesSources}
use Rattle.im_block.proofs.Unitwise.{ZipTo, zip_more, zip_all}
use Rattle.im_forward.proofs.sources.all_use_sources.Goals as goal

pub loop-block-preserved : goal.loop-block-preserved
loop-block-preserved c =
    let l = c.loop-block in
    let t = c.loop-block-test.true in
    let old = c.args.function.now in
    let within : l.block-index < length l.block-items = omega arith in
    let one : UsesSources (first_free old) (get_or l.block-items l.block-index c.block-item.result) c.use_sources.new.block =
    subst (λ n. UsesSources n (get_or l.block-items l.block-index c.block-item.result) c.use_sources.new.block) l.invariant.free_is c.in_ok-use_sources.ensures in
    let m = zip_more (UsesSources (first_free old)) l.block-index old.blocks.items l.block-items c.block-item.result c.use_sources.new.block within l.invariant.blocks one in
    let next : suc l.block-index ≡ l.block-index + 1 = omega arith in
    record {
      free_is = l.invariant.free_is;
      blocks = subst (λ j. ZipTo (UsesSources (first_free old)) j old.blocks.items (slice_set l.block-items l.block-index c.use_sources.new.block)) next m;
    }

pub returns : goal.returns
returns c =
    let l = c.loop-block in
    let old = c.args.function.now in
    let whole : length l.block-items ≡ old.blocks.len = omega arith in
    let items = with_items_is old.blocks l.block-items whole in
    let pairs = zip_all (UsesSources (first_free old)) l.block-index old.blocks.items l.block-items (omega arith) l.invariant.blocks in
    record { blocks = subst (λ z. AllZip (UsesSources (first_free old)) old.blocks.items z) (sym items) pairs; rest = refl }

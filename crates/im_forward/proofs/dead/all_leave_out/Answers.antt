use Rattle.std.proofs.Common.{◌≡◌, ◌+◌, ◌<◌, suc, length, refl, arith, subst, sym, get_or}
use Rattle.std.specs.Prelude.{slice_set}
use Rattle.std.specs.List.{AllZip}
use Rattle.std.proofs.lemmas.List.{with_items_is}
use Rattle.im_block.specs.declared.code.Block.{Block}
use Rattle.im_block.specs.Wellformed.{ExitThere}
use Rattle.im_block_live.specs.Words.{groups_have}
use Rattle.im_forward.specs.Known.{LeavesOut}
use Rattle.im_block.proofs.Unitwise.{ZipTo, item_all, zip_more, zip_all, got}
use Rattle.im_forward.proofs.dead.all_leave_out.Goals as goal

pub leave_out_groups-requires-clause-few : goal.leave_out_groups-requires-clause-few
leave_out_groups-requires-clause-few c = (let few = c.requires.words.few in let small = c.ranges.registers in omega arith)

pub leave_out_groups-requires-clause-there : goal.leave_out_groups-requires-clause-there
leave_out_groups-requires-clause-there c k d lt =
    let l = c.loop-block in
    let old = c.args.function.now.blocks.items in
    let groups = c.args.groups.now in
    let exit = (get_or l.block-items l.block-index c.block-item.result).exit in
    let one : ExitThere (length old) exit = item_all (λ (b : Block). ExitThere (length old) b.exit) old l.block-items l.block-index c.block-item.result (omega arith) l.invariant.left c.requires.linked in
    subst (λ n. ExitThere n exit) (sym (c.requires.words.each k (get_or groups k d) (got groups k d lt))) one

pub loop-block-preserved : goal.loop-block-preserved
loop-block-preserved c =
    let l = c.loop-block in
    let t = c.loop-block-test.true in
    let old = c.args.function.now in
    let live = groups_have c.args.groups.now in
    let within : l.block-index < length l.block-items = omega arith in
    let m = zip_more (LeavesOut live) l.block-index old.blocks.items l.block-items c.block-item.result c.leave_out_groups.new.block within l.invariant c.in_ok-leave_out_groups.ensures in
    let next : suc l.block-index ≡ l.block-index + 1 = omega arith in
    subst (λ j. ZipTo (LeavesOut live) j old.blocks.items (slice_set l.block-items l.block-index c.leave_out_groups.new.block)) next m

pub returns : goal.returns
returns c =
    let l = c.loop-block in
    let old = c.args.function.now in
    let live = groups_have c.args.groups.now in
    let whole : length l.block-items ≡ old.blocks.len = omega arith in
    let items = with_items_is old.blocks l.block-items whole in
    let pairs = zip_all (LeavesOut live) l.block-index old.blocks.items l.block-items (omega arith) l.invariant in
    record { blocks = subst (λ z. AllZip (LeavesOut live) old.blocks.items z) (sym items) pairs; rest = refl }

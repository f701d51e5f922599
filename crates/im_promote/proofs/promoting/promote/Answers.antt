use Rattle.std.proofs.Common.{◌≡◌, ◌+◌, ◌<◌, suc, length, refl, arith, subst, sym}
use Rattle.std.specs.Prelude.{slice_set}
use Rattle.std.specs.List.{AllZip}
use Rattle.std.proofs.lemmas.List.{with_items_is}
use Rattle.im_promote.specs.Homes.{IsReady, IsPromotedFunction}
use Rattle.im_block.proofs.Unitwise.{ZipTo, item_all, zip_more, zip_all}
use Rattle.im_promote.proofs.Units.{unit_ready, unit_promoted}
use Rattle.im_promote.proofs.promoting.promote.Goals as goal

pub promote_function-requires : goal.promote_function-requires
promote_function-requires c =
    let l = c.loop-function in
    item_all IsReady c.args.unit.functions.items l.function-items l.function-index c.function-item.result (omega arith) l.invariant.left (unit_ready c.args.unit c.requires.well_formed c.requires.placeable)

pub loop-function-preserved : goal.loop-function-preserved
loop-function-preserved c =
    let l = c.loop-function in
    let within : l.function-index < length l.function-items = omega arith in
    let m = zip_more IsPromotedFunction l.function-index c.args.unit.functions.items l.function-items c.function-item.result c.promote_function.new.function within l.invariant c.in_ok-promote_function.ensures in
    let next : suc l.function-index ≡ l.function-index + 1 = omega arith in
    subst (λ j. ZipTo IsPromotedFunction j c.args.unit.functions.items (slice_set l.function-items l.function-index c.promote_function.new.function)) next m

pub returns : goal.returns
returns c =
    let l = c.loop-function in
    let old = c.args.unit.functions.items in
    let whole : length l.function-items ≡ c.args.unit.functions.len = omega arith in
    let items = with_items_is c.args.unit.functions l.function-items whole in
    let pairs = zip_all IsPromotedFunction l.function-index old l.function-items (omega arith) l.invariant in
    unit_promoted c.args.unit _ c.requires.well_formed c.requires.placeable refl (subst (λ z. AllZip IsPromotedFunction old z) (sym items) pairs)

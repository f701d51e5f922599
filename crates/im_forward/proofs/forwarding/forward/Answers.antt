use Rattle.std.proofs.Common.{◌≡◌, ◌+◌, ◌<◌, suc, length, refl, arith, subst, sym}
use Rattle.std.specs.Prelude.{slice_set}
use Rattle.std.specs.List.{AllZip}
use Rattle.std.proofs.lemmas.List.{with_items_is}
use Rattle.im_forward.specs.Forward.{ForwardsFunction}
use Rattle.im_forward.specs.Known.{IsReady}
use Rattle.im_block.proofs.Unitwise.{ZipTo, item_all, zip_more, zip_all}
use Rattle.im_forward.proofs.Functions.{unit_ready}
use Rattle.im_forward.proofs.forwarding.forward.Goals as goal

pub forward_function-requires : goal.forward_function-requires
forward_function-requires c =
    let l = c.loop-function in
    item_all IsReady c.args.unit.functions.items l.function-items l.function-index c.function-item.result (omega arith) l.invariant.left (unit_ready c.args.unit c.requires.well_formed c.requires.placeable)

pub loop-function-preserved : goal.loop-function-preserved
loop-function-preserved c =
    let l = c.loop-function in
    let within : l.function-index < length l.function-items = omega arith in
    let m = zip_more ForwardsFunction l.function-index c.args.unit.functions.items l.function-items c.function-item.result c.forward_function.new.function within l.invariant c.in_ok-forward_function.ensures in
    let next : suc l.function-index ≡ l.function-index + 1 = omega arith in
    subst (λ j. ZipTo ForwardsFunction j c.args.unit.functions.items (slice_set l.function-items l.function-index c.forward_function.new.function)) next m

pub returns : goal.returns
returns c =
    let l = c.loop-function in
    let old = c.args.unit.functions.items in
    let whole : length l.function-items ≡ c.args.unit.functions.len = omega arith in
    let items = with_items_is c.args.unit.functions l.function-items whole in
    let pairs = zip_all ForwardsFunction l.function-index old l.function-items (omega arith) l.invariant in
    record { functions = subst (λ z. AllZip ForwardsFunction old z) (sym items) pairs; rest = refl }

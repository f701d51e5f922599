use Rattle.std.proofs.Common.{◌≡◌, ◌+◌, ◌<◌, suc, length, refl, arith, subst, sym}
use Rattle.std.specs.Prelude.{slice_set}
use Rattle.std.specs.List.{AllZip}
use Rattle.std.proofs.lemmas.List.{with_items_is}
use Rattle.im_block.proofs.Unitwise.{ZipTo, zip_more, zip_all}
use Rattle.im_force.specs.Force.{ForcesFunction}
use Rattle.im_force.proofs.cuts.force.Goals as goal

pub loop-function-preserved : goal.loop-function-preserved
loop-function-preserved c =
    let l = c.loop-function in
    let within : l.function-index < length l.function-items = omega arith in
    let m = zip_more ForcesFunction l.function-index c.args.unit.functions.items l.function-items c.function-item.result c.force_function.new.function within l.invariant c.in_ok-force_function.ensures in
    let next : suc l.function-index ≡ l.function-index + 1 = omega arith in
    subst (λ j. ZipTo ForcesFunction j c.args.unit.functions.items (slice_set l.function-items l.function-index c.force_function.new.function)) next m

pub returns : goal.returns
returns c =
    let l = c.loop-function in
    let old = c.args.unit.functions.items in
    let whole : length l.function-items ≡ c.args.unit.functions.len = omega arith in
    let items = with_items_is c.args.unit.functions l.function-items whole in
    let pairs = zip_all ForcesFunction l.function-index old l.function-items (omega arith) l.invariant in
    record { functions = subst (λ z. AllZip ForcesFunction old z) (sym items) pairs; rest = refl }

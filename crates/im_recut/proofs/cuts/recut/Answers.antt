use Rattle.std.proofs.Common.{◌≡◌, ◌+◌, ◌<◌, suc, length, refl, arith, subst, sym}
use Rattle.std.specs.Prelude.{slice_set}
use Rattle.std.specs.List.{AllZip}
use Rattle.std.proofs.lemmas.List.{with_items_is}
use Rattle.im_block.proofs.Unitwise.{ZipTo, left_at, zip_more, zip_all}
use Rattle.im_recut.specs.Recut.{RecutsFunction}
use Rattle.im_recut.proofs.cuts.recut.Goals as goal

pub recut_function-requires-clause-ordered : goal.recut_function-requires-clause-ordered
recut_function-requires-clause-ordered c =
    let l = c.loop-function in
    let within : l.function-index < length l.function-items = omega arith in
    c.requires.ordered.each l.function-index _ (left_at c.args.unit.functions.items l.function-items l.function-index c.function-item.result within l.invariant.left)

pub recut_function-requires-clause-turns : goal.recut_function-requires-clause-turns
recut_function-requires-clause-turns c =
    let l = c.loop-function in
    let within : l.function-index < length l.function-items = omega arith in
    (c.requires.forced.each l.function-index _ (left_at c.args.unit.functions.items l.function-items l.function-index c.function-item.result within l.invariant.left)).turns

pub loop-function-preserved : goal.loop-function-preserved
loop-function-preserved c =
    let l = c.loop-function in
    let within : l.function-index < length l.function-items = omega arith in
    let m = zip_more (RecutsFunction c.args.tags.now c.args.max_gap) l.function-index c.args.unit.functions.items l.function-items c.function-item.result c.recut_function.new.function within l.invariant c.in_ok-recut_function.ensures in
    let next : suc l.function-index ≡ l.function-index + 1 = omega arith in
    subst (λ j. ZipTo (RecutsFunction c.args.tags.now c.args.max_gap) j c.args.unit.functions.items (slice_set l.function-items l.function-index c.recut_function.new.function)) next m

pub returns : goal.returns
returns c =
    let l = c.loop-function in
    let old = c.args.unit.functions.items in
    let whole : length l.function-items ≡ c.args.unit.functions.len = omega arith in
    let items = with_items_is c.args.unit.functions l.function-items whole in
    let pairs = zip_all (RecutsFunction c.args.tags.now c.args.max_gap) l.function-index old l.function-items (omega arith) l.invariant in
    record { limit = c.requires.limit; functions = subst (λ z. AllZip (RecutsFunction c.args.tags.now c.args.max_gap) old z) (sym items) pairs; rest = refl }

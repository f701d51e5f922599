use Rattle.std.proofs.Common.{◌≡◌, ℕ, ◌+◌, ◌<◌, suc, length, refl, arith, subst, get_or, take}
use Rattle.std.specs.Prelude.{slice_set}
use Rattle.std.proofs.lemmas.List.{with_items_is}
use Rattle.im_alloc_laws.specs.Numbered.{numbers_of_blocks}
use Rattle.im_alloc.specs.Numbers.{past_functions}
use Rattle.im_alloc_intervals.specs.Homes.{IsAble}
use Rattle.im_alloc.specs.Places.{PlacesFunction, numbers_of}
use Rattle.im_alloc.proofs.Steps.{item_all, FunctionsMore, functions_more}
use Rattle.im_alloc.proofs.Whole.{all_able, all_of, well_placed, leaves}
use Rattle.im_alloc.proofs.placing.place.Goals as goal

pub place_function-requires : goal.place_function-requires
place_function-requires c =
    let l = c.loop-function in
    item_all IsAble c.args.unit.functions.items l.function-items l.function-index c.function-item.result (omega arith) l.invariant.left (all_able c.args.unit c.requires.well_formed c.requires.placeable)

pub loop-function-preserved : goal.loop-function-preserved
loop-function-preserved c =
    let l = c.loop-function in
    let old = c.args.unit.functions.items in
    let first : ℕ = past_functions 0 old in
    let within : l.function-index < length l.function-items = omega arith in
    let k = c.in_ok-number-2.ensures in
    let one = subst (λ n. PlacesFunction n c.in_ok-number-2.number (get_or l.function-items l.function-index c.function-item.result) c.place_function.new.function) l.invariant.number_is k in
    let m = functions_more first l.function-index c.in_ok-number-2.number old l.function-items c.function-item.result c.place_function.new.function within l.invariant.done l.invariant.left one in
    let count : ℕ = numbers_of (take l.function-index old) + numbers_of_blocks (get_or l.function-items l.function-index c.function-item.result).blocks.items in
    let next : suc l.function-index ≡ l.function-index + 1 = omega arith in
    let n = subst (λ j. FunctionsMore first j count old (slice_set l.function-items l.function-index c.place_function.new.function)) next m in
    let counted = n.counted in
    let before = l.invariant.number_is in
    let after = k.next_is in
    record { done = n.done; left = n.left; number_is = omega arith }

pub returns-clause-placed : goal.returns-clause-placed
returns-clause-placed c =
    let l = c.loop-function in
    let whole : length l.function-items ≡ c.args.unit.functions.len = omega arith in
    let items = with_items_is c.args.unit.functions l.function-items whole in
    well_placed c.args.unit _ c.requires.placeable (all_of c.args.unit _ l.function-index l.function-items refl items (omega arith) l.invariant.done l.invariant.left)

pub returns-clause-leaf : goal.returns-clause-leaf
returns-clause-leaf c =
    let l = c.loop-function in
    let whole : length l.function-items ≡ c.args.unit.functions.len = omega arith in
    let items = with_items_is c.args.unit.functions l.function-items whole in
    leaves c.args.unit _ (all_of c.args.unit _ l.function-index l.function-items refl items (omega arith) l.invariant.done l.invariant.left)

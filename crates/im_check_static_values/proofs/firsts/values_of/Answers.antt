use Rattle.std.proofs.Common.{arith, ◌≤◌, length, nat_eq}
use Rattle.std.specs.Option.{option_map}
use Rattle.std.specs.HashMap.{get}
use Rattle.im_ctype.specs.declared.cell.Cell.{Cell}
use Rattle.im_typed.specs.ProgramOf.{first_of}
use Rattle.im_check_items.specs.im_rules.StaticValues.{value_or, zero_of}
use Rattle.im_check_static_values.proofs.Walks.{one_more, all_done}
use Rattle.im_check_static_values.proofs.firsts.values_of.Goals as goal

pub loop-cell-preserved : goal.loop-cell-preserved
loop-cell-preserved c = λ types.
    let l = c.loop-cell in
    one_more (first_of types) (λ (x : Cell). value_or (zero_of x.kind) (option_map (first_of types) (get nat_eq c.args.found.now x.offset))) l.values.items c.push.new.self.items c.value_of.result c.args.cells.now l.cell-index _ c.loop-cell-test.true c.in_ok-push.ensures.items (c.value_of.ensures types) (l.invariant types)

pub returns : goal.returns
returns c = λ types.
    let l = c.loop-cell in
    let past : length c.args.cells.now ≤ l.cell-index = omega arith in
    all_done (first_of types) (λ (x : Cell). value_or (zero_of x.kind) (option_map (first_of types) (get nat_eq c.args.found.now x.offset))) l.values.items c.args.cells.now l.cell-index past (l.invariant types)

use Rattle.std.proofs.Common.{arith}
use Rattle.im_ctype.specs.Layout.{layouts, struct_in}
use Rattle.im_ctype.specs.Table.{structs_of, types_of, members_in}
use Rattle.im_ctype.proofs.Building.{length-built}
use Rattle.im_eval_machine.proofs.Rows.{length-mapped}
use Rattle.im_eval_machine.proofs.StructTable.{found-cells}
use Rattle.im_eval_machine.proofs.layouts.all_struct_cells.Goals as goal

pub returns : goal.returns
returns c =
    let l = c.loop-number in
    let types = c.args.types.now in
    let many = length-built struct_in (structs_of types) in
    let rows = length-mapped (members_in (types_of types)) types.structs in
    let so_far = l.invariant.0 in
    let end = c.loop-number.auto in
    let done = c.loop-number-test.false in
    let count = c.struct_count-number-end.ensures in
    found-cells (layouts (structs_of types)) l.structs.items (omega arith) l.invariant.1

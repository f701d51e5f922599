use Rattle.std.proofs.Common.{◌≤◌, ap, refl, arith}
use Rattle.std.proofs.Math.Nat.{mul-le-mul_left}
use Rattle.im_ctype.specs.declared.extent.Extent.{Extent}
use Rattle.im_ctype.specs.Table.{structs_of, type_at, layout_of}
use Rattle.im_ctype.proofs.Places.{few-cells, length-repeated}
use Rattle.im_ctype.proofs.table.TypeTable.array.Goals as goal

pub overflow_mul-extent-2 : goal.overflow_mul-extent-2
overflow_mul-extent-2 c =
    let e = ap (λ (x : Extent). x.cells) c.extent-part.ensures in
    let few = few-cells (structs_of c.args.self.now) (type_at c.args.self.now c.args.element) in
    let le : c.extent-part.result.cells ≤ (layout_of c.args.self.now c.args.element).size = omega (arith, e, few) in
    omega (arith, mul-le-mul_left c.args.count le)

pub intern-requires-clause-extent_is : goal.intern-requires-clause-extent_is
intern-requires-clause-extent_is c =
    let l = length-repeated 0 c.args.count (layout_of c.args.self.now c.args.element) in
    rw (l, c.extent-part.ensures) refl

use Rattle.std.proofs.Common.{◌≡◌, ◌+◌, ◌-◌, arith}
use Rattle.im_ctype.specs.Layout.{Layout, repeated}
use Rattle.im_check_static_values.proofs.Elements.{element_more}
use Rattle.im_check_static_values.proofs.cells.repeated.Goals as goal

pub loop-element-preserved : goal.loop-element-preserved
loop-element-preserved c = λ align.
    let l = c.loop-element in
    let e : Layout = record { size = c.args.bytes; align = align; cells = c.args.part.now } in
    let n = c.args.count - l._element in
    let m = c.args.count - (l._element + 1) in
    let h : n ≡ m + 1 = omega arith in
    element_more l.done.items c.push_moved.new.done.items l.at c.in_ok-at.at n m e (repeated 0 c.args.count e) h c.in_ok-at.ensures c.in_ok-push_moved.ensures (l.invariant align)

use Rattle.std.proofs.Common.{◌≡◌, ℕ, ◌-◌, ◌++◌}
use Rattle.im_ctype.specs.Layout.{repeated}
use Rattle.im_check_static_values.proofs.cells.repeated.Given as goal

abbrev pub invariant-loop-element : goal.invariant-loop-element
invariant-loop-element l =
    (align : ℕ) → l.done.items ++ repeated l.at (l.count - l._element) (record { size = l.bytes; align = align; cells = l.part }) ≡ repeated 0 l.count (record { size = l.bytes; align = align; cells = l.part })

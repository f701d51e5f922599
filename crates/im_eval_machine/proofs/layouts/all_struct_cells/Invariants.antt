use Rattle.std.proofs.Common.{◌≡◌, ℕ, length}
use Rattle.std.specs.Prelude.{Some, slice_get, Vec}
use Rattle.std.specs.declared.alloc.Global.{Global}
use Rattle.im_ctype.specs.declared.cell.Cell.{Cell}
use Rattle.im_ctype.specs.Layout.{layout_at, layouts}
use Rattle.im_ctype.specs.Table.{structs_of}
use Rattle.im_eval_machine.proofs.layouts.all_struct_cells.Given as goal

abbrev pub invariant-loop-number : goal.invariant-loop-number
invariant-loop-number l =
    (length l.structs.items ≡ l.number)
    × ((k : ℕ) (v : Vec Cell Global) → slice_get l.structs.items k ≡ Some v → v.items ≡ (layout_at (layouts (structs_of l.types)) k).cells)

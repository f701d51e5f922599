-- Lowered functions read no register before it was written, but for those of their arguments.
use Rattle.std.specs.Prelude.{◌≡◌, ℕ, Some, slice_get}
use Rattle.im_typed.specs.Program as p
use Rattle.im_typed.specs.Typing.{IsWellTyped}
use Rattle.im_block.specs.declared.unit.Function.{Function}
use Rattle.im_block.specs.declared.unit.Unit.{Unit as Code}
use Rattle.im_alloc_relation.specs.Reads.{WritesFirst}
use Rattle.im_lower_relation.specs.Lowered.{IsLowered}

abbrev pub WrittenFirstLaw : Type 0
WrittenFirstLaw = (g : p.Prog) (u : Code) → IsWellTyped g → IsLowered g u → (k : ℕ) (f : Function) → slice_get u.functions.items k ≡ Some f → WritesFirst f

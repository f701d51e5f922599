-- What a function of placed code costs, alone.
use Rattle.std.proofs.Common.{◌≤◌, [], ◌∷◌, refl, arith}
use denote.RawPtr.{null_ptr}
use lib.Dec.{lit<}
use native.Mathlib.Nat.{le_refl}
use Rattle.im_block.specs.declared.unit.Function.{Function}
use Rattle.im_block.specs.declared.unit.Unit.{Unit as Code}
use Rattle.im_block.specs.Shape.{function_cost, placed_cost}
use Rattle.im_alloc_relation.specs.Placing.{PlacedFunction}
use Rattle.im_alloc_laws.specs.Laws.{PlacedCodeLaw}

-- what holds of the sum over a unit's functions holds of one function, as that of a unit of its own
abbrev alone : Code → Function → Code
alone u f =
    record u { functions = record { ptr = null_ptr; len = 1; cap = 1; alloc = u.functions.alloc; items = f ∷ []; ok = (refl, le_refl 1); small = lit< tt } }

pub placed_cost_at : PlacedCodeLaw → (u : Code) (f g : Function) → PlacedFunction f g → placed_cost g ≤ function_cost f
placed_cost_at law u f g p = let all = law.cost (alone u f) (alone u g) (record { functions = (p, tt); rest = refl }) in omega (arith, all)

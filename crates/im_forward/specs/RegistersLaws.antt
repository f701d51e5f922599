-- What holds of code whose locals are registers.
use Rattle.std.specs.Prelude.{◌≡◌, ◌≤◌, ℕ, List, Some, map, length, slice_get}
use Rattle.im_store.specs.Outcomes.{Outcome, IsDefined}
use Rattle.im_block.specs.declared.unit.Function.{Function}
use Rattle.im_block.specs.declared.unit.Unit.{Unit as Code}
use Rattle.im_block.specs.Meaning.{Setting, Event, statics_of}
use Rattle.im_block.specs.Runs.{Runs}
use Rattle.im_block.specs.Shape.{AllOrdered, sum_of, function_cost}
use Rattle.im_block.specs.Wellformed.{IsWellFormed}
use Rattle.im_alloc_placed.specs.Apart.{AllUncut}
use Rattle.im_alloc_placed.specs.Placeable.{IsPlaceable}
use Rattle.im_forward.specs.Registers.{InRegisters}

-- a function, and what it was before
pub record CostsNoMore (old : List Function) (k : ℕ) (g : Function) : Type 0 where
  pub f : Function
  pub there : slice_get old k ≡ Some f
  pub cost : function_cost g ≤ function_cost f

pub record RegistersLaw : Type 0 where
  -- the same outcome at the same fuel, whatever the frames, the stack, the capacity and the input, where it is defined
  pub runs : (old new : Code) → InRegisters old new → (g : Setting) (n : ℕ) (o : Outcome) (run : List Event) → IsDefined o → Runs old g n o run → (run' : List Event) × Runs new g n o run'
  pub statics : (old new : Code) → InRegisters old new → statics_of new ≡ statics_of old
  pub needs : (old new : Code) → InRegisters old new → map (λ (f : Function). f.need) new.functions.items ≡ map (λ (f : Function). f.need) old.functions.items
  pub ordered : (old new : Code) → InRegisters old new → AllOrdered old → AllOrdered new
  pub well_formed : (old new : Code) → InRegisters old new → IsWellFormed old → IsWellFormed new
  pub placeable : (old new : Code) → InRegisters old new → IsPlaceable old → IsPlaceable new
  pub uncut : (old new : Code) → InRegisters old new → AllUncut old → AllUncut new
  -- each function costs no more, so all of them together cost no more
  pub each : (old new : Code) → InRegisters old new → (k : ℕ) (g : Function) → slice_get new.functions.items k ≡ Some g → CostsNoMore old.functions.items k g
  pub cost : (old new : Code) → InRegisters old new → sum_of function_cost new.functions.items ≤ sum_of function_cost old.functions.items

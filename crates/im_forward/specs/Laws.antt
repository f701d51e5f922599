-- What follows of these definitions.
use Rattle.std.specs.Prelude.{◌≡◌, ℕ, ◌≤◌, List, map}
use Rattle.im_store.specs.Outcomes.{Outcome}
use Rattle.im_block.specs.declared.unit.Function.{Function}
use Rattle.im_block.specs.declared.unit.Unit.{Unit as Code}
use Rattle.im_block.specs.Meaning.{Setting, Event, statics_of}
use Rattle.im_block.specs.Runs.{Runs}
use Rattle.im_block.specs.Shape.{AllOrdered, sum_of, function_cost}
use Rattle.im_block.specs.Wellformed.{IsWellFormed}
use Rattle.im_alloc_placed.specs.Apart.{AllUncut}
use Rattle.im_alloc_placed.specs.Placeable.{IsPlaceable}
use Rattle.im_alloc_relation.specs.Reads.{WritesFirst}
use Rattle.im_forward.specs.Forward.{ForwardsFunction, Forwards}

-- the same outcome, also an undefined one, with the same events, whatever the frames, the stack, the capacity and the input
abbrev pub ForwardLaw : Type 0
ForwardLaw =
    (old new : Code) → Forwards old new → (g : Setting) (n : ℕ) (o : Outcome) (run : List Event) → Runs old g n o run → Runs new g n o run

abbrev pub OrderedLaw : Type 0
OrderedLaw = (old new : Code) → Forwards old new → AllOrdered old → AllOrdered new

abbrev pub FormedLaw : Type 0
FormedLaw = (old new : Code) → Forwards old new → IsWellFormed old → IsWellFormed new

abbrev pub UncutLaw : Type 0
UncutLaw = (old new : Code) → Forwards old new → AllUncut old → AllUncut new

abbrev pub PlaceableLaw : Type 0
PlaceableLaw = (old new : Code) → Forwards old new → IsPlaceable old → IsPlaceable new

-- where no register but those of arguments is read before it was written, none is now
abbrev pub WrittenLaw : Type 0
WrittenLaw = (old new : Function) → ForwardsFunction old new → WritesFirst old → WritesFirst new

abbrev pub CostLaw : Type 0
CostLaw = (old new : Function) → ForwardsFunction old new → function_cost new ≤ function_cost old

-- what else is promised of block code stays: its statics, what each frame may need, and the bound of what all functions cost
pub record RestLaw : Type 0 where
  pub statics : (old new : Code) → Forwards old new → statics_of new ≡ statics_of old
  pub needs : (old new : Code) → Forwards old new → map (λ (f : Function). f.need) new.functions.items ≡ map (λ (f : Function). f.need) old.functions.items
  pub cost : (old new : Code) → Forwards old new → sum_of function_cost new.functions.items ≤ sum_of function_cost old.functions.items

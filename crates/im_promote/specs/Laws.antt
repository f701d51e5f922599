-- What follows of these definitions.
use Rattle.std.specs.Prelude.{◌≡◌, ℕ, ◌≤◌, Option, List, map}
use Rattle.im_store.specs.Outcomes.{Outcome, IsDefined}
use Rattle.im_block.specs.declared.unit.Function.{Function}
use Rattle.im_block.specs.declared.unit.Unit.{Unit as Code}
use Rattle.im_block.specs.Meaning.{Setting, Event, statics_of}
use Rattle.im_block.specs.Runs.{Runs}
use Rattle.im_block.specs.Shape.{AllOrdered, sum_of, function_cost}
use Rattle.im_block.specs.Wellformed.{IsWellFormed}
use Rattle.im_alloc_placed.specs.Placeable.{IsPlaceable}
use Rattle.im_alloc_placed.specs.Apart.{AllUncut}
use Rattle.im_alloc_relation.specs.Reads.{WritesFirst}
use Rattle.im_promote.specs.Promote.{PromotesFunction, Promotes}
use Rattle.im_promote.specs.Promoted.{IsPromoted}
use Rattle.im_promote.specs.Written.{WritesObjectsFirst}

-- the same outcome at the same fuel, whatever the frames, the stack, the capacity and the input, where it is defined
abbrev pub PromoteLaw : Type 0
PromoteLaw =
    (old new : Code) → Promotes old new → (g : Setting) (n : ℕ) (o : Outcome) (run : List Event) → IsDefined o → Runs old g n o run →
    (run' : List Event) × Runs new g n o run'

abbrev pub OrderedLaw : Type 0
OrderedLaw = (old new : Code) → Promotes old new → AllOrdered old → AllOrdered new

-- no register of the new code is read before it was written but those of arguments
abbrev pub WrittenLaw : Type 0
WrittenLaw =
    (homes : ℕ → Option ℕ) (old new : Function) → PromotesFunction homes old new → WritesObjectsFirst homes old → WritesFirst old → WritesFirst new

abbrev pub FormedLaw : Type 0
FormedLaw = (old new : Code) → Promotes old new → IsWellFormed old → IsWellFormed new

-- promoted code costs no more
abbrev pub CostLaw : Type 0
CostLaw = (homes : ℕ → Option ℕ) (old new : Function) → PromotesFunction homes old new → function_cost new ≤ function_cost old

abbrev pub PlaceableLaw : Type 0
PlaceableLaw = (old new : Code) → IsPromoted old new → IsPlaceable old → IsPlaceable new

-- what else is promised of block code stays: its statics, what each frame may need, that no cut stands in it, and the bound of
-- what all functions cost
pub record RestLaw : Type 0 where
  pub statics : (old new : Code) → Promotes old new → statics_of new ≡ statics_of old
  pub needs : (old new : Code) → Promotes old new → map (λ (f : Function). f.need) new.functions.items ≡ map (λ (f : Function). f.need) old.functions.items
  pub uncut : (old new : Code) → Promotes old new → AllUncut old → AllUncut new
  pub cost : (old new : Code) → Promotes old new → sum_of function_cost new.functions.items ≤ sum_of function_cost old.functions.items

-- What placed code keeps of block code.
use Rattle.std.specs.Prelude.{◌≡◌, ℕ, ◌≤◌, List, map}
use Rattle.im_store.specs.Outcomes.{Outcome, IsDefined}
use Rattle.im_block.specs.declared.access.Tags.{Tags}
use Rattle.im_block.specs.declared.unit.Function.{Function}
use Rattle.im_block.specs.declared.unit.Unit.{Unit as Code}
use Rattle.im_block.specs.Meaning.{Setting, Event}
use Rattle.im_block.specs.Runs.{Runs}
use Rattle.im_block.specs.Tagged.{AllHold}
use Rattle.im_block.specs.Shape.{AllOrdered, sum_of, function_cost, placed_cost}
use Rattle.im_block.specs.Forced.{AllForced}
use Rattle.im_block.specs.Wellformed.{IsWellFormed}
use Rattle.im_alloc_placed.specs.Apart.{AllApart}
use Rattle.im_alloc_placed.specs.Placed.{IsPlacedCode}
use Rattle.im_alloc_placed.specs.Placeable.{IsPlaceable}
use Rattle.im_block.specs.Uncut.{SameButCuts}
use Rattle.im_alloc_relation.specs.Placing.{IsPlaced}
use Rattle.im_alloc_relation.specs.Settled.{IsSettled}
use Rattle.im_alloc_laws.specs.Numbered.{IsWellPlaced}

-- the block code's runs have runs of the placed code with the same outcome, which hold each tag that they hold
abbrev pub RunsAs : Code → Code → Type 0
RunsAs u v =
    (g : Setting) (n : ℕ) (o : Outcome) (run : List Event) → IsDefined o → Runs u g n o run →
    (run' : List Event) × Runs v g n o run' × ((statics : ℕ) (tags : Tags) → AllHold statics tags run → AllHold statics tags run')

pub record PlacedCodeLaw : Type 0 where
  pub runs : (u v : Code) → IsWellFormed u → IsPlaced u v → RunsAs u v
  pub statics : (u v : Code) → IsPlaced u v → v.statics.items ≡ u.statics.items
  pub needs : (u v : Code) → IsPlaced u v → map (λ (f : Function). f.need) v.functions.items ≡ map (λ (f : Function). f.need) u.functions.items
  pub ordered : (u v : Code) → IsPlaced u v → AllOrdered u → AllOrdered v
  pub forced : (u v : Code) → IsPlaced u v → AllForced u → AllForced v
  pub apart : (u v : Code) → IsPlaced u v → AllApart u → AllApart v
  pub cost : (u v : Code) → IsPlaced u v → sum_of placed_cost v.functions.items ≤ sum_of function_cost u.functions.items
  pub placed : (u v : Code) → IsWellPlaced u v → IsPlaceable u → IsPlacedCode v
  pub well_formed : (u v : Code) → IsWellPlaced u v → IsPlaceable u → IsWellFormed u → IsWellFormed v
  pub settled : (u v : Code) → IsPlaced u v → IsSettled v
  -- also with further cuts
  pub recut : (u v : Code) → SameButCuts u v → IsSettled u → IsSettled v

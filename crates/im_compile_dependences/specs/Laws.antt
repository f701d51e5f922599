-- Each pass that adds cuts or accesses leaves dependences that name accesses of their own function.
use Rattle.std.specs.Prelude.{ℕ, Option}
use Rattle.im_block.specs.declared.access.Tags.{Tags}
use Rattle.im_block.specs.declared.unit.Unit.{Unit as Code}
use Rattle.im_alloc_placed.specs.Apart.{AllUncut}
use Rattle.im_force.specs.Force.{Forces}
use Rattle.im_alloc_relation.specs.Placing.{IsPlaced}
use Rattle.im_recut.specs.Recut.{RecutsTo}
use Rattle.im_link_laws.specs.Laws.{NamesAccesses}

abbrev pub UncutNames : Type 0
UncutNames = (u : Code) → AllUncut u → NamesAccesses u

abbrev pub ForceNames : Type 0
ForceNames = (old new : Code) → Forces old new → NamesAccesses old → NamesAccesses new

abbrev pub PlaceNames : Type 0
PlaceNames = (old new : Code) → IsPlaced old new → NamesAccesses old → NamesAccesses new

abbrev pub RecutNames : Type 0
RecutNames = (tags : Tags) (max_gap : Option ℕ) (old new : Code) → RecutsTo tags max_gap old new → NamesAccesses old → NamesAccesses new

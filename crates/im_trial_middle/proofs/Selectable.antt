-- A function of placed code that selection takes.
use Rattle.std.proofs.Common.{◌<◌, ◌≤◌, length, subst}
use Rattle.std.specs.Prelude.{All}
use Rattle.im_alloc_placed.specs.Placed.{IsPlacedBlock}
use Rattle.im_select.specs.Given.{Given}
use Rattle.im_select.specs.Places.{HasPlaces}
use Rattle.im_select.specs.Selects.{IsClosedBlock, IsSelectable}
use Rattle.im_trial_middle.specs.Shell.{IsShell}

pub selectable : (given : Given) → HasPlaces given → IsShell given.function → 0 < given.functions →
    All (IsPlacedBlock (length given.statics) given.function) given.function.blocks.items → All (IsClosedBlock given) given.function.blocks.items → IsSelectable given 0
selectable given places shell some placed closed = record {
  places = places;
  placed = record {
    registers = shell.registers;
    count = shell.count;
    received = shell.received;
    fits = subst (λ bytes. bytes ≤ given.function.need) places.layout.bytes places.layout.need;
    blocks = placed;
  };
  number = some;
  entry = shell.entry;
  closed = closed;
}

-- Tags say nothing of accesses to slots and of cuts, so placed code's runs hold those of the block code's.
use Rattle.std.proofs.Common.{◌≡◌, ℕ, List, [], ◌∷◌, Option, Some, None, sym, subst}
use Rattle.im_store.specs.Objects.{Object}
use Rattle.im_block.specs.declared.access.Tags.{Tags}
use Rattle.im_block.specs.declared.unit.Unit.{Unit as Code}
use Rattle.im_block.specs.Meaning.{Active, Event, Reads, Writes, Tests, Saves, Restores, Serves, Cuts}
use Rattle.im_block.specs.Runs.{uncut}
use Rattle.im_block.specs.Tagged.{AllHold}
use Rattle.im_block.specs.Wellformed.{IsWellFormed}
use Rattle.im_alloc_relation.specs.Placing.{IsPlaced, PlaceKeeps, unslotted, beside}
use Rattle.im_alloc_laws.specs.Laws.{RunsAs}

to_uncut : (statics : ℕ) (tags : Tags) (run : List Event) → AllHold statics tags run → AllHold statics tags (uncut run)
to_uncut statics tags [] h = tt
to_uncut statics tags (Cuts ∷ run) h = to_uncut statics tags run h.1
to_uncut statics tags (Reads site by o i ∷ run) h = (h.0, to_uncut statics tags run h.1)
to_uncut statics tags (Writes site by o i ∷ run) h = (h.0, to_uncut statics tags run h.1)
to_uncut statics tags (Tests ∷ run) h = (tt, to_uncut statics tags run h.1)
to_uncut statics tags (Saves by ∷ run) h = (tt, to_uncut statics tags run h.1)
to_uncut statics tags (Restores by ∷ run) h = (tt, to_uncut statics tags run h.1)
to_uncut statics tags (Serves ∷ run) h = (tt, to_uncut statics tags run h.1)

from_uncut : (statics : ℕ) (tags : Tags) (run : List Event) → AllHold statics tags (uncut run) → AllHold statics tags run
from_uncut statics tags [] h = tt
from_uncut statics tags (Cuts ∷ run) h = (tt, from_uncut statics tags run h)
from_uncut statics tags (Reads site by o i ∷ run) h = (h.0, from_uncut statics tags run h.1)
from_uncut statics tags (Writes site by o i ∷ run) h = (h.0, from_uncut statics tags run h.1)
from_uncut statics tags (Tests ∷ run) h = (tt, from_uncut statics tags run h.1)
from_uncut statics tags (Saves by ∷ run) h = (tt, from_uncut statics tags run h.1)
from_uncut statics tags (Restores by ∷ run) h = (tt, from_uncut statics tags run h.1)
from_uncut statics tags (Serves ∷ run) h = (tt, from_uncut statics tags run h.1)

from_read : (statics : ℕ) (tags : Tags) (number size : ℕ) (slot : Option ℕ) (by : Active) (o : Object) (i : ℕ) (run left : List Event) → (AllHold statics tags left → AllHold statics tags run) → AllHold statics tags (beside slot (Reads (record { number = number; size = size; slot = slot }) by o i) left) → AllHold statics tags (Reads (record { number = number; size = size; slot = slot }) by o i ∷ run)
from_read statics tags number size None by o i run left go h = (h.0, go h.1)
from_read statics tags number size (Some slot) by o i run left go h = (tt, go h)

from_write : (statics : ℕ) (tags : Tags) (number size : ℕ) (slot : Option ℕ) (by : Active) (o : Object) (i : ℕ) (run left : List Event) → (AllHold statics tags left → AllHold statics tags run) → AllHold statics tags (beside slot (Writes (record { number = number; size = size; slot = slot }) by o i) left) → AllHold statics tags (Writes (record { number = number; size = size; slot = slot }) by o i ∷ run)
from_write statics tags number size None by o i run left go h = (h.0, go h.1)
from_write statics tags number size (Some slot) by o i run left go h = (tt, go h)

from_unslotted : (statics : ℕ) (tags : Tags) (run : List Event) → AllHold statics tags (unslotted run) → AllHold statics tags run
from_unslotted statics tags [] h = tt
from_unslotted statics tags (Reads site by o i ∷ run) h = from_read statics tags site.number site.size site.slot by o i run (unslotted run) (λ k. from_unslotted statics tags run k) h
from_unslotted statics tags (Writes site by o i ∷ run) h = from_write statics tags site.number site.size site.slot by o i run (unslotted run) (λ k. from_unslotted statics tags run k) h
from_unslotted statics tags (Tests ∷ run) h = (tt, from_unslotted statics tags run h.1)
from_unslotted statics tags (Saves by ∷ run) h = (tt, from_unslotted statics tags run h.1)
from_unslotted statics tags (Restores by ∷ run) h = (tt, from_unslotted statics tags run h.1)
from_unslotted statics tags (Serves ∷ run) h = (tt, from_unslotted statics tags run h.1)
from_unslotted statics tags (Cuts ∷ run) h = (tt, from_unslotted statics tags run h.1)

still_hold : (statics : ℕ) (tags : Tags) (run run' : List Event) → uncut (unslotted run') ≡ uncut run → AllHold statics tags run → AllHold statics tags run'
still_hold statics tags run run' e h =
    from_unslotted statics tags run' (from_uncut statics tags (unslotted run') (subst (AllHold statics tags) (sym e) (to_uncut statics tags run h)))

pub runs : PlaceKeeps → (u v : Code) → IsWellFormed u → IsPlaced u v → RunsAs u v
runs keeps u v w p g n o run right r =
    let k = keeps u v w p g n o run right r in
    (k.0, k.1, λ statics tags h. still_hold statics tags run k.0 k.2 h)

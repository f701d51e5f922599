-- Tags say nothing of cuts; sections of a part of a run.
use Rattle.std.proofs.Common.{◌≡◌, ℕ, List, [], ◌∷◌, ◌++◌, sym, subst}
use Rattle.im_block.specs.declared.access.Tags.{Tags}
use Rattle.im_block.specs.Meaning.{Event, Reads, Writes, Tests, Saves, Restores, Serves, Cuts}
use Rattle.im_block.specs.Runs.{uncut}
use Rattle.im_block.specs.Tagged.{AllHold}
use Rattle.im_block.specs.Sections.{Item, Reader, Writer, Break, NoWarAfter}

to_uncut : (statics : ℕ) (tags : Tags) (run : List Event) → AllHold statics tags run → AllHold statics tags (uncut run)
to_uncut statics tags [] h = tt
to_uncut statics tags (Cuts ∷ run) h = to_uncut statics tags run h.1
to_uncut statics tags (Reads site by o i ∷ run) h = (h.0, to_uncut statics tags run h.1)
to_uncut statics tags (Writes site by o i ∷ run) h = (h.0, to_uncut statics tags run h.1)
to_uncut statics tags (Tests ∷ run) h = (tt, to_uncut statics tags run h.1)
to_uncut statics tags (Saves by ∷ run) h = (tt, to_uncut statics tags run h.1)
to_uncut statics tags (Restores by ∷ run) h = (tt, to_uncut statics tags run h.1)
to_uncut statics tags (Serves ∷ run) h = (tt, to_uncut statics tags run h.1)

from_uncut : (statics : ℕ) (tags : Tags) (run : List Event) → AllHold statics tags (uncut run) → AllHold statics tags run
from_uncut statics tags [] h = tt
from_uncut statics tags (Cuts ∷ run) h = (tt, from_uncut statics tags run h)
from_uncut statics tags (Reads site by o i ∷ run) h = (h.0, from_uncut statics tags run h.1)
from_uncut statics tags (Writes site by o i ∷ run) h = (h.0, from_uncut statics tags run h.1)
from_uncut statics tags (Tests ∷ run) h = (tt, from_uncut statics tags run h.1)
from_uncut statics tags (Saves by ∷ run) h = (tt, from_uncut statics tags run h.1)
from_uncut statics tags (Restores by ∷ run) h = (tt, from_uncut statics tags run h.1)
from_uncut statics tags (Serves ∷ run) h = (tt, from_uncut statics tags run h.1)

pub still_hold : (statics : ℕ) (tags : Tags) (run run' : List Event) → uncut run' ≡ uncut run → AllHold statics tags run → AllHold statics tags run'
still_hold statics tags run run' e h = from_uncut statics tags run' (subst (AllHold statics tags) (sym e) (to_uncut statics tags run h))

pub safe_front : {B : Type 0} (section a b : List (Item B)) → NoWarAfter section (a ++ b) → NoWarAfter section a
safe_front section [] b h = tt
safe_front section (Reader bytes ∷ a) b h = safe_front (section ++ Reader bytes ∷ []) a b h
safe_front section (Writer bytes ∷ a) b h = (h.0, safe_front (section ++ Writer bytes ∷ []) a b h.1)
safe_front section (Break ∷ a) b h = safe_front [] a b h

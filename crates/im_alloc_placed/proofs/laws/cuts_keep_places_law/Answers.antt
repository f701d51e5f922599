use Rattle.im_alloc_placed.proofs.Kept.{placed_kept, placeable_kept}
use Rattle.im_alloc_placed.proofs.laws.cuts_keep_places_law.Goals as goal

pub returns : goal.returns
returns c = record { placed = placed_kept; placeable = placeable_kept }

use Rattle.im_block.proofs.Twins.{kept, ordered_kept}
use Rattle.im_block.proofs.laws.added_cuts_law.Goals as goal

pub returns : goal.returns
returns c = record { kept = kept; ordered = ordered_kept }

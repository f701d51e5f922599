use Rattle.im_block_laws.proofs.Kept.{forced_kept, well_formed_kept, costs_kept}
use Rattle.im_block_laws.proofs.laws.cuts_keep_code_law.Goals as goal

pub returns : goal.returns
returns c = record { forced = forced_kept; well_formed = well_formed_kept; costs = costs_kept }

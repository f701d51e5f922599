use Rattle.im_keeps_passes.proofs.Prepared.{code_bounds}
use Rattle.im_keeps_passes.proofs.laws.code_bounds_law.Goals as goal

pub returns : goal.returns
returns c = code_bounds c.cuts_keep_code_law.ensures c.cuts_keep_places_law.ensures c.force_keeps_law.ensures

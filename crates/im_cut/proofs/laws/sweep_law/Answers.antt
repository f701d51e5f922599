use Rattle.im_cut.proofs.Sections.{swept_sectioned}
use Rattle.im_cut.proofs.Dues.{swept_due}
use Rattle.im_cut.proofs.laws.sweep_law.Goals as goal

pub returns : goal.returns
returns c =
    λ tags covers old new added decides swept ordered turns.
    record { blocks = swept_due tags covers decides old new added swept ordered turns; rest = swept.rest; sectioned = swept_sectioned tags covers old new added decides swept }

-- Progress under power that fails, from the static gap.
use Rattle.im_replay.specs.Uninterrupted.{uninterrupted}
use Rattle.im_replay.proofs.Images.{owed_of}
use Rattle.im_replay.proofs.Device.{progress_law}
use Rattle.im_gap.specs.FlowLaws.{LongPeriodsLaw}
use Rattle.im_gap.proofs.Along.{along_law}
use Rattle.im_gap.proofs.Lengths.{gap_law}

pub long_periods_law : LongPeriodsLaw
long_periods_law m code words entry k c s g = progress_law m code k c (gap_law words entry k (uninterrupted m) (along_law words entry code (uninterrupted m) (owed_of m code c) s) g)

use Rattle.im_driver_laws.proofs.Limits.{has_no_excess, is_excess, statics_last}
use Rattle.im_driver_laws.proofs.laws.source_limits_law.Goals as goal

pub returns : goal.returns
returns c =
    let one = c.source_typed_law.ensures.unit in
    record {
      within = has_no_excess one c.first_excess_law.ensures.within;
      excess = is_excess c.first_excess_law.ensures.exceeds;
      statics = statics_last one c.first_excess_law.ensures.small;
    }

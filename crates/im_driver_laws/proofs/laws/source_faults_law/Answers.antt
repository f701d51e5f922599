use Rattle.im_driver_laws.proofs.Rules.{has_program, has_none, has_one}
use Rattle.im_driver_laws.proofs.laws.source_faults_law.Goals as goal

pub returns : goal.returns
returns c =
    let one = c.source_typed_law.ensures.unit in
    let typed = c.first_fault_law.ensures.none in
    let breaks = c.typed_breaks_none_law.ensures.unit in
    record {
      faultless = has_program typed c.first_excess_law.ensures.none;
      none = has_none one c.first_fault_law.ensures.typed;
      some = has_one one breaks typed;
    }

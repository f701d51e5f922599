use Rattle.im_rules_asked.specs.Units.{unit_asked}
use Rattle.im_rules_asked.proofs.Right.{so, of_right}
use Rattle.im_rules_asked.proofs.BuiltUnits.{built_unit}
use Rattle.im_rules_asked.proofs.RightUnits.{unit_right}
use Rattle.im_rules_asked.proofs.FirstFaults.{without_fault, right_has_none, first_is_one}
use Rattle.im_rules_asked.proofs.BrokenUnits.{first_is_broken}
use Rattle.im_rules_asked.proofs.laws.first_fault_law.Goals as goal

pub returns : goal.returns
returns c = record {
  none = λ u p. built_unit u (so (without_fault (unit_asked u) p));
  typed = λ u g d. right_has_none (unit_asked u) (of_right (unit_right d));
  some = λ u f p. first_is_one (unit_asked u) f p;
  broken = λ u f p. first_is_broken u f p;
}

use Rattle.im_rules_limits.specs.Limits.{too_large}
use Rattle.im_rules_asked.specs.Units.{unit_asked}
use Rattle.im_rules_asked.proofs.Right.{so, of_right}
use Rattle.im_rules_asked.proofs.BuiltUnits.{built_unit}
use Rattle.im_rules_asked.proofs.RightUnits.{unit_right}
use Rattle.im_rules_asked.proofs.Sized.{unit_has_size}
use Rattle.im_rules_asked.proofs.SizedUnits.{unit_sized}
use Rattle.im_rules_asked.proofs.Stops.{right_so, all_small, broken_is, large_is, right_has_no_stop}
use Rattle.im_rules_asked.proofs.laws.first_stop_law.Goals as goal

pub returns : goal.returns
returns c = record {
  none = λ u p. (built_unit u (so (right_so (unit_asked u) p)), λ n h. all_small (unit_asked u) p n (unit_has_size u n h));
  right = λ u g d w. right_has_no_stop (unit_asked u) (of_right (unit_right d)) (λ n c. w n (unit_sized u n c));
  broken = λ u f p. broken_is (unit_asked u) f p;
  large = λ u n p. (let q = large_is (unit_asked u) n p in too_large (unit_sized u n q.0) q.1);
}

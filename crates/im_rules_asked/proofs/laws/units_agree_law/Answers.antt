use Rattle.std.proofs.Common.{subst}
use Rattle.im_rules.specs.TypedUnit.{TypedUnit}
use Rattle.im_rules_asked.proofs.Right.{so, of_right}
use Rattle.im_rules_asked.proofs.BuiltUnits.{built_unit}
use Rattle.im_rules_asked.proofs.RightUnits.{unit_right, unit_same}
use Rattle.im_rules_asked.proofs.FaultyUnits.{unit_breaks}
use Rattle.im_rules_asked.proofs.laws.units_agree_law.Goals as goal

pub returns : goal.returns
returns c = record {
  typed = λ u g d. (of_right (unit_right d), unit_same d);
  asked = λ u g h. subst (λ p. TypedUnit u p) h.1 (built_unit u (so h.0));
  broken = λ u r k b. unit_breaks b;
}

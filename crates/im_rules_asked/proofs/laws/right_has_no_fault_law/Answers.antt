use Rattle.im_rules_asked.specs.Units.{unit_asked}
use Rattle.im_rules_asked.proofs.Right.{right_has_no_fault}
use Rattle.im_rules_asked.proofs.laws.right_has_no_fault_law.Goals as goal

pub returns : goal.returns
returns c = record {
  demands = λ a r k h b. right_has_no_fault a r k h b;
  unit = λ u g r k h b. right_has_no_fault (unit_asked u) r k h.0 b;
}

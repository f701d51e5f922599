use Rattle.im_rules_asked.proofs.Excesses.{excess_is, is_excess, no_excess_within, within_none, first_excess, none_large}
use Rattle.im_rules_asked.proofs.laws.first_excess_law.Goals as goal

pub returns : goal.returns
returns c = record {
  exceeds = λ u l n h. excess_is u l n h;
  excess = λ u l n h. is_excess u l n h;
  none = λ u p l n h. no_excess_within u p l n h;
  within = λ u w. within_none u w;
  some = λ u e p. first_excess u e p;
  small = λ u w. none_large u w;
}

use Rattle.im_rules_asked.proofs.Sized.{unit_has_size}
use Rattle.im_rules_asked.proofs.SizedUnits.{unit_sized}
use Rattle.im_rules_asked.proofs.laws.sizes_agree_law.Goals as goal

pub returns : goal.returns
returns c = record {
  sized = λ u n h. unit_has_size u n h;
  given = λ u n h. unit_sized u n h;
}

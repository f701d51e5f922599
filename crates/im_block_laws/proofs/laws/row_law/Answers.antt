use Rattle.std.proofs.Common.{refl, arith, inl}
use Rattle.im_block_laws.proofs.laws.row_law.Goals as goal

pub returns : goal.returns
returns c = λ memory. record {
  two = (λ h. (let e = h.0 in absurd (omega arith)), inl refl);
  met_by_three = (refl, omega arith, omega arith);
  four_protected = λ h. h.0 (refl, omega arith, omega arith);
  four = (λ h. (let e = h.0 in absurd (omega arith)), inl refl);
  met_by_five = (refl, omega arith, omega arith);
  two_not_met_by_five = λ h. let e = h.0 in absurd (omega arith);
}

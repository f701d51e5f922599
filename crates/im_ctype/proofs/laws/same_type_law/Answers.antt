use Rattle.std.proofs.Common.{◌≡◌, true, subst}
use Rattle.im_ctype.specs.Types.{CType, same_type}
use Rattle.im_ctype.proofs.Same.{same-is, same-itself}
use Rattle.im_ctype.proofs.laws.same_type_law.Goals as goal

pub returns : goal.returns
returns c = λ first second. (same-is first second, λ e. subst (λ (t : CType). same_type first t ≡ true) e (same-itself first))

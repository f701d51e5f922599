use Rattle.std.proofs.Common.{◌≡◌, refl}
use Rattle.im_num.specs.Kinds.{bits, is_signed}
use Rattle.im_ctype.specs.declared.integer.Integer.{Integer}
use Rattle.im_ctype.specs.declared.integer.Integer.TheVariants.{Char, SignedChar, UnsignedChar, Short, UnsignedShort, Int, UnsignedInt, Long, UnsignedLong}
use Rattle.im_ctype.specs.Types.{kind_of, traits}
use Rattle.im_ctype.proofs.laws.kind_law.Goals as goal

same-bits : (i : Integer) → bits (kind_of i) ≡ (traits i).bits
same-bits Char = refl
same-bits SignedChar = refl
same-bits UnsignedChar = refl
same-bits Short = refl
same-bits UnsignedShort = refl
same-bits Int = refl
same-bits UnsignedInt = refl
same-bits Long = refl
same-bits UnsignedLong = refl

same-sign : (i : Integer) → is_signed (kind_of i) ≡ (traits i).is_signed
same-sign Char = refl
same-sign SignedChar = refl
same-sign UnsignedChar = refl
same-sign Short = refl
same-sign UnsignedShort = refl
same-sign Int = refl
same-sign UnsignedInt = refl
same-sign Long = refl
same-sign UnsignedLong = refl

pub returns-clause-bits : goal.returns-clause-bits
returns-clause-bits c = same-bits

pub returns-clause-sign : goal.returns-clause-sign
returns-clause-sign c = same-sign

-- Types that are no integers.
use Rattle.std.proofs.Common.{◌≡◌, false, refl}
use Rattle.im_ctype.specs.Types.{CType, void, integer, pointer, array, unsized, struct, function, is_integer}
use Rattle.im_typed.specs.Program.{Discard}
use Rattle.im_check_operations.specs.im_rules.Conversions.{casted}
use Rattle.im_check_operations.specs.im_rules.Terms.{Value}

pub casted-else : (t : CType) (v : Value) → is_integer t ≡ false → casted t v ≡ record { type = t; expr = Discard v.expr }
casted-else void v h = refl
casted-else (integer i) v h = cc
casted-else (pointer c t) v h = refl
casted-else (array t n) v h = refl
casted-else (unsized t) v h = refl
casted-else (struct n) v h = refl
casted-else (function r ps) v h = refl

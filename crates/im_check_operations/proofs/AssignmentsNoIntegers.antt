-- Types that are no integers.
use Rattle.std.proofs.Common.{◌≡◌, false, refl}
use Rattle.im_ctree.specs.declared.operator.BinaryOp.{BinaryOp}
use Rattle.im_ctype.specs.Types.{CType, Structs, void, integer, pointer, array, unsized, struct, function, is_integer}
use Rattle.im_typed.specs.Program.{Place, Update}
use Rattle.im_typed.specs.declared.expression.Change.TheVariants.{Move}
use Rattle.im_check_operations.specs.im_rules.Conversions.{updated, element_size, is_subtraction}
use Rattle.im_check_operations.specs.im_rules.Terms.{Value}

pub updated-else : (known : Structs) (op : BinaryOp) (t : CType) (p : Place) (v : Value) → is_integer t ≡ false → updated known op t p v ≡ Update p (Move (element_size known t) (is_subtraction op)) v.expr
updated-else known op void p v h = refl
updated-else known op (integer i) p v h = cc
updated-else known op (pointer c t) p v h = refl
updated-else known op (array t n) p v h = refl
updated-else known op (unsized t) p v h = refl
updated-else known op (struct n) p v h = refl
updated-else known op (function r ps) p v h = refl

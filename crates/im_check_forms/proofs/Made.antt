-- What is made of values that are given by their equals, and the rule of an assignment.
use Rattle.std.proofs.Common.{◌≡◌, Option, None, Some, refl}
use Rattle.im_ctree.specs.declared.operator.BinaryOp.{BinaryOp}
use Rattle.im_ctype.specs.Types.{Structs}
use Rattle.im_check_operations.specs.im_rules.Demands.{assigned_asks}
use Rattle.im_check_operations.specs.im_rules.Terms.{Term, Value}
use Rattle.im_check_operands.specs.Answers.{assigned_rule}

pub of_two : {A : Type 0} (f : Value → Value → A) {x z y w : Value} → x ≡ z → y ≡ w → f x y ≡ f z w
of_two f p q = cc

pub of_three : (f : Value → Value → Value → Value) {x z y w u v : Value} → x ≡ z → y ≡ w → u ≡ v → f x y u ≡ f z w v
of_three f p q r = cc

pub rule_asked : (known : Structs) (o : Option BinaryOp) (x y : Term) → (assigned_asks known o x y).rule ≡ assigned_rule o
rule_asked known None x y = refl
rule_asked known (Some op) x y = refl

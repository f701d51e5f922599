use Rattle.std.proofs.Common.{◌≡◌, take, map}
use Rattle.im_rules.specs.Declared as d
use Rattle.im_types.specs.Shape.{types_in}
use Rattle.im_check_declarators.specs.Shape.{declared_of}
use Rattle.im_check_declarators.proofs.functions.types.Given as goal

abbrev pub invariant-loop-parameter : goal.invariant-loop-parameter
invariant-loop-parameter l = types_in l.done.items ≡ d.types_of (map declared_of (take l.parameter-index l.declared))

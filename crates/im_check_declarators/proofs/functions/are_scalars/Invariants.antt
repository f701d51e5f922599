use Rattle.std.proofs.Common.{◌≡◌, drop, map}
use Rattle.im_rules.specs.Declared as d
use Rattle.im_check_declarators.specs.Shape.{declared_of}
use Rattle.im_check_declarators.proofs.functions.are_scalars.Given as goal

abbrev pub invariant-loop-parameter : goal.invariant-loop-parameter
invariant-loop-parameter l = d.are_scalars (map declared_of l.declared) ≡ d.are_scalars (map declared_of (drop l.parameter-index l.declared))

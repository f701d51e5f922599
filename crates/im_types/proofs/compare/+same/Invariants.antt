use Rattle.std.proofs.Common.{◌≡◌, drop, length}
use Rattle.im_ctype.specs.Types.{same_types}
use Rattle.im_types.specs.Shape.{types_in}
use Rattle.im_types.proofs.compare.+same.Given as goal

abbrev pub invariant-all_same-loop-ty : goal.invariant-all_same-loop-ty
invariant-all_same-loop-ty l =
    same_types (types_in l.first) (types_in l.second) ≡ same_types (types_in (drop (length l.yielded) l.first)) (types_in (drop (length l.yielded) l.second))

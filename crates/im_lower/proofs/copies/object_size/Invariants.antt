use Rattle.std.proofs.Common.{◌≡◌, drop, map}
use Rattle.std.specs.Prelude.{slice_get}
use Rattle.im_typed.specs.ProgramOf.{func_of}
use Rattle.im_lower_relation.specs.Codes.{all_objects, object_size}
use Rattle.im_lower.proofs.copies.object_size.Given as goal

-- the object is the one of a number that is less by the functions before among the objects of those that are left
abbrev pub invariant-loop-func : goal.invariant-loop-func
invariant-loop-func l =
    object_size (slice_get (all_objects (map (func_of l.prog.types) l.prog.funcs.items)) l.number)
    ≡ object_size (slice_get (all_objects (map (func_of l.prog.types) (drop l.func-index l.prog.funcs.items))) l.left)

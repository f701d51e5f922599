use Rattle.std.proofs.Common.{◌≡◌, map, take}
use Rattle.im_types.specs.declared.tree.Type as rust
use Rattle.im_types.specs.Shape.{type_of}
use Rattle.im_types.proofs.copies.+copy.Given as goal

abbrev pub invariant-copy_all-loop-ty : goal.invariant-copy_all-loop-ty
invariant-copy_all-loop-ty l =
    map {A = rust.Type} type_of l.done.items ≡ map {A = rust.Type} type_of (take l.ty-index l.types)

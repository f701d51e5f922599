use Rattle.std.proofs.Common.{◌≡◌, take, map}
use Rattle.im_store.specs.im_ctype.Table.{Table}
use Rattle.im_typed.specs.ProgramOf.{func_of}
use Rattle.im_typed.specs.Frames.{sizes_in}
use Rattle.im_typed.proofs.frames.Frames.sizes.Given as goal

abbrev pub invariant-loop-func : goal.invariant-loop-func
invariant-loop-func l =
    (types : Table) → l.sizes.items ≡ sizes_in l.self.frames.items (map (func_of types) (take l.func-index l.funcs))

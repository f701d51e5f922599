use Rattle.std.proofs.Common.{◌+◌, Fits, w32, arith, rules}
use Rattle.std.specs.Prelude.{pos}
use Rattle.std.proofs.lemmas.Int.{ints}
use Rattle.im_eval_store.specs.Shown.{object_of}
use Rattle.im_eval_store.proofs.Places.{at-same}
use Rattle.im_eval_store.proofs.memory.Memory.member.Goals as goal

pub returns-in-Pointer : goal.returns-in-Pointer
returns-in-Pointer c = λ last store h.
    let place = c.in-Pointer.place in
    let f : Fits w32 c.in-Pointer.place.offset = search rules in
    let g : Fits w32 c.args.offset = search rules in
    rw c.in-Pointer.is (at-same store (object_of place.object) c.within.result _ (pos (place.offset + c.args.offset)) (c.within.ensures last store h) (omega (arith, ints)))

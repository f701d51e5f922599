use Rattle.std.proofs.Common.{Fits, w32, arith, rules, ap}
use Rattle.std.specs.Prelude.{pos, ◌+ℤ◌}
use Rattle.std.proofs.lemmas.Int.{ints}
use Rattle.im_store.specs.Pointers.{bytes_moved}
use Rattle.im_eval_store.specs.Shown.{object_of}
use Rattle.im_eval_store.proofs.Places.{at-same}
use Rattle.im_eval_store.proofs.memory.Memory.moved.Goals as goal

pub returns-in-Pointer : goal.returns-in-Pointer
returns-in-Pointer c = λ last store h.
    let place = c.in-Pointer.place in
    let o = object_of place.object in
    let bytes = c.bytes_moved-bytes.result in
    let low = c.bytes_moved-bytes.ensures.low in
    let high = c.bytes_moved-bytes.ensures.high in
    let f : Fits w32 c.in-Pointer.place.offset = search rules in
    let there = at-same store o c.within.result _ (pos place.offset +ℤ bytes) (c.within.ensures last store h) (omega (arith, ints)) in
    rw c.in-Pointer.is (at-same store o c.within.result (pos place.offset +ℤ bytes) (pos place.offset +ℤ bytes_moved c.args.size c.args.back c.args.by.value) there (ap (λ z. pos place.offset +ℤ z) c.bytes_moved-bytes.ensures.value))

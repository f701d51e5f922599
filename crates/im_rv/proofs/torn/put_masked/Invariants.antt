use Rattle.std.proofs.Common.{◌≡◌, ◌+◌, ◌-◌}
use Rattle.im_num.specs.Bytes.{bytes_of}
use Rattle.im_rv.specs.Torn.{masked}
use Rattle.im_rv.proofs.torn.put_masked.Given as goal

abbrev pub invariant-loop-i : goal.invariant-loop-i
invariant-loop-i g l =
    let bytes = g.M.Memory.bytes in
    masked l.bits (bytes l.memory) (l.address + l.i) (bytes_of (l.size - l.i) l.bytes) ≡ masked l.mask (bytes l.fn.memory) l.address (bytes_of l.size l.value)

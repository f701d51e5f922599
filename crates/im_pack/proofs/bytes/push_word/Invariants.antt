use Rattle.std.proofs.Common.{◌≡◌, ◌-◌, ◌++◌}
use Rattle.im_num.specs.Bytes.{bytes_of}
use Rattle.im_pack.proofs.bytes.push_word.Given as goal

-- the bytes so far, and those of the rest
abbrev pub invariant-loop : goal.invariant-loop
invariant-loop l = l.bytes.items ++ bytes_of (l.count - l.counter) l.rest ≡ l.fn.bytes.items ++ bytes_of l.count l.word

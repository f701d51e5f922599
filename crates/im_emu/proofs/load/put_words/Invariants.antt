use Rattle.std.proofs.Common.{◌≡◌, take}
use Rattle.std.specs.List.{flat_map}
use Rattle.im_num.specs.Bytes.{word_bytes}
use Rattle.im_mem.specs.Memory.{view, written}
use Rattle.im_emu.proofs.load.put_words.Given as goal

abbrev pub invariant-loop-i : goal.invariant-loop-i
invariant-loop-i l = view l.memory ≡ written (view l.fn.memory) l.at (flat_map word_bytes (take l.i l.words))

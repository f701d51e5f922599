use Rattle.std.proofs.Common.{◌≡◌, ℕ, ◌*◌, length, Some}
use Rattle.std.specs.Prelude.{Vec, slice_get}
use Rattle.std.specs.declared.alloc.Global.{Global}
use Rattle.im_block_live.specs.Words.{AreStarts}
use Rattle.im_block_live.proofs.liveness.live.Given as goal

abbrev pub invariant-loop-i : goal.invariant-loop-i
invariant-loop-i l = record {
  count : length l.groups.items ≡ l.i;
  each : (i : ℕ) (words : Vec ℕ Global) → slice_get l.groups.items i ≡ Some words → AreStarts (32 * i) l.function.blocks.items words.items;
}

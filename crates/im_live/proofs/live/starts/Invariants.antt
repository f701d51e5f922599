use Rattle.std.proofs.Common.{◌≡◌, ◌-◌, ◌*◌, ◌^◌, length}
use Rattle.std.specs.Prelude.{sum}
use Rattle.im_live.specs.Words.{AreRead, AreWords}
use Rattle.im_live.proofs.live.starts.Given as goal

abbrev pub invariant-settle : goal.invariant-settle
invariant-settle l = (length l.words.items ≡ length l.function.blocks.items) × AreRead l.function.blocks.items l.words.items × AreWords l.words.items

abbrev pub decreases-settle : goal.decreases-settle
decreases-settle l = length l.function.blocks.items * 2 ^ 32 - sum l.words.items

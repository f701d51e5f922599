use Rattle.std.proofs.Common.{◌≡◌, ◌-◌, ◌*◌, ◌^◌, length}
use Rattle.std.specs.Prelude.{sum}
use Rattle.im_promote.specs.Words.{AreWords}
use Rattle.im_promote.proofs.sweeps.live_starts.Given as goal

abbrev pub invariant-settle : goal.invariant-settle
invariant-settle l = (length l.words.items ≡ length l.blocks) × AreWords l.words.items

abbrev pub decreases-settle : goal.decreases-settle
decreases-settle l = length l.blocks * 2 ^ 32 - sum l.words.items

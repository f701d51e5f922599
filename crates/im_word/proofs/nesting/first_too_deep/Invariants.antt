use Rattle.std.proofs.Common.{◌≡◌, ℕ, ◌<◌, ◌≤◌, map}
use Rattle.im_word.specs.Shown.{shown}
use Rattle.im_word.specs.Nesting.{levels_before, nesting_at, depth}
use Rattle.im_word.specs.Tally.{levels_of, IsTallied}
use Rattle.im_word.proofs.nesting.first_too_deep.Given as goal

abbrev pub invariant-loop-i : goal.invariant-loop-i
invariant-loop-i l = record {
  levels : levels_of l.levels ≡ levels_before (map shown l.words) l.i;
  tallied : IsTallied l.levels;
  shallow : depth (levels_of l.levels) ≤ 200;
  below : (k : ℕ) → k < l.i → nesting_at (map shown l.words) k ≤ 200;
}

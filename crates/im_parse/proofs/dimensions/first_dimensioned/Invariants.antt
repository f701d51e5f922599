use Rattle.std.proofs.Common.{◌≡◌, ℕ, ◌<◌, ◌≤◌, map}
use Rattle.im_word.specs.Shown.{shown}
use Rattle.im_parse.specs.Dimensions.{runs_before, dimensions_at}
use Rattle.im_parse.specs.DimensionRuns.{runs_of}
use Rattle.im_parse.proofs.dimensions.first_dimensioned.Given as goal

abbrev pub invariant-loop-i : goal.invariant-loop-i
invariant-loop-i l = record {
  runs : runs_of l.runs ≡ runs_before (map shown l.words) l.i;
  few : l.runs.innermost ≤ 512;
  below : (k : ℕ) → k < l.i → dimensions_at (map shown l.words) k ≤ 512;
}

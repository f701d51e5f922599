use Rattle.std.proofs.Common.{map, arith}
use Rattle.im_word.specs.Shown.{shown}
use Rattle.im_parse.specs.DimensionRuns.{runs_of}
use Rattle.im_parse.proofs.Runs.{runs_next, run_here, below_next}
use Rattle.im_parse.proofs.dimensions.first_dimensioned.Goals as goal

pub loop-i-preserved : goal.loop-i-preserved
loop-i-preserved c =
    let words = map shown c.args.words.now in
    let i = c.loop-i.i in
    let old = c.loop-i.invariant in
    let runs = runs_of c.loop-i.runs in
    let new = runs_of c.read.new.self in
    let word = c.sign_at-word.result in
    let here = run_here words i runs new word old.runs c.sign_at-word.ensures c.in_ok-read.ensures in
    record {
      runs = runs_next words i runs new word old.runs c.sign_at-word.ensures c.in_ok-read.ensures;
      few = omega arith;
      below = below_next words i c.read.new.self.innermost here (omega arith) old.below;
    }

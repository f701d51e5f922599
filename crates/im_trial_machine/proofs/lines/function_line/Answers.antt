use Rattle.std.proofs.Common.{◌+◌, inr, refl, arith}
use Rattle.im_trial_machine.proofs.lines.function_line.Goals as goal

pub returns-in-2 : goal.returns-in-2
returns-in-2 c =
    let behind = c.requires.behind in
    let inside = c.requires.inside in
    let is = c.in-2.is in
    record {
      label = refl;
      access = refl;
      target = record { j = c.args.i + 2; label = omega arith; inside = omega arith; near = inr (refl, omega arith, omega arith) };
      cause = tt;
    }
